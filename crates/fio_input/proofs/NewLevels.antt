-- New levels are reported.
use Rattle.fio_input.proofs.Names.{◌||◌, ◌≡◌, ℕ, zero, suc, ◌+◌, ◌≤◌, ◌⊎◌, Bool, true, false, not, ◌&&◌, List, [], ◌∷◌, ◌++◌, if◌then◌else◌, refl, ap, sym, subst, ◌∙◌, arith, inl, inr, beq, AllByRecursion, or-true, is_set, Setting, filter_in_force, latest_are, ends_run, filtered_state, FilterEvent, Configure, Scan, input_setting, input_samples, state_at_configuration, input_state, NoneIsAppliedTo, scans_in, filter_to}
use Rattle.fio_input.specs.NewLevels.{HasLevel, HasNewLevel, IsReportedIn, NewLevelsAreReported}
use Rattle.fio_input.proofs.Apart.{levels, carried, same_level, both}
use Rattle.fio_input.proofs.History.{state-configure}

-- no configuration among them applies to the input
leaves : (input : ℕ) (level : Bool) (events : List FilterEvent) → AllByRecursion (HasLevel input level) events
    → NoneIsAppliedTo input events
leaves input level [] row = tt
leaves input level (Scan raw ∷ events) row = (tt, leaves input level events row.1)
leaves input level (Configure items ∷ events) row = (row.0, leaves input level events row.1)

-- the latest samples are of the level
same_beq : (level : Bool) → beq level level ≡ true
same_beq true = refl
same_beq false = refl

one_more_of : (n : ℕ) (level x : Bool) (older : List Bool) → x ≡ level → latest_are n level older ≡ true
    → latest_are (n + 1) level (x ∷ older) ≡ true
one_more_of n level x older is run =
    let next : suc n ≡ n + 1 = omega arith in
    subst (λ m. latest_are m level (x ∷ older) ≡ true) next
    (ap (λ y. beq y level && latest_are n level older) is
    ∙ ap (λ b. b && latest_are n level older) (same_beq level) ∙ run)

row_of : (input : ℕ) (level : Bool) (events : List FilterEvent) (older : List Bool)
    → AllByRecursion (HasLevel input level) events → latest_are (scans_in events) level (levels input events ++ older) ≡ true
row_of input level [] older row = refl
row_of input level (Scan raw ∷ events) older row =
    one_more_of (scans_in events) level (is_set raw input) (levels input events ++ older) row.0
    (row_of input level events older row.1)
row_of input level (Configure items ∷ events) older row = row_of input level events older row.1

-- a run as long as the filter ends, and its level is the state
row_ends : (s : Setting) (level : Bool) (samples : List Bool) → latest_are (filter_to s level) level samples ≡ true
    → ends_run s samples ≡ true
row_ends s true samples run =
    ap (λ ones. latest_are (filter_in_force s.leading) false samples || ones) run
    ∙ or-true (latest_are (filter_in_force s.leading) false samples)
row_ends s false samples run = ap (λ zeros. zeros || latest_are (filter_in_force s.trailing) true samples) run

row_state : (s : Setting) (b level : Bool) (n : ℕ) (samples : List Bool) → 1 ≤ n → n ≡ filter_to s level
    → latest_are n level samples ≡ true → filtered_state s b samples ≡ level
row_state s b level zero samples some same run = absurd (omega arith)
row_state s b level (suc n) [] some same run = absurd (cc run)
row_state s b level (suc n) (x ∷ older) some same run =
    let ends = row_ends s level (x ∷ older) (subst (λ m. latest_are m level (x ∷ older) ≡ true) same run) in
    ap (λ (e : Bool). if e then x else filtered_state s b older) ends
    ∙ same_level x level (both (beq x level) (latest_are n level older) run).0

some_filter : (s : Setting) (level : Bool) → 1 ≤ filter_to s level
some_filter s true = omega arith
some_filter s false = omega arith

-- so at the end the state is the level
new_state : (input : ℕ) (level : Bool) (events history : List FilterEvent) → HasNewLevel input level events history
    → input_state input (events ++ history) ≡ level
new_state input level events history h =
    let c = carried input events history (leaves input level events h.in_a_row) in
    let s = input_setting input history in
    let b = state_at_configuration input history in
    let samples = levels input events ++ input_samples input history in
    let long : scans_in events ≡ filter_to s level = omega (arith, h.long) in
    ap (λ s'. filtered_state s' (state_at_configuration input (events ++ history)) (input_samples input (events ++ history))) c.setting
    ∙ ap (λ b'. filtered_state s b' (input_samples input (events ++ history))) c.base
    ∙ ap (filtered_state s b) c.samples
    ∙ row_state s b level (scans_in events) samples (omega (arith, some_filter s level)) long
    (row_of input level events (input_samples input history) h.in_a_row)

-- a state is a level or the other one
which : (state level : Bool) → (state ≡ level) ⊎ (state ≡ not level)
which true true = inl refl
which false false = inl refl
which true false = inr refl
which false true = inr refl

other_level : (level : Bool) → not (beq level (not level)) ≡ true
other_level true = refl
other_level false = refl

not_other : (level : Bool) → level ≡ not level → ⊥
not_other true is = absurd (cc is)
not_other false is = absurd (cc is)

-- among events the change is reported, or there is none yet
reported_yet : (input : ℕ) (level : Bool) (events history : List FilterEvent) → (input_setting input history).ignore ≡ false
    → input_state input history ≡ not level → NoneIsAppliedTo input events
    → IsReportedIn input level events history ⊎ (input_state input (events ++ history) ≡ not level)
reported_yet input level [] history opened new none = inr new
reported_yet input level (event ∷ events) history opened new none =
    elim (reported_yet input level events history opened new none.1) as
    (λ _. IsReportedIn input level (event ∷ events) history ⊎ (input_state input (event ∷ (events ++ history)) ≡ not level)) [
      | inl r ↦ inl (record {
        later = event ∷ r.later;
        raw = r.raw;
        before = r.before;
        at = ap (λ es. event ∷ es) r.at;
        reported = r.reported;
        state = r.state;
      })
      | inr before ↦ now event before
    ]
  where
    -- the scan that reports it
    by_scan : (raw : ℕ) → input_state input (events ++ history) ≡ not level
        → input_state input (Scan raw ∷ (events ++ history)) ≡ level → IsReportedIn input level (Scan raw ∷ events) history
    by_scan raw before is =
        let was = input_state input (events ++ history) in
        let now = input_state input (Scan raw ∷ (events ++ history)) in
        let setting = (carried input events history none.1).setting in
        record {
          later = [];
          raw = raw;
          before = events;
          at = refl;
          reported =
              ap (λ (s : Setting). not s.ignore && not (beq now was)) setting
              ∙ ap (λ ignored. not ignored && not (beq now was)) opened
              ∙ ap (λ state. not (beq state was)) is
              ∙ ap (λ state. not (beq level state)) before
              ∙ other_level level;
          state = is;
        }

    now : (event : FilterEvent) → input_state input (events ++ history) ≡ not level
        → IsReportedIn input level (event ∷ events) history ⊎ (input_state input (event ∷ (events ++ history)) ≡ not level)
    now (Scan raw) before =
        elim (which (input_state input (Scan raw ∷ (events ++ history))) level) as
        (λ _. IsReportedIn input level (Scan raw ∷ events) history ⊎ (input_state input (Scan raw ∷ (events ++ history)) ≡ not level)) [
          | inl is ↦ inl (by_scan raw before is)
          | inr still ↦ inr still
        ]
    now (Configure items) before = inr (state-configure input items (events ++ history) ∙ before)

-- new levels are reported
pub new_levels_are_reported : NewLevelsAreReported
new_levels_are_reported input level events history h =
    elim (reported_yet input level events history h.not_ignored h.new (leaves input level events h.in_a_row)) as
    (λ _. IsReportedIn input level events history) [
      | inl reported ↦ reported
      | inr still ↦ absurd (not_other level (sym (new_state input level events history h) ∙ still))
    ]
