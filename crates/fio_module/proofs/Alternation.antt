-- Successive transitions of an input alternate, and are apart.
use Rattle.fio_module.proofs.Names.{◌≡◌, ◌≢◌, ℕ, ◌+◌, ◌-◌, ◌<◌, ◌≤◌, Bool, true, false, not, ◌&&◌, List, [], ◌∷◌, ◌++◌, length, Some, slice_get, refl, ap, sym, subst, ◌∙◌, arith, inl, inr, cases_lt, ConfigureInputs, FilterEvent, Configure, Scan, input_setting, input_state, is_reported, is_changed, NoneIsAppliedTo, scans_in, filter_to, NoneIsApplied, Life, Scanned, Commanded, scans_of, filter_events, Transition, transition_at, transitions_below, log_of, not-true, not-false, slice_get_within}
use Rattle.std.specs.Bool.{beq}
use Rattle.fio_input.specs.FilterRule.{Setting}
use Rattle.fio_input.proofs.Apart.{carried, both, same_level, changes_are_apart}
use Rattle.fio_input.proofs.FewReports.{leaves_each}
use Rattle.fio_input.proofs.History.{state-configure}
use Rattle.fio_module.specs.Alternation.{Alternates, TransitionsAlternate}
use Rattle.fio_module.proofs.Growth.{filter_events-append}
use Rattle.fio_module.proofs.ListParts.{get_in_front, get_in_back, get_from_front, get_from_back}
use Rattle.fio_module.proofs.NewLevels.{reported_there}
use Rattle.fio_module.proofs.ScanTransitions.{of_scan, ascending}

-- if a scan has no transition of an input, that input is not reported
not_reported : (raw : ℕ) (life : Life) (input : ℕ) → input < 64
    → ((k : ℕ) (t : Transition) → slice_get (transitions_below 64 raw life) k ≡ Some t → t.input ≢ input)
    → (reported : Bool) → is_reported input raw (filter_events life) ≡ reported → reported ≡ false
not_reported raw life input low none true is =
    let found = reported_there 64 raw life input low is in
    absurd (none found.0 (transition_at (Scanned raw ∷ life) input) found.1 refl)
not_reported raw life input low none false is = refl

-- ---- the latest transition of an input

-- a transition is the latest of its input after these events and scans: its scan changed the state, which has stayed
pub record IsLatest (input : ℕ) (events : List FilterEvent) (scans : ℕ) (transition : Transition) : Type 0 where
  pub between : List FilterEvent
  pub raw : ℕ
  pub before : List FilterEvent
  pub split : events ≡ between ++ Scan raw ∷ before
  pub leave : NoneIsAppliedTo input between
  pub changed : is_changed input raw before ≡ true
  pub age : scans ≡ transition.scans + scans_in between
  pub state : input_state input events ≡ transition.level
  pub opened : (input_setting input events).ignore ≡ false
  pub low : input < 64

-- in a life
abbrev IsLatestOf : ℕ → Life → Transition → Type 0
IsLatestOf input life transition = IsLatest input (filter_events life) (scans_of life) transition

-- levels that differ
other_of : (x y : Bool) → not (beq x y) ≡ true → x ≡ not y
other_of true true is = absurd (cc is)
other_of true false is = refl
other_of false true is = refl
other_of false false is = absurd (cc is)

-- a transition of the scan that ends a life is the latest of its input
latest_now : (raw : ℕ) (life : Life) (k : ℕ) (transition : Transition)
    → slice_get (transitions_below 64 raw life) k ≡ Some transition → IsLatestOf transition.input (Scanned raw ∷ life) transition
latest_now raw life k transition is =
    let o = of_scan 64 raw life k transition is in
    let parts = both (not (input_setting transition.input (filter_events life)).ignore)
    (is_changed transition.input raw (filter_events life)) o.reported in
    let scans : transition.scans ≡ scans_of (Scanned raw ∷ life) = ap (λ (t : Transition). t.scans) o.is in
    record {
      between = [];
      raw = raw;
      before = filter_events life;
      split = refl;
      leave = tt;
      changed = parts.1;
      age = omega arith;
      state = sym (ap (λ (t : Transition). t.level) o.is);
      opened = not-true (input_setting transition.input (filter_events life)).ignore parts.0;
      low = o.low;
    }

-- it still is after a scan that has none of its input
latest_still : (raw input : ℕ) (life : Life) (transition : Transition) → IsLatestOf input life transition
    → ((k : ℕ) (t : Transition) → slice_get (transitions_below 64 raw life) k ≡ Some t → t.input ≢ input)
    → IsLatestOf input (Scanned raw ∷ life) transition
latest_still raw input life transition l none =
    let events = filter_events life in
    let silent = not_reported raw life input l.low none (is_reported input raw events) refl in
    let unchanged : is_changed input raw events ≡ false =
    sym (ap (λ ignored. not ignored && is_changed input raw events) l.opened) ∙ silent in
    let same = same_level (input_state input (Scan raw ∷ events)) (input_state input events) (not-false _ unchanged) in
    record {
      between = Scan raw ∷ l.between;
      raw = l.raw;
      before = l.before;
      split = ap (λ es. Scan raw ∷ es) l.split;
      leave = (tt, l.leave);
      changed = l.changed;
      age = omega (arith, l.age);
      state = same ∙ l.state;
      opened = l.opened;
      low = l.low;
    }

-- a transition in a log from this index on, with none of its input after it
pub record IsLastOf (input from : ℕ) (log : List Transition) (place : ℕ) (transition : Transition) : Type 0 where
  pub since : from ≤ place
  pub at : slice_get log place ≡ Some transition
  pub of_input : transition.input ≡ input
  pub none_behind : (k : ℕ) (t : Transition) → place < k → slice_get log k ≡ Some t → t.input ≢ input

-- is the latest of its input
pub latest : (input : ℕ) (life later : Life) (place : ℕ) (transition : Transition) → NoneIsApplied (filter_events later)
    → IsLastOf input (length (log_of life)) (log_of (later ++ life)) place transition → IsLatestOf input (later ++ life) transition
latest input life [] place transition none l =
    absurd (omega (arith, l.since, slice_get_within (log_of life) place transition l.at))
latest input life (Scanned raw ∷ later) place transition none l =
    let here = later ++ life in
    let log = log_of here in
    let scanned = transitions_below 64 raw here in
    elim (cases_lt place (length log)) as (λ _. IsLatestOf input (Scanned raw ∷ here) transition) [
      | inl before ↦
          latest_still raw input here transition
          (latest input life later place transition none.1 (record {
            since = l.since;
            at = get_in_front log scanned place transition before l.at;
            of_input = l.of_input;
            none_behind = λ k t behind at. l.none_behind k t behind (get_from_front log scanned k t at);
          }))
          (λ k t at. l.none_behind (length log + k) t (omega arith) (get_from_back log scanned k t at))
      | inr now ↦
          subst (λ i. IsLatestOf i (Scanned raw ∷ here) transition) l.of_input
          (latest_now raw here (place - length log) transition (get_in_back log scanned place transition now l.at))
    ]
latest input life (Commanded (ConfigureInputs items) ∷ later) place transition none l =
    let n = latest input life later place transition none.1 l in
    let events = filter_events (later ++ life) in
    let leave = leaves_each input (Configure items.items ∷ []) (none.0, tt) in
    record {
      between = Configure items.items ∷ n.between;
      raw = n.raw;
      before = n.before;
      split = ap (λ es. Configure items.items ∷ es) n.split;
      leave = (leave.0, n.leave);
      changed = n.changed;
      age = n.age;
      state = state-configure input items.items events ∙ n.state;
      opened =
          ap (λ (s : Setting). s.ignore) (carried input (Configure items.items ∷ []) events leave).setting ∙ n.opened;
      low = n.low;
    }
latest input life (other ∷ later) place transition none l = latest input life later place transition none l

-- ---- successive transitions

-- the next one after the latest, if no configuration was applied since a life
next_alternates : (raw : ℕ) (life later : Life) (k : ℕ) (older newer : Transition) → NoneIsApplied (filter_events later)
    → IsLatestOf newer.input (later ++ life) older
    → slice_get (transitions_below 64 raw (later ++ life)) k ≡ Some newer → Alternates newer.input life older newer
next_alternates raw life later k older newer none l is =
    let input = newer.input in
    let here = later ++ life in
    let events = filter_events here in
    let o = of_scan 64 raw here k newer is in
    let changed = (both (not (input_setting input events).ignore) (is_changed input raw events) o.reported).1 in
    let level : newer.level ≡ input_state input (Scan raw ∷ events) = ap (λ (t : Transition). t.level) o.is in
    let scans : newer.scans ≡ scans_of (Scanned raw ∷ here) = ap (λ (t : Transition). t.scans) o.is in
    let apart = changes_are_apart input raw l.raw l.between l.before l.leave l.changed
    (subst (λ es. is_changed input raw es ≡ true) l.split changed) in
    let apart_here : filter_to (input_setting input events) (input_state input (Scan raw ∷ events)) ≤ scans_in l.between + 1 =
    subst (λ es. filter_to (input_setting input es) (input_state input (Scan raw ∷ es)) ≤ scans_in l.between + 1) (sym l.split) apart in
    let setting : input_setting input events ≡ input_setting input (filter_events life) =
    ap (input_setting input) (filter_events-append later life)
    ∙ (carried input (filter_events later) (filter_events life) (leaves_each input (filter_events later) none)).setting in
    let filter : filter_to (input_setting input events) (input_state input (Scan raw ∷ events))
    ≡ filter_to (input_setting input (filter_events life)) newer.level =
    ap (λ s. filter_to s (input_state input (Scan raw ∷ events))) setting
    ∙ ap (filter_to (input_setting input (filter_events life))) (sym level) in
    record {
      state =
          level ∙ other_of (input_state input (Scan raw ∷ events)) (input_state input events) changed
          ∙ ap not l.state;
      apart = omega (arith, l.age);
    }

-- successive transitions of an input alternate
pub transitions_alternate : TransitionsAlternate
transitions_alternate input place next life [] older newer none s =
    absurd (omega (arith, s.since, s.in_order, slice_get_within (log_of life) next newer s.newer_at))
transitions_alternate input place next life (Scanned raw ∷ later) older newer none s =
    let here = later ++ life in
    let log = log_of here in
    let scanned = transitions_below 64 raw here in
    elim (cases_lt next (length log)) as (λ _. Alternates input life older newer) [
      | inl before ↦
          transitions_alternate input place next life later older newer none.1 (record {
            since = s.since;
            in_order = s.in_order;
            older_at = get_in_front log scanned place older (omega (arith, s.in_order)) s.older_at;
            newer_at = get_in_front log scanned next newer before s.newer_at;
            older_of = s.older_of;
            newer_of = s.newer_of;
            none_between = λ k t behind below at. s.none_between k t behind below (get_from_front log scanned k t at);
          })
      | inr now ↦
          let newer_in = get_in_back log scanned next newer now s.newer_at in
          elim (cases_lt place (length log)) as (λ _. Alternates input life older newer) [
            | inl old ↦
                let last : IsLastOf input (length (log_of life)) log place older = record {
                  since = s.since;
                  at = get_in_front log scanned place older old s.older_at;
                  of_input = s.older_of;
                  none_behind = λ k t behind at.
                      s.none_between k t behind (omega (arith, slice_get_within log k t at)) (get_from_front log scanned k t at);
                } in
                subst (λ i. Alternates i life older newer) s.newer_of
                (next_alternates raw life later (next - length log) older newer none.1
                (subst (λ i. IsLatestOf i here older) (sym s.newer_of) (latest input life later place older none.1 last))
                newer_in)
            | inr same_scan ↦
                let less = ascending 64 raw here (place - length log) (next - length log) older newer (omega (arith, s.in_order))
                (get_in_back log scanned place older same_scan s.older_at) newer_in in
                absurd (omega (arith, s.older_of, s.newer_of))
          ]
    ]
transitions_alternate input place next life (Commanded (ConfigureInputs items) ∷ later) older newer none s =
    transitions_alternate input place next life later older newer none.1 (record {
      since = s.since;
      in_order = s.in_order;
      older_at = s.older_at;
      newer_at = s.newer_at;
      older_of = s.older_of;
      newer_of = s.newer_of;
      none_between = s.none_between;
    })
transitions_alternate input place next life (other ∷ later) older newer none s =
    transitions_alternate input place next life later older newer none (record {
      since = s.since;
      in_order = s.in_order;
      older_at = s.older_at;
      newer_at = s.newer_at;
      older_of = s.older_of;
      newer_of = s.newer_of;
      none_between = s.none_between;
    })
