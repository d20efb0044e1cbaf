-- Two changes of an input are as many scans apart as the filter in force for the later one, whatever configurations come between.
use Rattle.fio_ends.proofs.Names.{◌≡◌, ◌∙◌, ◌+◌, ◌<◌, ◌≤◌, ◌&&◌, ◌||◌, ◌⊎◌, inl, inr, ℕ, zero, suc, Bool, true, false, not, List, [], ◌∷◌, ◌++◌, length, refl, ap, sym, subst, arith, length-append, append_assoc, if◌then◌else◌, beq, Life, Occurrence, Scanned, filter_events, scans_of, Transition, InputItem, input_setting, filter_events-append, FilterEvent, IsOfScan, Setting, filter_in_force, filter_to, input_samples, input_state, is_reported, IsNotAppliedTo, NoneIsAppliedTo, is_changed, scans_in, Configure, applies_to, latest_are, carried, changes_are_apart, length-levels, levels, scans_of-append}
use Rattle.fio_input.specs.FilterHistory.{Scan}
use Rattle.fio_ends.proofs.Following.{GoesOn}
use Rattle.fio_ends.proofs.Lives.{scans_grow}

-- ---- one change

right_of : (a b : Bool) → (a && b) ≡ true → b ≡ true
right_of true b is = is
right_of false b is = absurd (cc is)

-- a run is no longer than the samples
run_within : (n : ℕ) (level : Bool) (samples : List Bool) → latest_are n level samples ≡ true → n ≤ length samples
run_within zero level samples is = omega arith
run_within (suc n) level [] is = absurd (cc is)
run_within (suc n) level (sample ∷ older) is =
    let shorter = run_within n level older (right_of (beq sample level) (latest_are n level older) is) in
    omega arith

beq-same : (b : Bool) → not (beq b b) ≡ false
beq-same true = refl
beq-same false = refl

-- a sample that changes the state ends a run, and is the state
run_ends : (ends x before : Bool) → not (beq (if ends then x else before) before) ≡ true → (ends ≡ true) × ((if ends then x else before) ≡ x)
run_ends true x before is = (refl, refl)
run_ends false x before is = absurd (cc (beq-same before, is))

-- of one of two levels
one_of_two : (zeros ones : ℕ) (x : Bool) (older : List Bool) → 1 ≤ zeros → 1 ≤ ones → (latest_are zeros false (x ∷ older) || latest_are ones true (x ∷ older)) ≡ true
    → (if x then ones else zeros) ≤ length (x ∷ older)
one_of_two zeros ones x older some_zeros some is = grind (arith, run_within)

by_level : (setting : Setting) (x : Bool) → filter_to setting x ≡ (if x then filter_in_force setting.trailing else filter_in_force setting.leading)
by_level setting true = refl
by_level setting false = refl

-- so the filter for a change is no longer than the samples since the latest configuration
change_long : (input raw : ℕ) (history : List FilterEvent) → is_changed input raw history ≡ true
    → filter_to (input_setting input history) (input_state input (Scan raw ∷ history)) ≤ length (input_samples input history) + 1
change_long input raw history changed = grind (arith, by_level, one_of_two, run_ends)

-- ---- two changes

-- the latest configuration that applies to an input among events, if there is one
record IsApplied (input : ℕ) (events : List FilterEvent) : Type 0 where
  pub later : List FilterEvent
  pub items : List InputItem
  pub older : List FilterEvent
  pub is : events ≡ later ++ (Configure items ∷ older)
  pub none : NoneIsAppliedTo input later
  pub applied : applies_to input items ≡ true

applied_with : (input : ℕ) (event : FilterEvent) (events : List FilterEvent) → IsNotAppliedTo input event
    → NoneIsAppliedTo input events ⊎ IsApplied input events → NoneIsAppliedTo input (event ∷ events) ⊎ IsApplied input (event ∷ events)
applied_with input event events quiet (inl none) = inl (quiet, none)
applied_with input event events quiet (inr a) =
    inr (record { later = event ∷ a.later; items = a.items; older = a.older; is = ap (λ all. event ∷ all) a.is; none = (quiet, a.none); applied = a.applied })

latest_applied : (input : ℕ) (events : List FilterEvent) → NoneIsAppliedTo input events ⊎ IsApplied input events
latest_applied input [] = inl tt
latest_applied input (Scan raw ∷ events) = applied_with input (Scan raw) events tt (latest_applied input events)
latest_applied input (Configure items ∷ events) = by (applies_to input items) refl (latest_applied input events)
  where
    by : (applied : Bool) → applies_to input items ≡ applied → NoneIsAppliedTo input events ⊎ IsApplied input events
        → NoneIsAppliedTo input (Configure items ∷ events) ⊎ IsApplied input (Configure items ∷ events)
    by true is rest = inr (record { later = []; items = items; older = events; is = refl; none = tt; applied = is })
    by false is rest = applied_with input (Configure items) events is rest

scans_in-append : (events more : List FilterEvent) → scans_in (events ++ more) ≡ scans_in events + scans_in more
scans_in-append [] more = omega arith
scans_in-append (Scan raw ∷ events) more = let rest = scans_in-append events more in omega arith
scans_in-append (Configure items ∷ events) more = scans_in-append events more

-- two changes are apart
changes_apart : (input raw earlier : ℕ) (between before : List FilterEvent) → is_changed input earlier before ≡ true
    → is_changed input raw (between ++ Scan earlier ∷ before) ≡ true
    → filter_to (input_setting input (between ++ Scan earlier ∷ before)) (input_state input (Scan raw ∷ (between ++ Scan earlier ∷ before))) ≤ scans_in between + 1
changes_apart input raw earlier between before first second = by (latest_applied input between)
  where
    history : List FilterEvent
    history = between ++ Scan earlier ∷ before

    by : NoneIsAppliedTo input between ⊎ IsApplied input between
        → filter_to (input_setting input (between ++ Scan earlier ∷ before)) (input_state input (Scan raw ∷ (between ++ Scan earlier ∷ before))) ≤ scans_in between + 1
    by (inl none) = changes_are_apart input raw earlier between before none first second
    by (inr a) =
        let rest = Configure a.items ∷ (a.older ++ (Scan earlier ∷ before)) in
        let whole : between ++ (Scan earlier ∷ before) ≡ a.later ++ rest =
        ap (λ events. events ++ (Scan earlier ∷ before)) a.is ∙ append_assoc a.later (Configure a.items ∷ a.older) (Scan earlier ∷ before) in
        let c = carried input a.later rest a.none in
        let none : input_samples input rest ≡ [] = ap (λ (named : Bool). if named then [] else input_samples input (a.older ++ (Scan earlier ∷ before))) a.applied in
        let samples : length (input_samples input (between ++ (Scan earlier ∷ before))) ≡ scans_in a.later + 0 =
        ap (λ events. length (input_samples input events)) whole ∙ ap length c.samples ∙ length-append (levels input a.later) (input_samples input rest)
        ∙ ap (λ n. length (levels input a.later) + n) (ap length none) ∙ ap (λ n. n + 0) (length-levels input a.later) in
        let long = change_long input raw (between ++ (Scan earlier ∷ before)) second in
        let scans = ap scans_in a.is ∙ scans_in-append a.later (Configure a.items ∷ a.older) in
        omega arith

-- ---- two transitions

-- of two lives that a third goes on from, one goes on from the other
suffixes : (first second : List Occurrence) (a b : Life) → first ++ a ≡ second ++ b → GoesOn a b ⊎ GoesOn b a
suffixes [] second a b is = inr (record { more = second; is = is })
suffixes (x ∷ first) [] a b is = inl (record { more = x ∷ first; is = sym is })
suffixes (x ∷ first) (y ∷ second) a b is = let rest : first ++ a ≡ second ++ b = cc is in suffixes first second a b rest

pub comparable : (a b now : Life) → GoesOn a now → GoesOn b now → GoesOn a b ⊎ GoesOn b a
comparable a b now g h = suffixes g.more h.more a b (sym g.is ∙ h.is)

-- a scan that reports an input changes it
reported_changed : (ignore changed : Bool) → (not ignore && changed) ≡ true → changed ≡ true
reported_changed true changed is = absurd (cc is)
reported_changed false changed is = is

-- a transition that was logged with more scans than another of its input is as far from it as the filter then
module _ (now : Life) (raw_one raw_two : ℕ) (one two : Life) (older newer : Transition) where
  pub spaced : GoesOn (Scanned raw_one ∷ one) now → GoesOn (Scanned raw_two ∷ two) now → IsOfScan 64 raw_one one older → IsOfScan 64 raw_two two newer
      → newer.input ≡ older.input → older.scans < newer.scans
      → older.scans + filter_to (input_setting newer.input (filter_events two)) newer.level ≤ newer.scans
  spaced g h of_one of_two same less =
      let scans_one = ap (λ (t : Transition). t.scans) of_one.is in
      let scans_two = ap (λ (t : Transition). t.scans) of_two.is in
      elim (comparable (Scanned raw_one ∷ one) two now g (below h)) as (λ _. older.scans + filter_to (input_setting newer.input (filter_events two)) newer.level ≤ newer.scans) [
        | inl on ↦ by on
        | inr back ↦ (let low = scans_grow two (Scanned raw_one ∷ one) back in at_once back)
      ]
    where
      below : GoesOn (Scanned raw_two ∷ two) now → GoesOn two now
      below h = record { more = h.more ++ (Scanned raw_two ∷ []); is = h.is ∙ sym (append_assoc h.more (Scanned raw_two ∷ []) two) }

      by : GoesOn (Scanned raw_one ∷ one) two → older.scans + filter_to (input_setting newer.input (filter_events two)) newer.level ≤ newer.scans
      by on =
          let input = newer.input in
          let between = filter_events on.more in
          let whole : filter_events two ≡ between ++ (Scan raw_one ∷ filter_events one) = ap filter_events on.is ∙ filter_events-append on.more (Scanned raw_one ∷ one) in
          let first : is_changed input raw_one (filter_events one) ≡ true =
          reported_changed (input_setting input (filter_events one)).ignore (is_changed input raw_one (filter_events one))
          (ap (λ i. is_reported i raw_one (filter_events one)) same ∙ of_one.reported) in
          let second : is_changed input raw_two (filter_events two) ≡ true =
          reported_changed (input_setting input (filter_events two)).ignore (is_changed input raw_two (filter_events two)) of_two.reported in
          let apart = changes_apart input raw_two raw_one between (filter_events one) first (subst (λ events. is_changed input raw_two events ≡ true) whole second) in
          let level : newer.level ≡ input_state input (Scan raw_two ∷ filter_events two) = ap (λ (t : Transition). t.level) of_two.is in
          let filter : filter_to (input_setting input (filter_events two)) newer.level
          ≡ filter_to (input_setting input (between ++ (Scan raw_one ∷ filter_events one))) (input_state input (Scan raw_two ∷ (between ++ (Scan raw_one ∷ filter_events one)))) =
          ap (filter_to (input_setting input (filter_events two))) level
          ∙ ap (λ events. filter_to (input_setting input events) (input_state input (Scan raw_two ∷ events))) whole in
          let scans = ap scans_of on.is ∙ scans_of-append on.more (Scanned raw_one ∷ one) in
          let then_one : older.scans ≡ scans_of one + 1 = ap (λ (t : Transition). t.scans) of_one.is in
          let then_two : newer.scans ≡ scans_of two + 1 = ap (λ (t : Transition). t.scans) of_two.is in
          omega arith

      at_once : GoesOn two (Scanned raw_one ∷ one) → older.scans + filter_to (input_setting newer.input (filter_events two)) newer.level ≤ newer.scans
      at_once back = by_more back.more back.is
        where
          then_one : older.scans ≡ scans_of one + 1
          then_one = ap (λ (t : Transition). t.scans) of_one.is

          then_two : newer.scans ≡ scans_of two + 1
          then_two = ap (λ (t : Transition). t.scans) of_two.is

          by_more : (more : List Occurrence) → Scanned raw_one ∷ one ≡ more ++ two → older.scans + filter_to (input_setting newer.input (filter_events two)) newer.level ≤ newer.scans
          by_more [] is = by (record { more = []; is = sym is })
          by_more (x ∷ more) is =
              let rest : one ≡ more ++ two = cc is in
              let low = scans_grow two one (record { more = more; is = rest }) in
              absurd (omega (arith, then_one, then_two, less))
