-- How many changes scans can make of inputs that count, as the open ones do, whatever configurations come between.
use Rattle.fio_input.proofs.Names.{◌≡◌, ℕ, zero, suc, ◌+◌, ◌-◌, ◌*◌, ◌/◌, ◌<◌, ◌≤◌, ◌⊎◌, Bool, true, false, ◌&&◌, List, [], ◌∷◌, ◌++◌, refl, ap, sym, subst, ◌∙◌, arith, inl, inr, append_assoc, div-lt_iff_lt-mul, cases_lt, bit_of, InputItem, Setting, FilterEvent, Configure, Scan, applies_to, input_setting, input_state, is_changed, NoneIsAppliedTo, scans_in, changes_in, HasFiltersOf, sum_below, AtEachScan}
use Rattle.fio_input.proofs.Apart.{both, carried, changes_follow_configurations}
use Rattle.fio_input.proofs.FewChanges.{least_filter, changes_times_filter}
use Rattle.fio_input.proofs.FewReports.{sum-plus, sum-bound, sum-same, sum-none, bit-and}

-- what holds at each scan holds at each later and at each earlier one
pub at_each_scan-back : (P : List FilterEvent → Type 0) (later events history : List FilterEvent)
    → AtEachScan P (later ++ events) history → AtEachScan P events history
at_each_scan-back P [] events history each = each
at_each_scan-back P (Scan raw ∷ later) events history each = at_each_scan-back P later events history each.1
at_each_scan-back P (Configure items ∷ later) events history each = at_each_scan-back P later events history each

pub at_each_scan-front : (P : List FilterEvent → Type 0) (later events history : List FilterEvent)
    → AtEachScan P (later ++ events) history → AtEachScan P later (events ++ history)
at_each_scan-front P [] events history each = tt
at_each_scan-front P (Scan raw ∷ later) events history each =
    (subst P (append_assoc later events history) each.0, at_each_scan-front P later events history each.1)
at_each_scan-front P (Configure items ∷ later) events history each = at_each_scan-front P later events history each

-- so does what follows from it
pub at_each_scan-map : (P Q : List FilterEvent → Type 0) → ((history : List FilterEvent) → P history → Q history)
    → (events history : List FilterEvent) → AtEachScan P events history → AtEachScan Q events history
at_each_scan-map P Q follows [] history each = tt
at_each_scan-map P Q follows (Scan raw ∷ events) history each =
    (follows (events ++ history) each.0, at_each_scan-map P Q follows events history each.1)
at_each_scan-map P Q follows (Configure items ∷ events) history each = at_each_scan-map P Q follows events history each

-- scans among two lists of events, and what they report
pub scans-append : (later events : List FilterEvent) → scans_in (later ++ events) ≡ scans_in later + scans_in events
scans-append [] events = omega arith
scans-append (Scan raw ∷ later) events = let rest = scans-append later events in omega arith
scans-append (Configure items ∷ later) events = scans-append later events

-- the latest configuration among events that applies to an input
record LatestConfiguration (input : ℕ) (events : List FilterEvent) : Type 0 where
  pub between : List FilterEvent
  pub items : List InputItem
  pub before : List FilterEvent
  pub split : events ≡ between ++ Configure items ∷ before
  pub leave : NoneIsAppliedTo input between
  pub applied : applies_to input items ≡ true

-- the same after an event that is not a configuration that applies to it
one_later : (input : ℕ) (event : FilterEvent) (events : List FilterEvent) → NoneIsAppliedTo input (event ∷ [])
    → (NoneIsAppliedTo input events ⊎ LatestConfiguration input events)
    → NoneIsAppliedTo input (event ∷ events) ⊎ LatestConfiguration input (event ∷ events)
one_later input event events leave (inl none) = inl (leave.0, none)
one_later input event events leave (inr c) =
    inr (record {
      between = event ∷ c.between;
      items = c.items;
      before = c.before;
      split = ap (λ es. event ∷ es) c.split;
      leave = (leave.0, c.leave);
      applied = c.applied;
    })

none_or_configured : (input : ℕ) (events : List FilterEvent) → NoneIsAppliedTo input events ⊎ LatestConfiguration input events
none_or_configured input [] = inl tt
none_or_configured input (Scan raw ∷ events) = one_later input (Scan raw) events (tt, tt) (none_or_configured input events)
none_or_configured input (Configure items ∷ events) = here (applies_to input items) refl (none_or_configured input events)
  where
    here : (applied : Bool) → applies_to input items ≡ applied
        → (NoneIsAppliedTo input events ⊎ LatestConfiguration input events)
        → NoneIsAppliedTo input (Configure items ∷ events) ⊎ LatestConfiguration input (Configure items ∷ events)
    here true is earlier =
        inr (record { between = []; items = items; before = events; split = refl; leave = tt; applied = is })
    here false is earlier = one_later input (Configure items) events (is, tt) earlier

and_a_scan : (input raw : ℕ) (events : List FilterEvent) → NoneIsAppliedTo input events → NoneIsAppliedTo input (events ++ Scan raw ∷ [])
and_a_scan input raw [] none = (tt, tt)
and_a_scan input raw (event ∷ events) none = (none.0, and_a_scan input raw events none.1)

pub bit-and_left : (a b : Bool) → bit_of (a && b) ≤ bit_of a
bit-and_left true true = omega arith
bit-and_left true false = omega arith
bit-and_left false b = omega arith

once_only : (changes least scans : ℕ) → 1 ≤ least → scans ≤ least → changes * least + 1 ≤ scans + least → changes ≤ 1
once_only (suc (suc changes)) least scans some short few =
    let more : suc (suc changes) * least ≡ changes * least + (least + least) = grind arith in
    absurd (omega arith)
once_only _ least scans some short few = omega arith

-- the latest `most` scans among events, or all of them
record Latest (most : ℕ) (events : List FilterEvent) : Type 0 where
  pub later : List FilterEvent
  pub raw : ℕ
  pub before : List FilterEvent
  pub split : events ≡ later ++ Scan raw ∷ before
  pub short : scans_in later + 1 ≤ most
  pub rest : scans_in before ≤ scans_in events - most

latest : (most : ℕ) (events : List FilterEvent) → 1 ≤ most → 1 ≤ scans_in events → Latest most events
latest most [] some once = absurd (omega arith)
latest most (Configure items ∷ events) some once =
    let l = latest most events some once in
    record {
      later = Configure items ∷ l.later;
      raw = l.raw;
      before = l.before;
      split = ap (λ es. Configure items ∷ es) l.split;
      short = l.short;
      rest = l.rest;
    }
latest most (Scan raw ∷ events) some once =
    elim (cases_lt 1 most) as (λ _. Latest most (Scan raw ∷ events)) [
      | inl longer ↦
          elim (cases_lt 0 (scans_in events)) as (λ _. Latest most (Scan raw ∷ events)) [
            | inl more ↦
                let l = latest (most - 1) events (omega arith) (omega arith) in
                record {
                  later = Scan raw ∷ l.later;
                  raw = l.raw;
                  before = l.before;
                  split = ap (λ es. Scan raw ∷ es) l.split;
                  short = omega (arith, l.short);
                  rest = omega (arith, l.rest);
                }
            | inr none ↦ last (omega arith)
          ]
      | inr no_longer ↦ last (omega arith)
    ]
  where
    last : scans_in events ≤ scans_in events + 1 - most → Latest most (Scan raw ∷ events)
    last rest = record { later = []; raw = raw; before = events; split = refl; short = omega arith; rest = omega arith }

-- which inputs count, by their setting
abbrev pub Counts : Type 0
Counts = ℕ → Setting → Bool

-- whether a scan changes an input that counts
abbrev pub is_counted : Counts → ℕ → ℕ → List FilterEvent → Bool
is_counted counts input raw history = counts input (input_setting input history) && is_changed input raw history

-- how many changes of an input that counts there are among events
abbrev pub counted_in : Counts → ℕ → List FilterEvent → List FilterEvent → ℕ
counted_in counts input [] history = 0
counted_in counts input (Scan raw ∷ events) history =
    counted_in counts input events history + bit_of (is_counted counts input raw (events ++ history))
counted_in counts input (Configure items ∷ events) history = counted_in counts input events history

-- how many changes of all inputs that count there are among events
abbrev pub all_counted : Counts → List FilterEvent → List FilterEvent → ℕ
all_counted counts events history = sum_below 64 (λ input. counted_in counts input events history)

-- at most `opened` inputs count, with filters in force of at least `least` samples
pub record FewCount (counts : Counts) (opened least : ℕ) (history : List FilterEvent) : Type 0 where
  pub few : sum_below 64 (λ input. bit_of (counts input (input_setting input history))) ≤ opened
  pub filters :
      (input : ℕ) → input < 64 → counts input (input_setting input history) ≡ true
      → HasFiltersOf (input_setting input history) least

-- few count at each scan
abbrev pub FewStayCounted : Counts → ℕ → ℕ → List FilterEvent → List FilterEvent → Type 0
FewStayCounted counts opened least events history = AtEachScan (FewCount counts opened least) events history

module _ (counts : Counts) where
  counted-append : (input : ℕ) (later events history : List FilterEvent)
      → counted_in counts input (later ++ events) history ≡ counted_in counts input later (events ++ history) + counted_in counts input events history
  counted-append input [] events history = omega arith
  counted-append input (Scan raw ∷ later) events history =
      let rest = counted-append input later events history in
      let here : bit_of (is_counted counts input raw ((later ++ events) ++ history)) ≡ bit_of (is_counted counts input raw (later ++ (events ++ history))) =
      ap (λ h. bit_of (is_counted counts input raw h)) (append_assoc later events history) in
      omega arith
  counted-append input (Configure items ∷ later) events history = counted-append input later events history

  all_counted-append : (later events history : List FilterEvent)
      → all_counted counts (later ++ events) history ≡ all_counted counts later (events ++ history) + all_counted counts events history
  all_counted-append later events history =
      sum-same 64 (λ input. counted_in counts input (later ++ events) history)
      (λ input. counted_in counts input later (events ++ history) + counted_in counts input events history)
      (λ input. counted-append input later events history)
      ∙ sum-plus 64 (λ input. counted_in counts input later (events ++ history)) (λ input. counted_in counts input events history)

  -- without a scan nothing is counted
  no_scan_counts : (input : ℕ) (events history : List FilterEvent) → scans_in events ≡ 0 → counted_in counts input events history ≡ 0
  no_scan_counts input [] history none = refl
  no_scan_counts input (Scan raw ∷ events) history none = absurd (omega arith)
  no_scan_counts input (Configure items ∷ events) history none = no_scan_counts input events history none

  pub no_scan_counts_any : (events history : List FilterEvent) → scans_in events ≡ 0 → all_counted counts events history ≡ 0
  no_scan_counts_any events history none =
      sum-same 64 (λ input. counted_in counts input events history) (λ input. 0) (λ input. no_scan_counts input events history none) ∙ sum-none 64

  -- what is counted is a change
  counted_are_changes : (input : ℕ) (events history : List FilterEvent) → counted_in counts input events history ≤ changes_in input events history
  counted_are_changes input [] history = omega arith
  counted_are_changes input (Scan raw ∷ events) history =
      let rest = counted_are_changes input events history in
      let here = bit-and (counts input (input_setting input (events ++ history))) (is_changed input raw (events ++ history)) in
      omega arith
  counted_are_changes input (Configure items ∷ events) history = counted_are_changes input events history

  -- If there are no more scans than a filter has samples, a change of each input is counted at most once, and only if the
  -- input counted at the first of them: after a later configuration there are too few scans.
  counted_once : (opened least raw input : ℕ) (later history : List FilterEvent) → input < 64 → 1 ≤ least
      → FewStayCounted counts opened least (later ++ Scan raw ∷ []) history → scans_in later + 1 ≤ least
      → counted_in counts input (later ++ Scan raw ∷ []) history ≤ bit_of (counts input (input_setting input history))
  counted_once opened least raw input [] history low some stay short =
      let here = bit-and_left (counts input (input_setting input history)) (is_changed input raw history) in
      omega arith
  counted_once opened least raw input (Configure items ∷ later) history low some stay short =
      counted_once opened least raw input later history low some stay short
  counted_once opened least raw input (Scan newest ∷ later) history low some stay short =
      newest_is (is_counted counts input newest ((later ++ Scan raw ∷ []) ++ history)) refl
      (counted_once opened least raw input later history low some stay.1 (omega arith))
    where
      newest_is : (counted : Bool) → is_counted counts input newest ((later ++ Scan raw ∷ []) ++ history) ≡ counted
          → counted_in counts input (later ++ Scan raw ∷ []) history ≤ bit_of (counts input (input_setting input history))
          → counted_in counts input (Scan newest ∷ (later ++ Scan raw ∷ [])) history ≤ bit_of (counts input (input_setting input history))
      newest_is false is before =
          let rest = later ++ Scan raw ∷ [] in
          let here : bit_of (is_counted counts input newest (rest ++ history)) ≡ 0 = ap bit_of is in
          omega arith
      newest_is true is earlier =
          let rest = later ++ Scan raw ∷ [] in
          let now = input_setting input (rest ++ history) in
          let changed = both (counts input now) (is_changed input newest (rest ++ history)) is in
          let filters = stay.0.filters input low changed.0 in
          let scanned = scans-append later (Scan raw ∷ []) in
          elim (none_or_configured input later) as (λ _. counted_in counts input (Scan newest ∷ rest) history ≤ bit_of (counts input (input_setting input history))) [
            | inl none ↦
                let leave = and_a_scan input raw later none in
                let same = (carried input rest history leave).setting in
                let filters' = subst (λ (s : Setting). HasFiltersOf s least) same filters in
                let was : counts input (input_setting input history) ≡ true = sym (ap (counts input) same) ∙ changed.0 in
                let bit : bit_of (counts input (input_setting input history)) ≡ 1 = ap bit_of was in
                let few = changes_times_filter input least (Scan newest ∷ rest) history (tt, leave) some filters' in
                let one = once_only (changes_in input (Scan newest ∷ rest) history) least (scans_in (Scan newest ∷ rest)) some (omega arith) few in
                let less = counted_are_changes input (Scan newest ∷ rest) history in
                omega arith
            | inr c ↦
                let before = c.before ++ Scan raw ∷ [] in
                let split : rest ++ history ≡ c.between ++ Configure c.items ∷ (before ++ history) =
                ap (λ es. (es ++ Scan raw ∷ []) ++ history) c.split
                ∙ ap (λ es. es ++ history) (append_assoc c.between (Configure c.items ∷ c.before) (Scan raw ∷ []))
                ∙ append_assoc c.between (Configure c.items ∷ before) history in
                let far = changes_follow_configurations input newest c.items c.between (before ++ history) c.leave c.applied
                (subst (λ h. is_changed input newest h ≡ true) split changed.1) in
                let filters' = subst (λ h. HasFiltersOf (input_setting input h) least) split filters in
                let most = least_filter (input_setting input (c.between ++ Configure c.items ∷ (before ++ history))) least
                (input_state input (Scan newest ∷ (c.between ++ Configure c.items ∷ (before ++ history)))) filters' in
                let all = ap scans_in c.split ∙ scans-append c.between (Configure c.items ∷ c.before) in
                absurd (omega arith)
          ]

  -- so no more are counted then than inputs that counted at the first of them
  few_at_once : (opened least raw : ℕ) (later history : List FilterEvent) → 1 ≤ least
      → FewStayCounted counts opened least (later ++ Scan raw ∷ []) history → scans_in later + 1 ≤ least
      → all_counted counts (later ++ Scan raw ∷ []) history ≤ opened
  few_at_once opened least raw later history some stay short =
      let first = at_each_scan-back (FewCount counts opened least) later (Scan raw ∷ []) history stay in
      let few = first.0.few in
      let all = sum-bound 64 1 0 1 (λ input. counted_in counts input (later ++ Scan raw ∷ []) history)
      (λ input. bit_of (counts input (input_setting input history)))
      (λ input low. let once = counted_once opened least raw input later history low some stay short in omega arith) in
      omega arith

  -- this holds of each such number of scans
  few_of_each : (times opened least : ℕ) (events history : List FilterEvent) → 1 ≤ least
      → FewStayCounted counts opened least events history → scans_in events ≤ times * least
      → all_counted counts events history ≤ opened * times
  few_of_each zero opened least events history some stay few =
      let none = no_scan_counts_any events history (omega arith) in
      omega arith
  few_of_each (suc times) opened least events history some stay few =
      elim (cases_lt 0 (scans_in events)) as (λ _. all_counted counts events history ≤ opened * suc times) [
        | inl once ↦
            let l = latest least events some (omega arith) in
            let newest = l.later ++ Scan l.raw ∷ [] in
            let split : events ≡ newest ++ l.before = l.split ∙ sym (append_assoc l.later (Scan l.raw ∷ []) l.before) in
            let stay' = subst (λ es. FewStayCounted counts opened least es history) split stay in
            let one_more : suc times * least ≡ times * least + least = grind arith in
            let earlier = few_of_each times opened least l.before history some
            (at_each_scan-back (FewCount counts opened least) newest l.before history stay') (omega (arith, l.rest)) in
            let now = few_at_once opened least l.raw l.later (l.before ++ history) some
            (at_each_scan-front (FewCount counts opened least) newest l.before history stay') l.short in
            let all = ap (λ es. all_counted counts es history) split ∙ all_counted-append newest l.before history in
            let both_times : opened * suc times ≡ opened * times + opened = grind arith in
            omega arith
        | inr never ↦
            let none = no_scan_counts_any events history (omega arith) in
            omega arith
      ]

  -- what is counted is little
  pub counted_are_few : (opened least : ℕ) (events history : List FilterEvent) → 1 ≤ least
      → FewStayCounted counts opened least events history
      → all_counted counts events history ≤ opened * (1 + (scans_in events - 1) / least)
  counted_are_few opened least events history some stay =
      let times = (scans_in events - 1) / least in
      let within : scans_in events - 1 < (1 + times) * least =
      (div-lt_iff_lt-mul {k = least} {x = scans_in events - 1} {y = 1 + times} some).0 (omega arith) in
      few_of_each (1 + times) opened least events history some stay (omega arith)
