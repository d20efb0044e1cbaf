-- What scans report is little, each open input with the filters of its group.
use Rattle.fio_input.proofs.Names.{◌≡◌, ℕ, zero, suc, ◌+◌, ◌-◌, ◌*◌, ◌/◌, ◌==◌, ◌<◌, ◌≤◌, Bool, true, false, not, ◌&&◌, List, [], ◌∷◌, ◌++◌, refl, ap, sym, subst, ◌∙◌, arith, inl, inr, cases_lt, cases_eq, nat_tests, mul-le-mul_left, div-mul-le_self, le-div_iff_mul-le, not-true, bit_of, Setting, filter_in_force, FilterEvent, Scan, Configure, input_setting, is_reported, is_changed, scans_in, HasFiltersOf, reports_in, sum_below, NoneIsApplied}
use Rattle.fio_input.specs.FiltersThatDiffer.{Plan, is_open_in, IsAsPlanned, StaysAsPlanned, most_reports, ReportsAreFewOfEach, present_plan, NoneAppliedStaysAsPlanned}
use Rattle.fio_input.proofs.Apart.{both, carried}
use Rattle.fio_input.proofs.FewReports.{leaves_each, sum-plus, sum-none, bit-and}
use Rattle.fio_input.proofs.Counted.{counted_in, all_counted, is_counted, FewCount, counted_are_few, at_each_scan-map, bit-and_left}

-- a sum of numbers is at most a sum of numbers that are at least as large
sum-more : (n : ℕ) (f g : ℕ → ℕ) → ((i : ℕ) → i < n → f i ≤ g i) → sum_below n f ≤ sum_below n g
unfolding sum_below
sum-more zero f g each = omega arith
sum-more (suc n) f g each =
    let rest = sum-more n f g (λ i low. each i (omega arith)) in let here = each n (omega arith) in omega arith

-- sums of sums, in either order
sum-turned : (n m : ℕ) (f : ℕ → ℕ → ℕ)
    → sum_below n (λ i. sum_below m (λ j. f i j)) ≡ sum_below m (λ j. sum_below n (λ i. f i j))
unfolding sum_below
sum-turned zero m f = sym (sum-none m)
sum-turned (suc n) m f =
    let rest = sum-turned n m f in
    let both = sum-plus m (λ j. sum_below n (λ i. f i j)) (λ j. f n j) in
    omega arith

-- one of several numbers is no more than their sum
sum-has : (n k : ℕ) (f : ℕ → ℕ) → k < n → f k ≤ sum_below n f
unfolding sum_below
sum-has zero k f low = absurd (omega arith)
sum-has (suc n) k f low =
    elim (cases_lt k n) as (λ _. f k ≤ sum_below (suc n) f) [
      | inl below ↦ let rest = sum-has n k f below in omega arith
      | inr last ↦ let same : k ≡ n = omega arith in let here = ap f same in omega arith
    ]

-- only one input has its own number
none_below : (m k : ℕ) (flag : ℕ → Bool) → m ≤ k → sum_below m (λ i. bit_of (flag i && (i == k))) ≡ 0
unfolding sum_below
none_below zero k flag low = refl
none_below (suc m) k flag low =
    let rest = none_below m k flag (omega arith) in
    let other : (m == k) ≡ false = grind (arith, nat_tests) in
    let less = bit-and (flag m) (m == k) in
    let here = ap bit_of other in
    omega arith

sum-own : (n k : ℕ) (flag : ℕ → Bool) → sum_below n (λ i. bit_of (flag i && (i == k))) ≤ bit_of (flag k)
unfolding sum_below
sum-own zero k flag = omega arith
sum-own (suc n) k flag =
    elim (cases_eq n k) as (λ _. sum_below (suc n) (λ i. bit_of (flag i && (i == k))) ≤ bit_of (flag k)) [
      | inl same ↦
          let none = none_below n k flag (omega arith) in
          let less = bit-and_left (flag n) (n == k) in
          let here = ap (λ i. bit_of (flag i)) same in
          omega arith
      | inr apart ↦
          let rest = sum-own n k flag in
          let other : (n == k) ≡ false = grind (arith, nat_tests) in
          let less = bit-and (flag n) (n == k) in
          let here = ap bit_of other in
          omega arith
    ]

module _ (plan : Plan) where
  -- the changes of an input that are counted in all groups
  abbrev in_groups : ℕ → List FilterEvent → List FilterEvent → ℕ
  in_groups input events history = sum_below plan.groups (λ group. counted_in (is_open_in plan group) input events history)

  -- a change that is reported is counted in the group of its input
  one_group : (input raw : ℕ) (history : List FilterEvent) → input < 64 → IsAsPlanned plan history
      → bit_of (is_reported input raw history) ≤ sum_below plan.groups (λ group. bit_of (is_counted (is_open_in plan group) input raw history))
  one_group input raw history low p = reported (is_reported input raw history) refl
    where
      reported : (is_so : Bool) → is_reported input raw history ≡ is_so
          → bit_of is_so ≤ sum_below plan.groups (λ group. bit_of (is_counted (is_open_in plan group) input raw history))
      reported false is = omega arith
      reported true is =
          let setting = input_setting input history in
          let group = plan.group_of input setting in
          let parts = both (not setting.ignore) (is_changed input raw history) is in
          let opened = not-true setting.ignore parts.0 in
          let own : (group == group) ≡ true = grind (arith, nat_tests) in
          let counted : is_counted (is_open_in plan group) input raw history ≡ true =
          ap (λ b. (b && (group == group)) && is_changed input raw history) parts.0
          ∙ ap (λ b. b && is_changed input raw history) own ∙ parts.1 in
          let bit = ap bit_of counted in
          let most = sum-has plan.groups group (λ g. bit_of (is_counted (is_open_in plan g) input raw history)) (p.in_group input low opened) in
          omega arith

  reported_in_groups : (input : ℕ) (events history : List FilterEvent) → input < 64 → StaysAsPlanned plan events history
      → reports_in input events history ≤ in_groups input events history
  reported_in_groups input [] history low stay = omega arith
  reported_in_groups input (Scan raw ∷ events) history low stay =
      let rest = reported_in_groups input events history low stay.1 in
      let here = one_group input raw (events ++ history) low stay.0 in
      let sum = sum-plus plan.groups (λ group. counted_in (is_open_in plan group) input events history)
      (λ group. bit_of (is_counted (is_open_in plan group) input raw (events ++ history))) in
      omega arith
  reported_in_groups input (Configure items ∷ events) history low stay = reported_in_groups input events history low stay

  -- few of each group count
  few_of_group : (group : ℕ) (history : List FilterEvent) → IsAsPlanned plan history
      → FewCount (is_open_in plan group) (plan.most_open group) (filter_in_force (plan.filter_of group)) history
  few_of_group group history p =
      record {
        few = p.few group;
        filters = λ input low counts.
            let setting = input_setting input history in
            let parts = both (not setting.ignore) (plan.group_of input setting == group) counts in
            let opened = not-true setting.ignore parts.0 in
            let is : (plan.group_of input setting == group) ≡ true = parts.1 in
            let same : plan.group_of input setting ≡ group = grind (arith, nat_tests) in
            subst (λ g. HasFiltersOf setting (filter_in_force (plan.filter_of g))) same (p.filters input low opened);
      }

-- reports are few
pub reports_are_few_of_each : ReportsAreFewOfEach
reports_are_few_of_each plan events history stay once =
    let each = sum-more 64 (λ input. reports_in input events history) (λ input. in_groups plan input events history)
    (λ input low. reported_in_groups plan input events history low stay) in
    let turned = sum-turned 64 plan.groups (λ input group. counted_in (is_open_in plan group) input events history) in
    let few = sum-more plan.groups (λ group. all_counted (is_open_in plan group) events history)
    (λ group. plan.most_open group * (1 + (scans_in events - 1) / filter_in_force (plan.filter_of group)))
    (λ group low. counted_are_few (is_open_in plan group) (plan.most_open group) (filter_in_force (plan.filter_of group)) events history (omega arith)
    (at_each_scan-map (IsAsPlanned plan) (FewCount (is_open_in plan group) (plan.most_open group) (filter_in_force (plan.filter_of group)))
    (few_of_group plan group) events history stay)) in
    omega arith

-- more scans report no less
pub most_reports-more : (plan : Plan) (a b : ℕ) → a ≤ b → most_reports plan a ≤ most_reports plan b
most_reports-more plan a b more =
    sum-more plan.groups _ _ (λ group low.
    let filter = filter_in_force (plan.filter_of group) in
    let some : 1 ≤ filter = omega arith in
    let least = div-mul-le_self (a - 1) filter in
    let divided : (a - 1) / filter ≤ (b - 1) / filter =
    (le-div_iff_mul-le {k = filter} {x = (a - 1) / filter} {y = b - 1} some).1 (omega arith) in
    mul-le-mul_left (plan.most_open group) (omega arith))

-- if no configuration is applied, the inputs that are open stay as they are
as_present : (events history : List FilterEvent) → NoneIsApplied events → IsAsPlanned (present_plan history) (events ++ history)
as_present events history none =
    record {
      few = λ group.
          let own = sum-own 64 group (λ input. not (input_setting input (events ++ history)).ignore) in
          let same = ap (λ (s : Setting). bit_of (not s.ignore)) (carried group events history (leaves_each group events none)).setting in
          omega arith;
      in_group = λ input low opened. low;
      filters = λ input low opened.
          subst (λ (s : Setting). HasFiltersOf s (filter_in_force ((present_plan history).filter_of input))) (sym (carried input events history (leaves_each input events none)).setting)
          (record { leading = omega arith; trailing = omega arith });
    }

pub none_applied_stays_as_planned : NoneAppliedStaysAsPlanned
none_applied_stays_as_planned [] history none = tt
none_applied_stays_as_planned (Scan raw ∷ events) history none =
    (as_present events history none.1, none_applied_stays_as_planned events history none.1)
none_applied_stays_as_planned (Configure items ∷ events) history none = none_applied_stays_as_planned events history none.1
