-- What scans report of all inputs is little, whatever configurations come between.
use Rattle.fio_input.proofs.Names.{◌≡◌, ℕ, zero, suc, ◌+◌, ◌-◌, ◌*◌, ◌/◌, ◌≤◌, Bool, true, false, not, List, [], ◌∷◌, ◌++◌, refl, ap, ◌∙◌, arith, inl, inr, mul-le-mul_left, mul-le-mul_right, div-mul-le_self, cases_lt, bit_of, InputItem, FilterEvent, Configure, Scan, all_present, input_setting, is_reported, scans_in, reports_in, all_reports_in, open_inputs, OpenHaveFiltersOf, NoneIsApplied, HasFewOpen, FewStayOpen, OpenKeepFiltersOf, AfterEachApplied, ReportsAreFew, ConfigurationsLeaveFewOpen, not-true}
use Rattle.fio_input.proofs.FewReports.{sum-same, open_inputs-few, open_inputs-carried, open_filters-carried}
use Rattle.fio_input.proofs.Counted.{Counts, counted_in, all_counted, FewCount, no_scan_counts_any, counted_are_few, at_each_scan-map}

-- the open inputs count
abbrev pub open_count : Counts
open_count input setting = not setting.ignore

reports_counted : (input : ℕ) (events history : List FilterEvent) → reports_in input events history ≡ counted_in open_count input events history
reports_counted input [] history = refl
reports_counted input (Scan raw ∷ events) history =
    ap (λ n. n + bit_of (is_reported input raw (events ++ history))) (reports_counted input events history)
reports_counted input (Configure items ∷ events) history = reports_counted input events history

all_reports_counted : (events history : List FilterEvent) → all_reports_in events history ≡ all_counted open_count events history
all_reports_counted events history =
    sum-same 64 (λ input. reports_in input events history) (λ input. counted_in open_count input events history)
    (λ input. reports_counted input events history)

-- reports are few
pub reports_are_few : ReportsAreFew
reports_are_few opened least events history some stay =
    let same = all_reports_counted events history in
    let few = counted_are_few open_count opened least events history some
    (at_each_scan-map (HasFewOpen opened least) (FewCount open_count opened least)
    (λ before h. record { few = h.few; filters = λ input low counts. h.filters input low (not-true (input_setting input before).ignore counts) })
    events history stay) in
    omega arith

-- without a scan nothing is reported
no_reports_any : (events history : List FilterEvent) → scans_in events ≡ 0 → all_reports_in events history ≡ 0
no_reports_any events history none = all_reports_counted events history ∙ no_scan_counts_any open_count events history none

-- the reports, times the least filter, are bounded
pub reports_times_filter : (opened least : ℕ) (events history : List FilterEvent) → 1 ≤ least → FewStayOpen opened least events history
    → all_reports_in events history * least + opened * 1 ≤ opened * (scans_in events + least)
reports_times_filter opened least events history some stay =
    elim (cases_lt 0 (scans_in events)) as (λ _. all_reports_in events history * least + opened * 1 ≤ opened * (scans_in events + least)) [
      | inl once ↦
          let times = (scans_in events - 1) / least in
          let few = reports_are_few opened least events history some stay in
          let products : all_reports_in events history * least ≤ opened * (1 + times) * least = mul-le-mul_right least few in
          let turned : opened * (1 + times) * least ≡ opened * (least + times * least) = grind arith in
          let low = div-mul-le_self (scans_in events - 1) least in
          let within : opened * (least + times * least) ≤ opened * (least + (scans_in events - 1)) = mul-le-mul_left opened (omega arith) in
          let spread : opened * (scans_in events + least) ≡ opened * (least + (scans_in events - 1)) + opened =
          one_more opened least (scans_in events) (omega arith) in
          omega arith
      | inr never ↦
          let none : all_reports_in events history * least ≡ 0 * least =
          ap (λ n. n * least) (no_reports_any events history (omega arith)) in
          let least_once : opened * 1 ≤ opened * (scans_in events + least) = mul-le-mul_left opened (omega arith) in
          omega arith
    ]
  where
    one_more : (opened least scans : ℕ) → 1 ≤ scans → opened * (scans + least) ≡ opened * (least + (scans - 1)) + opened
    one_more opened least zero once = absurd (omega arith)
    one_more opened least (suc scans) once = let same : suc scans - 1 ≡ scans = omega arith in rw same (grind arith)

-- few stay open if configurations leave few open
pub configurations_leave_few_open : ConfigurationsLeaveFewOpen
configurations_leave_few_open opened least events history begin each = (at_the_end events each).1
  where
    configured : (items : List InputItem) (events : List FilterEvent) (present : Bool) → all_present items ≡ present
        → (all_present items ≡ true → HasFewOpen opened least (Configure items ∷ (events ++ history)))
        → HasFewOpen opened least (events ++ history) → HasFewOpen opened least (Configure items ∷ (events ++ history))
    configured items events true is here before = here is
    configured items events false is here before =
        let as_many = open_inputs-carried (Configure items ∷ []) (events ++ history) (is, tt) in
        let few = before.few in
        record {
          few = omega arith;
          filters = open_filters-carried (Configure items ∷ []) (events ++ history) least (is, tt) before.filters;
        }

    at_the_end : (events : List FilterEvent) → AfterEachApplied (HasFewOpen opened least) events history
        → HasFewOpen opened least (events ++ history) × FewStayOpen opened least events history
    at_the_end [] each = (begin, tt)
    at_the_end (Scan raw ∷ events) each =
        let before = at_the_end events each in
        (record { few = before.0.few; filters = before.0.filters }, before)
    at_the_end (Configure items ∷ events) each =
        let before = at_the_end events each.1 in
        (configured items events (all_present items) refl each.0 before.0, before.1)

-- if none is applied, the number of open inputs stays
none_applied : (P : List FilterEvent → Type 0) (events history : List FilterEvent) → NoneIsApplied events → AfterEachApplied P events history
none_applied P [] history none = tt
none_applied P (Scan raw ∷ events) history none = none_applied P events history none.1
none_applied P (Configure items ∷ events) history none =
    (λ applied. absurd (cc (none.0, applied)), none_applied P events history none.1)

pub as_many_stay_open : (least : ℕ) (events history : List FilterEvent) → NoneIsApplied events → OpenHaveFiltersOf history least
    → FewStayOpen (open_inputs history) least events history
as_many_stay_open least events history none filters =
    configurations_leave_few_open (open_inputs history) least events history (record { few = omega arith; filters = filters })
    (none_applied (HasFewOpen (open_inputs history) least) events history none)

-- no more inputs are ever open than there are
pub all_may_open : (least : ℕ) (events history : List FilterEvent) → OpenKeepFiltersOf least events history
    → FewStayOpen 64 least events history
all_may_open least =
    at_each_scan-map (λ before. OpenHaveFiltersOf before least) (HasFewOpen 64 least)
    (λ before filters. record { few = open_inputs-few before; filters = filters })

-- if none is applied, their filters stay as they were
pub filters_stay : (least : ℕ) (events history : List FilterEvent) → NoneIsApplied events → OpenHaveFiltersOf history least
    → OpenKeepFiltersOf least events history
filters_stay least events history none filters =
    at_each_scan-map (HasFewOpen (open_inputs history) least) (λ before. OpenHaveFiltersOf before least)
    (λ before few. few.filters) events history (as_many_stay_open least events history none filters)
