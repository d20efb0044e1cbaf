-- The order of the log: its scans and its counters.
use Rattle.fio_module.proofs.Names.{Occurrence, ◌≡◌, ℕ, ◌-◌, ◌%◌, ◌^◌, ◌≤◌, List, [], ◌∷◌, length, Option, Some, None, slice_get, ap, sym, ◌∙◌, arith, inl, inr, append-nil, cases_lt, LoadCounter, Life, Scanned, LineSynced, Commanded, counter_events, scans_of, loads_of, Transition, transitions_below, log_of}
use Rattle.fio_input.specs.Counter.{CounterEvent, asked_number, one_more_if_loaded, counter, ticks_in, loads_in}
use Rattle.fio_input.proofs.Ticks.{counter-append}
use Rattle.fio_module.specs.Alternation.{LogIsInOrder}
use Rattle.fio_module.proofs.ListParts.{get_in_front, get_in_back}
use Rattle.fio_module.proofs.ScanTransitions.{IsOfScan, scans_now, logged}

-- no transition has more scans than its life
pub scans_within : (life : Life) (place : ℕ) (transition : Transition)
    → slice_get (log_of life) place ≡ Some transition → transition.scans ≤ scans_of life
scans_within =
    logged (λ life transition. transition.scans ≤ scans_of life)
    (λ raw life transition of. let scans = ap (λ (t : Transition). t.scans) of.is in omega arith) still
  where
    still : (occurrence : Occurrence) (life : Life) (transition : Transition) → transition.scans ≤ scans_of life
        → transition.scans ≤ scans_of (occurrence ∷ life)
    still (Scanned raw) life transition within = omega arith
    still (Commanded (LoadCounter load)) life transition within = within
    still other life transition within = within

-- the scans never fall along the log
pub log_is_in_order : LogIsInOrder
log_is_in_order [] place next older newer le first second = absurd (cc first)
log_is_in_order (Scanned raw ∷ life) place next older newer le first second =
    let log = log_of life in
    let scanned = transitions_below 64 raw life in
    elim (cases_lt next (length log)) as (λ _. older.scans ≤ newer.scans) [
      | inl before ↦
          log_is_in_order life place next older newer le
          (get_in_front log scanned place older (omega arith) first)
          (get_in_front log scanned next newer before second)
      | inr now ↦
          let newest = scans_now raw life (next - length log) newer (get_in_back log scanned next newer now second) in
          let most = scans_within (Scanned raw ∷ life) place older first in
          omega arith
    ]
log_is_in_order (other ∷ life) place next older newer le first second =
    log_is_in_order life place next older newer le first second

-- ---- counters

-- the counter is the number of scans, if no number was loaded
counted : (events : List CounterEvent) → loads_in events ≡ 0 → counter events ≡ ticks_in events % 2 ^ 32
counted events none =
    let whole = append-nil events in
    let same = counter-append events [] (ap loads_in whole ∙ none) in
    sym (ap counter whole) ∙ same ∙ omega arith

-- none was loaded before
none_loaded : (asked : Option ℕ) (loads : ℕ) → one_more_if_loaded asked loads ≡ 0 → loads ≡ 0
none_loaded None loads none = none
none_loaded (Some number) loads none = absurd (omega arith)

-- in a life that loaded no counter, counters are scans
abbrev IsScans : Life → Transition → Type 0
IsScans life transition = loads_of life ≡ 0 → transition.counter ≡ transition.scans % 2 ^ 32

pub counters_are_scans : (life : Life) (place : ℕ) (transition : Transition) → loads_of life ≡ 0
    → slice_get (log_of life) place ≡ Some transition → transition.counter ≡ transition.scans % 2 ^ 32
counters_are_scans life place transition none is = logged IsScans now still life place transition is none
  where
    now : (raw : ℕ) (life : Life) (transition : Transition) → IsOfScan 64 raw life transition → IsScans (Scanned raw ∷ life) transition
    now raw life transition of none =
        ap (λ (t : Transition). t.counter) of.is
        ∙ counted (counter_events (Scanned raw ∷ life)) none
        ∙ ap (λ scans. scans % 2 ^ 32) (sym (ap (λ (t : Transition). t.scans) of.is))

    still : (occurrence : Occurrence) (life : Life) (transition : Transition) → IsScans life transition
        → IsScans (occurrence ∷ life) transition
    still LineSynced life transition before none =
        before (none_loaded (asked_number (counter_events life)) (loads_of life) none)
    still (Commanded (LoadCounter load)) life transition before none = before none
    still other life transition before none = before none
