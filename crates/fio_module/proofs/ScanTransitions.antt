-- The transitions of one scan, and of a log.
use Rattle.fio_module.proofs.Names.{◌-◌, cases_lt, AllByRecursion, Occurrence, log_of, ◌≡◌, ℕ, zero, suc, ◌+◌, ◌<◌, ◌⊎◌, Bool, true, false, List, [], ◌∷◌, ◌++◌, length, Some, slice_get, refl, ap, sym, ◌∙◌, arith, inl, inr, if◌then◌else◌, is_reported, Life, Scanned, scans_of, filter_events, Transition, transition_at, transitions_below, slice_get_within}
use Rattle.fio_module.proofs.ListParts.{each-from_get, get_in_front, get_in_back}

-- what is in a list with one more element, or without, was there before or is that one
get_after_if : (xs : List Transition) (more : Bool) (x : Transition) (k : ℕ) (y : Transition)
    → slice_get (xs ++ (if more then x ∷ [] else [])) k ≡ Some y
    → (slice_get xs k ≡ Some y) ⊎ ((k ≡ length xs) × (y ≡ x) × (more ≡ true))
get_after_if [] true x zero y is = inr (refl, cc, refl)
get_after_if [] true x (suc k) y is = absurd (cc is)
get_after_if [] false x k y is = absurd (cc is)
get_after_if (z ∷ xs) more x zero y is = inl is
get_after_if (z ∷ xs) more x (suc k) y is =
    elim (get_after_if xs more x k y is) as
    (λ _. (slice_get xs k ≡ Some y) ⊎ ((suc k ≡ suc (length xs)) × (y ≡ x) × (more ≡ true))) [
      | inl old ↦ inl old
      | inr new ↦ inr (ap suc new.0, new.1, new.2)
    ]

-- a transition of a scan is one that the scan reports
pub record IsOfScan (count raw : ℕ) (life : Life) (transition : Transition) : Type 0 where
  pub is : transition ≡ transition_at (Scanned raw ∷ life) transition.input
  pub reported : is_reported transition.input raw (filter_events life) ≡ true
  pub low : transition.input < count

pub of_scan : (count raw : ℕ) (life : Life) (k : ℕ) (transition : Transition)
    → slice_get (transitions_below count raw life) k ≡ Some transition → IsOfScan count raw life transition
unfolding transitions_below
of_scan zero raw life k transition is = absurd (cc is)
of_scan (suc input) raw life k transition is =
    elim (get_after_if (transitions_below input raw life) (is_reported input raw (filter_events life))
    (transition_at (Scanned raw ∷ life) input) k transition is) as (λ _. IsOfScan (suc input) raw life transition) [
      | inl old ↦
          let o = of_scan input raw life k transition old in
          record { is = o.is; reported = o.reported; low = omega (arith, o.low) }
      | inr new ↦
          let same : transition.input ≡ input = ap (λ (t : Transition). t.input) new.1 in
          record {
            is = new.1 ∙ ap (transition_at (Scanned raw ∷ life)) (sym same);
            reported = ap (λ i. is_reported i raw (filter_events life)) same ∙ new.2;
            low = omega arith;
          }
    ]

-- the scans of a transition of a scan
pub scans_now : (raw : ℕ) (life : Life) (k : ℕ) (transition : Transition)
    → slice_get (transitions_below 64 raw life) k ≡ Some transition → transition.scans ≡ scans_of life + 1
scans_now raw life k transition is = ap (λ (t : Transition). t.scans) (of_scan 64 raw life k transition is).is

-- they are in the order of their inputs
pub ascending : (count raw : ℕ) (life : Life) (k n : ℕ) (older newer : Transition) → k < n
    → slice_get (transitions_below count raw life) k ≡ Some older
    → slice_get (transitions_below count raw life) n ≡ Some newer → older.input < newer.input
unfolding transitions_below
ascending zero raw life k n older newer less is after = absurd (cc is)
ascending (suc input) raw life k n older newer less is after =
    let below = transitions_below input raw life in
    let reported = is_reported input raw (filter_events life) in
    let added = transition_at (Scanned raw ∷ life) input in
    elim (get_after_if below reported added n newer after) as (λ _. older.input < newer.input) [
      | inl old ↦ elim (get_after_if below reported added k older is) as (λ _. older.input < newer.input) [
        | inl first ↦ ascending input raw life k n older newer less first old
        | inr last ↦ absurd (omega (arith, last.0, slice_get_within below n newer old))
      ]
      | inr new ↦ elim (get_after_if below reported added k older is) as (λ _. older.input < newer.input) [
        | inl first ↦
            let same : newer.input ≡ input = ap (λ (t : Transition). t.input) new.1 in
            omega (arith, (of_scan input raw life k older first).low)
        | inr last ↦ absurd (omega (arith, last.0, new.0))
      ]
    ]

-- what holds of each transition at its scan, and still after each later occurrence, holds of each transition of a log
module _ (P : Life → Transition → Type 0)
    (now : (raw : ℕ) (life : Life) (transition : Transition) → IsOfScan 64 raw life transition → P (Scanned raw ∷ life) transition)
    (still : (occurrence : Occurrence) (life : Life) (transition : Transition) → P life transition → P (occurrence ∷ life) transition) where
  pub logged : (life : Life) (place : ℕ) (transition : Transition) → slice_get (log_of life) place ≡ Some transition → P life transition
  logged [] place transition is = absurd (cc is)
  logged (Scanned raw ∷ life) place transition is =
      let log = log_of life in
      let scanned = transitions_below 64 raw life in
      elim (cases_lt place (length log)) as (λ _. P (Scanned raw ∷ life) transition) [
        | inl before ↦
            still (Scanned raw) life transition (logged life place transition (get_in_front log scanned place transition before is))
        | inr after ↦
            now raw life transition (of_scan 64 raw life (place - length log) transition (get_in_back log scanned place transition after is))
      ]
  logged (other ∷ life) place transition is = still other life transition (logged life place transition is)

  pub each_logged : (life : Life) → AllByRecursion (P life) (log_of life)
  each_logged life = each-from_get (P life) (log_of life) (logged life)
