-- The log is in order of scans, and in a scan of inputs.
use Rattle.fio_ends.proofs.Names.{◌≡◌, ◌-◌, ◌<◌, ◌⊎◌, inl, inr, ℕ, [], ◌∷◌, length, Option, Some, None, arith, slice_get, Life, Scanned, Transition, log_of, get_in_front, cases_lt, get_in_back, scans_now, scans_within, transitions_below, ascending}

-- a transition is later than so many scans, or of the last of them and of a higher input than this one, if there is one
abbrev pub IsAhead : Option ℕ → ℕ → Transition → Type 0
IsAhead None scans transition = scans < transition.scans
IsAhead (Some input) scans transition = (scans < transition.scans) ⊎ ((scans ≡ transition.scans) × (input < transition.input))

pub ahead_later : (input : Option ℕ) (scans : ℕ) (transition : Transition) → scans < transition.scans → IsAhead input scans transition
ahead_later None scans transition less = less
ahead_later (Some input) scans transition less = inl less

-- a later transition of a log is ahead of an earlier one
pub log_ahead : (life : Life) (place next : ℕ) (older newer : Transition) → place < next
    → slice_get (log_of life) place ≡ Some older → slice_get (log_of life) next ≡ Some newer → IsAhead (Some older.input) older.scans newer
log_ahead [] place next older newer less first second = absurd (cc first)
log_ahead (Scanned raw ∷ life) place next older newer less first second =
    let log = log_of life in
    let scanned = transitions_below 64 raw life in
    elim (cases_lt next (length log)) as (λ _. IsAhead (Some older.input) older.scans newer) [
      | inl before ↦
          log_ahead life place next older newer less
          (get_in_front log scanned place older (omega arith) first)
          (get_in_front log scanned next newer before second)
      | inr now ↦
          let there = get_in_back log scanned next newer now second in
          let newest = scans_now raw life (next - length log) newer there in
          elim (cases_lt place (length log)) as (λ _. IsAhead (Some older.input) older.scans newer) [
            | inl old ↦
                let within = scans_within life place older (get_in_front log scanned place older old first) in
                inl (omega arith)
            | inr both ↦
                let here = get_in_back log scanned place older both first in
                let same = scans_now raw life (place - length log) older here in
                let order = ascending 64 raw life (place - length log) (next - length log) older newer (omega arith) here there in
                inr (omega arith, order)
          ]
    ]
log_ahead (other ∷ life) place next older newer less first second = log_ahead life place next older newer less first second
