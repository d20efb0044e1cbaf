-- What is kept event by event.
use Rattle.fio_check.proofs.Names.{◌≡◌, ◌∙◌, ℕ, suc, List, [], ◌∷◌, Some, refl, sym, ap, length, fold, slice_get}

-- If what is defined by places is what a step makes of it, at each place, then all steps make what is defined of all
pub fold_is : {A S : Type 0} (step : S → A → S) (start : S) (at : ℕ → S) (events : List A) → at 0 ≡ start
    → ((place : ℕ) (event : A) → slice_get events place ≡ Some event → at (suc place) ≡ step (at place) event)
    → fold step start events ≡ at (length events)
fold_is step start at [] first next = sym first
fold_is step start at (event ∷ events) first next = fold_is step (step start event) (λ place. at (suc place)) events
    (next 0 event refl ∙ ap (λ s. step s event) first) (λ place other here. next (suc place) other here)
