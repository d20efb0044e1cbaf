-- At which scan a transition was logged, and how many scans came after it.
use Rattle.fio_module.proofs.Names.{Occurrence, ◌∙◌, ◌≡◌, ℕ, ◌+◌, ◌-◌, ◌<◌, ◌≤◌, [], ◌∷◌, ◌++◌, length, Some, slice_get, refl, ap, arith, inl, inr, cases_lt, ConfigureInputs, scans_in, Life, Scanned, Commanded, scans_of, filter_events, Transition, transitions_below, log_of, slice_get_within, scans-append}
use Rattle.fio_module.proofs.Growth.{filter_events-append}
use Rattle.fio_module.proofs.ScanTransitions.{scans_now}
use Rattle.fio_module.proofs.ListParts.{get_in_front, get_in_back}

-- how many scans there are among two lists of events
pub scans_in-append : (later life : Life)
    → scans_in (filter_events (later ++ life)) ≡ scans_in (filter_events later) + scans_in (filter_events life)
scans_in-append later life =
    ap scans_in (filter_events-append later life) ∙ scans-append (filter_events later) (filter_events life)

-- The time at which the transition at an index of the log was logged.
pub record WasLogged (since rest : Life) (place : ℕ) (transition : Transition) : Type 0 where
  pub after : Life
  pub upto : Life
  pub split : since ≡ after ++ upto
  pub logged : place < length (log_of (upto ++ rest))
  pub age : scans_of (since ++ rest) ≡ transition.scans + scans_in (filter_events after)

-- this still holds after one more occurrence
logged_before : (occurrence : Occurrence) (since rest : Life) (place : ℕ) (transition : Transition)
    (w : WasLogged since rest place transition)
    → scans_of (occurrence ∷ (since ++ rest)) ≡ transition.scans + scans_in (filter_events (occurrence ∷ w.after))
    → WasLogged (occurrence ∷ since) rest place transition
logged_before occurrence since rest place transition w age = record {
  after = occurrence ∷ w.after;
  upto = w.upto;
  split = ap (λ l. occurrence ∷ l) w.split;
  logged = w.logged;
  age = age;
}

-- each transition that was logged since a life was logged at some time
pub was_logged : (since rest : Life) (place : ℕ) (transition : Transition) → length (log_of rest) ≤ place
    → slice_get (log_of (since ++ rest)) place ≡ Some transition → WasLogged since rest place transition
was_logged [] rest place transition high is = absurd (omega (arith, slice_get_within (log_of rest) place transition is))
was_logged (Scanned raw ∷ since) rest place transition high is =
    let here = since ++ rest in
    let within = slice_get_within (log_of (Scanned raw ∷ here)) place transition is in
    elim (cases_lt place (length (log_of here))) as (λ _. WasLogged (Scanned raw ∷ since) rest place transition) [
      | inl before ↦
          let w = was_logged since rest place transition high
          (get_in_front (log_of here) (transitions_below 64 raw here) place transition before is) in
          logged_before (Scanned raw) since rest place transition w (omega (arith, w.age))
      | inr now ↦
          let at = scans_now raw here (place - length (log_of here)) transition
          (get_in_back (log_of here) (transitions_below 64 raw here) place transition now is) in
          record { after = []; upto = Scanned raw ∷ since; split = refl; logged = within; age = omega (arith, at) }
    ]
was_logged (Commanded (ConfigureInputs items) ∷ since) rest place transition high is =
    let w = was_logged since rest place transition high is in
    logged_before (Commanded (ConfigureInputs items)) since rest place transition w w.age
was_logged (other ∷ since) rest place transition high is =
    let w = was_logged since rest place transition high is in
    logged_before other since rest place transition w w.age
