-- The scans that there were when the module received the command sent last.
use Rattle.fio_ends.proofs.Names.{◌≡◌, ◌∙◌, ◌+◌, ◌==◌, ℕ, true, ◌∷◌, Some, ap, sym, subst, arith, length, if◌then◌else◌, nat_tests, Command, command_in, Life, Occurrence, Scanned, LineSynced, Raised, Commanded, life_of, life_after_command, scans_of, Settings, Event, SentFrame, Machine, after, after_delivery_to_module, scans_asked}
use Rattle.fio_link.specs.declared.event.Event.TheVariants as events
use Rattle.fio_ends.proofs.ContentSteps.{IsPastBus, past_cases}
use Rattle.fio_ends.proofs.Following.{GoesOn, IsNoCommand, IsSince}
use Rattle.fio_ends.proofs.Stamps.{IsAsked, none_since, since-back, since-now}

module _ (settings : Settings) (first : ℕ) (asked : ℕ) (from : Life) (machine : Machine) where
  quiet : (occurrence : Occurrence) → IsNoCommand occurrence → IsAsked asked from machine
      → machine.last_to_module ≡ length machine.to_module → (command : Command) (life : Life) → IsSince command life (occurrence ∷ life_of machine.history)
      → GoesOn from life → asked ≡ scans_of life
  quiet occurrence none received all command life since goes_on =
      received all command life (since-back command life (life_of machine.history) occurrence none since) goes_on

  pub asked-happens : (event : Event) → IsPastBus event → IsAsked asked from machine → IsAsked (scans_asked machine asked event) from (after settings first machine event)
  asked-happens event past received = past_cases (λ event. IsAsked (scans_asked machine asked event) from (after settings first machine event))
      (λ raw. quiet (Scanned raw) tt received) (quiet LineSynced tt received) (λ mask. quiet (Raised mask) tt received) event past

  pub asked-receives : (place : ℕ) (frame : SentFrame) → (place + 1 ≡ length machine.to_module → (command : Command) × (command_in frame.octets ≡ Some command)) → IsAsked asked from machine
      → IsAsked (scans_asked machine asked (events.ToModule (place + 1))) from (after_delivery_to_module settings machine (place + 1) (Some frame))
  asked-receives place frame reads received all other life since goes_on =
      let read = reads all in
      let last : ((place + 1) == length machine.to_module) ≡ true = grind (arith, nat_tests) in
      let is : life_after_command (command_in frame.octets) (life_of machine.history) ≡ Commanded read.0 ∷ life_of machine.history =
      ap (λ c. life_after_command c (life_of machine.history)) read.1 in
      let same = since-now other read.0 life (life_of machine.history) (subst (IsSince other life) is since) in
      ap (λ b. if b then scans_of (life_of machine.history) else asked) last ∙ ap scans_of (sym same)

-- after the life itself no command came
pub asked-now : (asked : ℕ) (machine : Machine) → IsAsked asked (life_of machine.history) machine
asked-now asked machine all other life since goes_on = absurd (none_since other (life_of machine.history) life since goes_on)
