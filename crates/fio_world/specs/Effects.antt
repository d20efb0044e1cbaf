-- What an event did, in terms of the frames that a world holds.
use Rattle.std.specs.Prelude.{ℕ, List, [], Result, Ok, Err}
use Rattle.std.specs.Option.{unwrap_or}
use Rattle.fio_world.specs.declared.outcome.Outcome.{Outcome}
use Rattle.fio_world.specs.declared.outcome.Outcome.TheVariants as outcomes
use Rattle.fio_world.specs.declared.outcome.WorldError.{WorldError}
use Rattle.fio_world.specs.declared.world.effect.Effect.{Effect}
use Rattle.fio_world.specs.declared.world.effect.Effect.TheVariants.{ToModule, ToCpu, Heard, Quiet}
use Rattle.fio_module.specs.Settings.{Settings}
use Rattle.fio_link.specs.declared.event.Event.{Event}
use Rattle.fio_link.specs.Link.{Machine, item_numbered}
use Rattle.fio_world.specs.Ends.{Ends}
use Rattle.fio_world.specs.Worlds.{ShowsMachine, Happens}

-- the octets of the frame with this number, or none if there is no such frame
abbrev pub octets_numbered : List (List ℕ) → ℕ → List ℕ
octets_numbered frames index = unwrap_or (item_numbered frames index) []

-- the outcome that an effect is, in a world that holds the frame
abbrev pub outcome_of_effect : Ends → Effect → Outcome
outcome_of_effect world (ToModule index) =
    outcomes.Sent index (record { items = octets_numbered world.to_module index })
outcome_of_effect world (ToCpu index) =
    outcomes.Sent index (record { items = octets_numbered world.to_cpu index })
outcome_of_effect world (Heard heard) = outcomes.Heard heard
outcome_of_effect world Quiet = outcomes.Quiet

-- the outcome or the fault that a result is, in such a world
abbrev pub result_in : Ends → Result Effect WorldError → Result Outcome WorldError
result_in world (Ok effect) = Ok (outcome_of_effect world effect)
result_in world (Err fault) = Err fault

-- An event happens to a world as it happens to each machine that the world shows.
abbrev pub HappensTo : Event → Ends → Result Effect WorldError → Ends → Type 0
HappensTo event world result new =
    (settings : Settings) (first : ℕ) (machine : Machine) → ShowsMachine settings first machine world
    → Happens settings first machine event (result_in new result) new
