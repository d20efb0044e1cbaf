-- A run in which the maker of the module answers, by computation.
use Rattle.fio_link.proofs.Names.{List, [], ◌∷◌, refl, Settings, standard_settings, Machine, start}
use Rattle.fio_message.specs.declared.answers.OtherAnswer.TheVariants as answers
use Rattle.fio_message.specs.declared.commands.Command.TheVariants as commands
use Rattle.fio_message.specs.declared.commands.OtherCommand.TheVariants.{ComplexOutputs, ControllerId, TrackInputs}
use Rattle.fio_message.specs.Decoding.{message_in}
use Rattle.fio_module.specs.Log.{transitions_below}
use Rattle.fio_link.specs.declared.event.Event.TheVariants.{Poll, Send, ToCpu, ToModule}
use Rattle.fio_link.specs.Answered.{Answer, AnsweredEvent, Link, MakersMayAnswer, after_answered}

abbrev standard : Settings
standard = standard_settings 2

-- the machine after these events
unfoldable done : Machine → List AnsweredEvent → Machine
done machine [] = machine
done machine (event ∷ events) = done (after_answered standard 0 machine event) events

-- the three commands, each answered when it comes, and a poll below them
abbrev events : List AnsweredEvent
events =
    Link (Send (commands.Other TrackInputs (record { items = [] }))) ∷ Link (ToModule 1) ∷ Answer answers.TrackInputs (1 ∷ []) ∷ Link (ToCpu 1)
    ∷ Link (Send (commands.Other ComplexOutputs (record { items = 7 ∷ [] }))) ∷ Link (ToModule 2) ∷ Answer answers.ComplexOutputs [] ∷ Link (ToCpu 2)
    ∷ Link (Send (commands.Other ControllerId (record { items = [] }))) ∷ Link (ToModule 3) ∷ Answer answers.ControllerId (2 ∷ 3 ∷ []) ∷ Link (ToCpu 3)
    ∷ Link Poll ∷ Link (ToModule 4) ∷ Link (ToCpu 4) ∷ []

unfoldable ended : Machine
ended = done start events

pub makers_may_answer : MakersMayAnswer
unfolding MakersMayAnswer ended done message_in transitions_below
makers_may_answer = (
  events,
  ended,
  (refl, (refl, (refl, (refl, (refl, (refl, (refl, (refl, (refl, (refl, (refl, (refl, (refl, (refl, (refl, refl))))))))))))))),
  refl,
  refl,
  refl,
)
