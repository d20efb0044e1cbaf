-- The outcome of an event, and how a refusal is reported.
use Rattle.std.specs.Prelude.{ℕ, ◌+◌, List, length, Option, Some, None}
use Rattle.fio_message.specs.declared.commands.Command.TheVariants as commands
use Rattle.fio_message.specs.declared.answers.Answer.{Answer}
use Rattle.fio_message.specs.Commands.{command_octets}
use Rattle.fio_message.specs.Answers.{answer_octets}
use Rattle.fio_message.specs.Decoding.{decoded_answer}
use Rattle.fio_module.specs.Settings.{Settings}
use Rattle.fio_module.specs.Replies.{reply_to}
use Rattle.fio_cpu.specs.Hearing.{heard_as}
use Rattle.fio_link.specs.declared.event.Event.{Event}
use Rattle.fio_link.specs.declared.event.Event.TheVariants as events
use Rattle.fio_world.specs.declared.outcome.Outcome.{Outcome}
use Rattle.fio_world.specs.declared.outcome.Outcome.TheVariants as outcomes
use Rattle.fio_world.specs.declared.outcome.WorldError.{WorldError}
use Rattle.fio_world.specs.declared.outcome.WorldError.TheVariants as errors
use Rattle.fio_link.specs.Link.{Machine, SentFrame, Refusal, NotSent, OutOfOrder, PollIsOurs, number_of, item_numbered}

-- the outcome when a frame is sent after `count` others
abbrev pub sent_after : ℕ → List ℕ → Outcome
sent_after count octets = outcomes.Sent (count + 1) (record { items = octets })

-- the outcome when the module gives this reply, after `count` answers
abbrev pub replied_after : ℕ → Option Answer → Outcome
replied_after count None = outcomes.Quiet
replied_after count (Some answer) = sent_after count (answer_octets answer)

-- the outcome of the module's reply to this frame
abbrev pub received_outcome : Settings → Machine → Option SentFrame → Outcome
received_outcome settings machine None = outcomes.Quiet
received_outcome settings machine (Some frame) =
    replied_after (length machine.to_cpu) (reply_to settings machine.history frame.octets)

-- the outcome when a CPU with this number hears this frame
abbrev pub heard_outcome : ℕ → Option SentFrame → Outcome
heard_outcome number None = outcomes.Quiet
heard_outcome number (Some frame) = outcomes.Heard (heard_as number (decoded_answer frame.octets))

-- the outcome of an event that is not refused
abbrev pub outcome_of : Settings → ℕ → Machine → Event → Outcome
outcome_of settings first machine events.Poll =
    sent_after (length machine.to_module)
    (command_octets (commands.Poll (number_of first machine.round)))
outcome_of settings first machine (events.Send command) =
    sent_after (length machine.to_module) (command_octets command)
outcome_of settings first machine (events.ToModule index) =
    received_outcome settings machine (item_numbered machine.to_module index)
outcome_of settings first machine (events.ToCpu index) =
    heard_outcome (number_of first machine.round) (item_numbered machine.to_cpu index)
outcome_of settings first machine other = outcomes.Quiet

-- how a refusal of the machine is reported
abbrev pub error_of : Refusal → WorldError
error_of (NotSent index) = errors.NotSent index
error_of (OutOfOrder index last) = errors.OutOfOrder index last
error_of PollIsOurs = errors.PollIsOurs
