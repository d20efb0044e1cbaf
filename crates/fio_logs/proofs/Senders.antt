-- Each frame of a run has a type of its sender.
use Rattle.std.proofs.Common.{◌≡◌, ℕ, zero, suc, true, false, List, [], ◌∷◌, ◌++◌, Option, Some, None, slice_get, if◌then◌else◌, refl, sym, subst}
use Rattle.std.specs.Prelude.{◌==◌, ◌+◌}
use Rattle.std.specs.List.{AllByRecursion}
use Rattle.fio_message.specs.Answers.{answer_octets}
use Rattle.fio_message.specs.Blocks.{Block}
use Rattle.fio_message.specs.Commands.{command_octets}
use Rattle.fio_message.specs.Decoding.{block_in}
use Rattle.fio_message.specs.declared.answers.Answer.{Answer}
use Rattle.fio_message.specs.declared.answers.Answer.TheVariants as answers
use Rattle.fio_message.specs.declared.answers.OtherAnswer.TheVariants as other_answers
use Rattle.fio_message.specs.declared.commands.Command.{Command}
use Rattle.fio_message.specs.declared.commands.Command.TheVariants as commands
use Rattle.fio_message.specs.declared.commands.OtherCommand.TheVariants as other_commands
use Rattle.fio_module.specs.Replies.{reply_to}
use Rattle.fio_module.specs.Settings.{Settings}
use Rattle.fio_cpu.specs.Record.{items_of_block}
use Rattle.fio_link.specs.declared.event.Event.{Event}
use Rattle.fio_link.specs.declared.event.Event.TheVariants as happen
use Rattle.fio_link.specs.Link.{Leads, Machine, SentFrame, after, after_delivered_block, after_delivery_to_cpu, after_delivery_to_module, answer_frames, item_numbered, number_of}
use Rattle.fio_ends.specs.Transcripts.{CpuFrame, frame_heard, frames_at}
use Rattle.fio_logs.specs.ReportedLines.{is_from_cpu}

of_command : (command : Command) → is_from_cpu (command_octets command) ≡ true
of_command (commands.Other other_commands.TrackInputs body) = refl
of_command (commands.Other other_commands.ComplexOutputs body) = refl
of_command (commands.Other other_commands.ControllerId body) = refl
of_command command = refl

of_answer : (answer : Answer) → is_from_cpu (answer_octets answer) ≡ false
of_answer (answers.Other other_answers.SetOutputs body) = refl
of_answer (answers.Other other_answers.TrackInputs body) = refl
of_answer (answers.Other other_answers.ComplexOutputs body) = refl
of_answer (answers.Other other_answers.ControllerId body) = refl
of_answer (answers.Other other_answers.Identify body) = refl
of_answer answer = refl

-- frames to the CPU are answers
abbrev pub AreAnswers : List SentFrame → Type 0
AreAnswers frames = AllByRecursion (λ frame. is_from_cpu frame.octets ≡ false) frames

with_reply : (frames : List SentFrame) (answer : Option Answer) (round : ℕ) → AreAnswers frames → AreAnswers (frames ++ answer_frames answer round)
with_reply [] None round are = tt
with_reply [] (Some answer) round are = (of_answer answer, tt)
with_reply (frame ∷ frames) answer round are = (are.0, with_reply frames answer round are.1)

to_module : (settings : Settings) (machine : Machine) (index : ℕ) (sent : Option SentFrame) → AreAnswers machine.to_cpu
    → AreAnswers (after_delivery_to_module settings machine index sent).to_cpu
to_module settings machine index None are = are
to_module settings machine index (Some frame) are =
    with_reply machine.to_cpu (reply_to settings machine.history frame.octets) frame.round are

block_taken : (first : ℕ) (machine : Machine) (block : Option Block) → (after_delivered_block first machine block).to_cpu ≡ machine.to_cpu
block_taken first machine None = refl
block_taken first machine (Some block) = elim (block.number == number_of first machine.round) as (λ b. (if b
    then record machine { round = machine.round + 1; items = machine.items ++ items_of_block block }
    else machine).to_cpu ≡ machine.to_cpu) [ true ↦ refl | false ↦ refl ]

to_cpu : (first : ℕ) (machine : Machine) (index : ℕ) (sent : Option SentFrame) → (after_delivery_to_cpu first machine index sent).to_cpu ≡ machine.to_cpu
to_cpu first machine index None = refl
to_cpu first machine index (Some frame) = block_taken first (record machine { last_to_cpu = index }) (block_in frame.octets)

-- so they are after an event
pub answers_after : (settings : Settings) (first : ℕ) (machine : Machine) (event : Event) → AreAnswers machine.to_cpu
    → AreAnswers (after settings first machine event).to_cpu
answers_after settings first machine (happen.Scan raw) are = are
answers_after settings first machine happen.LineSync are = are
answers_after settings first machine (happen.Raise mask) are = are
answers_after settings first machine happen.Poll are = are
answers_after settings first machine (happen.Send command) are = are
answers_after settings first machine (happen.ToModule index) are = to_module settings machine index (item_numbered machine.to_module index) are
answers_after settings first machine (happen.ToCpu index) are =
    subst AreAnswers (sym (to_cpu first machine index (item_numbered machine.to_cpu index))) are
answers_after settings first machine happen.Restart are = are

pub answers_below : (settings : Settings) (first : ℕ) (events : List Event) (machine last : Machine) → AreAnswers machine.to_cpu
    → Leads settings first machine events last → AreAnswers last.to_cpu
answers_below settings first [] machine last are leads = subst (λ (m : Machine). AreAnswers m.to_cpu) (sym leads) are
answers_below settings first (event ∷ events) machine last are leads =
    answers_below settings first events (after settings first machine event) last (answers_after settings first machine event are) leads.1

-- a frame has a type of its sender
abbrev pub IsOfSender : CpuFrame → Type 0
IsOfSender frame = is_from_cpu frame.octets ≡ frame.from_cpu

of_heard : (frames : List SentFrame) (place : ℕ) → AreAnswers frames → AllByRecursion IsOfSender (frame_heard (slice_get frames place))
of_heard [] place are = tt
of_heard (frame ∷ frames) zero are = (are.0, tt)
of_heard (frame ∷ frames) (suc place) are = of_heard frames place are.1

of_numbered : (frames : List SentFrame) (index : ℕ) → AreAnswers frames → AllByRecursion IsOfSender (frame_heard (item_numbered frames index))
of_numbered frames zero are = tt
of_numbered frames (suc place) are = of_heard frames place are

pub of_senders : (first : ℕ) (machine : Machine) (event : Event) → AreAnswers machine.to_cpu → AllByRecursion IsOfSender (frames_at first machine event)
of_senders first machine (happen.Scan raw) are = tt
of_senders first machine happen.LineSync are = tt
of_senders first machine (happen.Raise mask) are = tt
of_senders first machine happen.Poll are = (refl, tt)
of_senders first machine (happen.Send command) are = (of_command command, tt)
of_senders first machine (happen.ToModule index) are = tt
of_senders first machine (happen.ToCpu index) are = of_numbered machine.to_cpu index are
of_senders first machine happen.Restart are = tt
