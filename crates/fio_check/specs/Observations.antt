-- What a line of a transcript says to the rules.
use Rattle.std.specs.Prelude.{ℕ, ◌+◌, ◌==◌, Bool, false, List, length, Option, Some, None, slice_get, nat_le, not}
use Rattle.std.specs.List.{list_any}
use Rattle.std.specs.Option.{option_map_or}
use Rattle.fio_message.specs.Answers.{answer_code}
use Rattle.fio_message.specs.Commands.{command_code}
use Rattle.fio_message.specs.Status.{says_error}
use Rattle.fio_message.specs.declared.limits.TheConstants.{INPUTS}
use Rattle.fio_message.specs.declared.types.TheConstants.{ANSWER, LOAD_COUNTER_ANSWER}
use Rattle.fio_message.specs.declared.answers.Answer.{Answer}
use Rattle.fio_message.specs.declared.answers.Answer.TheVariants as answers
use Rattle.fio_message.specs.declared.commands.Command.{Command}
use Rattle.fio_message.specs.declared.commands.Command.TheVariants as commands
use Rattle.fio_check.specs.Lines.{TranscriptLine, command_from, answer_from}
use Rattle.fio_check.specs.declared.observation.Observation.{Observation}
use Rattle.fio_check.specs.declared.observation.Observation.TheVariants as seen

-- an input above 63, which no module of this profile has
abbrev pub is_absent : ℕ → Bool
is_absent input = nat_le INPUTS input

-- a configuration that names an input above 63
abbrev pub names_absent : Command → Bool
names_absent (commands.ConfigureInputs items) = list_any (λ item. is_absent item.input) items.items
names_absent _ = false

-- an answer that a configuration was taken: S, bit 0 of its status, is 0
abbrev pub accepts : Answer → Bool
accepts (answers.ConfigureInputs status) = not (says_error status)
accepts _ = false

-- the type of the answer to a command
abbrev pub answer_type_to : Command → ℕ
answer_type_to command = command_code command + ANSWER

-- ---- by the message

-- what a command says
abbrev pub observation_of_command : Command → Observation
observation_of_command (commands.Poll number) = seen.Poll number
observation_of_command command = seen.Command (answer_type_to command) (names_absent command)

-- what an answer says
abbrev pub observation_of_answer : Answer → Observation
observation_of_answer (answers.Block number entries status stamp) = seen.Block number status
    (length entries.items) (list_any (λ entry. is_absent entry.input) entries.items)
observation_of_answer answer = seen.Answer (answer_code answer) (accepts answer)

-- what a line says, by the command that it sends or the answer that it hears
abbrev pub observation_of : Option Command → Option Answer → Observation
observation_of (Some command) heard = observation_of_command command
observation_of None (Some answer) = observation_of_answer answer
observation_of None None = seen.Unreadable

-- a command is a load of the counter, by what it says
abbrev pub says_load : Observation → Bool
says_load (seen.Command answer names) = answer == LOAD_COUNTER_ANSWER
says_load observation = false

-- ---- by the octets

-- what a frame says, by whether the CPU sent it
abbrev pub observation_in : Bool → List ℕ → Observation
observation_in from_cpu octets =
    observation_of (command_from from_cpu octets) (answer_from from_cpu octets)

-- what a line says
abbrev pub observation_on : TranscriptLine → Observation
observation_on line = observation_in line.from_cpu line.octets

-- what the line at a place says, if there is one; the first line has place 0
abbrev pub observation_at : List TranscriptLine → ℕ → Observation
observation_at lines place = option_map_or observation_on (slice_get lines place) seen.Unreadable

-- whether the CPU sent the line at a place, if there is one
abbrev pub is_sent_at : List TranscriptLine → ℕ → Bool
is_sent_at lines place = option_map_or (λ line. line.from_cpu) (slice_get lines place) false
