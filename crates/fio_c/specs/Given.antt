-- What C gives to write a message: the struct that a decoder gives of it, with its list and its body.
use Rattle.std.specs.Prelude.{◌≡◌, ℕ, ◌==◌, ◌≤◌, true, List, [], length, map, Option, Some, None, Ok, if◌then◌else◌}
use Rattle.fio_message.specs.declared.limits.TheConstants.{BODY_OCTETS}
use Rattle.fio_message.specs.declared.types.TheConstants.{STATUS, LOAD_COUNTER, CONFIGURE_INPUTS, RAW_INPUTS, FILTERED_INPUTS, POLL, SET_OUTPUTS, TRACK_INPUTS, COMPLEX_OUTPUTS, WATCHDOG, CONTROLLER_ID, IDENTIFY, STATUS_ANSWER, LOAD_COUNTER_ANSWER, CONFIGURE_INPUTS_ANSWER, RAW_INPUTS_ANSWER, FILTERED_INPUTS_ANSWER, BLOCK_ANSWER, WATCHDOG_ANSWER}
use Rattle.fio_message.specs.Commands.{command_octets}
use Rattle.fio_message.specs.Answers.{answer_octets}
use Rattle.fio_message.specs.Decoding.{decoded_answer, decoded_command}
use Rattle.fio_message.specs.declared.fields.Entry.{Entry}
use Rattle.fio_message.specs.declared.fields.InputItem.{InputItem}
use Rattle.fio_message.specs.declared.commands.Command.{Command}
use Rattle.fio_message.specs.declared.commands.Command.TheVariants as commands
use Rattle.fio_message.specs.declared.answers.Answer.{Answer}
use Rattle.fio_message.specs.declared.answers.Answer.TheVariants as answers
use Rattle.fio_c.specs.declared.blocks.FlatEntry.{FlatEntry}
use Rattle.fio_c.specs.declared.commands.ConfigurationItem.{ConfigurationItem}
use Rattle.fio_c.specs.declared.commands.FlatCommand.{FlatCommand}
use Rattle.fio_c.specs.declared.answers.FlatAnswer.{FlatAnswer}
use Rattle.fio_c.specs.Flat.{answer_of_type, are_entries, are_items, command_of_type, flat_answer, flat_command, flat_entry, flat_item, read_entries, read_items}

-- the items of a command: those of a configuration, none of any other
abbrev pub command_items : Command → List InputItem
command_items (commands.ConfigureInputs items) = items.items
command_items other = []

-- the octets after the type of a command that has only a body, none of any other
abbrev pub command_body : Command → List ℕ
command_body (commands.Other kind body) = body.items
command_body other = []

-- The struct, the items and the body are those of this command: the struct is its flat form, each item is of an input below
-- 128, and the body has at most 772 octets.
pub record IsCommandGiven (given : FlatCommand) (list : List ConfigurationItem) (octets : List ℕ) (command : Command) : Type 0 where
  pub flat : given ≡ flat_command command
  pub items : read_items list ≡ command_items command
  pub named : are_items list ≡ true
  pub body : octets ≡ command_body command
  pub short : length octets ≤ BODY_OCTETS

-- a command with the fields of its type alone: the others are 0
abbrev pub command_by_type : FlatCommand → FlatCommand
command_by_type flat =
    if flat.code == STATUS then record (command_of_type flat.code) { clear = flat.clear }
    else (if flat.code == LOAD_COUNTER then record (command_of_type flat.code) { load = flat.load }
    else (if flat.code == CONFIGURE_INPUTS then record (command_of_type flat.code) { count = flat.count }
    else (if flat.code == POLL then record (command_of_type flat.code) { block = flat.block }
    else (if flat.code == SET_OUTPUTS then record (command_of_type flat.code) { levels = flat.levels; controls = flat.controls }
    else (if flat.code == WATCHDOG then record (command_of_type flat.code) { timeout = flat.timeout }
    else (if flat.code == TRACK_INPUTS then record (command_of_type flat.code) { body = flat.body }
    else (if flat.code == COMPLEX_OUTPUTS then record (command_of_type flat.code) { body = flat.body }
    else (if flat.code == CONTROLLER_ID then record (command_of_type flat.code) { body = flat.body }
    else command_of_type flat.code))))))))

-- the command without items and body that has the type and the fields of a struct, if there is one
abbrev pub fixed_command : FlatCommand → Option Command
fixed_command flat =
    if flat.code == STATUS then Some (commands.Status flat.clear)
    else (if flat.code == LOAD_COUNTER then Some (commands.LoadCounter flat.load)
    else (if flat.code == RAW_INPUTS then Some commands.RawInputs
    else (if flat.code == FILTERED_INPUTS then Some commands.FilteredInputs
    else (if flat.code == POLL then Some (commands.Poll flat.block)
    else (if flat.code == SET_OUTPUTS then Some (commands.SetOutputs flat.levels flat.controls)
    else (if flat.code == WATCHDOG then Some (commands.Watchdog flat.timeout)
    else (if flat.code == IDENTIFY then Some commands.Identify else None)))))))

-- the entries of an answer: those of a block, none of any other
abbrev pub answer_entries : Answer → List Entry
answer_entries (answers.Block block entries status stamp) = entries.items
answer_entries other = []

-- the octets after the type of an answer that has only a body, none of any other
abbrev pub answer_body : Answer → List ℕ
answer_body (answers.Other kind body) = body.items
answer_body other = []

-- The struct, the entries and the body are those of this answer: the struct is its flat form, each entry is of an input below
-- 128, and the body has at most 772 octets.
pub record IsAnswerGiven (given : FlatAnswer) (list : List FlatEntry) (octets : List ℕ) (answer : Answer) : Type 0 where
  pub flat : given ≡ flat_answer answer
  pub entries : read_entries list ≡ answer_entries answer
  pub named : are_entries list ≡ true
  pub body : octets ≡ answer_body answer
  pub short : length octets ≤ BODY_OCTETS

-- an answer with the fields of its type alone: the others are 0
abbrev pub answer_by_type : FlatAnswer → FlatAnswer
answer_by_type flat =
    if flat.code == STATUS_ANSWER then
    record (answer_of_type flat.code) {
      flags = flat.flags;
      receive_errors = flat.receive_errors;
      transmit_errors = flat.transmit_errors;
      stamp = flat.stamp;
    }
    else (if flat.code == LOAD_COUNTER_ANSWER then record (answer_of_type flat.code) { status = flat.status }
    else (if flat.code == CONFIGURE_INPUTS_ANSWER then record (answer_of_type flat.code) { status = flat.status }
    else (if flat.code == RAW_INPUTS_ANSWER then record (answer_of_type flat.code) { inputs = flat.inputs; stamp = flat.stamp }
    else (if flat.code == FILTERED_INPUTS_ANSWER then record (answer_of_type flat.code) { inputs = flat.inputs; stamp = flat.stamp }
    else (if flat.code == BLOCK_ANSWER then
    record (answer_of_type flat.code) { block = flat.block; count = flat.count; status = flat.status; stamp = flat.stamp }
    else (if flat.code == WATCHDOG_ANSWER then record (answer_of_type flat.code) { status = flat.status }
    else record (answer_of_type flat.code) { body = flat.body }))))))

-- the answer without entries and body that has the type and the fields of a struct, if there is one
abbrev pub fixed_answer : FlatAnswer → Option Answer
fixed_answer flat =
    if flat.code == STATUS_ANSWER then
    Some (answers.Status flat.flags flat.receive_errors flat.transmit_errors flat.stamp)
    else (if flat.code == LOAD_COUNTER_ANSWER then Some (answers.LoadCounter flat.status)
    else (if flat.code == CONFIGURE_INPUTS_ANSWER then Some (answers.ConfigureInputs flat.status)
    else (if flat.code == RAW_INPUTS_ANSWER then Some (answers.RawInputs flat.inputs flat.stamp)
    else (if flat.code == FILTERED_INPUTS_ANSWER then Some (answers.FilteredInputs flat.inputs flat.stamp)
    else (if flat.code == WATCHDOG_ANSWER then Some (answers.Watchdog flat.status) else None)))))

-- Encoding gives octets back: what the decoder and its calls give of octets that are a command is that command, and they are
-- its octets. The octets are as `Are` says.
abbrev pub CommandsAreGivenBack : (List ℕ → Type 0) → Type 0
CommandsAreGivenBack Are = (octets : List ℕ) (command : Command) → Are octets → decoded_command octets ≡ Ok command
    → IsCommandGiven (flat_command command) (map flat_item (command_items command)) (command_body command) command
    × (octets ≡ command_octets command)

-- Decoding gives a struct back: it is the flat form of the command that is decoded of the octets of what was given. The command
-- is as `Is` says.
abbrev pub GivenCommandsAreRead : (Command → Type 0) → Type 0
GivenCommandsAreRead Is =
    (flat : FlatCommand) (list : List ConfigurationItem) (octets : List ℕ) (command : Command)
    → IsCommandGiven flat list octets command → Is command
    → (decoded_command (command_octets command) ≡ Ok command) × (flat_command command ≡ flat)

-- encoding gives octets of answers back, as of commands
abbrev pub AnswersAreGivenBack : (List ℕ → Type 0) → Type 0
AnswersAreGivenBack Are = (octets : List ℕ) (answer : Answer) → Are octets → decoded_answer octets ≡ Ok answer
    → IsAnswerGiven (flat_answer answer) (map flat_entry (answer_entries answer)) (answer_body answer) answer
    × (octets ≡ answer_octets answer)

-- decoding gives a struct of an answer back, as of a command
abbrev pub GivenAnswersAreRead : (Answer → Type 0) → Type 0
GivenAnswersAreRead Is =
    (flat : FlatAnswer) (list : List FlatEntry) (octets : List ℕ) (answer : Answer)
    → IsAnswerGiven flat list octets answer → Is answer
    → (decoded_answer (answer_octets answer) ≡ Ok answer) × (flat_answer answer ≡ flat)
