-- What is read from octets, field by field, if they have the length that their message needs. Only the definitions of
-- decoding and of the block view rest on these; crates above use `command_in` and `answer_in`, or spelling. A missing octet
-- is read as 0, on which no claim rests.
use Rattle.std.specs.Prelude.{ℕ, zero, suc, ◌*◌, ◌/◌, ◌%◌, List, [], ◌∷◌, length, take, drop, slice_index_or, if◌then◌else◌, ◌==◌, nat_le}
use Rattle.std.specs.Int.{w16, w32, w64, from_be_bytes, from_le_bytes}
use Rattle.fio_message.specs.declared.fields.InputItem.{InputItem}
use Rattle.fio_message.specs.declared.fields.Entry.{Entry}
use Rattle.fio_message.specs.declared.fields.TheConstants.{INPUT_NUMBERS}
use Rattle.fio_message.specs.declared.commands.Command.{Command}
use Rattle.fio_message.specs.declared.commands.Command.TheVariants as commands
use Rattle.fio_message.specs.declared.commands.OtherCommand.TheVariants as other_commands
use Rattle.fio_message.specs.declared.answers.Answer.{Answer}
use Rattle.fio_message.specs.declared.answers.Answer.TheVariants as answers
use Rattle.fio_message.specs.declared.answers.OtherAnswer.TheVariants as other_answers
use Rattle.fio_message.specs.declared.types.TheConstants.{STATUS, LOAD_COUNTER, CONFIGURE_INPUTS, RAW_INPUTS, FILTERED_INPUTS, POLL, SET_OUTPUTS, TRACK_INPUTS, COMPLEX_OUTPUTS, WATCHDOG, CONTROLLER_ID, STATUS_ANSWER, LOAD_COUNTER_ANSWER, CONFIGURE_INPUTS_ANSWER, RAW_INPUTS_ANSWER, FILTERED_INPUTS_ANSWER, BLOCK_ANSWER, SET_OUTPUTS_ANSWER, TRACK_INPUTS_ANSWER, COMPLEX_OUTPUTS_ANSWER, WATCHDOG_ANSWER, CONTROLLER_ID_ANSWER}

-- the item in the first three octets: bit 7 is the ignore flag, bits 6 to 0 the input number
abbrev pub item_at : List ℕ → InputItem
item_at octets = record {
  input = slice_index_or octets 0 0 % INPUT_NUMBERS;
  ignore = nat_le INPUT_NUMBERS (slice_index_or octets 0 0);
  leading = slice_index_or octets 1 0;
  trailing = slice_index_or octets 2 0;
}

-- the entry in the first three octets: bit 7 is the state, bits 6 to 0 the input number
abbrev pub entry_at : List ℕ → Entry
entry_at octets = record {
  input = slice_index_or octets 0 0 % INPUT_NUMBERS;
  level = nat_le INPUT_NUMBERS (slice_index_or octets 0 0);
  stamp = from_be_bytes w16 (drop 1 octets);
}

-- `count` items, or entries, of three octets each, one after the other
abbrev pub parts_at : {X : Type 0} → (List ℕ → X) → ℕ → List ℕ → List X
parts_at part_at zero octets = []
parts_at part_at (suc n) octets = part_at octets ∷ parts_at part_at n (drop 3 octets)

-- the parts in octets that hold nothing but parts, three octets for each. So a view, and what is left of its parts, can be
-- described by the octets that they borrow.
abbrev pub parts_in : {X : Type 0} → (List ℕ → X) → List ℕ → List X
parts_in part_at octets = parts_at part_at (length octets / 3) octets

-- the items in octets that hold nothing but items
abbrev pub items_in : List ℕ → List InputItem
items_in = parts_in item_at

-- the command with this type and these fields, for the types 49 to 60
abbrev pub command_at : ℕ → List ℕ → Command
command_at code fields =
    if code == STATUS then commands.Status (slice_index_or fields 0 0)
    else (if code == LOAD_COUNTER then commands.LoadCounter (from_be_bytes w32 fields)
    else (if code == CONFIGURE_INPUTS
    then commands.ConfigureInputs (record {
      items = parts_at item_at (slice_index_or fields 0 0) (drop 1 fields);
    })
    else (if code == RAW_INPUTS then commands.RawInputs
    else (if code == FILTERED_INPUTS then commands.FilteredInputs
    else (if code == POLL then commands.Poll (slice_index_or fields 0 0)
    else (if code == SET_OUTPUTS then commands.SetOutputs (take 8 fields) (drop 8 fields)
    else (if code == TRACK_INPUTS then commands.Other other_commands.TrackInputs (record { items = fields })
    else (if code == COMPLEX_OUTPUTS
    then commands.Other other_commands.ComplexOutputs (record { items = fields })
    else (if code == WATCHDOG then commands.Watchdog (slice_index_or fields 0 0)
    else (if code == CONTROLLER_ID then commands.Other other_commands.ControllerId (record { items = fields })
    else commands.Identify))))))))))

-- the entries of a block answer with these fields: they follow the number and the count
abbrev pub block_entries : List ℕ → List Entry
block_entries fields = parts_at entry_at (slice_index_or fields 1 0) (drop 2 fields)

-- the fields after the entries: the status and the stamp
abbrev pub block_ending : List ℕ → List ℕ
block_ending fields = drop (3 * slice_index_or fields 1 0) (drop 2 fields)

-- the block answer with these fields
abbrev pub block_at : List ℕ → Answer
block_at fields =
    answers.Block (slice_index_or fields 0 0) (record { items = block_entries fields })
    (slice_index_or (block_ending fields) 0 0)
    (from_be_bytes w32 (drop 1 (block_ending fields)))

-- the answer with this type and these fields, for the types 177 to 188
abbrev pub answer_at : ℕ → List ℕ → Answer
answer_at code fields =
    if code == STATUS_ANSWER
    then answers.Status (slice_index_or fields 0 0) (slice_index_or fields 1 0)
    (slice_index_or fields 2 0) (from_be_bytes w32 (drop 3 fields))
    else (if code == LOAD_COUNTER_ANSWER then answers.LoadCounter (slice_index_or fields 0 0)
    else (if code == CONFIGURE_INPUTS_ANSWER then answers.ConfigureInputs (slice_index_or fields 0 0)
    else (if code == RAW_INPUTS_ANSWER
    then answers.RawInputs (from_le_bytes w64 (take 8 fields))
    (from_be_bytes w32 (drop 8 fields))
    else (if code == FILTERED_INPUTS_ANSWER
    then answers.FilteredInputs (from_le_bytes w64 (take 8 fields))
    (from_be_bytes w32 (drop 8 fields))
    else (if code == BLOCK_ANSWER then block_at fields
    else (if code == SET_OUTPUTS_ANSWER then answers.Other other_answers.SetOutputs (record { items = fields })
    else (if code == TRACK_INPUTS_ANSWER then answers.Other other_answers.TrackInputs (record { items = fields })
    else (if code == COMPLEX_OUTPUTS_ANSWER then answers.Other other_answers.ComplexOutputs (record { items = fields })
    else (if code == WATCHDOG_ANSWER then answers.Watchdog (slice_index_or fields 0 0)
    else (if code == CONTROLLER_ID_ANSWER then answers.Other other_answers.ControllerId (record { items = fields })
    else answers.Other other_answers.Identify (record { items = fields })))))))))))
