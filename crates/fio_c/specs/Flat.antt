-- Messages and their parts as C sees them: structs of numbers, 0 for those that a message lacks.
use Rattle.std.specs.Prelude.{ℕ, ◌==◌, ◌&&◌, nat_le, nat_lt, Bool, not, List, [], ◌∷◌, length, map, Option, Some, None, replicate}
use Rattle.std.specs.List.{list_all, position}
use Rattle.fio_message.specs.Bits.{bit_of}
use Rattle.fio_message.specs.Blocks.{Block as BlockOf}
use Rattle.fio_message.specs.Commands.{command_code}
use Rattle.fio_message.specs.Answers.{answer_code}
use Rattle.fio_message.specs.declared.fields.TheConstants.{INPUT_NUMBERS}
use Rattle.fio_message.specs.declared.limits.TheConstants.{BLOCK_ENTRIES, CONFIGURATION_ITEMS, INPUTS}
use Rattle.fio_message.specs.declared.fields.Entry.{Entry}
use Rattle.fio_message.specs.declared.fields.InputItem.{InputItem}
use Rattle.fio_message.specs.declared.commands.Command.{Command}
use Rattle.fio_message.specs.declared.commands.Command.TheVariants as commands
use Rattle.fio_message.specs.declared.answers.Answer.{Answer}
use Rattle.fio_message.specs.declared.answers.Answer.TheVariants as answers
use Rattle.fio_c.specs.declared.blocks.BlockHeader.{BlockHeader}
use Rattle.fio_c.specs.declared.blocks.FlatEntry.{FlatEntry}
use Rattle.fio_c.specs.declared.commands.ConfigurationItem.{ConfigurationItem}
use Rattle.fio_c.specs.declared.commands.FlatCommand.{FlatCommand}
use Rattle.fio_c.specs.declared.answers.FlatAnswer.{FlatAnswer}
use Rattle.fio_c.specs.declared.filters.Configured.{Configured}

-- a block without its entries, but with their number
abbrev pub flat_header : BlockOf → BlockHeader
flat_header block = record {
  number = block.number;
  status = block.status;
  count = length block.entries;
  reserved = 0;
  stamp = block.stamp;
}

-- an entry as C sees it; its state is 0 or 1
abbrev pub flat_entry : Entry → FlatEntry
flat_entry entry = record {
  input = entry.input;
  state = bit_of entry.level;
  stamp = entry.stamp;
}

-- an item of a configuration as C sees it; its flag is 0 or 1
abbrev pub flat_item : InputItem → ConfigurationItem
flat_item item = record {
  input = item.input;
  ignore = bit_of item.ignore;
  leading = item.leading;
  trailing = item.trailing;
}

-- eight octets of 0
abbrev pub no_octets : List ℕ
no_octets = 0 ∷ 0 ∷ 0 ∷ 0 ∷ 0 ∷ 0 ∷ 0 ∷ 0 ∷ []

-- a command of this type with all other fields 0
abbrev pub command_of_type : ℕ → FlatCommand
command_of_type code = record {
  code = code;
  clear = 0;
  block = 0;
  timeout = 0;
  count = 0;
  reserved = 0;
  body = 0;
  load = 0;
  levels = no_octets;
  controls = no_octets;
}

-- the fields of a command, put into the flat form of its type
abbrev pub with_command_fields : FlatCommand → Command → FlatCommand
with_command_fields flat (commands.Status clear) = record flat { clear = clear }
with_command_fields flat (commands.LoadCounter load) = record flat { load = load }
with_command_fields flat (commands.ConfigureInputs items) = record flat { count = length items.items }
with_command_fields flat commands.RawInputs = flat
with_command_fields flat commands.FilteredInputs = flat
with_command_fields flat (commands.Poll block) = record flat { block = block }
with_command_fields flat (commands.SetOutputs levels controls) =
    record flat { levels = levels; controls = controls }
with_command_fields flat (commands.Watchdog timeout) = record flat { timeout = timeout }
with_command_fields flat commands.Identify = flat
with_command_fields flat (commands.Other kind body) = record flat { body = length body.items }

-- a command as C sees it
abbrev pub flat_command : Command → FlatCommand
flat_command command = with_command_fields (command_of_type (command_code command)) command

-- the items of a command that is a configuration
abbrev pub configured_items : Option Command → Option (List InputItem)
configured_items (Some (commands.ConfigureInputs items)) = Some items.items
configured_items other = None

-- an item of a configuration from C: any ignore flag other than 0 says that the input is ignored
abbrev pub read_item : ConfigurationItem → InputItem
read_item item = record {
  input = item.input;
  ignore = not (item.ignore == 0);
  leading = item.leading;
  trailing = item.trailing;
}

-- the items from C's items
abbrev pub read_items : List ConfigurationItem → List InputItem
read_items items = map read_item items

-- a message can name an input below 128
abbrev pub can_be_named : ℕ → Bool
can_be_named input = nat_lt input INPUT_NUMBERS

-- the items of a configuration: at most 255, each of them of an input below 128
abbrev pub are_items : List ConfigurationItem → Bool
are_items items =
    nat_le (length items) CONFIGURATION_ITEMS && list_all (λ item. can_be_named item.input) items

-- the index of the first item that names an input above 63, which the module does not have
abbrev pub first_absent : List ConfigurationItem → Option ℕ
first_absent items = position (λ item. nat_le INPUTS item.input) items

-- the result of a configuration: its kind, and the index of an item
abbrev pub outcome : ℕ → ℕ → Configured
outcome kind place = record { kind = kind; reserved = replicate 7 0; place = place }

-- an answer of this type with all other fields 0
abbrev pub answer_of_type : ℕ → FlatAnswer
answer_of_type code = record {
  code = code;
  flags = 0;
  receive_errors = 0;
  transmit_errors = 0;
  status = 0;
  block = 0;
  count = 0;
  reserved = replicate 3 0;
  body = 0;
  stamp = 0;
  inputs = 0;
}

-- the fields of an answer, put into the flat form of its type
abbrev pub with_answer_fields : FlatAnswer → Answer → FlatAnswer
with_answer_fields flat (answers.Status flags receive_errors transmit_errors stamp) =
    record flat {
      flags = flags;
      receive_errors = receive_errors;
      transmit_errors = transmit_errors;
      stamp = stamp;
    }
with_answer_fields flat (answers.LoadCounter status) = record flat { status = status }
with_answer_fields flat (answers.ConfigureInputs status) = record flat { status = status }
with_answer_fields flat (answers.RawInputs inputs stamp) =
    record flat { inputs = inputs; stamp = stamp }
with_answer_fields flat (answers.FilteredInputs inputs stamp) =
    record flat { inputs = inputs; stamp = stamp }
with_answer_fields flat (answers.Block block entries status stamp) =
    record flat { block = block; count = length entries.items; status = status; stamp = stamp }
with_answer_fields flat (answers.Watchdog status) = record flat { status = status }
with_answer_fields flat (answers.Other kind body) = record flat { body = length body.items }

-- an answer as C sees it
abbrev pub flat_answer : Answer → FlatAnswer
flat_answer answer = with_answer_fields (answer_of_type (answer_code answer)) answer

-- an entry of a block from C: any state other than 0 is 1
abbrev pub read_entry : FlatEntry → Entry
read_entry entry = record {
  input = entry.input;
  level = not (entry.state == 0);
  stamp = entry.stamp;
}

-- the entries from C's entries
abbrev pub read_entries : List FlatEntry → List Entry
read_entries entries = map read_entry entries

-- the entries of a block: at most 255, each of them of an input below 128
abbrev pub are_entries : List FlatEntry → Bool
are_entries entries =
    nat_le (length entries) BLOCK_ENTRIES && list_all (λ entry. can_be_named entry.input) entries
