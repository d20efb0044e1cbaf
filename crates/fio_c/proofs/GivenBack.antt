-- What the decoders and their calls give of a message is that message.
use Rattle.std.proofs.Common.{◌≡◌, ◌≤◌, Bool, true, false, not, ◌==◌, List, [], ◌∷◌, length, map, refl, sym, ap, ap₂, arith}
use Rattle.std.specs.List.{AllByRecursion, list_all}
use Rattle.std.specs.Option.{ok_or}
use Rattle.std.proofs.lemmas.List.{length-map}
use Rattle.fio_message.specs.Bits.{bit_of}
use Rattle.fio_message.specs.Octets.{IsEntry, IsItem, IsOctets}
use Rattle.fio_message.specs.Commands.{IsCommand, command_length, command_octets}
use Rattle.fio_message.specs.Answers.{IsAnswer, answer_length, answer_octets}
use Rattle.fio_message.specs.Decoding.{answer_in, command_in, fault_in}
use Rattle.fio_message.specs.declared.fields.Entry.{Entry}
use Rattle.fio_message.specs.declared.fields.InputItem.{InputItem}
use Rattle.fio_message.specs.declared.limits.TheConstants.{BLOCK_ENTRIES, CONFIGURATION_ITEMS}
use Rattle.fio_message.specs.declared.commands.Command.{Command}
use Rattle.fio_message.specs.declared.commands.Command.TheVariants as commands
use Rattle.fio_message.specs.declared.answers.Answer.{Answer}
use Rattle.fio_message.specs.declared.answers.Answer.TheVariants as answers
use Rattle.fio_message.proofs.MessageLaws.{answer_back, answer_spelled, command_back, command_spelled}
use Rattle.fio_c.proofs.Decoded.{found}
use Rattle.fio_c.specs.Flat.{are_entries, are_items, can_be_named, flat_answer, flat_command, flat_entry, flat_item, read_entries, read_items}
use Rattle.fio_c.specs.Given.{AnswersAreGivenBack, CommandsAreGivenBack, GivenAnswersAreRead, GivenCommandsAreRead, IsAnswerGiven, IsCommandGiven, answer_body, answer_entries, command_body, command_items}

-- a bit says again what it was made of
bit_back : (b : Bool) → not (bit_of b == 0) ≡ b
bit_back true = refl
bit_back false = refl

items_back : (items : List InputItem) → read_items (map flat_item items) ≡ items
items_back [] = refl
items_back (item ∷ items) =
    ap₂ (λ one rest. one ∷ rest) (ap (λ b. record item { ignore = b }) (bit_back item.ignore)) (items_back items)

items_named : (items : List InputItem) → AllByRecursion IsItem items
    → list_all (λ item. can_be_named item.input) (map flat_item items) ≡ true
items_named [] all = refl
items_named (item ∷ items) all = grind (arith, all.0.0, items_named items all.1)

are_named : (items : List InputItem) → length items ≤ CONFIGURATION_ITEMS → AllByRecursion IsItem items
    → are_items (map flat_item items) ≡ true
are_named items most all = grind (arith, length-map items flat_item, items_named items all)

entries_back : (entries : List Entry) → read_entries (map flat_entry entries) ≡ entries
entries_back [] = refl
entries_back (entry ∷ entries) =
    ap₂ (λ one rest. one ∷ rest) (ap (λ b. record entry { level = b }) (bit_back entry.level)) (entries_back entries)

entries_named : (entries : List Entry) → AllByRecursion IsEntry entries
    → list_all (λ entry. can_be_named entry.input) (map flat_entry entries) ≡ true
entries_named [] all = refl
entries_named (entry ∷ entries) all = grind (arith, all.0.0, entries_named entries all.1)

are_entries_named : (entries : List Entry) → length entries ≤ BLOCK_ENTRIES → AllByRecursion IsEntry entries
    → are_entries (map flat_entry entries) ≡ true
are_entries_named entries most all = grind (arith, length-map entries flat_entry, entries_named entries all)

-- a command within its ranges is given by its flat form, its items and its body
command_given : (command : Command) → IsCommand command
    → IsCommandGiven (flat_command command) (map flat_item (command_items command)) (command_body command) command
command_given (commands.ConfigureInputs items) within =
    record { flat = refl; items = items_back items.items; named = are_named items.items within.0 within.1; body = refl; short = omega arith }
command_given (commands.Other kind body) within =
    record { flat = refl; items = refl; named = refl; body = refl; short = within.0 }
command_given other within = record { flat = refl; items = refl; named = refl; body = refl; short = omega arith }

answer_given : (answer : Answer) → IsAnswer answer
    → IsAnswerGiven (flat_answer answer) (map flat_entry (answer_entries answer)) (answer_body answer) answer
answer_given (answers.Block block entries status stamp) within =
    record { flat = refl; entries = entries_back entries.items; named = are_entries_named entries.items within.1 within.2; body = refl; short = omega arith }
answer_given (answers.Other kind body) within =
    record { flat = refl; entries = refl; named = refl; body = refl; short = within.0 }
answer_given other within = record { flat = refl; entries = refl; named = refl; body = refl; short = omega arith }

pub commands_given_back : CommandsAreGivenBack IsOctets
commands_given_back octets command are is =
    let spells = command_spelled octets command are (found (command_in octets) _ command is) in
    (command_given command spells.within, spells.spelled)

pub answers_given_back : AnswersAreGivenBack IsOctets
answers_given_back octets answer are is =
    let spells = answer_spelled octets answer are (found (answer_in octets) _ answer is) in
    (answer_given answer spells.within, spells.spelled)

pub given_commands_read : GivenCommandsAreRead IsCommand
given_commands_read flat list octets command given within =
    let all = command_octets command in (
      ap (λ found. ok_or found (fault_in (command_length all) all)) (command_back command all (record { within = within; spelled = refl })),
      sym given.flat,
    )

pub given_answers_read : GivenAnswersAreRead IsAnswer
given_answers_read flat list octets answer given within =
    let all = answer_octets answer in (
      ap (λ found. ok_or found (fault_in (answer_length all) all)) (answer_back answer all (record { within = within; spelled = refl })),
      sym given.flat,
    )
