-- What the octets of commands and answers are read as.
use Rattle.std.proofs.lemmas.Bool.Decides.{nat_tests}
use Rattle.fio_link.proofs.Names.{◌≡◌, ℕ, ◌^◌, ◌<◌, ◌≤◌, Bool, true, false, List, ◌∷◌, length, Some, None, refl, arith, if◌then◌else◌, AllByRecursion, Command, Answer, IsEntry, command_octets, answer_octets, Block, polled_number, poll_in, answered_block, block_in, Sending, answer_of_sending}
use Rattle.fio_message.specs.declared.commands.Command.TheVariants as commands
use Rattle.fio_message.specs.declared.commands.OtherCommand.TheVariants as other_commands
use Rattle.fio_message.specs.declared.answers.Answer.TheVariants as answers
use Rattle.fio_message.specs.declared.answers.OtherAnswer.TheVariants as other_answers
use Rattle.fio_message.specs.Commands.{command_code, command_fields}
use Rattle.fio_message.specs.Answers.{answer_code, answer_fields}
use Rattle.fio_message.specs.Status.{block_status}
use Rattle.fio_message.specs.Reading.{command_at, answer_at}
use Rattle.fio_message.specs.Decoding.{message_in}
use Rattle.fio_message.proofs.MessageLaws.{block_back}
use Rattle.fio_link.specs.Link.{sending_refusal}

-- a command that is no poll, whole or not
polled-if : (whole : Bool) (command : Command) → polled_number (Some command) ≡ None
    → polled_number (if whole then Some command else None) ≡ None
polled-if true command other = other
polled-if false command other = refl

-- octets whose command, read by their first, is no poll
no_poll_at : (code : ℕ) (fields : List ℕ) → polled_number (Some (command_at code fields)) ≡ None
    → poll_in (code ∷ fields) ≡ None
unfolding message_in
no_poll_at code fields other = grind (arith, nat_tests, polled-if)

-- a command that may be handed in is not read as a poll
pub no_poll_in : (command : Command) → sending_refusal command ≡ None
    → poll_in (command_octets command) ≡ None
no_poll_in (commands.Poll number) fine = absurd (cc fine)
no_poll_in (commands.Other other_commands.TrackInputs body) fine = no_poll_at 56 body.items refl
no_poll_in command fine = no_poll_at (command_code command) (command_fields command) refl

-- an answer that is no block answer, whole or not
answered-if : (whole : Bool) (answer : Answer) → answered_block (Some answer) ≡ None
    → answered_block (if whole then Some answer else None) ≡ None
answered-if true answer other = other
answered-if false answer other = refl

-- octets whose answer, read by their first, is no block answer
no_block_at : (code : ℕ) (fields : List ℕ) → answered_block (Some (answer_at code fields)) ≡ None
    → block_in (code ∷ fields) ≡ None
unfolding message_in
no_block_at code fields other = grind (arith, nat_tests, answered-if)

-- an answer that is no block answer is not read as one
pub no_block_in : (answer : Answer) → answered_block (Some answer) ≡ None
    → block_in (answer_octets answer) ≡ None
no_block_in (answers.Block number entries status stamp) other = absurd (cc other)
no_block_in (answers.Other other_answers.SetOutputs body) other = no_block_at 183 body.items refl
no_block_in answer other = no_block_at (answer_code answer) (answer_fields answer) refl

-- a status is an octet
status-fits : (more lost again out_of_sequence : Bool)
    → block_status more lost again out_of_sequence < 2 ^ 8
status-fits true true true true = omega arith
status-fits true true true false = omega arith
status-fits true true false true = omega arith
status-fits true true false false = omega arith
status-fits true false true true = omega arith
status-fits true false true false = omega arith
status-fits true false false true = omega arith
status-fits true false false false = omega arith
status-fits false true true true = omega arith
status-fits false true true false = omega arith
status-fits false true false true = omega arith
status-fits false true false false = omega arith
status-fits false false true true = omega arith
status-fits false false true false = omega arith
status-fits false false false true = omega arith
status-fits false false false false = omega arith

-- the block that a sending says
abbrev pub said : Sending → Block
said sending =
    record {
      number = sending.number;
      entries = sending.entries;
      status = block_status sending.more sending.lost sending.again sending.out_of_sequence;
      stamp = sending.stamp;
    }

-- a sending whose parts are in the ranges of an answer is read back
pub sending_back : (sending : Sending) → sending.number < 2 ^ 8 → length sending.entries ≤ 255
    → AllByRecursion IsEntry sending.entries → sending.stamp < 2 ^ 32
    → block_in (answer_octets (answer_of_sending sending)) ≡ Some (said sending)
sending_back sending number count entries stamp =
    block_back (said sending) (answer_octets (answer_of_sending sending)) (record {
      within = (
        number,
        count,
        entries,
        status-fits sending.more sending.lost sending.again sending.out_of_sequence,
        stamp,
      );
      spelled = refl;
    })
