-- Decoding as functions on octets: the message that they spell, if any, and what a decoder returns. The laws tie both to
-- spelling and to refusals.
use Rattle.std.specs.Prelude.{ℕ, ◌+◌, ◌==◌, ◌&&◌, nat_le, nat_lt, Bool, false, List, [], ◌∷◌, length, Option, Some, None, Result, Ok, Err, if◌then◌else◌}
use Rattle.std.specs.Option.{ok_or}
use Rattle.fio_message.specs.declared.commands.Command.{Command}
use Rattle.fio_message.specs.declared.commands.Command.TheVariants.{Poll}
use Rattle.fio_message.specs.declared.answers.Answer.{Answer}
use Rattle.fio_message.specs.declared.answers.Answer.TheVariants as answers
use Rattle.fio_message.specs.declared.faults.DecodeError.{DecodeError}
use Rattle.fio_message.specs.declared.faults.DecodeError.TheVariants.{Empty, TooLong, UnknownType, WrongLength}
use Rattle.fio_message.specs.Commands.{command_length}
use Rattle.fio_message.specs.Answers.{answer_code, answer_length}
use Rattle.fio_message.specs.Blocks.{Block}
use Rattle.fio_message.specs.Reading.{command_at, answer_at}
use Rattle.fio_message.specs.declared.limits.TheConstants.{BODY_OCTETS, FRAME_OCTETS}

-- whether `count` octets are the number needed; None says that no message has their type
abbrev pub is_length : Option ℕ → ℕ → Bool
is_length None count = false
is_length (Some needed) count = needed == count

-- The message that octets spell: what is read from them, if they have the length needed and fit in a frame.
unfoldable pub message_in :
    {V : Type 0} → (List ℕ → Option ℕ) → (ℕ → List ℕ → V) → List ℕ → Option V
message_in length_of read [] = None
message_in length_of read (code ∷ fields) =
    if nat_le (length fields) BODY_OCTETS && is_length (length_of (code ∷ fields)) (1 + length fields)
    then Some (read code fields)
    else None

-- the command that octets spell, if they spell one
abbrev pub command_in : List ℕ → Option Command
command_in octets = message_in command_length command_at octets

-- the answer that octets spell, if they spell one
abbrev pub answer_in : List ℕ → Option Answer
answer_in octets = message_in answer_length answer_at octets

-- the fault of octets that fit in a frame and spell nothing: their type is unknown, or they do not have the length needed
abbrev pub mismatch : Option ℕ → ℕ → ℕ → DecodeError
mismatch None code got = UnknownType code
mismatch (Some needed) code got = WrongLength needed got

-- the block number that a command polls for, if it is a poll
abbrev pub polled_number : Option Command → Option ℕ
polled_number (Some (Poll number)) = Some number
polled_number other = None

-- the block number that octets poll for, if they spell a poll
abbrev pub poll_in : List ℕ → Option ℕ
poll_in octets = polled_number (command_in octets)

-- the block that an answer is, if it is a block answer
abbrev pub answered_block : Option Answer → Option Block
answered_block (Some (answers.Block number entries status stamp)) =
    Some (record { number = number; entries = entries.items; status = status; stamp = stamp })
answered_block other = None

-- the block that octets spell, if they spell a block answer
abbrev pub block_in : List ℕ → Option Block
block_in octets = answered_block (answer_in octets)

-- the first fault of octets that spell no message
abbrev pub fault_in : Option ℕ → List ℕ → DecodeError
fault_in needed [] = Empty
fault_in needed (code ∷ fields) =
    if nat_lt FRAME_OCTETS (1 + length fields)
    then TooLong (1 + length fields)
    else mismatch needed code (1 + length fields)

-- what a decoder of commands returns: the command that the octets spell, or the first fault
abbrev pub decoded_command : List ℕ → Result Command DecodeError
decoded_command octets = ok_or (command_in octets) (fault_in (command_length octets) octets)

-- what a decoder of answers returns: the answer that the octets spell, or the first fault
abbrev pub decoded_answer : List ℕ → Result Answer DecodeError
decoded_answer octets = ok_or (answer_in octets) (fault_in (answer_length octets) octets)

-- the type of an answer that was decoded
abbrev pub answer_type_of : Result Answer DecodeError → Result ℕ DecodeError
answer_type_of (Err fault) = Err fault
answer_type_of (Ok answer) = Ok (answer_code answer)
