-- The lines of a frame: those of the message that its octets encode.
use Rattle.std.specs.Prelude.{ℕ, List, ◌++◌, codes, nat_le, if◌then◌else◌, slice_index_or, Result, Ok, Err}
use Rattle.fio_message.specs.Decoding.{decoded_command, decoded_answer}
use Rattle.fio_message.specs.Texts.{fault_text}
use Rattle.fio_message.specs.declared.faults.DecodeError.{DecodeError}
use Rattle.fio_message.specs.declared.types.TheConstants.{ANSWER}
use Rattle.fio_show.specs.AnswerLines.{answer_text}
use Rattle.fio_show.specs.CommandLines.{command_text}

-- the lines of a message, or the text of the fault of its octets
abbrev pub text_or_fault : {M : Type 0} → (M → List ℕ) → Result M DecodeError → Result (List ℕ) (List ℕ)
text_or_fault text (Ok message) = Ok (text message)
text_or_fault text (Err fault) = Err (fault_text fault)

-- the lines of the command that octets encode, or the text of their fault
abbrev pub shown_command : List ℕ → Result (List ℕ) (List ℕ)
shown_command octets = text_or_fault command_text (decoded_command octets)

-- the lines of the answer that octets encode, or the text of their fault
abbrev pub shown_answer : List ℕ → Result (List ℕ) (List ℕ)
shown_answer octets = text_or_fault answer_text (decoded_answer octets)

-- the lines of a frame: of an answer if its first octet is 128 or more, of a command otherwise
abbrev pub shown_frame : List ℕ → Result (List ℕ) (List ℕ)
shown_frame octets =
    if nat_le ANSWER (slice_index_or octets 0 0) then shown_answer octets else shown_command octets

-- these lines, or the text of a fault and a line feed
abbrev pub lines_or_fault : Result (List ℕ) (List ℕ) → List ℕ
lines_or_fault (Ok lines) = lines
lines_or_fault (Err fault) = fault ++ codes "\n"

-- the text that a frame is shown as
abbrev pub frame_text : List ℕ → List ℕ
frame_text octets = lines_or_fault (shown_frame octets)
