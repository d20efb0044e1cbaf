-- The lines of a transcript: the frames that the CPU's end of the link sent and heard, in order.
use Rattle.std.specs.Prelude.{ℕ, Bool, List, [], ◌∷◌, Option, None, if◌then◌else◌}
use Rattle.fio_message.specs.Decoding.{command_in, answer_in}
use Rattle.fio_message.specs.declared.commands.Command.{Command}
use Rattle.fio_message.specs.declared.answers.Answer.{Answer}

-- a line: its number in the text, whether the CPU sent the frame or heard it, and the frame's
-- octets
pub record TranscriptLine : Type 0 where
  pub number : ℕ
  pub from_cpu : Bool
  pub octets : List ℕ

-- the lines from the first one that the CPU's end sent on; those above it, all heard, are skipped
abbrev pub from_first_command : List TranscriptLine → List TranscriptLine
from_first_command [] = []
from_first_command (line ∷ lines) = if line.from_cpu then line ∷ lines else from_first_command lines

-- the command in octets that were sent, if they encode one
abbrev pub command_from : Bool → List ℕ → Option Command
command_from from_cpu octets = if from_cpu then command_in octets else None

-- the answer in octets that were heard, if they encode one
abbrev pub answer_from : Bool → List ℕ → Option Answer
answer_from from_cpu octets = if from_cpu then None else answer_in octets
