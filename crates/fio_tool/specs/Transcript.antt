-- How a transcript is written: the frames that the CPU's end of the link sent and heard, one on each line, in order. Also
-- the verdict on a transcript.
use Rattle.std.specs.Prelude.{◌≡◌, ◌≤◌, ℕ, Bool, true, false, List, ◌∷◌, ◌++◌, map, codes, length, Option, Some, Result, Ok, Err, option_map, option_and_then, take}
use Rattle.std.specs.Option.{ok_or, option_or}
use Rattle.fio_message.specs.declared.limits.TheConstants.{FRAME_OCTETS}
use Rattle.fio_message.specs.Decoding.{answer_in, command_in}
use Rattle.fio_check.specs.Lines.{TranscriptLine, from_first_command}
use Rattle.fio_check.specs.Verdicts.{verdict_on}
use Rattle.fio_check.specs.declared.verdict.Verdict.{Verdict}
use Rattle.fio_text.specs.FirstFaults.{values_or_fault}
use Rattle.fio_text.specs.Hexadecimal.{octets_in}
use Rattle.fio_text.specs.Lines.{lines_of, numbered}
use Rattle.fio_text.specs.Words.{after_prefix}
use Rattle.fio_tool.specs.declared.transcript.lines.TraceError.{TraceError}
use Rattle.fio_tool.specs.declared.transcript.lines.TraceError.TheVariants as faults

-- a word of hexadecimal digits as the octets of a frame, together with whether the CPU sent it
abbrev pub frame_with : Bool → List ℕ → Option (Bool × List ℕ)
frame_with from_cpu word = option_map (λ octets. (from_cpu, octets)) (octets_in word)

-- the frame of a line, and whether the CPU sent it: `> HEX` was sent, `< HEX` was heard
abbrev pub frame_in : List ℕ → Option (Bool × List ℕ)
frame_in line = option_or
    (option_and_then (frame_with true) (after_prefix (codes "> ") line))
    (option_and_then (frame_with false) (after_prefix (codes "< ") line))

-- a line is a frame of `count` octets; if they fit in the room for the longest frame, they are at its front
pub record IsReadFrame (line : List ℕ) (from_cpu : Bool) (count : ℕ) (room : List ℕ) : Type 0 where
  pub octets : List ℕ
  pub frame : frame_in line ≡ Some (from_cpu, octets)
  pub counted : count ≡ length octets
  pub read : count ≤ FRAME_OCTETS → octets ≡ take count room

-- these octets encode the same messages as other octets, whether the CPU sent or heard them
pub record SpellsSame (shown octets : List ℕ) : Type 0 where
  pub sent : command_in shown ≡ command_in octets
  pub heard : answer_in shown ≡ answer_in octets

-- the line of a transcript that a numbered line is, or the fault that it is no frame
abbrev pub line_in : ℕ × List ℕ → Result TranscriptLine TraceError
line_in (number, line) = ok_or
    (option_map (λ frame. record { number = number; from_cpu = frame.0; octets = frame.1 })
    (frame_in line))
    (faults.BadLine number)

-- the lines of a transcript, or the fault of the first line that is no frame
abbrev pub transcript_in : List ℕ → Result (List TranscriptLine) TraceError
transcript_in text = values_or_fault (map line_in (numbered 1 (lines_of text)))

-- what is read, from the first command on
abbrev pub from_command : Result (List TranscriptLine) TraceError → Result (List TranscriptLine) TraceError
from_command (Ok lines) = Ok (from_first_command lines)
from_command (Err fault) = Err fault

-- the lines of a transcript from the first command on, or the fault of the first line that is no frame
abbrev pub transcript_from_command : List ℕ → Result (List TranscriptLine) TraceError
transcript_from_command text = from_command (transcript_in text)

-- some line is a frame, and so are all lines before it: room is requested only to keep such frames
pub record HasFrameToKeep (text : List ℕ) : Type 0 where
  pub above : List TranscriptLine
  pub line : TranscriptLine
  pub below : List (Result TranscriptLine TraceError)
  pub frames : map line_in (numbered 1 (lines_of text)) ≡ map Ok above ++ (Ok line ∷ below)

-- the verdict on the lines of a text, or the fault of its first line that is no frame
abbrev pub verdict_of : Result (List TranscriptLine) TraceError → Result Verdict TraceError
verdict_of (Ok lines) = Ok (verdict_on lines)
verdict_of (Err fault) = Err fault

-- the verdict on the transcript that a text is, or the fault of its first line that is no frame
abbrev pub verdict_in : List ℕ → Result Verdict TraceError
verdict_in text = verdict_of (transcript_in text)

-- the verdict on the transcript from the first command on
abbrev pub verdict_from_command : List ℕ → Result Verdict TraceError
verdict_from_command text = verdict_of (transcript_from_command text)
