-- The law of the texts of transcripts.
use Rattle.std.specs.Prelude.{◌≡◌, ℕ, false, List, Ok}
use Rattle.fio_check.specs.Lines.{TranscriptLine}
use Rattle.fio_check.specs.Verdicts.{IsVerdict}
use Rattle.fio_check.specs.declared.verdict.Verdict.{Verdict}
use Rattle.fio_tool.specs.InputFaults.{is_too_long}
use Rattle.fio_tool.specs.Transcript.{transcript_in}
use Rattle.fio_tool.specs.Check.{check_text, is_check_good, is_good, verdict_text}

-- if a text that is not too long is read as lines, its text and ending are those of the verdict on these lines
abbrev pub IsTextOfItsLines : List ℕ → Type 0
IsTextOfItsLines input = (lines : List TranscriptLine) (verdict : Verdict)
    → is_too_long input ≡ false → transcript_in input ≡ Ok lines → IsVerdict lines verdict
    → (check_text input ≡ verdict_text verdict) × (is_check_good input ≡ is_good verdict)
