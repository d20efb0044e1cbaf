-- What `check` writes for a text.
use Rattle.std.specs.Prelude.{ℕ, Bool, true, false, List, ◌++◌, ◌&&◌, codes, decimal, not, if◌then◌else◌, Result, Ok, Err}
use Rattle.fio_message.specs.Texts.{memory_text}
use Rattle.fio_text.specs.LineFaults.{bad_line_text}
use Rattle.fio_check.specs.Rules.{rule_name}
use Rattle.fio_check.specs.declared.verdict.Verdict.{Verdict}
use Rattle.fio_check.specs.declared.verdict.Verdict.TheVariants.{Good, Broken}
use Rattle.fio_tool.specs.InputFaults.{is_too_long, too_long_text}
use Rattle.fio_tool.specs.Transcript.{verdict_in}
use Rattle.fio_tool.specs.declared.transcript.lines.TraceError.{TraceError}
use Rattle.fio_tool.specs.declared.transcript.lines.TraceError.TheVariants.{BadLine, Memory}

-- the line of a verdict
abbrev pub verdict_text : Verdict → List ℕ
verdict_text (Good frames) = codes "good " ++ (decimal frames ++ codes " frames\n")
verdict_text (Broken number rule) =
    codes "line " ++ (decimal number ++ (codes " breaks " ++ (rule_name rule ++ codes "\n")))

-- whether no rule is broken
abbrev pub is_good : Verdict → Bool
is_good (Good frames) = true
is_good (Broken number rule) = false

-- why a text is no transcript
abbrev pub trace_error_text : TraceError → List ℕ
trace_error_text (BadLine line) = bad_line_text line
trace_error_text Memory = memory_text

-- the line of the verdict on a transcript, or of its first faulty line
abbrev pub transcript_text : Result Verdict TraceError → List ℕ
transcript_text (Ok verdict) = verdict_text verdict
transcript_text (Err fault) = trace_error_text fault ++ codes "\n"

-- whether this is a transcript that breaks no rule
abbrev pub is_transcript_good : Result Verdict TraceError → Bool
is_transcript_good (Ok verdict) = is_good verdict
is_transcript_good (Err fault) = false

-- the text that `check` writes for an input
abbrev pub check_text : List ℕ → List ℕ
check_text input =
    if is_too_long input then too_long_text else transcript_text (verdict_in input)

-- whether `check` reports no fault
abbrev pub is_check_good : List ℕ → Bool
is_check_good input = not (is_too_long input) && is_transcript_good (verdict_in input)
