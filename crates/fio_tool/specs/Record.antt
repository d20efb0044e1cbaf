-- What `record` writes for a text: the record of the transcript's CPU, judged by the rules on content. The transcript may
-- begin anywhere: what is heard above its first command is neither judged nor recorded.
use Rattle.std.specs.Prelude.{ℕ, Bool, List, [], ◌++◌, ◌&&◌, codes, decimal, length, false, is_some, not, if◌then◌else◌, Option, Some, None, Result, Ok, Err}
use Rattle.std.specs.List.{flat_map}
use Rattle.std.specs.Option.{option_map_or}
use Rattle.fio_check.specs.ContentRules.{content_rule_name}
use Rattle.fio_check.specs.ContentFaults.{ContentFault, content_fault_in}
use Rattle.fio_check.specs.Lines.{TranscriptLine}
use Rattle.fio_check.specs.Pollers.{poller_of}
use Rattle.fio_check.specs.Verdicts.{verdict_on}
use Rattle.fio_check.specs.declared.verdict.Verdict.{Verdict}
use Rattle.fio_check.specs.declared.verdict.Verdict.TheVariants.{Good, Broken}
use Rattle.fio_cpu.specs.Poller.{Polling}
use Rattle.fio_cpu.specs.declared.record.Item.{Item}
use Rattle.fio_show.specs.EntryLines.{item_line}
use Rattle.fio_tool.specs.Check.{is_good, trace_error_text, verdict_text}
use Rattle.fio_tool.specs.InputFaults.{is_too_long, too_long_text}
use Rattle.fio_tool.specs.Transcript.{transcript_from_command}
use Rattle.fio_tool.specs.declared.transcript.lines.TraceError.{TraceError}

-- ---- the record of a transcript's CPU

-- the items of a CPU's record, or none if there is no CPU
abbrev pub items_of_cpu : Option Polling → List Item
items_of_cpu cpu = option_map_or (λ known. known.items) cpu []

-- the record of a transcript: that of its CPU
abbrev pub record_of : List TranscriptLine → List Item
record_of lines = items_of_cpu (poller_of lines)

-- ---- the text

-- the lines of a record: how many items it has, and a line for each, as in reports
abbrev pub record_lines : List Item → List ℕ
record_lines items =
    codes "record " ++ (decimal (length items) ++ (codes "\n" ++ flat_map item_line items))

-- the beginning of the line of a fault, with its input if it has one
abbrev pub fault_front : ℕ → Option ℕ → List ℕ
fault_front line None = codes "line " ++ (decimal line ++ codes " breaks ")
fault_front line (Some input) =
    codes "line " ++ (decimal line ++ (codes " input " ++ (decimal input ++ codes " breaks ")))

-- the line of a fault
abbrev pub content_fault_line : ContentFault → List ℕ
content_fault_line fault =
    (fault_front fault.line fault.input ++ content_rule_name fault.rule) ++ codes "\n"

-- the lines of a record; if a rule on content is broken, the lines of the items before the fault, and the line of the fault
abbrev pub judged_record : Option ContentFault → List Item → List ℕ
judged_record None items = record_lines items
judged_record (Some fault) items = record_lines fault.above ++ content_fault_line fault

-- the lines for a transcript with this verdict: if no rule is broken, its record, judged; otherwise the line of the verdict
abbrev pub record_below : Verdict → List TranscriptLine → List ℕ
record_below (Good frames) lines = judged_record (content_fault_in false lines) (record_of lines)
record_below (Broken number rule) lines = verdict_text (Broken number rule)

-- the text for the lines of a transcript, or for its first faulty line
abbrev pub transcript_record : Result (List TranscriptLine) TraceError → List ℕ
transcript_record (Ok lines) = record_below (verdict_on lines) lines
transcript_record (Err fault) = trace_error_text fault ++ codes "\n"

-- the text that `record` writes for an input
abbrev pub record_text : List ℕ → List ℕ
record_text input =
    if is_too_long input then too_long_text else transcript_record (transcript_from_command input)

-- whether a transcript breaks no rule, and no rule on content
abbrev pub is_record_kept : Result (List TranscriptLine) TraceError → Bool
is_record_kept (Ok lines) = is_good (verdict_on lines) && not (is_some (content_fault_in false lines))
is_record_kept (Err fault) = false

-- whether `record` reports no fault
abbrev pub is_record_good : List ℕ → Bool
is_record_good input = not (is_too_long input) && is_record_kept (transcript_from_command input)
