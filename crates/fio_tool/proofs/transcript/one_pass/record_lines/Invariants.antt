use Rattle.fio_tool.proofs.Names.{◌≡◌, ◌+◌, ◌≤◌, List, Ok, length, map, result_err, values_or_fault, TranscriptLine, line_in, transcript_in}
use Rattle.fio_tool.proofs.BegunLines.{IsPass}
use Rattle.fio_tool.proofs.transcript.one_pass.record_lines.Given as goal

abbrev pub invariant-lines : goal.invariant-lines
invariant-lines l = record {
  within : l.frames + length l.number-iterator ≤ length l.text;
  faults : result_err (values_or_fault (map line_in l.number-iterator)) ≡ result_err (transcript_in l.text);
  pass : (lines : List TranscriptLine) → transcript_in l.text ≡ Ok lines → IsPass l.begun lines l.frames l.number-iterator l.judging l.recording;
}
