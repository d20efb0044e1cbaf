use Rattle.fio_tool.proofs.Names.{◌≡◌, ◌++◌, Ok, map, values_or_fault, with_first, lines_of, numbered, line_in, transcript_in}
use Rattle.fio_tool.proofs.transcript.lines.read_trace.Given as goal

abbrev pub invariant-lines : goal.invariant-lines
invariant-lines l = record {
  read : with_first l.lines.items (values_or_fault (map line_in l.number-iterator)) ≡ transcript_in l.text;
  frames : map line_in (numbered 1 (lines_of l.text)) ≡ map Ok l.lines.items ++ map line_in l.number-iterator;
}
