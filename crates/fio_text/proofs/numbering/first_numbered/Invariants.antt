use Rattle.std.proofs.Common.{◌≡◌, ◌+◌, ◌≤◌, length}
use Rattle.fio_text.specs.Lines.{lines_of, numbered}
use Rattle.fio_text.proofs.numbering.first_numbered.Given as goal

abbrev pub invariant-lines : goal.invariant-lines
invariant-lines l = record {
  lines : numbered l.number (lines_of l.rest) ≡ numbered l.fn.number (lines_of l.text);
  number : l.number + length l.rest ≤ l.fn.number + length l.text;
}

abbrev pub decreases-lines : goal.decreases-lines
decreases-lines l = length l.rest
