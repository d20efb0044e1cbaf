use Rattle.std.proofs.Common.{◌+◌, ◌*◌, length}
use Rattle.fio_text.specs.Digits.{digits_of}
use Rattle.fio_show.proofs.further_lines.append_digits.Given as goal

-- what follows completes the digits, and has room
abbrev pub invariant-parts : goal.invariant-parts
invariant-parts g l = record {
  room : g.S.TextSink.has_room l.sink (2 * length l.left + 1);
  whole :
      (after : g.row.S.Denot) → g.S.TextSink.takes l.sink (digits_of l.left) after
      → g.S.TextSink.takes l.initial.sink (digits_of l.fn.octets) after;
}

abbrev pub decreases-parts : goal.decreases-parts
decreases-parts g l = length l.left
