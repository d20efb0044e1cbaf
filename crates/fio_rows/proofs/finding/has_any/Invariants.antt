-- a form has the line if one of those that are left has it
use Rattle.std.proofs.Common.{◌≡◌, drop}
use Rattle.fio_rows.specs.Lines.{has_any}
use Rattle.fio_rows.proofs.finding.has_any.Given as goal

abbrev pub invariant-loop-at : goal.invariant-loop-at
invariant-loop-at l = has_any (drop l.at l.forms) l.line ≡ has_any l.forms l.line
