use Rattle.std.proofs.Common.{length, ◌-◌, ◌≡◌, false, drop}
use Rattle.fio_form.specs.Reading.{read_from}
use Rattle.fio_form.proofs.line_reading.read_line.Given as goal

abbrev pub invariant-forms : goal.invariant-forms
invariant-forms l = record {
  same : read_from (drop l.at l.forms) l.cut l.line ≡ read_from l.forms false l.line;
}

abbrev pub decreases-forms : goal.decreases-forms
decreases-forms l = length l.forms - l.at
