use Rattle.std.proofs.Common.{◌≡◌, ◌-◌, length, drop}
use Rattle.fio_sniff.specs.Windows.{has_one}
use Rattle.fio_sniff.proofs.fitting.Fitting.has_one.Given as goal

abbrev pub invariant-forms : goal.invariant-forms
invariant-forms l = has_one (drop l.at l.forms) l.line ≡ has_one l.forms l.line

abbrev pub decreases-forms : goal.decreases-forms
decreases-forms l = length l.forms - l.at
