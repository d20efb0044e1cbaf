use Rattle.std.proofs.Common.{[]}
use Rattle.fio_sniff.specs.Windows.{AllFit}
use Rattle.fio_sniff.proofs.fitting.Fitting.fitting.Given as goal

abbrev pub invariant-loop-form : goal.invariant-loop-form
invariant-loop-form l = AllFit l.lines [] l.all.items
