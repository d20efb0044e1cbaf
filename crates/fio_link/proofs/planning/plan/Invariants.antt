use Rattle.fio_link.specs.Pace.{HasNoPaceBelow}
use Rattle.fio_link.proofs.planning.plan.Given as goal

abbrev pub invariant-pace : goal.invariant-pace
invariant-pace l = HasNoPaceBelow l.fn.line l.fn.traffic l.pace
