use Rattle.fio_check.proofs.Names.{None}
use Rattle.fio_check.proofs.BreachesSoFar.{StandsSoFar}
use Rattle.fio_check.proofs.verdict.check_trace.Given as goal

abbrev pub invariant-loop-line : goal.invariant-loop-line
invariant-loop-line l = StandsSoFar l.lines l.line-index l.facts None
