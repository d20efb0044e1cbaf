use Rattle.std.proofs.Common.{length, true, ◌-◌, ◌≡◌, drop}
use Rattle.fio_log.specs.Clock.{first_time}
use Rattle.fio_log.proofs.clock.time_in.Given as goal

abbrev pub invariant-places : goal.invariant-places
invariant-places l = record {
  same : first_time l.is_free l.start (drop l.start l.line) ≡ first_time true 0 l.line;
}

abbrev pub decreases-places : goal.decreases-places
decreases-places l = length l.line - l.start
