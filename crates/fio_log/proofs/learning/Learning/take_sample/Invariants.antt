use Rattle.std.proofs.Common.{◌≤◌}
use Rattle.fio_log.proofs.learning.Learning.take_sample.Given as goal

abbrev pub invariant-characters : goal.invariant-characters
invariant-characters l = l.start ≤ l.at
