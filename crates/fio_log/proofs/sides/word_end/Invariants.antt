use Rattle.std.proofs.Common.{length, ◌-◌, ◌<◌, ◌≤◌}
use Rattle.fio_log.proofs.sides.word_end.Given as goal

abbrev pub invariant-characters : goal.invariant-characters
invariant-characters l = record { forward : l.start < l.end; within : l.end ≤ length l.text }

abbrev pub decreases-characters : goal.decreases-characters
decreases-characters l = length l.text - l.end
