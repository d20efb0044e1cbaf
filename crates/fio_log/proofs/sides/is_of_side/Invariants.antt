use Rattle.std.proofs.Common.{length, ◌-◌}
use Rattle.fio_log.proofs.sides.is_of_side.Given as goal

abbrev pub decreases-words : goal.decreases-words
decreases-words l = length l.text - l.start
