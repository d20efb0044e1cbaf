-- what is left after the steps is the same as at first
use Rattle.std.proofs.Common.{◌≡◌, length}
use Rattle.fio_rows.specs.GoingOn.{past_octets}
use Rattle.fio_rows.proofs.going_on.past_octets.Given as goal

abbrev pub invariant-loop-steps : goal.invariant-loop-steps
invariant-loop-steps l = past_octets l.steps ≡ past_octets l.cycle

abbrev pub decreases-loop-steps : goal.decreases-loop-steps
decreases-loop-steps l = length l.steps
