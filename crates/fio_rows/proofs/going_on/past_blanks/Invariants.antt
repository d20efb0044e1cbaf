-- what is left after the steps is the same as at first
use Rattle.std.proofs.Common.{◌≡◌, length}
use Rattle.fio_rows.specs.GoingOn.{past_blanks}
use Rattle.fio_rows.proofs.going_on.past_blanks.Given as goal

abbrev pub invariant-loop-steps : goal.invariant-loop-steps
invariant-loop-steps l = past_blanks l.steps ≡ past_blanks l.gap

abbrev pub decreases-loop-steps : goal.decreases-loop-steps
decreases-loop-steps l = length l.steps
