-- what is left of the rest after the steps that are left is what is left of the text
use Rattle.std.proofs.Common.{◌≡◌, length}
use Rattle.fio_rows.specs.GoingOn.{past_gap}
use Rattle.fio_rows.proofs.going_on.past_gap.Given as goal

abbrev pub invariant-loop-steps : goal.invariant-loop-steps
invariant-loop-steps l = past_gap l.steps l.rest ≡ past_gap l.gap l.text

abbrev pub decreases-loop-steps : goal.decreases-loop-steps
decreases-loop-steps l = length l.steps
