use Rattle.std.proofs.Common.{length, ◌-◌, ◌≡◌, drop}
use Rattle.fio_form.specs.Forms.{are_certain}
use Rattle.fio_form.proofs.wholeness.are_certain.Given as goal

abbrev pub invariant-steps : goal.invariant-steps
invariant-steps l = record {
  same : are_certain (drop l.at l.steps) ≡ are_certain l.steps;
}

abbrev pub decreases-steps : goal.decreases-steps
decreases-steps l = length l.steps - l.at
