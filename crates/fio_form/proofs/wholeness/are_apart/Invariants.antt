use Rattle.std.proofs.Common.{length, ◌-◌, ◌≡◌, true, drop}
use Rattle.fio_form.specs.Forms.{are_apart}
use Rattle.fio_form.proofs.wholeness.are_apart.Given as goal

abbrev pub invariant-steps : goal.invariant-steps
invariant-steps l = record {
  same : are_apart l.inside (drop l.at l.cycle) ≡ are_apart true l.cycle;
}

abbrev pub decreases-steps : goal.decreases-steps
decreases-steps l = length l.cycle - l.at
