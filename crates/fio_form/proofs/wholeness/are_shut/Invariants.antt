use Rattle.std.proofs.Common.{length, ◌-◌, ◌≡◌, drop}
use Rattle.fio_form.specs.Forms.{are_shut}
use Rattle.fio_form.proofs.wholeness.are_shut.Given as goal

abbrev pub invariant-pieces : goal.invariant-pieces
invariant-pieces l = record {
  same : are_shut l.digits (drop l.at l.front) ≡ are_shut l.digits l.front;
}

abbrev pub decreases-pieces : goal.decreases-pieces
decreases-pieces l = length l.front - l.at
