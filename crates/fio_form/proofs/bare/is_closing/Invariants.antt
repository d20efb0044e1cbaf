use Rattle.std.proofs.Common.{length, ◌-◌, ◌≡◌, drop}
use Rattle.fio_form.specs.Bare.{are_closers}
use Rattle.fio_form.proofs.bare.is_closing.Given as goal

abbrev pub invariant-characters : goal.invariant-characters
invariant-characters l = record {
  same : are_closers (drop l.at l.tail) ≡ are_closers l.tail;
}

abbrev pub decreases-characters : goal.decreases-characters
decreases-characters l = length l.tail - l.at
