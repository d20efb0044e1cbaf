use Rattle.std.proofs.Common.{length, ◌-◌, ◌≡◌, ◌≤◌, ◌+◌, drop}
use Rattle.fio_form.specs.Octets.{steps_at}
use Rattle.fio_form.proofs.octets.next_at.Given as goal

abbrev pub invariant-steps : goal.invariant-steps
invariant-steps l = record {
  same : steps_at l.cycle (drop l.next l.cycle) l.text ≡ steps_at l.cycle (drop (l.at + 1) l.cycle) l.text;
  within : l.next ≤ length l.cycle;
}

abbrev pub decreases-steps : goal.decreases-steps
decreases-steps l = length l.cycle - l.next
