use Rattle.std.proofs.Common.{length, ◌-◌, ◌≡◌, ◌≤◌, [], false, drop}
use Rattle.fio_form.specs.Bare.{marks_from}
use Rattle.fio_form.proofs.bare.marks_of.Given as goal

abbrev pub invariant-steps : goal.invariant-steps
invariant-steps l = record {
  same : marks_from l.is_known l.marks.items (drop l.at l.cycle) ≡ marks_from false [] l.cycle;
  few : length l.marks.items ≤ l.at;
}

abbrev pub decreases-steps : goal.decreases-steps
decreases-steps l = length l.cycle - l.at
