use Rattle.std.proofs.Common.{length, ◌-◌, ◌≡◌, ◌≤◌, drop}
use Rattle.fio_form.specs.Bare.{after_marks}
use Rattle.fio_form.proofs.bare.marks_in.Given as goal

abbrev pub invariant-marks : goal.invariant-marks
invariant-marks l = record {
  same : after_marks (drop l.at l.marks) (drop l.at l.text) ≡ after_marks l.marks l.text;
  within : l.at ≤ length l.text;
}

abbrev pub decreases-marks : goal.decreases-marks
decreases-marks l = length l.marks - l.at
