use Rattle.std.proofs.Common.{length, ◌-◌, ◌≡◌, ◌≤◌, drop}
use Rattle.fio_form.specs.Reading.{ends_in_front}
use Rattle.fio_form.proofs.line_reading.ends_in_front.Given as goal

abbrev pub invariant-pieces : goal.invariant-pieces
invariant-pieces l = record {
  same : ends_in_front l.form l.line (drop l.at l.form.front.items) (drop l.place l.line) ≡ ends_in_front l.form l.line l.form.front.items l.line;
  within : l.place ≤ length l.line;
}

abbrev pub decreases-pieces : goal.decreases-pieces
decreases-pieces l = length l.form.front.items - l.at
