use Rattle.std.proofs.Common.{length, ◌-◌, ◌≡◌, ◌≤◌, drop}
use Rattle.fio_form.specs.Fronts.{front_digits}
use Rattle.fio_form.proofs.numbers.digits_of.Given as goal

abbrev pub invariant-pieces : goal.invariant-pieces
invariant-pieces l = record {
  same : front_digits l.form.values.items (drop l.at l.form.front.items) l.left (drop l.place l.text) ≡ front_digits l.form.values.items l.form.front.items l.number l.text;
  within : l.place ≤ length l.text;
}

abbrev pub decreases-pieces : goal.decreases-pieces
decreases-pieces l = length l.form.front.items - l.at
