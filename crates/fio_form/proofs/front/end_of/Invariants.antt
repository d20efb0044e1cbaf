use Rattle.std.proofs.Common.{length, ◌-◌, ◌≡◌, ◌≤◌, drop}
use Rattle.fio_form.specs.Fronts.{past}
use Rattle.fio_form.proofs.front.end_of.Given as goal

abbrev pub invariant-characters : goal.invariant-characters
invariant-characters l = record {
  same : past l.piece (drop l.end l.text) ≡ past l.piece (drop l.place l.text);
  before : l.place ≤ l.end;
  within : l.end ≤ length l.text;
}

abbrev pub decreases-characters : goal.decreases-characters
decreases-characters l = length l.text - l.end
