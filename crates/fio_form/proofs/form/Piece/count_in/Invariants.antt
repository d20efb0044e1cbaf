use Rattle.std.proofs.Common.{length, ◌-◌, ◌≡◌, ◌≤◌, ◌++◌, drop, take}
use Rattle.fio_form.specs.Fronts.{past, taken_parts}
use Rattle.fio_form.proofs.form.Piece.count_in.Given as goal

abbrev pub invariant-characters : goal.invariant-characters
invariant-characters l = record {
  first : take l.count l.text ++ taken_parts l.self (drop l.count l.text) ≡ taken_parts l.self l.text;
  same : past l.self (drop l.count l.text) ≡ past l.self l.text;
  within : l.count ≤ length l.text;
}

abbrev pub decreases-characters : goal.decreases-characters
decreases-characters l = length l.text - l.count
