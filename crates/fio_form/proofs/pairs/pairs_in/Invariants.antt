use Rattle.std.proofs.Common.{length, ◌-◌, ◌≡◌, ◌≤◌, [], drop}
use Rattle.fio_form.specs.Octets.{octets_from, rest_from}
use Rattle.fio_form.specs.declared.form.Digits.TheVariants.{Pairs}
use Rattle.fio_form.specs.declared.octets.Begun.TheVariants.{Nothing}
use Rattle.fio_form.specs.declared.octets.TheConstants.{OCTETS}
use Rattle.fio_form.proofs.pairs.pairs_in.Given as goal

abbrev pub invariant-steps : goal.invariant-steps
invariant-steps l = record {
  same : octets_from Pairs l.cycle (drop l.at l.cycle) Nothing l.octets.items (drop l.place l.text) ≡ octets_from Pairs l.cycle l.cycle Nothing [] l.text;
  rest : rest_from Pairs l.cycle (drop l.at l.cycle) Nothing (drop l.end l.text) (drop l.place l.text) ≡ rest_from Pairs l.cycle l.cycle Nothing l.text l.text;
  within : l.place ≤ length l.text;
  before : l.end ≤ l.place;
  room : length l.octets.items ≤ OCTETS;
}

abbrev pub decreases-steps : goal.decreases-steps
decreases-steps l = length l.text - l.place
