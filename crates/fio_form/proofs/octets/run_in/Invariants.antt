use Rattle.std.proofs.Common.{length, ◌-◌, ◌≡◌, ◌≤◌, [], drop}
use Rattle.fio_form.specs.Octets.{octets_from, rest_from}
use Rattle.fio_form.specs.declared.octets.Begun.TheVariants.{Nothing}
use Rattle.fio_form.specs.declared.octets.TheConstants.{OCTETS}
use Rattle.fio_form.proofs.octets.run_in.Given as goal

abbrev pub invariant-characters : goal.invariant-characters
invariant-characters l = record {
  same : octets_from l.digits l.cycle (drop l.at l.cycle) l.begun l.octets.items (drop l.place l.text) ≡ octets_from l.digits l.cycle l.cycle Nothing [] l.text;
  rest : rest_from l.digits l.cycle (drop l.at l.cycle) l.begun (drop l.end l.text) (drop l.place l.text) ≡ rest_from l.digits l.cycle l.cycle Nothing l.text l.text;
  within : l.place ≤ length l.text;
  before : l.end ≤ l.place;
  room : length l.octets.items ≤ OCTETS;
}

abbrev pub decreases-characters : goal.decreases-characters
decreases-characters l = length l.text - l.place
