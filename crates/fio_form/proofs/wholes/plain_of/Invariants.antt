use Rattle.std.proofs.Common.{length, ◌-◌, ◌≡◌, ◌≤◌, [], false, drop}
use Rattle.fio_form.specs.Wholes.{plain_from}
use Rattle.fio_form.specs.declared.octets.TheConstants.{OCTETS}
use Rattle.fio_form.proofs.wholes.plain_of.Given as goal

abbrev pub invariant-octets : goal.invariant-octets
invariant-octets l = record {
  same : plain_from l.is_escaped l.plain.items (drop l.at l.octets) ≡ plain_from false [] l.octets;
  room : length l.plain.items ≤ OCTETS;
}

abbrev pub decreases-octets : goal.decreases-octets
decreases-octets l = length l.octets - l.at
