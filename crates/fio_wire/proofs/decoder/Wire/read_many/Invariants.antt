use Rattle.std.proofs.Common.{◌≡◌, ◌≤◌, ◌-◌, length, take, []}
use Rattle.std.specs.Prelude.{fold}
use Rattle.fio_wire.specs.Octets.{IsWire, next, reading_of, said_of, settings_of}
use Rattle.fio_wire.proofs.decoder.Wire.read_many.Given as goal

abbrev pub invariant-octets : goal.invariant-octets
invariant-octets l = record {
  within : l.count ≤ length l.octets;
  is : IsWire l.fn.self → IsWire l.self;
  settings : settings_of l.self ≡ settings_of l.fn.self;
  next : IsWire l.fn.self → reading_of l.self ≡ fold next (reading_of l.fn.self) (take l.count l.octets);
  said : IsWire l.fn.self → said_of (reading_of l.fn.self) (take l.count l.octets) ≡ [];
}

abbrev pub decreases-octets : goal.decreases-octets
decreases-octets l = length l.octets - l.count
