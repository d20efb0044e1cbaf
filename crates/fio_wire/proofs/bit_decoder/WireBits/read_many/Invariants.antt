use Rattle.std.proofs.Common.{◌≡◌, ◌≤◌, ◌-◌, length, take, []}
use Rattle.std.specs.Prelude.{fold}
use Rattle.fio_wire.specs.Bits.{IsWireBits, lowest_bits, next, reading_of, said_of, settings_of}
use Rattle.fio_wire.proofs.bit_decoder.WireBits.read_many.Given as goal

abbrev pub invariant-bits : goal.invariant-bits
invariant-bits l = record {
  within : l.count ≤ length l.line;
  is : IsWireBits l.fn.self → IsWireBits l.self;
  settings : settings_of l.self ≡ settings_of l.fn.self;
  next : IsWireBits l.fn.self → reading_of l.self ≡ fold next (reading_of l.fn.self) (take l.count (lowest_bits l.line));
  said : IsWireBits l.fn.self → said_of (reading_of l.fn.self) (take l.count (lowest_bits l.line)) ≡ [];
}

abbrev pub decreases-bits : goal.decreases-bits
decreases-bits l = length l.line - l.count
