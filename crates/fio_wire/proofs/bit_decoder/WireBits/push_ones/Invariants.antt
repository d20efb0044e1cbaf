use Rattle.std.proofs.Common.{◌≡◌}
use Rattle.fio_wire.specs.Bits.{IsWireBits, packing_of, reading_of, settings_of, with_ones}
use Rattle.fio_wire.proofs.bit_decoder.WireBits.push_ones.Given as goal

abbrev pub invariant-loop : goal.invariant-loop
invariant-loop l = record {
  is : IsWireBits l.fn.self → IsWireBits l.self;
  next : IsWireBits l.fn.self → reading_of l.self ≡ record (reading_of l.fn.self) { packing = with_ones l.counter (packing_of l.fn.self) };
  settings : settings_of l.self ≡ settings_of l.fn.self;
}
