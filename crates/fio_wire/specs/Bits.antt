-- Lines of bits: 01111110 is a flag, and bit stuffing keeps six ones in a row out of frames. Seven ones are an abort.
use Rattle.std.specs.Prelude.{ℕ, ◌+◌, ◌-◌, ◌/◌, ◌%◌, ◌^◌, ◌==◌, ◌&&◌, ◌||◌, not, nat_lt, ◌≡◌, ◌≢◌, ◌<◌, ◌≤◌, Bool, true, false, if◌then◌else◌, List, [], ◌∷◌, ◌++◌, length, take, fold, flat_map, map, replicate}
use Prim.Native.Nat.{zero, suc}
use Rattle.fio_wire.specs.Checks.{with_octet}
use Rattle.fio_wire.specs.Detection.{low_bits}
use Rattle.fio_wire.specs.Frames.{Said, Frame, Damage, WireSettings, judged, said_by_each}
use Rattle.fio_wire.specs.declared.bit_decoder.WireBits.{WireBits}
use Rattle.fio_wire.specs.declared.limits.TheConstants.{HELD_OCTETS}

-- ---- What is sent

-- octets as bits of a line, the lowest bit of each first
abbrev pub line_bits : List ℕ → List Bool
line_bits octets = flat_map (λ octet. map (λ bit. bit == 1) (low_bits 8 octet)) octets

-- bits with a 0 after each five ones in a row; `ones` come before them
abbrev pub bit_stuffed : ℕ → List Bool → List Bool
bit_stuffed ones [] = []
bit_stuffed ones (false ∷ bits) = false ∷ bit_stuffed 0 bits
bit_stuffed ones (true ∷ bits) = if ones == 4 then true ∷ false ∷ bit_stuffed 0 bits else true ∷ bit_stuffed (suc ones) bits

-- what is between frames
abbrev pub flag_bits : List Bool
flag_bits = false ∷ true ∷ true ∷ true ∷ true ∷ true ∷ true ∷ false ∷ []

-- ---- What a part says

-- bits without the 0 after each five ones in a row
abbrev pub destuffed : ℕ → List Bool → List Bool
destuffed ones [] = []
destuffed ones (true ∷ bits) = true ∷ destuffed (suc ones) bits
destuffed ones (false ∷ bits) = if ones == 5 then destuffed 0 bits else false ∷ destuffed 0 bits

-- no six ones are in a row: no flag, and no abort
abbrev pub HasNoSix : ℕ → List Bool → Type 0
HasNoSix ones [] = Unit {0}
HasNoSix ones (true ∷ bits) = (ones < 5) × HasNoSix (suc ones) bits
HasNoSix ones (false ∷ bits) = HasNoSix 0 bits

-- no flag is among bits that come after `ones` ones and before a 0; an abort may be
abbrev pub HasNoBitFlag : ℕ → List Bool → Type 0
HasNoBitFlag ones [] = ones ≢ 6
HasNoBitFlag ones (true ∷ bits) = HasNoBitFlag (suc ones) bits
HasNoBitFlag ones (false ∷ bits) = (ones ≢ 6) × HasNoBitFlag 0 bits

-- whether there is an abort: seven ones in a row
abbrev pub has_abort : ℕ → List Bool → Bool
has_abort ones [] = false
has_abort ones (true ∷ bits) = if ones == 6 then true else has_abort (suc ones) bits
has_abort ones (false ∷ bits) = has_abort 0 bits

-- whether seven ones come first: directly after a flag the line is idle
abbrev pub begins_idle : ℕ → List Bool → Bool
begins_idle ones [] = false
begins_idle ones (true ∷ bits) = if ones == 6 then true else begins_idle (suc ones) bits
begins_idle ones (false ∷ bits) = false

-- Octets of bits, at most 777 of them: those that are whole, and the bits of the next one.
pub record Packing : Type 0 where
  pub octets : List ℕ
  pub value : ℕ
  pub count : ℕ
  pub is_long : Bool

-- no bits
abbrev pub none_packed : Packing
none_packed = record { octets = []; value = 0; count = 0; is_long = false }

-- with these bits in the present octet
abbrev pub with_value : Packing → ℕ → Packing
with_value packing value =
    if nat_lt packing.count 7 then record { octets = packing.octets; value = value; count = packing.count + 1; is_long = packing.is_long }
    else (if nat_lt (length packing.octets) HELD_OCTETS
    then record { octets = packing.octets ++ value ∷ []; value = 0; count = 0; is_long = packing.is_long }
    else record { octets = packing.octets; value = 0; count = 0; is_long = true })

-- with one bit more, the lowest of an octet first
abbrev pub packed : Packing → Bool → Packing
packed packing bit = with_value packing (packing.value / 2 + (if bit then 128 else 0))

-- whether bits are broken off within an octet, or too many
abbrev pub is_broken : Packing → Bool
is_broken packing = not (packing.count == 0) || packing.is_long

-- what a flag after bits says
abbrev pub ending : Packing → List Said
ending packing = judged (is_broken packing) packing.octets

-- what a part says
abbrev pub said_in : List Bool → List Said
said_in part = ending (fold packed none_packed (destuffed 0 part))

-- what bits between two flags say: nothing if the line is idle, damage if an abort breaks a part off
abbrev pub said_between : List Bool → List Said
said_between bits = if has_abort 0 bits then (if begins_idle 0 bits then [] else Damage ∷ []) else said_in bits

-- ---- The decoder, bit by bit

-- Where a decoder is: before the first flag, or on an idle line; in a part; in a part that an abort broke off; after a frame.
pub data BitPhase : Type 0 where
  Hunting : BitPhase
  Within : BitPhase
  Lost : BitPhase
  Whole : BitPhase

-- What a decoder has read: the bits of the present part, or of the frame that ended, but for the ones at the end and the 0
-- before them, which may be a flag's.
pub record Reading : Type 0 where
  pub packing : Packing
  pub ones : ℕ
  pub is_pending : Bool
  pub phase : BitPhase

-- before the first flag
abbrev pub start : Reading
start = record { packing = none_packed; ones = 7; is_pending = false; phase = Hunting }

-- after a flag
abbrev pub fresh : Reading
fresh = record { packing = none_packed; ones = 0; is_pending = false; phase = Within }

-- with this number of ones
abbrev pub with_ones : ℕ → Packing → Packing
with_ones zero packing = packing
with_ones (suc count) packing = packed (with_ones count packing) true

-- with what was kept back
abbrev pub flushed : Reading → Packing
flushed reading = with_ones reading.ones (if reading.is_pending then packed reading.packing false else reading.packing)

-- whether there are no bits
abbrev pub is_none : Packing → Bool
is_none packing = (length packing.octets == 0) && ((packing.count == 0) && not packing.is_long)

-- at seven ones: a part is broken off, or the line is idle
abbrev pub aborted : BitPhase → Bool → BitPhase
aborted Within true = Hunting
aborted Within false = Lost
aborted phase is_silent = phase

-- after a 1
abbrev pub after_one : Reading → Reading
after_one reading =
    if nat_lt reading.ones 6
    then record { packing = reading.packing; ones = reading.ones + 1; is_pending = reading.is_pending; phase = reading.phase }
    else record {
      packing = reading.packing;
      ones = 7;
      is_pending = reading.is_pending;
      phase = aborted reading.phase (is_none reading.packing && not reading.is_pending);
    }

-- what a flag says
abbrev pub says_flag : BitPhase → Packing → List Said
says_flag Hunting packing = []
says_flag Within packing = ending packing
says_flag phase packing = Damage ∷ []

-- after a flag that says this: a frame is held until the next bit
abbrev pub after_flag : List Said → Packing → Reading
after_flag (Frame frame ∷ rest) packing = record { packing = packing; ones = 0; is_pending = false; phase = Whole }
after_flag said packing = fresh

-- after a 0: after six ones it ends a flag, and after five it is left out
abbrev pub after_zero : Reading → Reading
after_zero reading =
    if nat_lt reading.ones 6
    then record { packing = flushed reading; ones = 0; is_pending = nat_lt reading.ones 5; phase = reading.phase }
    else (if reading.ones == 6 then after_flag (says_flag reading.phase reading.packing) reading.packing
    else record { packing = reading.packing; ones = 0; is_pending = false; phase = reading.phase })

-- before the next bit: after a frame the next part begins
abbrev pub begun_by : BitPhase → Reading → Reading
begun_by Whole reading = record { packing = none_packed; ones = reading.ones; is_pending = false; phase = Within }
begun_by phase reading = reading

-- before the next bit
abbrev pub begun : Reading → Reading
begun reading = begun_by reading.phase reading

-- what one bit more says
abbrev pub says : Reading → Bool → List Said
says reading true = []
says reading false = if (begun reading).ones == 6 then says_flag (begun reading).phase (begun reading).packing else []

-- after one bit more
abbrev pub next : Reading → Bool → Reading
next reading bit = if bit then after_one (begun reading) else after_zero (begun reading)

-- all that bits say
abbrev pub said_of : Reading → List Bool → List Said
said_of reading bits = said_by_each says next reading bits

-- octets that are held after a frame alone
abbrev pub held_by : BitPhase → List ℕ → List ℕ
held_by Whole octets = octets
held_by phase octets = []

-- the frame that is held, empty if there is none
abbrev pub held_frame : Reading → List ℕ
held_frame reading = held_by reading.phase reading.packing.octets

-- ---- A decoder in memory

-- where a decoder is, by its code
abbrev pub phase_of : ℕ → BitPhase
phase_of zero = Hunting
phase_of (suc zero) = Within
phase_of (suc (suc zero)) = Lost
phase_of other = Whole

-- the bits that the decoder in this memory has
abbrev pub packing_of : WireBits → Packing
packing_of wire = record { octets = take wire.held wire.octets; value = wire.value; count = wire.count; is_long = not (wire.full == 0) }

-- what it has read
abbrev pub reading_of : WireBits → Reading
reading_of wire = record { packing = packing_of wire; ones = wire.ones; is_pending = not (wire.pending == 0); phase = phase_of wire.phase }

-- which frames are its own
abbrev pub settings_of : WireBits → WireSettings
settings_of wire = record { address = wire.address; control = wire.control }

-- the memory of a decoder before the first flag
abbrev pub wire_bits_at_start : ℕ → ℕ → WireBits
wire_bits_at_start address control = record {
  octets = replicate HELD_OCTETS 0;
  phase = 0;
  ones = 7;
  pending = 0;
  value = 0;
  count = 0;
  full = 0;
  reserved = 0;
  held = 0;
  check = 2 ^ 16 - 1;
  address = address;
  control = control;
}

-- Memory in which a decoder was started, and that only its calls wrote since.
pub record IsWireBits (wire : WireBits) : Type 0 where
  pub held_within : wire.held ≤ HELD_OCTETS
  pub in_step : wire.check ≡ fold with_octet (2 ^ 16 - 1) (take wire.held wire.octets)

-- the bits of octets that have a bit each, the lowest
abbrev pub lowest_bits : List ℕ → List Bool
lowest_bits octets = map (λ octet. octet % 2 == 1) octets
