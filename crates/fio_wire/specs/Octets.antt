-- Lines of octets: an octet 7E is a flag, and octet stuffing keeps it out of frames.
use Rattle.std.specs.Prelude.{ℕ, ◌==◌, ◌||◌, nat_lt, ◌≡◌, ◌≢◌, ◌≤◌, ◌-◌, ◌^◌, Bool, true, false, if◌then◌else◌, List, [], ◌∷◌, ◌++◌, length, take, fold, flat_map, replicate, bit_xor}
use Rattle.std.specs.List.{AllByRecursion}
use Prim.Native.Nat.{zero, suc}
use Rattle.fio_wire.specs.Checks.{with_octet}
use Rattle.fio_wire.specs.Frames.{Said, Frame, Damage, WireSettings, frame_of, judged, said_by_each}
use Rattle.fio_wire.specs.declared.decoder.Wire.{Wire}
use Rattle.fio_wire.specs.declared.limits.TheConstants.{FLAG, ESCAPE, STUFFED, HELD_OCTETS}

-- ---- What is sent

-- an octet as it is sent: 7E and 7D are 7D and the octet with bit 5 inverted
abbrev pub stuffed_octet : ℕ → List ℕ
stuffed_octet octet = if octet == FLAG || octet == ESCAPE then ESCAPE ∷ bit_xor octet STUFFED ∷ [] else octet ∷ []

-- octets as they are sent
abbrev pub stuffed : List ℕ → List ℕ
stuffed octets = flat_map stuffed_octet octets

-- a message as it is sent, with its flags
abbrev pub sent : ℕ → ℕ → List ℕ → List ℕ
sent address control message = FLAG ∷ stuffed (frame_of address control message) ++ FLAG ∷ []

-- ---- What a part says

-- octets without stuffing; whether the octet before them is an escape
abbrev pub unstuffed : Bool → List ℕ → List ℕ
unstuffed is_escaped [] = []
unstuffed true (octet ∷ octets) = bit_xor octet STUFFED ∷ unstuffed false octets
unstuffed false (octet ∷ octets) = if octet == ESCAPE then unstuffed true octets else octet ∷ unstuffed false octets

-- whether octets end with an escape, which breaks a part off
abbrev pub is_open : Bool → List ℕ → Bool
is_open is_escaped [] = is_escaped
is_open true (octet ∷ octets) = is_open false octets
is_open false (octet ∷ octets) = is_open (octet == ESCAPE) octets

-- what a part says
abbrev pub said_in : List ℕ → List Said
said_in part = judged (is_open false part) (unstuffed false part)

-- no flag is among octets
abbrev pub HasNoFlag : List ℕ → Type 0
HasNoFlag octets = AllByRecursion (λ octet. octet ≢ FLAG) octets

-- parts, each with a flag after it
abbrev pub with_flags : List (List ℕ) → List ℕ
with_flags parts = flat_map (λ part. part ++ FLAG ∷ []) parts

-- ---- The decoder, octet by octet

-- Where a decoder is: before the first flag; in a part; after an escape; in a part that is damaged; after a frame.
pub data Phase : Type 0 where
  Hunting : Phase
  Within : Phase
  Escaped : Phase
  Lost : Phase
  Whole : Phase

-- What a decoder has read: where it is, and the octets of the present part, or of the frame that ended.
pub record Reading : Type 0 where
  pub octets : List ℕ
  pub phase : Phase

-- before the first flag
abbrev pub start : Reading
start = record { octets = []; phase = Hunting }

-- after a flag
abbrev pub fresh : Reading
fresh = record { octets = []; phase = Within }

-- after one octet more of a part: what is too long is damaged
abbrev pub kept : List ℕ → ℕ → Reading
kept octets octet =
    if nat_lt (length octets) HELD_OCTETS then record { octets = octets ++ octet ∷ []; phase = Within }
    else record { octets = octets; phase = Lost }

-- after an octet that is no flag
abbrev pub taken : Phase → List ℕ → ℕ → Reading
taken Within octets octet = if octet == ESCAPE then record { octets = octets; phase = Escaped } else kept octets octet
taken Escaped octets octet = kept octets (bit_xor octet STUFFED)
taken phase octets octet = record { octets = octets; phase = phase }

-- what a flag says
abbrev pub ending : Phase → List ℕ → List Said
ending Hunting octets = []
ending Within octets = judged false octets
ending phase octets = Damage ∷ []

-- after a flag that says this: a frame is held until the next octet
abbrev pub ended_by : List Said → Reading
ended_by (Frame frame ∷ rest) = record { octets = frame; phase = Whole }
ended_by said = fresh

-- before the next octet: after a frame the next part begins
abbrev pub begun_by : Phase → Reading → Reading
begun_by Whole reading = fresh
begun_by phase reading = reading

-- before the next octet
abbrev pub begun : Reading → Reading
begun reading = begun_by reading.phase reading

-- what one octet more says: a flag ends a part
abbrev pub says : Reading → ℕ → List Said
says reading octet = if octet == FLAG then ending (begun reading).phase (begun reading).octets else []

-- after one octet more
abbrev pub next : Reading → ℕ → Reading
next reading octet =
    if octet == FLAG then ended_by (ending (begun reading).phase (begun reading).octets)
    else taken (begun reading).phase (begun reading).octets octet

-- all that octets say
abbrev pub said_of : Reading → List ℕ → List Said
said_of reading octets = said_by_each says next reading octets

-- where a part is damaged; before the first flag there is none
abbrev pub lost_by : Phase → Reading → Reading
lost_by Hunting reading = reading
lost_by phase reading = record { octets = reading.octets; phase = Lost }

-- after a lost octet: the present part is damaged
abbrev pub lost : Reading → Reading
lost reading = lost_by (begun reading).phase (begun reading)

-- octets that are held after a frame alone
abbrev pub held_by : Phase → List ℕ → List ℕ
held_by Whole octets = octets
held_by phase octets = []

-- the frame that is held, empty if there is none
abbrev pub held_frame : Reading → List ℕ
held_frame reading = held_by reading.phase reading.octets

-- ---- A decoder in memory

-- where a decoder is, by its code
abbrev pub phase_of : ℕ → Phase
phase_of zero = Hunting
phase_of (suc zero) = Within
phase_of (suc (suc zero)) = Escaped
phase_of (suc (suc (suc zero))) = Lost
phase_of other = Whole

-- what the decoder in this memory has read
abbrev pub reading_of : Wire → Reading
reading_of wire = record { octets = take wire.held wire.octets; phase = phase_of wire.phase }

-- which frames are its own
abbrev pub settings_of : Wire → WireSettings
settings_of wire = record { address = wire.address; control = wire.control }

-- the memory of a decoder before the first flag
abbrev pub wire_at_start : ℕ → ℕ → Wire
wire_at_start address control = record {
  octets = replicate HELD_OCTETS 0;
  phase = 0;
  held = 0;
  check = 2 ^ 16 - 1;
  address = address;
  control = control;
}

-- Memory in which a decoder was started, and that only its calls wrote since.
pub record IsWire (wire : Wire) : Type 0 where
  pub held_within : wire.held ≤ HELD_OCTETS
  pub in_step : wire.check ≡ fold with_octet (2 ^ 16 - 1) (take wire.held wire.octets)
