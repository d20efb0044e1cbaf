-- Frames, and what a line says of them: what lines of octets and lines of bits share. A part is what is on a line between two
-- flags next to each other.
use Rattle.std.specs.Prelude.{ℕ, ◌+◌, ◌-◌, ◌/◌, ◌%◌, ◌^◌, ◌==◌, ◌&&◌, ◌||◌, nat_lt, Bool, true, false, if◌then◌else◌, List, [], ◌∷◌, ◌++◌, length, take, drop, fold, slice_index_or}
use Rattle.fio_wire.specs.Checks.{frame_check_of, with_octet}
use Rattle.fio_wire.specs.declared.heard.WireHeard.{WireHeard}
use Rattle.fio_wire.specs.declared.heard.WireHeard.TheVariants.{Nothing, Message, Other, Damaged}
use Rattle.fio_wire.specs.declared.limits.TheConstants.{GOOD, HELD_OCTETS}

-- ---- What is sent

-- octets and their frame check, low octet first
abbrev pub with_check : List ℕ → List ℕ
with_check octets = octets ++ frame_check_of octets % 256 ∷ frame_check_of octets / 256 ∷ []

-- the frame of a message: address, control octet, message, frame check
abbrev pub frame_of : ℕ → ℕ → List ℕ → List ℕ
frame_of address control message = with_check (address ∷ control ∷ message)

-- ---- What a part says

-- whether the frame check at the end of octets is right: then the register that begins with all ones ends as this number
abbrev pub is_checked : List ℕ → Bool
is_checked octets = fold with_octet (2 ^ 16 - 1) octets == GOOD

-- whether octets are a frame: from 5 to 777, with a right frame check
abbrev pub is_frame : List ℕ → Bool
is_frame octets = nat_lt 4 (length octets) && (nat_lt (length octets) (HELD_OCTETS + 1) && is_checked octets)

-- what a line says: a frame came, or something that is none
pub data Said : Type 0 where
  Frame : List ℕ → Said
  Damage : Said

-- what the octets of a part say, and whether the part is broken off: nothing if there are none
abbrev pub judged : Bool → List ℕ → List Said
judged true octets = Damage ∷ []
judged false [] = []
judged false octets = (if is_frame octets then Frame octets else Damage) ∷ []

-- the address of a frame
abbrev pub address_in : List ℕ → ℕ
address_in frame = slice_index_or frame 0 0

-- the control octet of a frame
abbrev pub control_in : List ℕ → ℕ
control_in frame = slice_index_or frame 1 0

-- the message of a frame
abbrev pub message_of_frame : List ℕ → List ℕ
message_of_frame frame = take (length frame - 4) (drop 2 frame)

-- All that octets or bits of a line say one by one, from what is read before them: `says` is what one says, and `next` what is
-- read after it.
abbrev pub said_by_each : {Read One : Type 0} → (Read → One → List Said) → (Read → One → Read) → Read → List One → List Said
said_by_each says next reading [] = []
said_by_each says next reading (one ∷ line) = says reading one ++ said_by_each says next (next reading one) line

-- ---- What is heard

-- Which frames are one's own: those with this address and this control octet. Above 255 is any.
pub record WireSettings : Type 0 where
  pub address : ℕ
  pub control : ℕ

-- whether a setting is this octet, or any
abbrev pub admits : ℕ → ℕ → Bool
admits setting octet = nat_lt 255 setting || (setting == octet)

-- whether a frame is one's own
abbrev pub is_own : WireSettings → List ℕ → Bool
is_own settings frame = admits settings.address (address_in frame) && admits settings.control (control_in frame)

-- what is heard where a line says this
abbrev pub wire_heard : WireSettings → List Said → WireHeard
wire_heard settings [] = Nothing
wire_heard settings (Frame frame ∷ rest) = if is_own settings frame then Message else Other
wire_heard settings (Damage ∷ rest) = Damaged

-- whether neither a frame nor damage is heard
abbrev pub is_nothing : WireHeard → Bool
is_nothing Nothing = true
is_nothing heard = false
