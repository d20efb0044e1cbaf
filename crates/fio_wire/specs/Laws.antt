-- What a line may do to frames, and what is promised of it.
use Rattle.std.specs.Prelude.{ℕ, ◌%◌, ◌≡◌, ◌≢◌, ◌<◌, ◌≤◌, ◌⊎◌, Bool, true, false, if◌then◌else◌, List, [], ◌∷◌, ◌++◌, length, flat_map}
use Rattle.std.specs.List.{AllByRecursion}
use Rattle.fio_message.specs.declared.limits.TheConstants.{FRAME_OCTETS}
use Rattle.fio_wire.specs.Detection.{bits_of, damaged, flips, is_burst}
use Rattle.fio_wire.specs.Frames.{Said, Frame, Damage, is_checked, is_frame, said_by_each}
use Rattle.fio_wire.specs.Octets.{HasNoFlag, Reading, lost, next, said_in, says, stuffed, unstuffed}
use Rattle.fio_wire.specs.Bits.{HasNoSix, destuffed, line_bits, bit_stuffed}
use Rattle.fio_wire.specs.declared.limits.TheConstants.{FLAG}

-- each number is one of an octet
abbrev pub AreOctets : List ℕ → Type 0
AreOctets octets = AllByRecursion (λ octet. octet < 256) octets

-- What may be sent: octets, and a message of 1 to 773 of them.
pub record CanSend (address control : ℕ) (message : List ℕ) : Type 0 where
  pub octets : AreOctets (address ∷ control ∷ message)
  pub least : 1 ≤ length message
  pub most : length message ≤ FRAME_OCTETS

-- ---- Damage

-- An odd number of flips, as 1 and 3; two flips, fewer than 32,768 bits apart; or a burst of at most 16 bits.
abbrev pub IsDetectable : List Bool → Type 0
IsDetectable errors =
    (flips errors % 2 ≡ 1) ⊎ (((flips errors ≡ 2) × (length errors < 32768)) ⊎ (is_burst 16 errors ≡ true))

-- Octets came as others of the same number, with some bits flipped.
pub record Flips (errors : List Bool) (sent got : List ℕ) : Type 0 where
  pub octets_sent : AreOctets sent
  pub octets_got : AreOctets got
  pub size : length errors ≡ length (bits_of sent)
  pub bits : bits_of got ≡ damaged (bits_of sent) errors

-- bits, one of them flipped
abbrev pub OneFlip : List Bool → List Bool → Type 0
OneFlip [] others = ⊥
OneFlip (bit ∷ bits) [] = ⊥
OneFlip (bit ∷ bits) (other ∷ others) = ((bit ≢ other) × (bits ≡ others)) ⊎ ((bit ≡ other) × OneFlip bits others)

-- ---- Frames over a line of octets

-- What a line did to a frame: it came as it was sent, or other octets came between its flags.
pub data Fate : Type 0 where
  Kept : List ℕ → Fate
  Struck : List ℕ → List Bool → List ℕ → Fate

-- what came between the flags
abbrev pub part_between : Fate → List ℕ
part_between (Kept frame) = stuffed frame
part_between (Struck frame errors part) = part

-- the premise: flags are right, and damage is of a kind that the check finds
abbrev pub IsFate : Fate → Type 0
IsFate (Kept frame) = is_frame frame ≡ true
IsFate (Struck frame errors part) = HasNoFlag part × ((is_checked frame ≡ true) × (Flips errors frame (unstuffed false part) × IsDetectable errors))

-- a frame arrives whole or not at all
abbrev pub arrives : Fate → Said
arrives (Kept frame) = Frame frame
arrives (Struck frame errors part) = Damage

-- ---- Frames over a line of bits

-- What a line of bits did to a frame: it came as it was sent, or other bits came between its flags.
pub data BitFate : Type 0 where
  KeptBits : List ℕ → BitFate
  StruckBits : List ℕ → List Bool → List ℕ → List Bool → BitFate

-- what came between the flags
abbrev pub bits_between : BitFate → List Bool
bits_between (KeptBits frame) = bit_stuffed 0 (line_bits frame)
bits_between (StruckBits frame errors got part) = part

-- The premise: flags are right, no flag and no abort is made, the bits are as many without stuffing, and damage is of a kind
-- that the check finds. One flip can break the first three.
abbrev pub IsBitFate : BitFate → Type 0
IsBitFate (KeptBits frame) = AreOctets frame × (is_frame frame ≡ true)
IsBitFate (StruckBits frame errors got part) =
    HasNoSix 0 part × ((is_frame frame ≡ true) × ((destuffed 0 part ≡ line_bits got) × (Flips errors frame got × IsDetectable errors)))

-- a frame arrives whole or not at all
abbrev pub arrives_by_bits : BitFate → Said
arrives_by_bits (KeptBits frame) = Frame frame
arrives_by_bits (StruckBits frame errors got part) = Damage

-- ---- Lost octets

-- What a receiver gets of a line: an octet, or the report that one was lost.
pub data Arrival : Type 0 where
  Octet : ℕ → Arrival
  Loss : Arrival

-- what an arrival says
abbrev pub arrival_says : Reading → Arrival → List Said
arrival_says reading (Octet octet) = says reading octet
arrival_says reading Loss = []

-- what is read after it
abbrev pub after_arrival : Reading → Arrival → Reading
after_arrival reading (Octet octet) = next reading octet
after_arrival reading Loss = lost reading

-- all that a decoder says of what arrives
abbrev pub said_of_arrivals : Reading → List Arrival → List Said
said_of_arrivals reading arrivals = said_by_each arrival_says after_arrival reading arrivals

-- the octets that arrived
abbrev pub octets_arrived : List Arrival → List ℕ
octets_arrived [] = []
octets_arrived (Octet octet ∷ arrivals) = octet ∷ octets_arrived arrivals
octets_arrived (Loss ∷ arrivals) = octets_arrived arrivals

-- no flag is among the octets that arrived
abbrev pub ArrivesNoFlag : List Arrival → Type 0
ArrivesNoFlag arrivals = HasNoFlag (octets_arrived arrivals)

-- whether an octet was lost
abbrev pub has_loss : List Arrival → Bool
has_loss [] = false
has_loss (Octet octet ∷ arrivals) = has_loss arrivals
has_loss (Loss ∷ arrivals) = true

-- what a part says, as it arrived: damage if an octet was lost, whatever else there is
abbrev pub said_in_arrivals : List Arrival → List Said
said_in_arrivals part = if has_loss part then Damage ∷ [] else said_in (octets_arrived part)

-- parts, each with a flag after it
abbrev pub arrivals_with_flags : List (List Arrival) → List Arrival
arrivals_with_flags parts = flat_map (λ part. part ++ Octet FLAG ∷ []) parts
