-- How many bits a message takes on a line: those of its octets, of the header and the frame check, and of two flags, with
-- stuffing.
use Rattle.std.specs.Prelude.{ℕ, ◌+◌, ◌*◌, ◌/◌, ◌≡◌, ◌≤◌, Bool, List, ◌++◌, length}
use Rattle.fio_wire.specs.Frames.{frame_of}
use Rattle.fio_wire.specs.Octets.{sent}
use Rattle.fio_wire.specs.Bits.{bit_stuffed, flag_bits, line_bits}
use Rattle.fio_wire.specs.declared.line_kind.LineKind.{LineKind}
use Rattle.fio_wire.specs.declared.line_kind.LineKind.TheVariants.{Asynchronous, Synchronous}

-- a message as it is sent in bits, with its flags
abbrev pub sent_bits : ℕ → ℕ → List ℕ → List Bool
sent_bits address control message = flag_bits ++ (bit_stuffed 0 (line_bits (frame_of address control message)) ++ flag_bits)

-- how many bits a message takes: an octet on an asynchronous line has a start bit, 8 bits and the stop bits
abbrev pub bits_of_message : LineKind → ℕ → ℕ → List ℕ → ℕ
bits_of_message (Asynchronous stop) address control message = (1 + 8 + stop) * length (sent address control message)
bits_of_message Synchronous address control message = length (sent_bits address control message)

-- the bits of octets with a 0 after each five of them
abbrev pub most_stuffed : ℕ → ℕ
most_stuffed octets = 8 * octets + 8 * octets / 5

-- the most bits that a message of this number of octets takes: with each octet stuffed, or a 0 after each five bits
abbrev pub most_bits : LineKind → ℕ → ℕ
most_bits (Asynchronous stop) octets = (1 + 8 + stop) * (1 + 2 * (octets + 4) + 1)
most_bits Synchronous octets = 8 + most_stuffed (octets + 4) + 8

-- a message takes no more bits than the most
abbrev pub TakesFewBits : Type 0
TakesFewBits = (kind : LineKind) (address control : ℕ) (message : List ℕ) →
    bits_of_message kind address control message ≤ most_bits kind (length message)

-- a message that takes the most bits
pub record TakesMostBits (kind : LineKind) (address control : ℕ) (message : List ℕ) : Type 0 where
  pub all : bits_of_message kind address control message ≡ most_bits kind (length message)
