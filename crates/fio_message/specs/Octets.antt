-- Octets, and the parts of messages as octets. A number of several octets has its most significant octet first (TEES 2009).
use Rattle.std.specs.Prelude.{◌≡◌, ℕ, ◌+◌, ◌*◌, ◌^◌, ◌<◌, ◌≤◌, List, [], ◌∷◌, length}
use Rattle.std.specs.List.{AllByRecursion}
use Rattle.std.specs.Int.{w16, w64, to_be_bytes, to_le_bytes}
use Rattle.fio_message.specs.Bits.{bit_of}
use Rattle.fio_message.specs.declared.fields.InputItem.{InputItem}
use Rattle.fio_message.specs.declared.fields.Entry.{Entry}
use Rattle.fio_message.specs.declared.fields.TheConstants.{INPUT_NUMBERS}
use Rattle.fio_message.specs.declared.limits.TheConstants.{FRAME_OCTETS}

-- a number from 0 to 255
abbrev pub IsOctet : ℕ → Type 0
IsOctet n = n < 2 ^ 8

-- a list of octets
abbrev pub IsOctets : List ℕ → Type 0
IsOctets octets = AllByRecursion IsOctet octets

-- a number of octets that a frame can hold (own profile: 773 is the length of a block answer with 255 entries)
abbrev pub IsFrameLength : ℕ → Type 0
IsFrameLength n = (1 ≤ n) × (n ≤ FRAME_OCTETS)

-- exactly eight octets: the length of each half of the outputs
abbrev pub IsEight : List ℕ → Type 0
IsEight octets = (length octets ≡ 8) × IsOctets octets

-- An item of the configuration of inputs: the ignore flag in bit 7 and the input number in bits 6
-- to 0, then the leading and the trailing filter (TEES 2009).
abbrev pub item_octets : InputItem → List ℕ
item_octets item = (INPUT_NUMBERS * bit_of item.ignore + item.input) ∷ item.leading ∷ item.trailing ∷ []

-- the numbers of an item are within the ranges of their types
abbrev pub IsItem : InputItem → Type 0
IsItem item = (item.input < INPUT_NUMBERS) × IsOctet item.leading × IsOctet item.trailing

-- An entry of a block: the state after the transition in bit 7 and the input number in bits 6 to 0,
-- then the low 16 bits of the counter (TEES 2009).
abbrev pub entry_octets : Entry → List ℕ
entry_octets entry = (INPUT_NUMBERS * bit_of entry.level + entry.input) ∷ to_be_bytes w16 entry.stamp

-- the numbers of an entry are within the ranges of their types
abbrev pub IsEntry : Entry → Type 0
IsEntry entry = (entry.input < INPUT_NUMBERS) × (entry.stamp < 2 ^ 16)

-- The levels of the 64 inputs: input 0 is the lowest bit of the first octet, and input 63 the
-- highest bit of the eighth (own profile).
abbrev pub inputs_octets : ℕ → List ℕ
inputs_octets inputs = to_le_bytes w64 inputs
