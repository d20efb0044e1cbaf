-- The header of a frame: what is before its message.
use Rattle.std.specs.Prelude.{ℕ, ◌==◌, if◌then◌else◌, List, [], ◌∷◌}
use Rattle.fio_log.specs.declared.header.FrameHeader.{FrameHeader}

-- no header
abbrev pub no_header : FrameHeader
no_header = record { address = 0; control = 0; count = 0 }

-- the header of the first one of octets
abbrev pub one_of : List ℕ → FrameHeader
one_of [] = no_header
one_of (address ∷ octets) = record { address = address; control = 0; count = 1 }

-- the header of the first two of octets
abbrev pub two_of : List ℕ → FrameHeader
two_of [] = no_header
two_of (address ∷ []) = no_header
two_of (address ∷ control ∷ octets) = record { address = address; control = control; count = 2 }

-- the header of the second and the third of octets
abbrev pub two_behind : List ℕ → FrameHeader
two_behind [] = no_header
two_behind (octet ∷ octets) = two_of octets

-- the header in the first ones of octets, of which this many are before a message: more than three are the header of a packet
abbrev pub header_before : ℕ → List ℕ → FrameHeader
header_before count octets =
    if count == 1 then one_of octets
    else if count == 2 then two_of octets
    else if count == 3 then two_behind octets
    else no_header
