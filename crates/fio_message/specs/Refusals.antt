-- Why octets are refused: they are empty, too long, of unknown type, or of another length than their type needs; the first
-- of these that applies counts (own profile).
use Rattle.std.specs.Prelude.{◌≡◌, ◌≢◌, ℕ, ◌<◌, ◌≤◌, List, [], ◌∷◌, length, Option, Some, None, slice_index_or}
use Rattle.fio_message.specs.Octets.{IsFrameLength}
use Rattle.fio_message.specs.declared.limits.TheConstants.{FRAME_OCTETS}
use Rattle.fio_message.specs.declared.faults.DecodeError.{DecodeError}
use Rattle.fio_message.specs.declared.faults.DecodeError.TheVariants.{Empty, TooLong, UnknownType, WrongLength}

-- The octets are refused for this fault. `needed` is how many octets a message with their type and count has, or None if no
-- message has their type.
abbrev pub Refuses : Option ℕ → List ℕ → DecodeError → Type 0
Refuses needed octets Empty = octets ≡ []
Refuses needed octets (TooLong got) = (got ≡ length octets) × (FRAME_OCTETS < got)
Refuses needed octets (UnknownType code) =
    IsFrameLength (length octets) × (code ≡ slice_index_or octets 0 0) × (needed ≡ None)
Refuses needed octets (WrongLength right got) =
    IsFrameLength got × (got ≡ length octets) × (needed ≡ Some right) × (right ≢ got)

-- The octets are a type and fields, fit in a frame, and have the length that their message needs: what remains if no fault
-- applies. The private first step of all decoders cites it.
pub record IsWhole (needed : Option ℕ) (octets : List ℕ) (code : ℕ) (fields : List ℕ) : Type 0 where
  pub parts : octets ≡ code ∷ fields
  pub frame : length octets ≤ FRAME_OCTETS
  pub needs : needed ≡ Some (length octets)
