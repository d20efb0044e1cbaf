-- Faults in the flat form that C uses, and the reading of octets.
use Rattle.std.specs.Prelude.{◌≡◌, ◌≤◌, ℕ, ◌==◌, List, [], Option, Some, None, Result, Ok, Err, if◌then◌else◌, replicate}
use Rattle.fio_message.specs.declared.limits.TheConstants.{FRAME_OCTETS}
use Rattle.fio_message.specs.declared.faults.DecodeError.{DecodeError}
use Rattle.fio_message.specs.declared.faults.DecodeError.TheVariants.{Empty, TooLong, UnknownType, WrongLength}
use Rattle.fio_message.specs.Answers.{block_length}
use Rattle.fio_message.specs.Blocks.{Block, SpellsBlock}
use Rattle.fio_message.specs.Refusals.{Refuses}
use Rattle.fio_message.specs.Texts.{fault_text}
use Rattle.fio_flat.specs.declared.faults.Fault.{Fault}

-- the fault of octets that are a message: none
abbrev pub no_fault : Fault
no_fault = record { kind = 0; code = 0; needed = 0; reserved = replicate 4 0; got = 0 }

-- a fault of a decoder in flat form: its number in the order of the faults, and its figures
abbrev pub fault_of : DecodeError → Fault
fault_of Empty = record no_fault { kind = 1 }
fault_of (TooLong got) = record no_fault { kind = 2; got = got }
fault_of (UnknownType code) = record no_fault { kind = 3; code = code }
fault_of (WrongLength needed got) = record no_fault { kind = 4; needed = needed; got = got }

-- the fault of a decoder that a flat fault is by its kind, whatever its other figures are
abbrev pub error_in : Fault → Option DecodeError
error_in fault =
    if fault.kind == 1 then Some Empty
    else (if fault.kind == 2 then Some (TooLong fault.got)
    else (if fault.kind == 3 then Some (UnknownType fault.code)
    else (if fault.kind == 4 then Some (WrongLength fault.needed fault.got) else None)))

-- the text of a fault of a decoder, empty if there is no fault
abbrev pub text_of_error : Option DecodeError → List ℕ
text_of_error None = []
text_of_error (Some error) = fault_text error

-- the text of a flat fault, whatever its figures are: that of its kind; empty for kind 0, and for 5 and more
abbrev pub text_of_fault : Fault → List ℕ
text_of_fault fault = text_of_error (error_in fault)

-- the length that is needed, in a fault of length, fits in a frame
abbrev pub NeedFitsFrame : DecodeError → Type 0
NeedFitsFrame (WrongLength needed got) = needed ≤ FRAME_OCTETS
NeedFitsFrame other = Unit {0}

-- What a decoder returns, in flat form: the message is put into the caller's struct, with no fault; or the struct stays as
-- it was, with the fault.
abbrev pub Reads :
    {Message Flat : Type 0} → (Message → Flat) → Result Message DecodeError
    → Flat → Flat → Fault → Type 0
Reads flat (Ok message) before after fault = (fault ≡ no_fault) × (after ≡ flat message)
Reads flat (Err error) before after fault = (fault ≡ fault_of error) × (after ≡ before)

-- What reading a block answer returns, in flat form: the block that the octets encode, with no fault; or else the struct stays as
-- it was, with the fault for which the octets are refused.
pub record ReadsBlock {Flat : Type 0} (flat : Block → Flat)
    (octets : List ℕ) (before after : Flat) (fault : Fault) : Type 0 where
  pub spelled :
      (block : Block) → SpellsBlock block octets → (fault ≡ no_fault) × (after ≡ flat block)
  pub refused :
      (error : DecodeError) → Refuses (block_length octets) octets error
      → (fault ≡ fault_of error) × (after ≡ before)
