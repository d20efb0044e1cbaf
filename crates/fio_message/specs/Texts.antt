-- The texts of faults, with decimal numbers (own profile).
use Rattle.std.specs.Prelude.{ℕ, List, ◌++◌, codes, decimal}
use Rattle.fio_message.specs.declared.faults.DecodeError.{DecodeError}
use Rattle.fio_message.specs.declared.faults.DecodeError.TheVariants.{Empty, TooLong, UnknownType, WrongLength}

-- the text of this fault, without a line end
abbrev pub fault_text : DecodeError → List ℕ
fault_text Empty = codes "empty"
fault_text (TooLong got) = codes "too long got " ++ decimal got
fault_text (UnknownType code) = codes "unknown type " ++ decimal code
fault_text (WrongLength needed got) =
    codes "wrong length needed " ++ (decimal needed ++ (codes " got " ++ decimal got))

-- the text for an allocation that failed
abbrev pub memory_text : List ℕ
memory_text = codes "out of memory"
