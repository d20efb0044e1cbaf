-- Messages of modules of another size.
use Rattle.std.specs.Prelude.{ℕ, ◌-◌, ◌/◌, ◌%◌, ◌==◌, ◌||◌, nat_lt, if◌then◌else◌, List, [], ◌∷◌, length}

-- how many octets of levels are before a stamp of four octets, in this many: 1 to 32, else 0
abbrev pub levels_of : ℕ → ℕ
levels_of count = if nat_lt count 5 || nat_lt 36 count then 0 else count - 4

-- how many data octets are before as many control octets, in this many: 1 to 32, else 0
abbrev pub data_octets : ℕ → ℕ
data_octets count = if count == 0 || nat_lt 64 count || count % 2 == 1 then 0 else count / 2

-- how many octets of inputs or outputs a message of a type has, with this many octets after its type
abbrev pub octets_by_type : ℕ → ℕ → ℕ
octets_by_type code count =
    if code == 180 || code == 181 then levels_of count
    else (if code == 55 then data_octets count else 0)

-- how many octets of inputs or outputs a message has, if it may be one of a module of some size; else 0
abbrev pub size_octets : List ℕ → ℕ
size_octets [] = 0
size_octets (code ∷ rest) = octets_by_type code (length rest)
