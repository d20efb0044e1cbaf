-- What octets say of messages by themselves.
use Rattle.std.specs.Prelude.{ℕ, ◌+◌, ◌*◌, ◌==◌, ◌&&◌, ◌||◌, Bool, false, not, nat_lt, if◌then◌else◌, List, [], ◌∷◌, is_some, slice_index, length, ◌≤◌}
use Rattle.fio_message.specs.Decoding.{command_in, answer_in}
use Rattle.fio_form.specs.declared.message.Size.{Size}
use Rattle.fio_form.specs.declared.message.Size.TheVariants.{Unknown, Known, Any, None}

-- whether octets encode one message: an answer, if the first one is above 127, and else a command
abbrev pub is_message : List ℕ → Bool
is_message octets = if nat_lt 127 (slice_index octets 0) then is_some (answer_in octets) else is_some (command_in octets)

-- whether a message of this type may have any length
abbrev pub is_free : ℕ → Bool
is_free code = code == 56 || code == 57 || code == 59 || code == 183 || code == 184 || code == 185 || code == 187 || code == 188

-- how long a message is that has items of three octets, by their count, if it is there
abbrev pub size_by_count : ℕ → List ℕ → Size
size_by_count fixed [] = Unknown
size_by_count fixed (count ∷ rest) = Known (fixed + 3 * count)

-- how long a block answer is, by what follows its type: its number and its count
abbrev pub size_of_block : List ℕ → Size
size_of_block [] = Unknown
size_of_block (number ∷ rest) = size_by_count 8 rest

-- how long a message of a type is
abbrev pub size_of_type : ℕ → List ℕ → Size
size_of_type code rest =
    if is_free code then Any
    else (if code == 52 || code == 53 || code == 60 then Known 1
    else (if code == 49 || code == 54 || code == 58 || code == 178 || code == 179 || code == 186 then Known 2
    else (if code == 50 then Known 5
    else (if code == 55 then Known 17
    else (if code == 177 then Known 8
    else (if code == 180 || code == 181 then Known 13
    else (if code == 51 then size_by_count 2 rest
    else (if code == 182 then size_of_block rest else None))))))))

-- how long the message is that octets begin
unfoldable pub size_of : List ℕ → Size
size_of [] = Unknown
size_of (code ∷ rest) = size_of_type code rest

-- whether an octet is the type of the answer to a command of a type
abbrev pub is_type_of_answer : ℕ → ℕ → Bool
is_type_of_answer command answer = nat_lt command 128 && (answer == command + 128) && not (command == 54)

-- whether an answer with these first octets may be the answer to a command, by its octets after the type
abbrev pub is_answer_of : ℕ → List ℕ → ℕ → ℕ → Bool
is_answer_of command [] answer second = is_type_of_answer command answer
is_answer_of command (block ∷ more) answer second =
    if command == 54 && answer == 182 then block == second else is_type_of_answer command answer

-- whether a message may be the answer to a command, by their first octets
unfoldable pub may_answer : List ℕ → List ℕ → Bool
may_answer [] answer = false
may_answer (command ∷ more) [] = false
may_answer (command ∷ more) (answer ∷ []) = false
may_answer (command ∷ more) (answer ∷ second ∷ rest) = is_answer_of command more answer second

-- a message whose length is known has at most 773 octets
abbrev pub IsFew : Size → Type 0
IsFew (Known size) = size ≤ 773
IsFew _ = Unit {0}

-- whether octets of which this many begin a message of this size are not all of it
abbrev pub is_short : Size → ℕ → Bool
is_short Unknown count = nat_lt 0 count
is_short (Known size) count = nat_lt count size
is_short _ count = false

-- whether octets begin a message and are not all of it
abbrev pub is_begun : List ℕ → Bool
is_begun octets = is_short (size_of octets) (length octets)
