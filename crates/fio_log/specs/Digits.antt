-- Characters of words and of numbers.
use Rattle.std.specs.Prelude.{ℕ, ◌-◌, ◌&&◌, ◌||◌, ◌==◌, Bool, nat_le, if◌then◌else◌, Option, Some, None}

-- whether a character is between a first and a last one, both included
abbrev pub is_between : ℕ → ℕ → ℕ → Bool
is_between low high character = nat_le low character && nat_le character high

-- the value of a digit: `0` to `9` are 48 to 57, `A` to `F` are 65 to 70, `a` to `f` are 97 to 102
abbrev pub digit_of : ℕ → Option ℕ
digit_of character =
    if is_between 48 57 character then Some (character - 48)
    else if is_between 65 70 character then Some (character - 55)
    else if is_between 97 102 character then Some (character - 87)
    else None

-- Whether a character belongs to words: letters, digits and `_` of ASCII, and the octets of all other letters and
-- signs, which are 128 or more.
abbrev pub is_letter : ℕ → Bool
is_letter character =
    is_between 48 57 character || is_between 65 90 character || is_between 97 122 character || character == 95
    || nat_le 128 character
