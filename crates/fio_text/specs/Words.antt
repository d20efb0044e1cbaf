-- The words of a line, and the numbers that they denote.
use Rattle.std.specs.Prelude.{ℕ, ◌+◌, position, Bool, List, Option, Some, None, option_map, option_and_then, length, take, drop, ◌==◌, ◌&&◌, nat_lt, if◌then◌else◌}
use Rattle.std.specs.List.{list_all}
use Rattle.std.specs.Char.{is_ascii_digit}
use Rattle.std.specs.Str.{bytes_eq}
use Rattle.std.specs.Str.Parse.{digits_value}

-- what follows this beginning of a line, if the line begins with it
abbrev pub after_prefix : List ℕ → List ℕ → Option (List ℕ)
after_prefix prefix line =
    if bytes_eq (take (length prefix) line) prefix then Some (drop (length prefix) line) else None

-- the octet 32, which separates words
abbrev pub is_blank : ℕ → Bool
is_blank octet = octet == 32

-- what precedes the first blank of a line, and what follows it
abbrev pub halves_of : List ℕ → Option (List ℕ × List ℕ)
halves_of line = option_map (λ end. (take end line, drop (end + 1) line)) (position is_blank line)

-- one to nine decimal digits
abbrev pub is_number : List ℕ → Bool
is_number word = nat_lt 0 (length word) && (nat_lt (length word) 10 && list_all is_ascii_digit word)

-- N: the number that one to nine decimal digits denote; leading zeros are allowed
abbrev pub number_in : List ℕ → Option ℕ
number_in word = if is_number word then Some (digits_value 10 word) else None

-- a number, if it is at most 255
abbrev pub up_to_255 : ℕ → Option ℕ
up_to_255 number = if nat_lt number 256 then Some number else None

-- B: a number of at most 255
abbrev pub small_number_in : List ℕ → Option ℕ
small_number_in word = option_and_then up_to_255 (number_in word)
