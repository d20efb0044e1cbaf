-- Octets read from hexadecimal digits of either case, two for each octet.
use Rattle.std.specs.Prelude.{ℕ, List, Option, None, option_map, length, slice_index, ◌==◌, if◌then◌else◌}
use Rattle.std.specs.Result.{result_ok}
use Rattle.std.specs.Int.{w64, from_le_bytes}
use Rattle.hex.specs.Hex.{decode_of, decode_sized}

-- HEX: the octets that an even number of digits denote, at least two digits
abbrev pub octets_in : List ℕ → Option (List ℕ)
octets_in word = if length word == 0 then None else result_ok (decode_of word)

-- HH: the octet that exactly two digits denote
abbrev pub octet_of : List ℕ → Option ℕ
octet_of word = option_map (λ octets. slice_index octets 0) (result_ok (decode_sized word 1))

-- H16: the levels that exactly sixteen digits denote, with input 0 in the lowest bit of the first octet
abbrev pub inputs_of : List ℕ → Option ℕ
inputs_of word = option_map (from_le_bytes w64) (result_ok (decode_sized word 8))
