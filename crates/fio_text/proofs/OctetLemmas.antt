-- Which words denote octets.
use Rattle.std.proofs.Common.{◌≡◌, ℕ, ◌%◌, ◌<◌, ◌==◌, Bool, true, false, List, length, Result, Ok, Err, None, refl, ap, sym, ◌∙◌, arith}
use Rattle.std.specs.Prelude.{is_some, option_map, Some, ◌/◌, if◌then◌else◌}
use Rattle.std.specs.Bool.{then_some}
use Rattle.std.specs.List.{list_all}
use Rattle.std.specs.Result.{result_ok}
use Rattle.std.proofs.lemmas.List.Sums.{AllPass-from_list_all, list_all-from_AllPass}
use Rattle.hex.proofs.HexLemmas.{decode_of-digits, decode_of-ok, decode_of-odd}
use Rattle.hex.specs.Hex.{decode_of, is_hex_digit}
use Rattle.hex.specs.declared.error.FromHexError.{FromHexError}
use Rattle.fio_text.specs.Hexadecimal.{octets_in}

-- an odd number of digits denotes none
pub odd_names_none : (word : List ℕ) → length word % 2 ≡ 1 → octets_in word ≡ None
odd_names_none word odd = rw (decode_of-odd word odd) (grind (arith))

same-digits : (word : List ℕ) (digits : Bool) (read : Result (List ℕ) FromHexError) → length word % 2 ≡ 0
    → list_all is_hex_digit word ≡ digits → decode_of word ≡ read → is_some (result_ok read) ≡ digits
same-digits word true (Ok octets) even all is = refl
same-digits word true (Err e) even all is =
    let found = decode_of-digits word even (AllPass-from_list_all is_hex_digit word all) in absurd (let same = sym found.1 ∙ is in cc)
same-digits word false (Ok octets) even all is =
    let found = list_all-from_AllPass is_hex_digit word (decode_of-ok word octets is).1 in absurd (let same = sym all ∙ found in cc)
same-digits word false (Err e) even all is = refl

-- an even number of octets that is not 0 denotes octets exactly if all of them are digits
pub digits_name : (word : List ℕ) → 0 < length word → length word % 2 ≡ 0 → is_some (octets_in word) ≡ list_all is_hex_digit word
digits_name word some even =
    let read = same-digits word (list_all is_hex_digit word) (decode_of word) even refl refl in
    let none : (length word == 0) ≡ false = grind (arith) in
    rw none read

counted-read : (word : List ℕ) (read : Result (List ℕ) FromHexError) (named : Bool) → decode_of word ≡ read → is_some (result_ok read) ≡ named
    → option_map length (result_ok read) ≡ then_some named (length word / 2)
counted-read word (Ok octets) true is some = let two = (decode_of-ok word octets is).2 in ap Some (omega (arith, two))
counted-read word (Ok octets) false is some = absurd (cc)
counted-read word (Err e) true is some = absurd (cc)
counted-read word (Err e) false is some = refl

counted-by : (word : List ℕ) (empty named : Bool) → (length word == 0) ≡ empty → is_some (if empty then None else result_ok (decode_of word)) ≡ named
    → option_map length (if empty then None else result_ok (decode_of word)) ≡ then_some named (length word / 2)
counted-by word true true is some = absurd (cc)
counted-by word true false is some = refl
counted-by word false named is some = counted-read word (decode_of word) named refl some

-- a word that denotes octets denotes half as many as it has digits
pub counted : (word : List ℕ) (named : Bool) → is_some (octets_in word) ≡ named
    → option_map length (octets_in word) ≡ then_some named (length word / 2)
counted word named some = counted-by word (length word == 0) named refl some
