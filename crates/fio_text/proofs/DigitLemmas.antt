use Rattle.std.proofs.Common.{◌≡◌, ℕ, zero, suc, ◌+◌, ◌-◌, ◌*◌, ◌/◌, ◌%◌, ◌^◌, ◌<◌, ◌==◌, Bool, true, false, ◌&&◌, inl, inr, List, [], ◌∷◌, ◌++◌, length, take, get_or, slice_index, refl, ap, ◌∙◌, arith}
use Rattle.std.proofs.lemmas.Bool.{and_parts, cases_lt, eqb-true}
use Rattle.std.proofs.lemmas.Fmt.{hex_byte}
use Rattle.std.proofs.lemmas.List.{take_more}
use Rattle.std.specs.Fmt.{digits, digit_glyph, padded_integral, format_spec}
use Rattle.hex.specs.Hex.{encode_with, encode_lower, lower_digits}
use Rattle.fio_text.specs.Digits.{digits_of}

-- the digits of two lists of octets follow one another
encode_with-append : (table front back : List ℕ)
    → encode_with table (front ++ back) ≡ encode_with table front ++ encode_with table back
unfolding encode_with
encode_with-append table [] back = refl
encode_with-append table (octet ∷ front) back = rw (encode_with-append table front back) refl

-- there are two digits for each octet
length-encode_with : (table octets : List ℕ) → length (encode_with table octets) ≡ 2 * length octets
unfolding encode_with
length-encode_with table [] = refl
length-encode_with table (octet ∷ octets) = let rest = length-encode_with table octets in omega (arith, rest)

pub length-digits_of : (octets : List ℕ) → length (digits_of octets) ≡ 2 * length octets
unfolding digits_of
length-digits_of octets = length-encode_with _ octets

-- the digits of two parts follow one another
pub digits_of-append : (front back : List ℕ) → digits_of (front ++ back) ≡ digits_of front ++ digits_of back
unfolding digits_of
digits_of-append front back = encode_with-append _ front back

-- no octets have no digits
pub encode_lower-none : encode_lower [] ≡ []
unfolding encode_with
encode_lower-none = refl

pub digits_of-none : digits_of [] ≡ []
unfolding digits_of
digits_of-none = encode_lower-none

-- one more octet has its digits after those of the octets before it
pub encode_lower-more : (octets : List ℕ) (place : ℕ) → place < length octets
    → encode_lower (take (place + 1) octets) ≡ encode_lower (take place octets) ++ encode_lower (get_or octets place 0 ∷ [])
encode_lower-more octets place within =
    ap encode_lower (take_more octets place 0 within) ∙ encode_with-append _ (take place octets) _

-- the test whether the digits below n are those of the table, in a form that computes
abbrev are_digits : ℕ → Bool
are_digits zero = true
are_digits (suc n) = (digit_glyph false n == slice_index lower_digits n) && are_digits n

-- a digit below n passed the test
are_digits-at : (n digit : ℕ) → are_digits n ≡ true → digit < n
    → digit_glyph false digit ≡ slice_index lower_digits digit
are_digits-at zero digit passed below = absurd (omega arith)
are_digits-at (suc n) digit passed below =
    let parts = and_parts (digit_glyph false n == slice_index lower_digits n) (are_digits n) passed in
    elim (cases_lt digit n) [
      | inl less ↦ are_digits-at n digit parts.1 less
      | inr top ↦
          let same : digit ≡ n = omega arith in
          rw same (eqb-true _ _ parts.0)
    ]

-- what `{:02x}` writes for an octet
pub octet_padded : (octet : ℕ) → octet < 256
    → padded_integral (format_spec 32 0 4 2 (2 ^ 64 - 1)) false [] (digits 16 false octet) ≡ encode_lower (octet ∷ [])
unfolding encode_with
octet_padded octet small =
    let high : digit_glyph false (octet / 16) ≡ slice_index lower_digits (octet / 16) = are_digits-at 16 (octet / 16) refl (omega arith) in
    let low : digit_glyph false (octet % 16) ≡ slice_index lower_digits (octet % 16) = are_digits-at 16 (octet % 16) refl (omega arith) in
    rw (hex_byte false octet small, high, low) refl
