-- Octets without escapes.
use Rattle.std.proofs.Common.{◌≡◌, ◌≢◌, ◌<◌, ℕ, None, true, false, Bool, List, [], ◌∷◌, ◌++◌, length, refl, arith, inl, inr}
use Rattle.std.specs.Prelude.{◌==◌, option_and_then, nat_le}
use Rattle.std.proofs.lemmas.Bool.{cases_Bool}
use Rattle.std.proofs.lemmas.Bool.Decides.{nat_tests}
use Rattle.std.proofs.lemmas.List.{length-append}
use Rattle.fio_form.specs.Wholes.{few_of, is_flag, plain_from, unescaped}
use Rattle.fio_form.specs.declared.octets.TheConstants.{OCTETS}

not_few : (octets : List ℕ) → OCTETS < length octets → nat_le (length octets) OCTETS ≡ false
not_few octets many = grind (arith, nat_tests)

-- octets of which there are too many are no more if others are after them
pub too_many_plain : (escape : Bool) (plain octets : List ℕ) → OCTETS < length plain → option_and_then few_of (plain_from escape plain octets) ≡ None
too_many_plain escape plain [] many = rw (not_few plain many) refl
too_many_plain escape plain (octet ∷ octets) many = elim (cases_Bool (is_flag octet)) [
  | inl flag ↦ rw flag refl
  | inr other ↦ elim (cases_Bool (octet == 125)) [
    | inl escaped ↦ rw (other, escaped) (too_many_plain true plain octets many)
    | inr bare ↦ rw (other, bare) (too_many_plain false (plain ++ unescaped escape octet ∷ []) octets
        (omega (arith, many, length-append plain (unescaped escape octet ∷ []))))
  ]
]

pub plain_step : (escape : Bool) (plain : List ℕ) (octet : ℕ) (octets : List ℕ) → octet ≢ 126 → octet ≢ 125
    → plain_from escape plain (octet ∷ octets) ≡ plain_from false (plain ++ unescaped escape octet ∷ []) octets
plain_step escape plain octet octets flag mark =
    let other : is_flag octet ≡ false = grind (arith, nat_tests) in
    let bare : (octet == 125) ≡ false = grind (arith, nat_tests) in
    rw (other, bare) refl
