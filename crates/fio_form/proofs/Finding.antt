-- Where a form has octets in a line.
use Rattle.std.proofs.Common.{◌≡◌, ◌≢◌, ℕ, suc, ◌<◌, ◌≤◌, true, false, Bool, List, [], ◌∷◌, length, refl, ap, inl, inr, arith}
use Rattle.std.specs.Prelude.{nat_le, take}
use Rattle.std.proofs.lemmas.Bool.{cases_Bool, leb-true}
use Rattle.std.proofs.lemmas.Bool.Decides.{nat_tests}
use Rattle.std.proofs.lemmas.List.{length-take-le, take_all}
use Rattle.fio_form.specs.Fronts.{after_front}
use Rattle.fio_form.specs.Reading.{from_front, front_text, in_words, is_empty, octets_after, octets_found, octets_here, swapped}
use Rattle.fio_form.specs.declared.form.LineForm.{LineForm}
use Rattle.fio_form.specs.declared.form.Piece.{Piece}

some_there : (octets : List ℕ) → octets ≢ [] → is_empty octets ≡ false
some_there [] some = absurd (some refl)
some_there (octet ∷ octets) some = refl

pub front_here : (form : LineForm) (line text : List ℕ) → octets_here form line text ≢ [] → from_front form line text ≡ text
front_here form line [] some = refl
front_here form line (x ∷ text) some = rw (some_there (octets_here form line (x ∷ text)) some) refl

none_there : (octets : List ℕ) → octets ≡ [] → is_empty octets ≡ true
none_there octets none = ap is_empty none

pub front_on : (form : LineForm) (line : List ℕ) (x : ℕ) (text : List ℕ) → octets_here form line (x ∷ text) ≡ [] → from_front form line (x ∷ text) ≡ from_front form line text
front_on form line x text none = rw (none_there (octets_here form line (x ∷ text)) none) refl

after_nothing : (form : LineForm) (line values : List ℕ) (front : List Piece) → octets_after form line (after_front values front []) ≡ []
after_nothing form line values [] = refl
after_nothing form line values (piece ∷ front) = refl

-- there are no octets at the end of a line
pub nothing_here : (form : LineForm) (line : List ℕ) → octets_here form line [] ≡ []
nothing_here form line = after_nothing form line form.values.items form.front.items

pub found_at : (form : LineForm) (line text : List ℕ) → text ≡ front_text form line → octets_here form line text ≡ octets_found form line
unfolding octets_found
found_at form line text is = ap (octets_here form line) is

-- ---- As many octets as there is room for

words_size : (octets : List ℕ) → length (in_words octets) ≡ length octets
words_size (lower ∷ (upper ∷ octets)) = ap (λ n. suc (suc n)) (words_size octets)
words_size _ = refl

pub swapped_size : (swap : Bool) (octets : List ℕ) → length (swapped swap octets) ≡ length octets
unfolding swapped
swapped_size true octets = words_size octets
swapped_size false octets = refl

pub few_taken : {n : ℕ} (swap : Bool) (octets : List ℕ) → length (swapped swap (take n octets)) < n → take n octets ≡ octets
few_taken {n} swap octets few = elim (cases_Bool (nat_le (length octets) n)) [
  | inl within ↦ take_all n octets (leb-true (length octets) n within)
  | inr beyond ↦ (
      let many : n ≤ length octets = grind (arith, nat_tests) in
      absurd (omega (arith, few, length-take-le n octets many, swapped_size swap (take n octets))))
]

pub many_taken : {n : ℕ} (swap : Bool) (octets : List ℕ) → n ≤ length (swapped swap (take n octets)) → n ≤ length (swapped swap octets)
many_taken {n} swap octets many = elim (cases_Bool (nat_le (length octets) n)) [
  | inl within ↦ omega (arith, many, ap (λ (read : List ℕ). length (swapped swap read)) (take_all n octets (leb-true (length octets) n within)))
  | inr beyond ↦ (
      let more : n ≤ length octets = grind (arith, nat_tests) in
      omega (arith, more, swapped_size swap octets))
]
