-- Pairs of hexadecimal digits: an octet at a time is read as a character at a time.
use Rattle.std.proofs.Common.{◌≡◌, ◌<◌, ◌≤◌, ◌+◌, ◌*◌, ◌∙◌, ℕ, false, List, [], ◌∷◌, ◌++◌, drop, length, slice_index_or, refl, sym, ap, arith, inl, inr}
use Rattle.std.specs.Prelude.{Option, Some, None, nat_le, nat_lt}
use Rattle.std.proofs.lemmas.Bool.{cases_Bool}
use Rattle.std.proofs.lemmas.Bool.Decides.{nat_tests}
use Rattle.std.proofs.lemmas.List.{drop_all, drop_more}
use Rattle.fio_form.specs.Forms.{hex_value}
use Rattle.fio_form.specs.Octets.{octets_from, octet_of_pair, rest_from, steps_at}
use Rattle.fio_form.specs.declared.form.Digits.TheVariants.{Pairs}
use Rattle.fio_form.specs.declared.form.Step.{Step}
use Rattle.fio_form.specs.declared.form.Step.TheVariants.{Octet}
use Rattle.fio_form.specs.declared.octets.Begun.TheVariants.{Nothing}

few_first : (x : ℕ) → nat_le 16 x ≡ false → nat_lt 255 (16 * 0 + x) ≡ false
few_first x fits = grind (arith, nat_tests)

few_both : (x y : ℕ) → nat_le 16 x ≡ false → nat_le 16 y ≡ false → nat_lt 255 (16 * (16 * 0 + x) + y) ≡ false
few_both x y fits too = grind (arith, nat_tests)

pair_value : (x y : ℕ) → 16 * (16 * 0 + x) + y ≡ 16 * x + y
pair_value x y = omega arith

-- what is read, by the octet that two characters are
abbrev pub by_pair : Option ℕ → List ℕ → (ℕ → List ℕ) → List ℕ
by_pair None octets more = octets
by_pair (Some octet) octets more = more octet

pub pair_read : (cycle steps : List Step) (octets text : List ℕ) (high low : ℕ)
    → octets_from Pairs cycle (Octet ∷ steps) Nothing octets (high ∷ (low ∷ text))
    ≡ by_pair (octet_of_pair high low) octets (λ octet. octets_from Pairs cycle (steps_at cycle steps text) Nothing (octets ++ octet ∷ []) text)
pair_read cycle steps octets text high low = elim (cases_Bool (nat_le 16 (hex_value high))) [
  | inl large ↦ rw large refl
  | inr fits ↦ elim (cases_Bool (nat_le 16 (hex_value low))) [
    | inl large ↦ rw fits (rw (few_first (hex_value high) fits) (rw large refl))
    | inr too ↦ rw fits (rw (few_first (hex_value high) fits) (rw too (rw (few_both (hex_value high) (hex_value low) fits too)
        (ap (λ octet. octets_from Pairs cycle (steps_at cycle steps text) Nothing (octets ++ octet ∷ []) text) (pair_value (hex_value high) (hex_value low))))))
  ]
]

pub pair_rest : (cycle steps : List Step) (rest text : List ℕ) (high low : ℕ)
    → rest_from Pairs cycle (Octet ∷ steps) Nothing rest (high ∷ (low ∷ text))
    ≡ by_pair (octet_of_pair high low) rest (λ octet. rest_from Pairs cycle (steps_at cycle steps text) Nothing text text)
pair_rest cycle steps rest text high low = elim (cases_Bool (nat_le 16 (hex_value high))) [
  | inl large ↦ rw large refl
  | inr fits ↦ elim (cases_Bool (nat_le 16 (hex_value low))) [
    | inl large ↦ rw fits (rw (few_first (hex_value high) fits) (rw large refl))
    | inr too ↦ rw fits (rw (few_first (hex_value high) fits) (rw too (rw (few_both (hex_value high) (hex_value low) fits too) refl)))
  ]
]

-- one character is no pair
pub one_read : (cycle steps : List Step) (octets : List ℕ) (high : ℕ) → octets_from Pairs cycle (Octet ∷ steps) Nothing octets (high ∷ []) ≡ octets
one_read cycle steps octets high = elim (cases_Bool (nat_le 16 (hex_value high))) [
  | inl large ↦ rw large refl
  | inr fits ↦ rw fits (rw (few_first (hex_value high) fits) refl)
]

pub one_rest : (cycle steps : List Step) (rest : List ℕ) (high : ℕ) → rest_from Pairs cycle (Octet ∷ steps) Nothing rest (high ∷ []) ≡ rest
one_rest cycle steps rest high = elim (cases_Bool (nat_le 16 (hex_value high))) [
  | inl large ↦ rw large refl
  | inr fits ↦ rw fits (rw (few_first (hex_value high) fits) refl)
]

-- where two characters are an octet, what is read goes on after it
pub some_read : (cycle steps : List Step) (octets text : List ℕ) (high low octet : ℕ) (all : List ℕ) → octet_of_pair high low ≡ Some octet
    → octets_from Pairs cycle (Octet ∷ steps) Nothing octets (high ∷ (low ∷ text)) ≡ all
    → octets_from Pairs cycle (steps_at cycle steps text) Nothing (octets ++ octet ∷ []) text ≡ all
some_read cycle steps octets text high low octet all is here =
    sym (ap (λ (pair : Option ℕ). by_pair pair octets (λ octet. octets_from Pairs cycle (steps_at cycle steps text) Nothing (octets ++ octet ∷ []) text)) is)
    ∙ (sym (pair_read cycle steps octets text high low) ∙ here)

pub some_rest : (cycle steps : List Step) (rest text : List ℕ) (high low octet : ℕ) (all : List ℕ) → octet_of_pair high low ≡ Some octet
    → rest_from Pairs cycle (Octet ∷ steps) Nothing rest (high ∷ (low ∷ text)) ≡ all
    → rest_from Pairs cycle (steps_at cycle steps text) Nothing text text ≡ all
some_rest cycle steps rest text high low octet all is here =
    sym (ap (λ (pair : Option ℕ). by_pair pair rest (λ octet. rest_from Pairs cycle (steps_at cycle steps text) Nothing text text)) is)
    ∙ (sym (pair_rest cycle steps rest text high low) ∙ here)

-- two characters that a text has at a place
pub two_at : (text : List ℕ) (place : ℕ) → place + 1 < length text
    → drop place text ≡ slice_index_or text place 0 ∷ (slice_index_or text (place + 1) 0 ∷ drop (place + 2) text)
two_at text place left =
    let two : (place + 1) + 1 ≡ place + 2 = omega arith in
    drop_more text place 0 (omega (arith, left))
    ∙ ap (λ (rest : List ℕ). slice_index_or text place 0 ∷ rest)
    (drop_more text (place + 1) 0 left ∙ ap (λ (at : ℕ). slice_index_or text (place + 1) 0 ∷ drop at text) two)

-- the last character of a text
pub last_at : (text : List ℕ) (place : ℕ) → place < length text → length text ≤ place + 1 → drop place text ≡ slice_index_or text place 0 ∷ []
last_at text place left last =
    drop_more text place 0 left ∙ ap (λ (rest : List ℕ). slice_index_or text place 0 ∷ rest) (drop_all (place + 1) text last)

-- an octet is next in a cycle
pub octet_at : (cycle : List Step) (at : ℕ) → at < length cycle → slice_index_or cycle at Octet ≡ Octet → drop at cycle ≡ Octet ∷ drop (at + 1) cycle
octet_at cycle at left is = drop_more cycle at Octet left ∙ ap (λ (step : Step). step ∷ drop (at + 1) cycle) is
