-- Characters that a piece has none of.
use Rattle.std.proofs.Common.{◌≡◌, ℕ, true, false, refl, sym, ◌∙◌, inl, inr, arith}
use Rattle.std.specs.Prelude.{not, ◌==◌}
use Rattle.std.proofs.lemmas.Bool.{cases_Bool, false≢true, eqb-true}
use Rattle.std.proofs.lemmas.Bool.Decides.{nat_tests}
use Rattle.fio_form.specs.Forms.{is_space_or_tab, is_blanks, is_decimal, is_hex, is_numeric, is_part, is_quotation}
use Rattle.fio_form.specs.declared.form.Piece.{Piece}
use Rattle.fio_form.specs.declared.form.Piece.TheVariants.{Character, Decimal, Blanks, Quote}

pub decimal_hex : (x : ℕ) → is_decimal x ≡ true → is_hex x ≡ true
decimal_hex x is = grind (arith, nat_tests)

pub hex_not_blank : (x : ℕ) → is_hex x ≡ true → is_space_or_tab x ≡ false
hex_not_blank x is = elim (cases_Bool (is_space_or_tab x)) [
  | inl blank ↦ absurd (false≢true (blank_not x blank ∙ is))
  | inr other ↦ other
]
  where
    blank_not : (x : ℕ) → is_space_or_tab x ≡ true → false ≡ is_hex x
    blank_not x blank = elim (cases_Bool (x == 32)) [
      | inl space ↦ rw (eqb-true x 32 space) refl
      | inr other ↦ (let tab : (x == 9) ≡ true = rw other at blank in rw (eqb-true x 9 tab) refl)
    ]

-- what a piece without digits has none part of
pub digit_apart : (piece : Piece) (x : ℕ) → not (is_numeric piece) ≡ true → is_hex x ≡ true → is_part piece x ≡ false
digit_apart (Character mark) x none is = refl
digit_apart Blanks x none is = hex_not_blank x is
digit_apart Quote x none is = refl
digit_apart _ x none is = absurd (false≢true none)

pub blank_apart : (piece : Piece) (x : ℕ) → not (is_blanks piece) ≡ true → is_space_or_tab x ≡ true → is_part piece x ≡ false
blank_apart (Character mark) x none is = refl
blank_apart Decimal x none is = elim (cases_Bool (is_decimal x)) [
  | inl digit ↦ absurd (false≢true (sym (hex_not_blank x (decimal_hex x digit)) ∙ is))
  | inr other ↦ other
]
blank_apart Blanks x none is = absurd (false≢true none)
blank_apart Quote x none is = refl
blank_apart _ x none is = elim (cases_Bool (is_hex x)) [
  | inl digit ↦ absurd (false≢true (sym (hex_not_blank x digit) ∙ is))
  | inr other ↦ other
]

pub double_apart : (piece : Piece) → is_part piece 34 ≡ false
double_apart (Character mark) = refl
double_apart _ = refl

pub single_apart : (piece : Piece) → is_part piece 39 ≡ false
single_apart (Character mark) = refl
single_apart _ = refl

pub quote_apart : (piece : Piece) (x : ℕ) → is_quotation x ≡ true → is_part piece x ≡ false
quote_apart piece x is = elim (cases_Bool (x == 34)) [
  | inl double ↦ rw (eqb-true x 34 double) (double_apart piece)
  | inr other ↦ (let single : (x == 39) ≡ true = rw other at is in rw (eqb-true x 39 single) (single_apart piece))
]
