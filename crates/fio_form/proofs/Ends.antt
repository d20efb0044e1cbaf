-- Texts that end within a front.
use Rattle.std.proofs.Common.{◌≡◌, ◌<◌, ◌≤◌, ℕ, zero, suc, true, List, [], ◌∷◌, length, refl, ap, ◌∙◌, eq-eqb, inl, inr, arith}
use Rattle.std.specs.Prelude.{drop, ◌==◌}
use Rattle.std.proofs.lemmas.Bool.{cases_Bool, eqb-true}
use Rattle.std.proofs.lemmas.Bool.Decides.{nat_tests}
use Rattle.fio_form.specs.Reading.{ends_in_front, is_empty}
use Rattle.fio_form.specs.declared.form.LineForm.{LineForm}
use Rattle.fio_form.specs.declared.form.Piece.{Piece}

pub empty_drop : (count : ℕ) (text : List ℕ) → count ≤ length text → (count == length text) ≡ is_empty (drop count text)
empty_drop zero [] h = refl
empty_drop zero (x ∷ text) h = grind (arith, nat_tests)
empty_drop (suc count) [] h = absurd (omega arith)
empty_drop (suc count) (x ∷ text) h =
    let same : (suc count == suc (length text)) ≡ (count == length text) = elim (cases_Bool (count == length text)) [
      | inl is ↦ rw is (eq-eqb (suc count) (suc (length text)) (ap suc (eqb-true count (length text) is)))
      | inr not_ ↦ grind (arith, nat_tests)
    ] in
    same ∙ empty_drop count text (omega arith)

pub ends_at : (form : LineForm) (line : List ℕ) (front : List Piece) → 0 < length front → ends_in_front form line front [] ≡ true
ends_at form line [] h = absurd (omega arith)
ends_at form line (piece ∷ front) h = refl
