-- How long a message is, by its first octets.
use Rattle.std.proofs.Common.{◌≡◌, ℕ, ◌+◌, ◌*◌, true, List, [], ◌∷◌, ◌++◌, length, refl, sym, ap, ◌∙◌, inl, inr, arith}
use Rattle.std.specs.Prelude.{is_some, Option, ◌==◌, ◌⊎◌, ◌&&◌, nat_le, nat_lt}
use Rattle.std.proofs.lemmas.Bool.{and_parts, cases_Bool, eqb-true, false≢true}
use Rattle.fio_message.proofs.Cases.{◌⊳◌, at_codes}
use Rattle.fio_message.proofs.CommandLaws.{command_unknown}
use Rattle.fio_message.proofs.AnswerLaws.{answer_unknown}
use Rattle.fio_message.specs.Commands.{command_length}
use Rattle.fio_message.specs.Answers.{answer_length}
use Rattle.fio_message.specs.Reading.{command_at, answer_at}
use Rattle.fio_message.specs.Decoding.{is_length, message_in}
use Rattle.fio_message.specs.declared.limits.TheConstants.{BODY_OCTETS}
use Rattle.fio_form.specs.Messages.{is_message, size_of}
use Rattle.fio_form.specs.declared.message.Size.TheVariants as sizes

-- octets with this type and these fields have the length that their type needs
abbrev Fits : (List ℕ → Option ℕ) → ℕ → List ℕ → Type 0
Fits length_of code fields = is_length (length_of (code ∷ fields)) (1 + length fields) ≡ true

-- octets that begin with a message say how long it is, or its type may have any length
abbrev pub Sized : List ℕ → List ℕ → Type 0
Sized message check = (size_of (message ++ check) ≡ sizes.Any) ⊎ (size_of (message ++ check) ≡ sizes.Known (length message))

known : (needed code : ℕ) (fields : List ℕ) → (needed == 1 + length fields) ≡ true → sizes.Known needed ≡ sizes.Known (length (code ∷ fields))
known needed code fields is =
    let same : needed ≡ length (code ∷ fields) = omega (arith, eqb-true needed (1 + length fields) is) in
    ap sizes.Known same

-- octets with this type are so
abbrev IsSized : (List ℕ → Option ℕ) → ℕ → Type 0
IsSized length_of code = (fields check : List ℕ) → Fits length_of code fields → Sized (code ∷ fields) check

counted_51 : IsSized command_length 51
unfolding size_of
counted_51 [] check fits = absurd (false≢true fits)
counted_51 (count ∷ fields) check fits = inr (known (2 + 3 * count) 51 (count ∷ fields) fits)

counted_182 : IsSized answer_length 182
unfolding size_of
counted_182 [] check fits = absurd (false≢true fits)
counted_182 (number ∷ []) check fits = absurd (false≢true fits)
counted_182 (number ∷ (count ∷ fields)) check fits = inr (known (8 + 3 * count) 182 (number ∷ (count ∷ fields)) fits)

command_sized : (code : ℕ) → IsSized command_length code
unfolding size_of
command_sized code = at_codes (IsSized command_length) 49 12 code
    ((λ fields check fits. inr (known 2 49 fields fits)) ⊳ (λ fields check fits. inr (known 5 50 fields fits)) ⊳ counted_51
    ⊳ (λ fields check fits. inr (known 1 52 fields fits)) ⊳ (λ fields check fits. inr (known 1 53 fields fits)) ⊳ (λ fields check fits. inr (known 2 54 fields fits))
    ⊳ (λ fields check fits. inr (known 17 55 fields fits)) ⊳ (λ fields check fits. inl refl) ⊳ (λ fields check fits. inl refl)
    ⊳ (λ fields check fits. inr (known 2 58 fields fits)) ⊳ (λ fields check fits. inl refl) ⊳ (λ fields check fits. inr (known 1 60 fields fits)) ⊳ tt)
    (λ none fields check fits. absurd (false≢true (ap (λ needed. is_length needed (1 + length fields)) (sym (command_unknown code fields none)) ∙ fits)))

answer_sized : (code : ℕ) → IsSized answer_length code
unfolding size_of
answer_sized code = at_codes (IsSized answer_length) 177 12 code
    ((λ fields check fits. inr (known 8 177 fields fits)) ⊳ (λ fields check fits. inr (known 2 178 fields fits)) ⊳ (λ fields check fits. inr (known 2 179 fields fits))
    ⊳ (λ fields check fits. inr (known 13 180 fields fits)) ⊳ (λ fields check fits. inr (known 13 181 fields fits)) ⊳ counted_182
    ⊳ (λ fields check fits. inl refl) ⊳ (λ fields check fits. inl refl) ⊳ (λ fields check fits. inl refl)
    ⊳ (λ fields check fits. inr (known 2 186 fields fits)) ⊳ (λ fields check fits. inl refl) ⊳ (λ fields check fits. inl refl) ⊳ tt)
    (λ none fields check fits. absurd (false≢true (ap (λ needed. is_length needed (1 + length fields)) (sym (answer_unknown code fields none)) ∙ fits)))

-- ---- Messages

fits_of : {V : Type 0} (length_of : List ℕ → Option ℕ) (read : ℕ → List ℕ → V) (code : ℕ) (fields : List ℕ) → is_some (message_in length_of read (code ∷ fields)) ≡ true → Fits length_of code fields
unfolding message_in
fits_of length_of read code fields is = elim (cases_Bool (nat_le (length fields) BODY_OCTETS && is_length (length_of (code ∷ fields)) (1 + length fields))) [
  | inl both ↦ (and_parts (nat_le (length fields) BODY_OCTETS) (is_length (length_of (code ∷ fields)) (1 + length fields)) both).1
  | inr not_ ↦ absurd (false≢true (rw not_ at is))
]

pub sized : (message check : List ℕ) → is_message message ≡ true → Sized message check
unfolding message_in
sized [] check is = absurd (false≢true is)
sized (code ∷ fields) check is = elim (cases_Bool (nat_lt 127 code)) [
  | inl answer ↦ answer_sized code fields check (fits_of answer_length answer_at code fields (rw answer at is))
  | inr command ↦ command_sized code fields check (fits_of command_length command_at code fields (rw command at is))
]
