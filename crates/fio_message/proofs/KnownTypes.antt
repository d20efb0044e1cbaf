-- Which types of messages are known.
use Rattle.fio_message.proofs.Names.{◌≡◌, ◌↔◌, ℕ, zero, suc, ◌+◌, ◌≤◌, List, [], ◌∷◌, Option, Some, None, refl, arith, command_length, answer_length, block_length, NeedsTheSame, IsKnownWithin}
use Rattle.fio_message.proofs.Cases.{HoldsFrom, IsNoneFrom, at_code, at_codes, above}
use Rattle.fio_message.proofs.CommandLaws.{command_unknown}
use Rattle.fio_message.proofs.AnswerLaws.{answer_unknown}

-- a length that is needed is not none
needed : (n : ℕ) → Some n ≡ None → ⊥
needed n e = absurd cc

module _ (length_of : List ℕ → Option ℕ) (low high : ℕ) (fields : List ℕ) where
  -- a code is known, and so needs a length
  abbrev Needs : ℕ → Type 0
  Needs code = length_of (code ∷ fields) ≡ None → ⊥

  -- a code needs no length exactly if it is outside these
  abbrev Known : ℕ → Type 0
  Known code = (length_of (code ∷ fields) ≡ None) ↔ ((low ≤ code) × (code ≤ high) → ⊥)

  -- what needs a length and is within these is known
  known_from : (from n : ℕ) → low ≤ from → from + n ≡ suc high → HoldsFrom Needs from n → HoldsFrom Known from n
  known_from from zero le end each = tt
  known_from from (suc n) le end each = (
    (λ e. absurd (each.0 e), λ out. absurd (out (le, omega (arith, end)))),
    known_from (suc from) n (omega (arith, le)) (omega (arith, end)) each.1,
  )

  -- n successive types from `low` on are the known ones, if each of these needs a length and no other does
  known_within : (n code : ℕ) → low + n ≡ suc high → HoldsFrom Needs low n
      → (IsNoneFrom code low n → length_of (code ∷ fields) ≡ None) → Known code
  known_within n code end each other =
      at_codes Known low n code (known_from low n (omega arith) end each)
      (λ none. (λ e p. omega (arith, above low n code p.0 none, p.1, end), λ out. other none))

-- commands are those of types 49 to 60
pub command_codes : IsKnownWithin command_length 49 60
command_codes code fields =
    known_within command_length 49 60 fields 12 code refl
    (needed _, (needed _, (needed _, (needed _, (needed _, (needed _, (needed _, (needed _, (needed _, (needed _, (needed _, (needed _, tt))))))))))))
    (command_unknown code fields)

-- answers are those of types 177 to 188
pub answer_codes : IsKnownWithin answer_length 177 188
answer_codes code fields =
    known_within answer_length 177 188 fields 12 code refl
    (needed _, (needed _, (needed _, (needed _, (needed _, (needed _, (needed _, (needed _, (needed _, (needed _, (needed _, (needed _, tt))))))))))))
    (answer_unknown code fields)

-- block answers are those of type 182
pub block_codes : IsKnownWithin block_length 182 182
block_codes code fields = known_within block_length 182 182 fields 1 code refl (needed _, tt) (λ none. rw none.0 refl)

-- a block answer needs the same length among all answers
pub block_answer_needs : NeedsTheSame
block_answer_needs [] needed e = absurd cc
block_answer_needs (code ∷ fields) needed e =
    let Same : ℕ → Type 0 = λ c. block_length (c ∷ fields) ≡ Some needed → answer_length (c ∷ fields) ≡ Some needed in
    at_code Same 182 code (λ is. is) (λ other is. let none : None ≡ Some needed = rw other at is in absurd cc) e
