-- How many fields the messages of each type have.
use Rattle.fio_message.proofs.Names.{◌≡◌, ℕ, suc, ◌+◌, ◌*◌, ◌<◌, ◌≤◌, List, [], ◌∷◌, length, get_or, Option, Some, None, refl, ap, arith, BODY_OCTETS, command_length, answer_length, block_length}
use Rattle.std.specs.Prelude.{Contains}
use Rattle.fio_message.proofs.Cases.{◌⊳◌, at_codes}
use Rattle.fio_message.proofs.CommandLaws.{command_unknown}
use Rattle.fio_message.proofs.AnswerLaws.{answer_unknown}

-- The messages of a type have a fixed number of fields, or one of them is a count of parts of three octets, or they have any
-- number, and the type is listed; or the type is not known.
pub data HasLength (any_length : List ℕ) (length_of : List ℕ → Option ℕ) (code : ℕ) : Type 0 where
  Fixed : (n : ℕ) (fits : n ≤ BODY_OCTETS) (needs : (fields : List ℕ) → length_of (code ∷ fields) ≡ Some (suc n))
      → HasLength any_length length_of code
  Counted : (base place : ℕ) (within : place < base) (fits : base ≤ 7)
      (needs : (fields : List ℕ) → length_of (code ∷ fields) ≡ Some (suc (base + 3 * get_or fields place 0)))
      → HasLength any_length length_of code
  AnyLength : (listed : Contains any_length code)
      (needs : (fields : List ℕ) → length_of (code ∷ fields) ≡ Some (suc (length fields)))
      → HasLength any_length length_of code
  Unknown : (none : (fields : List ℕ) → length_of (code ∷ fields) ≡ None) → HasLength any_length length_of code

-- the types of commands with any length
abbrev pub any_commands : List ℕ
any_commands = 56 ∷ 57 ∷ 59 ∷ []

pub command_has_length : (code : ℕ) → HasLength any_commands command_length code
command_has_length code =
    at_codes (HasLength any_commands command_length) 49 12 code
    (Fixed 1 (omega arith) (λ f. refl)
    ⊳ Fixed 4 (omega arith) (λ f. refl)
    ⊳ Counted 1 0 (omega arith) (omega arith) (λ f. ap Some (omega arith))
    ⊳ Fixed 0 (omega arith) (λ f. refl)
    ⊳ Fixed 0 (omega arith) (λ f. refl)
    ⊳ Fixed 1 (omega arith) (λ f. refl)
    ⊳ Fixed 16 (omega arith) (λ f. refl)
    ⊳ AnyLength (0, omega arith, refl) (λ f. ap Some (omega arith))
    ⊳ AnyLength (1, omega arith, refl) (λ f. ap Some (omega arith))
    ⊳ Fixed 1 (omega arith) (λ f. refl)
    ⊳ AnyLength (2, omega arith, refl) (λ f. ap Some (omega arith))
    ⊳ Fixed 0 (omega arith) (λ f. refl)
    ⊳ tt)
    (λ none. Unknown (λ fields. command_unknown code fields none))

-- the types of answers with any length
abbrev pub any_answers : List ℕ
any_answers = 183 ∷ 184 ∷ 185 ∷ 187 ∷ 188 ∷ []

pub answer_has_length : (code : ℕ) → HasLength any_answers answer_length code
answer_has_length code =
    at_codes (HasLength any_answers answer_length) 177 12 code
    (Fixed 7 (omega arith) (λ f. refl)
    ⊳ Fixed 1 (omega arith) (λ f. refl)
    ⊳ Fixed 1 (omega arith) (λ f. refl)
    ⊳ Fixed 12 (omega arith) (λ f. refl)
    ⊳ Fixed 12 (omega arith) (λ f. refl)
    ⊳ Counted 7 1 (omega arith) (omega arith) (λ f. ap Some (omega arith))
    ⊳ AnyLength (0, omega arith, refl) (λ f. ap Some (omega arith))
    ⊳ AnyLength (1, omega arith, refl) (λ f. ap Some (omega arith))
    ⊳ AnyLength (2, omega arith, refl) (λ f. ap Some (omega arith))
    ⊳ Fixed 1 (omega arith) (λ f. refl)
    ⊳ AnyLength (3, omega arith, refl) (λ f. ap Some (omega arith))
    ⊳ AnyLength (4, omega arith, refl) (λ f. ap Some (omega arith))
    ⊳ tt)
    (λ none. Unknown (λ fields. answer_unknown code fields none))

pub block_has_length : (code : ℕ) → HasLength [] block_length code
block_has_length code =
    at_codes (HasLength [] block_length) 182 1 code
    (Counted 7 1 (omega arith) (omega arith) (λ f. ap Some (omega arith)) ⊳ tt)
    (λ none. Unknown (λ fields. rw none.0 refl))
