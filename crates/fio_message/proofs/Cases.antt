-- A claim about the code of a message, one code after another.
use Rattle.fio_message.proofs.Names.{◌≡◌, ℕ, zero, suc, ◌+◌, ◌≤◌, false, eqb, sym, subst, arith, inl, inr, cases_Bool, eqb-true, eqb-false}
use Rattle.std.specs.Prelude.{⊤}

-- what holds at k, and at a code that is not k, holds at the code
pub at_code : (P : ℕ → Type 0) (k code : ℕ) → P k → (eqb code k ≡ false → P code) → P code
at_code P k code here other =
    elim (cases_Bool (eqb code k)) [
      | inl e ↦ subst P (sym (eqb-true code k e)) here
      | inr e ↦ other e
    ]

-- it holds at n successive codes from `low` on
abbrev pub HoldsFrom : (P : ℕ → Type 0) → ℕ → ℕ → Type 0
HoldsFrom P low zero = ⊤
HoldsFrom P low (suc n) = P low × HoldsFrom P (suc low) n

-- a code is none of n successive codes from `low` on
abbrev pub IsNoneFrom : ℕ → ℕ → ℕ → Type 0
IsNoneFrom code low zero = ⊤
IsNoneFrom code low (suc n) = (eqb code low ≡ false) × IsNoneFrom code (suc low) n

-- if it holds at n successive codes, and at a code that is none of these, it holds at each code
pub at_codes : (P : ℕ → Type 0) (low n code : ℕ) → HoldsFrom P low n → (IsNoneFrom code low n → P code) → P code
at_codes P low zero code all other = other tt
at_codes P low (suc n) code all other =
    at_code P low code all.0 (λ e. at_codes P (suc low) n code all.1 (λ none. other (e, none)))

-- what holds at a code, and then at those after it
infixr 3 ◌⊳◌
pub ◌⊳◌ : {A B : Type 0} → A → B → A × B
here ⊳ after = (here, after)

-- a code from `low` on that is none of n successive ones is above them
pub above : (low n code : ℕ) → low ≤ code → IsNoneFrom code low n → low + n ≤ code
above low zero code le none = omega (arith, le)
above low (suc n) code le none =
    omega (arith, above (suc low) n code (omega (arith, le, eqb-false code low none.0)) none.1)
