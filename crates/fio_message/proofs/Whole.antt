-- Octets that have the length that their message needs, and fit in a frame; all others are refused.
use Rattle.fio_message.proofs.Names.{◌≡◌, ◌⊎◌, ℕ, suc, ◌≤◌, List, [], ◌∷◌, length, Option, Some, None, refl, sym, ap, ◌∙◌, arith, inl, inr, cases_lt, cases_eq, BODY_OCTETS, FRAME_OCTETS, DecodeError, Refuses, IsWhole}
use Rattle.fio_message.specs.declared.faults.DecodeError.TheVariants.{Empty, TooLong, UnknownType, WrongLength}

-- after the code, whole octets have at most 772 others
pub fields_fit : (needed : Option ℕ) (octets : List ℕ) (code : ℕ) (fields : List ℕ)
    → IsWhole needed octets code fields → length fields ≤ BODY_OCTETS
fields_fit needed octets code fields whole = omega (arith, whole.frame, ap length whole.parts)

-- the length that the code and the fields of whole octets need is the number of these octets
pub fields_needed : (length_of : List ℕ → Option ℕ) (octets : List ℕ) (code : ℕ) (fields : List ℕ)
    → IsWhole (length_of octets) octets code fields → length_of (code ∷ fields) ≡ Some (suc (length fields))
fields_needed length_of octets code fields whole =
    ap length_of (sym whole.parts) ∙ whole.needs ∙ ap Some (ap length whole.parts)

abbrev AreWhole : Option ℕ → List ℕ → Type 0
AreWhole needed octets = (code : ℕ) × (fields : List ℕ) × IsWhole needed octets code fields

abbrev AreRefused : Option ℕ → List ℕ → Type 0
AreRefused needed octets = (fault : DecodeError) × Refuses needed octets fault

-- octets that fit in a frame are whole, or of an unknown type, or of another length than they need
fitting_or_refused : (needed : Option ℕ) (code : ℕ) (fields : List ℕ) → length (code ∷ fields) ≤ FRAME_OCTETS
    → AreWhole needed (code ∷ fields) ⊎ AreRefused needed (code ∷ fields)
fitting_or_refused None code fields le = inr (UnknownType code, ((omega arith, le), refl, refl))
fitting_or_refused (Some needed) code fields le =
    elim (cases_eq needed (length (code ∷ fields))) [
      | inl same ↦ inl (code, fields, record { parts = refl; frame = le; needs = ap Some same })
      | inr other ↦ inr (WrongLength needed (length (code ∷ fields)), ((omega arith, le), refl, refl, other))
    ]

-- octets are whole, or refused for a fault
pub whole_or_refused : (needed : Option ℕ) (octets : List ℕ) → AreWhole needed octets ⊎ AreRefused needed octets
whole_or_refused needed [] = inr (Empty, refl)
whole_or_refused needed (code ∷ fields) =
    elim (cases_lt FRAME_OCTETS (length (code ∷ fields))) [
      | inl lt ↦ inr (TooLong (length (code ∷ fields)), (refl, lt))
      | inr le ↦ fitting_or_refused needed code fields le
    ]
