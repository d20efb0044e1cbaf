-- Lists of readings, of which the first fault counts.
use Rattle.std.specs.Prelude.{◌≡◌, List, [], ◌∷◌, ◌++◌, map, Result, Ok, Err}

-- these values in front of those that follow, unless what follows is a fault
abbrev pub with_first : {A E : Type 0} → List A → Result (List A) E → Result (List A) E
with_first values (Ok more) = Ok (values ++ more)
with_first values (Err e) = Err e

-- all the values, or the first fault
abbrev pub values_or_fault : {A E : Type 0} → List (Result A E) → Result (List A) E
values_or_fault [] = Ok []
values_or_fault (Ok value ∷ rest) = with_first (value ∷ []) (values_or_fault rest)
values_or_fault (Err e ∷ rest) = Err e

-- the fault is one of the readings, and each reading before it is a value
abbrev pub IsFirstFault : {A E : Type 0} → List (Result A E) → E → Type 0
IsFirstFault {A} {E} readings e =
    (values : List A) × (rest : List (Result A E)) × (readings ≡ map Ok values ++ (Err e ∷ rest))

-- the result is all the values, or the fault before which there is no other
pub record Collects {A E : Type 0} (readings : List (Result A E)) : Type 0 where
  pub values : (vs : List A) → values_or_fault readings ≡ Ok vs → readings ≡ map Ok vs
  pub fault : (e : E) → values_or_fault readings ≡ Err e → IsFirstFault readings e
