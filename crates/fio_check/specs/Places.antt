-- What lines above a place say.
use Rattle.std.specs.Prelude.{ℕ, zero, suc, Bool, false, Option, Some, None, option_map}
use Rattle.std.specs.Option.{option_map_or, option_or}

-- the place directly above, if there is one
abbrev pub place_above : ℕ → Option ℕ
place_above zero = None
place_above (suc place) = Some place

-- what a line says, and the line's place
pub record Placed (A : Type 0) : Type 0 where
  pub place : ℕ
  pub value : A

-- what is said at a place, with the place
abbrev pub placed_at : {A : Type 0} → (ℕ → Option A) → ℕ → Option (Placed A)
placed_at at place = option_map (λ value. record { place = place; value = value }) (at place)

-- the latest value that lines above a place say
abbrev pub latest_above : {A : Type 0} → (ℕ → Option A) → ℕ → Option (Placed A)
latest_above at zero = None
latest_above at (suc place) = option_or (placed_at at place) (latest_above at place)

-- the earliest value that lines above a place say
abbrev pub earliest_above : {A : Type 0} → (ℕ → Option A) → ℕ → Option A
earliest_above at zero = None
earliest_above at (suc place) = option_or (earliest_above at place) (at place)

-- `option.is_some_and(test)`
abbrev pub is_some_and : {A : Type 0} → Option A → (A → Bool) → Bool
is_some_and option test = option_map_or test option false
