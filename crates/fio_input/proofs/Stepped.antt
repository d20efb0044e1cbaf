-- What a step of the runs does to one input.
use Rattle.fio_input.proofs.Names.{◌≡◌, ◌≢◌, ℕ, Bool, true, false, not, List, get_or, refl, ◌∙◌, beq, is_set, is_set-xor, next_length, meets_filter}
use Rattle.std.proofs.Common.{bit_xor}

-- if its sample is not its filtered state, its run's length is stepped by the sample
abbrev pub IsStepped : List ℕ → List ℕ → ℕ → ℕ → ℕ → ℕ → Type 0
IsStepped old new levels raw filtered i =
    is_set raw i ≢ is_set filtered i → get_or new i 0 ≡ next_length (get_or old i 0) (is_set levels i) (is_set raw i)

-- and its bit says whether its run now meets its filter
abbrev pub IsMet : List ℕ → List ℕ → List ℕ → ℕ → ℕ → ℕ → ℕ → Type 0
IsMet leading trailing lengths raw filtered met i =
    is_set raw i ≢ is_set filtered i → is_set met i ≡ meets_filter (get_or leading i 0) (get_or trailing i 0) (is_set raw i) (get_or lengths i 0)

-- the word of those inputs whose samples are not their filtered states
pub differing_is_set : (raw filtered i : ℕ) → is_set raw i ≢ is_set filtered i → is_set (bit_xor raw filtered) i ≡ true
differing_is_set raw filtered i differs = is_set-xor raw filtered i ∙ unlike (is_set raw i) (is_set filtered i) differs
  where
    unlike : (a b : Bool) → (a ≢ b) → not (beq a b) ≡ true
    unlike true true h = absurd (h refl)
    unlike true false h = refl
    unlike false true h = refl
    unlike false false h = absurd (h refl)
