use Rattle.std.specs.Prelude.{◌≡◌, ◌≤◌, ◌<◌, ◌+◌, ℕ, List, [], ◌∷◌, length, slice_range}
use Rattle.std.specs.List.{sum_by}
use Rattle.fio_guess.specs.declared.table.TheConstants.{LINES, CHARACTERS}

-- the parts of a text: each ends at the next of some places, and begins where the one before it ends
abbrev pub parts_of : List ℕ → ℕ → List ℕ → List (List ℕ)
parts_of text start [] = []
parts_of text start (end ∷ ends) = slice_range text start end ∷ parts_of text end ends

-- some places go up from the first to the last one
abbrev pub GoUp : ℕ → List ℕ → ℕ → Type 0
GoUp first [] last = first ≡ last
GoUp first (next ∷ places) last = (first ≤ next) × GoUp next places last

-- a window of some lines takes another one of this length
abbrev pub HasRoomFor : List (List ℕ) → ℕ → Type 0
HasRoomFor lines count = (length lines < LINES) × (sum_by length lines + count ≤ CHARACTERS)
