-- Forms of lines: how a line is read, and otherwise the next form to try.
use Rattle.std.specs.Prelude.{ℕ, List, Option, Some, None, option_and_then, if◌then◌else◌}
use Rattle.std.specs.Option.{option_map_or}
use Rattle.std.specs.Str.{bytes_eq}
use Rattle.fio_text.specs.Words.{after_prefix, halves_of}

-- if the line is exactly these words, this value; otherwise the next form
abbrev pub exactly : {A : Type 0} → List ℕ → Option A → List ℕ → Option A → Option A
exactly words value line other = if bytes_eq line words then value else other

-- if the line begins with this beginning, what is read from the rest; otherwise the next form
abbrev pub begins : {A : Type 0} → List ℕ → (List ℕ → Option A) → List ℕ → Option A → Option A
begins beginning read line other = option_map_or read (after_prefix beginning line) other

-- two values as a pair, if both are present
abbrev pub pair_of : {A B : Type 0} → Option A → Option B → Option (A × B)
pair_of (Some left) (Some right) = Some (left, right)
pair_of left right = None

-- a word read one way, a blank, and the rest read another way
abbrev pub both : {A B : Type 0}
    → (List ℕ → Option A) → (List ℕ → Option B) → List ℕ → Option (A × B)
both left right words =
    option_and_then (λ halves. pair_of (left halves.0) (right halves.1)) (halves_of words)
