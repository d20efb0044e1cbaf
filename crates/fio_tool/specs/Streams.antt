-- What is read from a reader and written to a writer, as far as they report their octets.
use Rattle.std.specs.Prelude.{ℕ, ◌≤◌, ◌<◌, List, length, Option}
use Rattle.std.specs.Io.KnownBytes.{Consumes, IsAtEnd}
use Rattle.fio_tool.specs.declared.streams.TheConstants.{MOST_READ}

-- the reader gave these octets: all that it had, or one more than an input may have
pub record TakesInput (old new : Option (List ℕ)) (input : List ℕ) : Type 0 where
  pub taken : Consumes old new input
  pub most : length input ≤ MOST_READ
  pub whole : length input < MOST_READ → IsAtEnd new

-- the reader gave at most `most` octets
abbrev pub TakesAtMost : ℕ → Option (List ℕ) → Option (List ℕ) → Type 0
TakesAtMost most old new = (taken : List ℕ) × Consumes old new taken × (length taken ≤ most)
