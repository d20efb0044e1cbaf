-- The bits of a word, each by its position: position 0 is the lowest bit. In a word of inputs, bit i is input i.
use Rattle.std.specs.Prelude.{ℕ, ◌==◌, Bool, true, false}
use Rattle.std.specs.Int.{bit_at}

-- whether the bit of the word at this position is set
unfoldable pub is_set : ℕ → ℕ → Bool
is_set word place = bit_at word place == 1

-- a flag as a bit: 1 if it is set
abbrev pub bit_of : Bool → ℕ
bit_of true = 1
bit_of false = 0
