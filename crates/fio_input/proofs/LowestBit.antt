-- The lowest set bit of a word, and the word with that bit clear.
use Rattle.fio_input.proofs.Names.{◌≡◌, ◌≢◌, ℕ, ◌*◌, ◌%◌, ◌^◌, ◌<◌, ◌==◌, true, false, ap, arith, w64, bit_not, trailing_zeros, is_set, is_set-clear_same, is_set-clear_other}
use Rattle.std.proofs.Common.{bit_and}
use Rattle.std.proofs.lemmas.Nat.{and_le_l}
use Rattle.std.proofs.lemmas.Nat.Bits.{bit_at-trailing_zeros}

-- a word without one of its bits
abbrev pub without : ℕ → ℕ → ℕ
without word place = bit_and word (bit_not w64 (1 * 2 ^ place % 2 ^ 64))

-- the lowest set bit of a word, and the word with that bit clear
pub record IsLowest (word rest lowest : ℕ) : Type 0 where
  pub set : is_set word lowest ≡ true
  pub clear_below : (place : ℕ) → place < lowest → is_set word place ≡ false
  pub cleared : is_set rest lowest ≡ false
  pub others : (place : ℕ) → place < 64 → (place ≡ lowest → ⊥) → is_set rest place ≡ is_set word place

pub lowest_of : (word : ℕ) → 0 < word → word < 2 ^ 64
    → (trailing_zeros w64 word < 64) × IsLowest word (without word (trailing_zeros w64 word)) (trailing_zeros w64 word)
unfolding is_set
lowest_of word some fits =
    let found = bit_at-trailing_zeros w64 word some fits in
    let lowest = trailing_zeros w64 word in (
      found.0,
      record {
        set = ap (λ bit. bit == 1) found.1;
        clear_below = λ place below. ap (λ bit. bit == 1) (found.2 place below);
        cleared = is_set-clear_same word lowest found.0;
        others = λ place below other. is_set-clear_other word lowest found.0 place below other;
      },
    )

-- a word is less without its lowest bit
pub less_without : (word : ℕ) → 0 < word → word < 2 ^ 64 → without word (trailing_zeros w64 word) < word
less_without word some fits =
    let lowest = trailing_zeros w64 word in
    let is = lowest_of word some fits in
    let other : without word lowest ≢ word = λ same. cc (ap (λ w. is_set w lowest) same, is.1.set, is.1.cleared) in
    omega (arith, and_le_l word (bit_not w64 (1 * 2 ^ lowest % 2 ^ 64)), other)
