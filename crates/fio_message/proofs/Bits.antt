-- One bit of a word through each operation on words of 64 bits. The crates above cite this for inputs, masks and flags.
use Rattle.fio_message.proofs.Names.{◌≡◌, ℕ, zero, suc, ◌+◌, ◌-◌, ◌*◌, ◌/◌, ◌%◌, ◌^◌, ◌<◌, min, max, Bool, true, false, not, ◌&&◌, ◌||◌, ◌==◌, if◌then◌else◌, refl, sym, subst, add-zero, ◌≤◌, ap, ap₂, ◌∙◌, arith, mod-lt, zero-lt-suc, le_of_suc-le-suc, not-suc-le-zero, List, get_or, cond, bit_at, bit_not, shr-shr, eq-eqb, ne_eqb, is_set}
use Rattle.std.proofs.Common.{w64}
use Rattle.std.specs.Bool.{beq}
use Rattle.std.specs.Int.Bits.{bit_and, bit_or, bit_xor}
use Rattle.std.proofs.lemmas.Nat.Bits.{bit_at_and, bit_at_or, bit_at_xor, bit_at_not, bit_at_ones, bit_at-zero, bit_at_cat_low, bit_at_above, and_pow, shr_and_one, bit_at_set_same, bit_at_set_other, bit_at_clear_same, bit_at_clear_other}
use Rattle.std.proofs.lemmas.Simd.{bit_mask_l}
use lib.Lanes.{mask_l}
use lib.Pow.{shl-shr, field, mod-mod-pow}
use Rattle.std.proofs.Math.Pow.{pow_pos}

-- what holds at 0 and at 1 holds at each number below 2
pub bit_cases : (P : ℕ → Type 0) → P 0 → P 1 → (x : ℕ) → x < 2 → P x
bit_cases P p q zero h = p
bit_cases P p q (suc zero) h = q
bit_cases P p q (suc (suc r)) h = absurd (not-suc-le-zero (le_of_suc-le-suc (le_of_suc-le-suc h)))

-- a bit is below 2
bit_lt : (n i : ℕ) → bit_at n i < 2
bit_lt n i = mod-lt (n / 2 ^ i) (zero-lt-suc 1)

-- what holds of any two bits holds of those of two words at a position
two_bits : (P : ℕ → ℕ → Type 0) → P 0 0 → P 0 1 → P 1 0 → P 1 1
    → (a b i : ℕ) → P (bit_at a i) (bit_at b i)
two_bits P p q r s a b i =
    let at_zero = bit_cases (P 0) p q (bit_at b i) (bit_lt b i) in
    let at_one = bit_cases (P 1) r s (bit_at b i) (bit_lt b i) in
    bit_cases (λ x. P x (bit_at b i)) at_zero at_one (bit_at a i) (bit_lt a i)

-- `a & b`
pub is_set-and : (a b i : ℕ) → is_set (bit_and a b) i ≡ (is_set a i && is_set b i)
unfolding is_set
is_set-and a b i =
    ap (λ n. n == 1) (bit_at_and a b i)
    ∙ two_bits (λ x y. (min x y == 1) ≡ ((x == 1) && (y == 1))) refl refl refl refl a b i

-- `a | b`
pub is_set-or : (a b i : ℕ) → is_set (bit_or a b) i ≡ (is_set a i || is_set b i)
unfolding is_set
is_set-or a b i =
    ap (λ n. n == 1) (bit_at_or a b i)
    ∙ two_bits (λ x y. (max x y == 1) ≡ ((x == 1) || (y == 1))) refl refl refl refl a b i

-- `a ^ b`: set if the two differ
pub is_set-xor : (a b i : ℕ) → is_set (bit_xor a b) i ≡ not (beq (is_set a i) (is_set b i))
unfolding is_set
is_set-xor a b i =
    ap (λ n. n == 1) (bit_at_xor a b i)
    ∙ two_bits (λ x y. ((x + y) % 2 == 1) ≡ not (beq (x == 1) (y == 1))) refl refl refl refl a b i

-- `!a`
pub is_set-not : (a i : ℕ) → a < 2 ^ 64 → i < 64 → is_set (bit_not w64 a) i ≡ not (is_set a i)
unfolding is_set
is_set-not a i fits within =
    ap (λ n. n == 1) (bit_at_not w64 a i fits within)
    ∙ bit_cases (λ x. ((1 - x) == 1) ≡ not (x == 1)) refl refl (bit_at a i) (bit_lt a i)

-- `u64::MAX`
pub is_set-ones : (i : ℕ) → i < 64 → is_set (2 ^ 64 - 1) i ≡ true
unfolding is_set
is_set-ones i within = ap (λ n. n == 1) (bit_at_ones 64 i within)

-- `old & !mask | new & mask`: the bits of `new` where the mask is set, and of `old` elsewhere
pub is_set-merged : (old new mask i : ℕ) → mask < 2 ^ 64 → i < 64
    → is_set (bit_or (bit_and old (bit_not w64 mask)) (bit_and new mask)) i
    ≡ (if is_set mask i then is_set new i else is_set old i)
is_set-merged old new mask i fits within =
    is_set-or (bit_and old (bit_not w64 mask)) (bit_and new mask) i
    ∙ ap₂ (λ a b. a || b) (is_set-and old (bit_not w64 mask) i ∙ kept) (is_set-and new mask i)
    ∙ merged (is_set old i) (is_set new i) (is_set mask i)
  where
    kept : (is_set old i && is_set (bit_not w64 mask) i) ≡ (is_set old i && not (is_set mask i))
    kept = ap (λ b. is_set old i && b) (is_set-not mask i fits within)

    merged : (a b m : Bool) → ((a && not m) || (b && m)) ≡ (if m then b else a)
    merged true true true = refl
    merged true true false = refl
    merged true false true = refl
    merged true false false = refl
    merged false true true = refl
    merged false true false = refl
    merged false false true = refl
    merged false false false = refl

-- `0`
pub is_set-zero : (i : ℕ) → is_set 0 i ≡ false
unfolding is_set
is_set-zero i = ap (λ n. n == 1) (bit_at-zero i)

-- `n >> i & 1 == 1`
pub is_set_read : (n i : ℕ) → (bit_and (n / 2 ^ i) 1 == 1) ≡ is_set n i
unfolding is_set
is_set_read n i = ap (λ x. x == 1) (shr_and_one n i)

-- `n | 1 << k` and `n & !(1 << k)`: one bit is set or cleared, and the others stay
module _ (n k : ℕ) (within : k < 64) where
  -- `1 << k`
  abbrev pub one_at : ℕ
  one_at = 1 * 2 ^ k % 2 ^ 64

  -- the bit that is set
  pub is_set-set_same : is_set (bit_or n one_at) k ≡ true
  unfolding is_set
  is_set-set_same = ap (λ x. x == 1) (bit_at_set_same w64 n k within)

  -- the other bits
  pub is_set-set_other : (i : ℕ) → (i ≡ k → ⊥)
      → is_set (bit_or n one_at) i ≡ is_set n i
  unfolding is_set
  is_set-set_other i other = ap (λ x. x == 1) (bit_at_set_other w64 n k within i other)

  -- the bit that is cleared
  pub is_set-clear_same : is_set (bit_and n (bit_not w64 one_at)) k ≡ false
  unfolding is_set
  is_set-clear_same = ap (λ x. x == 1) (bit_at_clear_same w64 n k within)

  -- the other bits
  pub is_set-clear_other : (i : ℕ) → i < 64 → (i ≡ k → ⊥)
      → is_set (bit_and n (bit_not w64 one_at)) i ≡ is_set n i
  unfolding is_set
  is_set-clear_other i inside other = ap (λ x. x == 1) (bit_at_clear_other w64 n k within i inside other)

-- the word of a mask of lanes: bit i is lane i
pub is_set-mask_l : (lanes : List Bool) (i : ℕ) → is_set (mask_l lanes) i ≡ get_or lanes i false
unfolding is_set
is_set-mask_l lanes i = ap (λ x. x == 1) (bit_mask_l lanes i) ∙ back (get_or lanes i false)
  where
    back : (b : Bool) → (cond b 1 0 == 1) ≡ b
    back true = refl
    back false = refl

-- `n & 1 << k == 1 << k`
pub is_set_masked : (n k : ℕ) → (bit_and n (2 ^ k) == 2 ^ k) ≡ is_set n k
unfolding is_set
is_set_masked n k =
    let unset : (0 * 2 ^ k == 2 ^ k) ≡ false = ap (λ x. x == 2 ^ k) (omega arith) ∙ ne_eqb 0 (2 ^ k) (none (2 ^ k) (pow_pos k)) in
    ap (λ x. x == 2 ^ k) (and_pow n k)
    ∙ bit_cases (λ b. (b * 2 ^ k == 2 ^ k) ≡ (b == 1)) unset (eq-eqb _ _ (omega arith)) (bit_at n k) (bit_lt n k)
  where
    none : (m : ℕ) → 0 < m → 0 ≡ m → ⊥
    none m h e = omega arith

-- `n >> k`
pub is_set-shr : (n k i : ℕ) → is_set (n / 2 ^ k) i ≡ is_set n (k + i)
unfolding is_set
is_set-shr n k i = ap (λ x. x % 2 == 1) (shr-shr n k i)

-- `n & (1 << k) - 1`, below position k
pub is_set-low : (n k i : ℕ) → i < k → is_set (bit_and n (2 ^ k - 1)) i ≡ is_set n i
unfolding is_set
is_set-low n k i h =
    ap (λ x. x == 1) (bit_at_and n (2 ^ k - 1) i ∙ ap (min (bit_at n i)) (bit_at_ones k i h))
    ∙ bit_cases (λ b. (min b 1 == 1) ≡ (b == 1)) refl refl (bit_at n i) (bit_lt n i)

-- what a word of 64 bits keeps of a number
pub is_set-mod : (n i : ℕ) → i < 64 → is_set (n % 2 ^ 64) i ≡ is_set n i
unfolding is_set
is_set-mod n i h =
    let m = 63 - i in
    let e : m + 1 + i ≡ 64 = omega arith in
    let same = ap (λ x. x % 2) (field n (m + 1) i) ∙ mod-mod-pow (n / 2 ^ i) m 1 in
    ap (λ x. x == 1) (subst (λ w. bit_at (n % 2 ^ w) i ≡ bit_at n i) e same)

-- `n << k`, from position k on
pub is_set-shl_high : (n k i : ℕ) → k + i < 64 → is_set (n * 2 ^ k % 2 ^ 64) (k + i) ≡ is_set n i
unfolding is_set
is_set-shl_high n k i h =
    is_set-mod (n * 2 ^ k) (k + i) h
    ∙ ap (λ x. x % 2 == 1) (sym (shr-shr (n * 2 ^ k) k i) ∙ ap (λ x. x / 2 ^ i) (shl-shr n k))

-- `n << k`, below position k
pub is_set-shl_low : (n k i : ℕ) → i < k → i < 64 → is_set (n * 2 ^ k % 2 ^ 64) i ≡ false
unfolding is_set
is_set-shl_low n k i below within =
    let none = ap (λ x. bit_at x i) (sym (add-zero (n * 2 ^ k))) ∙ bit_at_cat_low n k 0 i below ∙ bit_at-zero i in
    is_set-mod (n * 2 ^ k) i within ∙ ap (λ x. x == 1) none

-- a number below 2^k has no bit from position k on
pub is_set-above : (n k i : ℕ) → n < 2 ^ k → k ≤ i → is_set n i ≡ false
unfolding is_set
is_set-above n k i small above = ap (λ x. x == 1) (bit_at_above n k i small above)

-- `a | n << k`, below position k
pub is_set-placed_below : (a n k i : ℕ) → i < k → i < 64
    → is_set (bit_or a (n * 2 ^ k % 2 ^ 64)) i ≡ is_set a i
is_set-placed_below a n k i below within =
    is_set-or a (n * 2 ^ k % 2 ^ 64) i
    ∙ ap (λ b. is_set a i || b) (is_set-shl_low n k i below within)
    ∙ or_false (is_set a i)
  where
    or_false : (b : Bool) → (b || false) ≡ b
    or_false true = refl
    or_false false = refl

-- `a | n << k`, from position k on, if a has no bit there
pub is_set-placed_at : (a n k i : ℕ) → k + i < 64 → is_set a (k + i) ≡ false
    → is_set (bit_or a (n * 2 ^ k % 2 ^ 64)) (k + i) ≡ is_set n i
is_set-placed_at a n k i within free =
    is_set-or a (n * 2 ^ k % 2 ^ 64) (k + i) ∙ ap₂ (λ b d. b || d) free (is_set-shl_high n k i within)
