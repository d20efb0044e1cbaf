-- Words by their bits.
use Rattle.fio_module.proofs.Names.{◌≡◌, ℕ, zero, suc, ◌+◌, ◌-◌, ◌*◌, ◌^◌, ◌<◌, ◌≤◌, ◌==◌, Bool, true, false, min, max, if◌then◌else◌, refl, ap, sym, ◌∙◌, arith, bit_and, bit_or, inl, inr, bit_at, w8, eqb_tells, pow-suc, is_set, bit_of, word_of}
use Rattle.std.proofs.lemmas.Nat.Bits.{bit_at_and, bit_at_or, bit_at_not, bit_at-lt, bit_at_cat_low, bit_at_cat_high, same_from_bits_below}
use Rattle.std.proofs.lemmas.Nat.{or_lt, and_le_l}

bit_of-above : (b : Bool) (place below : ℕ) → below < 2 ^ place → bit_of b * 2 ^ place + below < 2 ^ suc place
bit_of-above true place below fits = rw (pow-suc 2 place) (omega arith)
bit_of-above false place below fits = rw (pow-suc 2 place) (omega arith)

-- a word of n bits is below 2^n
pub word_of-fits : (place : ℕ) (bit : ℕ → Bool) → word_of place bit < 2 ^ place
unfolding word_of
word_of-fits zero bit = omega arith
word_of-fits (suc place) bit = bit_of-above (bit place) place (word_of place bit) (word_of-fits place bit)

bit_at-bit_of : (b : Bool) → bit_at (bit_of b) 0 ≡ bit_of b
bit_at-bit_of true = refl
bit_at-bit_of false = refl

-- each bit of the word is the one given for it
pub bit_at-word_of : (places : ℕ) (bit : ℕ → Bool) (place : ℕ) → place < places → bit_at (word_of places bit) place ≡ bit_of (bit place)
unfolding word_of
bit_at-word_of zero bit place below = absurd (omega arith)
bit_at-word_of (suc last) bit place below =
    elim (eqb_tells last place) [
      | inl same ↦
          let high : last ≤ place = omega arith in
          bit_at_cat_high (bit_of (bit last)) last (word_of last bit) place (word_of-fits last bit) high
          ∙ (let none : place - last ≡ 0 = omega (arith, same.1) in rw (none, ← same.1) (bit_at-bit_of (bit last)))
      | inr other ↦
          let low : place < last = omega (arith, other.1) in
          bit_at_cat_low (bit_of (bit last)) last (word_of last bit) place low ∙ bit_at-word_of last bit place low
    ]

raised-bit : (b : Bool) (raised : ℕ) → raised < 2 → max (bit_of b) raised ≡ bit_of (if raised == 1 then true else b)
raised-bit b (suc (suc n)) fits = absurd (omega arith)
raised-bit true _ fits = refl
raised-bit false _ fits = refl

cleared-bit : (b : Bool) (cleared : ℕ) → cleared < 2 → min (bit_of b) (1 - cleared) ≡ bit_of (if cleared == 1 then false else b)
cleared-bit b (suc (suc n)) fits = absurd (omega arith)
cleared-bit true _ fits = refl
cleared-bit false _ fits = refl

-- the flags with those of a mask raised
pub word_of-raised : (bit : ℕ → Bool) (mask : ℕ) → mask < 2 ^ 8
    → bit_or (word_of 8 bit) mask ≡ word_of 8 (λ place. if is_set mask place then true else bit place)
unfolding is_set
word_of-raised bit mask fits =
    same_from_bits_below 8 _ _ (or_lt 8 _ _ (word_of-fits 8 bit) fits) (word_of-fits 8 _)
    (λ place below.
    bit_at_or (word_of 8 bit) mask place
    ∙ ap (λ b. max b (bit_at mask place)) (bit_at-word_of 8 bit place below)
    ∙ raised-bit (bit place) (bit_at mask place) (bit_at-lt mask place)
    ∙ sym (bit_at-word_of 8 (λ k. if is_set mask k then true else bit k) place below))

-- the flags with those of a mask cleared
pub word_of-cleared : (bit : ℕ → Bool) (mask : ℕ) → mask < 2 ^ 8
    → bit_and (word_of 8 bit) (2 ^ 8 - 1 - mask) ≡ word_of 8 (λ place. if is_set mask place then false else bit place)
unfolding is_set
word_of-cleared bit mask fits =
    same_from_bits_below 8 _ _ (omega (arith, and_le_l (word_of 8 bit) (2 ^ 8 - 1 - mask), word_of-fits 8 bit)) (word_of-fits 8 _)
    (λ place below.
    bit_at_and (word_of 8 bit) (2 ^ 8 - 1 - mask) place
    ∙ ap (λ b. min b (bit_at (2 ^ 8 - 1 - mask) place)) (bit_at-word_of 8 bit place below)
    ∙ ap (λ b. min (bit_of (bit place)) b) (bit_at_not w8 mask place fits below)
    ∙ cleared-bit (bit place) (bit_at mask place) (bit_at-lt mask place)
    ∙ sym (bit_at-word_of 8 (λ k. if is_set mask k then false else bit k) place below))

bit_of-is_one : (bit : ℕ) → bit < 2 → bit ≡ bit_of (bit == 1)
bit_of-is_one (suc (suc n)) fits = absurd (omega arith)
bit_of-is_one _ fits = refl

-- a word is known by its bits
pub word_of-is_set : (word : ℕ) (bit : ℕ → Bool) → word < 2 ^ 64
    → ((place : ℕ) → place < 64 → is_set word place ≡ bit place) → word ≡ word_of 64 bit
unfolding is_set
word_of-is_set word bit fits bits =
    same_from_bits_below 64 word _ fits (word_of-fits 64 bit)
    (λ place below.
    bit_of-is_one (bit_at word place) (bit_at-lt word place)
    ∙ ap bit_of (bits place below)
    ∙ sym (bit_at-word_of 64 bit place below))
