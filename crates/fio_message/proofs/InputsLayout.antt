-- The eight octets of the inputs, bit by bit.
use Rattle.fio_message.proofs.Names.{◌≡◌, ◌↔◌, ℕ, zero, suc, ◌+◌, ◌/◌, ◌%◌, ◌^◌, ◌<◌, sym, ap, ◌∙◌, arith, IsBitSet, bit_set_by_shift, shr-shr, and_mod, and_le_r, pow_below, IsInputsLayout}
use Rattle.std.proofs.Common.{bit_and}
use Rattle.std.proofs.Math.Nat.{mod-eq_of_lt}

-- the bits of a word below position k are those of its remainder
bit_below : (n k b : ℕ) → b < k → bit_and (n % 2 ^ k) (2 ^ b) ≡ bit_and n (2 ^ b)
bit_below n k b lt =
    let small : 2 ^ b < 2 ^ k = pow_below b k lt in
    let fits : 2 ^ b % 2 ^ k ≡ 2 ^ b = mod-eq_of_lt small in
    let both : bit_and n (2 ^ b) % 2 ^ k ≡ bit_and (n % 2 ^ k) (2 ^ b % 2 ^ k) = and_mod n (2 ^ b) k in
    let whole : bit_and n (2 ^ b) % 2 ^ k ≡ bit_and n (2 ^ b) = mod-eq_of_lt (omega (arith, and_le_r n (2 ^ b))) in
    ap (λ (m : ℕ). bit_and (n % 2 ^ k) m) (sym fits) ∙ sym both ∙ whole

-- bit b of a word that is shifted by j is bit j + b of the word
bit_shifted : (n j b : ℕ) → IsBitSet (n / 2 ^ j) b ↔ IsBitSet n (j + b)
bit_shifted n j b =
    let here = bit_set_by_shift (n / 2 ^ j) b in
    let there = bit_set_by_shift n (j + b) in
    let same : n / 2 ^ j / 2 ^ b ≡ n / 2 ^ (j + b) = shr-shr n j b in (
      λ s. there.0 (ap (λ (m : ℕ). bit_and m 1) (sym same) ∙ here.1 s),
      λ s. here.0 (ap (λ (m : ℕ). bit_and m 1) same ∙ there.1 s),
    )

-- bit b of the octet of a word that begins at position j is bit j + b of the word
bit_of_octet : (n j b : ℕ) → b < 8 → IsBitSet (n / 2 ^ j % 256) b ↔ IsBitSet n (j + b)
bit_of_octet n j b lt =
    let same = bit_below (n / 2 ^ j) 8 b lt in
    let moved = bit_shifted n j b in
    (λ s. moved.0 (λ z. s (same ∙ z)), λ s z. moved.1 s (sym same ∙ z))

-- bit b of octet j is input 8 * j + b
pub inputs_layout : IsInputsLayout
inputs_layout n zero b j8 b8 =
    let same = bit_below n 8 b b8 in
    let place : 0 + b ≡ b = omega arith in
    let at_place : bit_and n (2 ^ (0 + b)) ≡ bit_and n (2 ^ b) = ap (λ (k : ℕ). bit_and n (2 ^ k)) place in
    (λ s z. s (same ∙ sym at_place ∙ z), λ s z. s (at_place ∙ sym same ∙ z))
inputs_layout n (suc zero) b j8 b8 = bit_of_octet n 8 b b8
inputs_layout n (suc (suc zero)) b j8 b8 = bit_of_octet n 16 b b8
inputs_layout n (suc (suc (suc zero))) b j8 b8 = bit_of_octet n 24 b b8
inputs_layout n (suc (suc (suc (suc zero)))) b j8 b8 = bit_of_octet n 32 b b8
inputs_layout n (suc (suc (suc (suc (suc zero))))) b j8 b8 = bit_of_octet n 40 b b8
inputs_layout n (suc (suc (suc (suc (suc (suc zero)))))) b j8 b8 = bit_of_octet n 48 b b8
inputs_layout n (suc (suc (suc (suc (suc (suc (suc zero))))))) b j8 b8 = bit_of_octet n 56 b b8
inputs_layout n (suc (suc (suc (suc (suc (suc (suc (suc j)))))))) b j8 b8 = absurd (omega arith)
