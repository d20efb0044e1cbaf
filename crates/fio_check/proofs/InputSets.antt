-- Sets of inputs as words, and arrays by input.
use Rattle.std.proofs.Common.{arith}
use Rattle.fio_check.proofs.Names.{◌≡◌, ◌<◌, ◌≤◌, ◌∙◌, ℕ, inl, inr, true, false, sym, ap, ◌==◌, not, if◌then◌else◌, eqb_tells, is_set, bit_and, bit_not, bit_or, is_set-above, is_set-and, is_set-not, leb_tells, w64, ◌&&◌, ◌^◌}
use Rattle.fio_message.proofs.Bits.{is_set-clear_other, is_set-clear_same, is_set-set_other, is_set-set_same, one_at}

module _ (word input : ℕ) (within : input < 64) where
  -- an input that is put in
  pub put_in : (other : ℕ) → is_set (bit_or word (one_at word input within)) other ≡ (if other == input then true else is_set word other)
  put_in other = grind (arith, eqb_tells, is_set-set_other, is_set-set_same, one_at)

  -- above place 63 there is none
  none_above : (other : ℕ) → word < 2 ^ 64 → 64 ≤ other → is_set (bit_and word (bit_not w64 (one_at word input within))) other ≡ is_set word other
  none_above other fits above =
      let none = is_set-above word 64 other fits above in
      is_set-and word (bit_not w64 (one_at word input within)) other ∙ ap (λ b. b && is_set (bit_not w64 (one_at word input within)) other) none ∙ sym none

  -- an input that is taken out
  pub take_out : (other : ℕ) → word < 2 ^ 64 → is_set (bit_and word (bit_not w64 (one_at word input within))) other ≡ (if other == input then false else is_set word other)
  take_out other fits = grind (arith, eqb_tells, is_set-clear_other, is_set-clear_same, leb_tells, none_above, one_at)

-- the inputs of one set that are not in another
pub without : (word others input : ℕ) → word < 2 ^ 64 → others < 2 ^ 64
    → is_set (bit_and word (bit_not w64 others)) input ≡ (is_set word input && not (is_set others input))
without word others input fits fits' =
    is_set-and word (bit_not w64 others) input
    ∙ (elim (leb_tells 64 input) as (λ _. (is_set word input && is_set (bit_not w64 others) input) ≡ (is_set word input && not (is_set others input))) [
      | inl above ↦ (let none = is_set-above word 64 input fits above.1 in
          ap (λ b. b && is_set (bit_not w64 others) input) none ∙ sym (ap (λ b. b && not (is_set others input)) none))
      | inr below ↦ ap (λ b. is_set word input && b) (is_set-not others input fits' below.1)
    ])
