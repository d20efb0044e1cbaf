-- The set bits of a word, walked from the lowest on.
use Rattle.std.proofs.lemmas.Bool.Decides.{nat_tests}
use Rattle.fio_module.proofs.Names.{◌≡◌, ℕ, zero, suc, ◌^◌, ◌<◌, ◌≤◌, false, [], ◌∷◌, refl, sym, ◌∙◌, arith, inl, inr, w64, trailing_zeros, eqb_tells, is_set, entry_octets, entries_below}
use Rattle.fio_message.proofs.Bits.{is_set-zero}
use Rattle.fio_input.proofs.LowestBit.{IsLowest, without, lowest_of, less_without}

-- no bit set, no entries
pub entries_below-clear : (word levels stamp places : ℕ) → ((place : ℕ) → place < places → is_set word place ≡ false)
    → entries_below places word levels stamp ≡ []
unfolding entries_below
entries_below-clear word levels stamp zero clear = refl
entries_below-clear word levels stamp (suc last) clear =
    rw (entries_below-clear word levels stamp last (λ place below. clear place (omega arith)), clear last (omega arith)) refl

pub entries_below-zero : (levels stamp : ℕ) → entries_below 64 0 levels stamp ≡ []
entries_below-zero levels stamp = entries_below-clear 0 levels stamp 64 (λ place below. is_set-zero place)

-- the first entry is that of the lowest set bit, and the others are those of the word with that bit clear
entries_below-lowest : (word rest lowest levels stamp : ℕ) → IsLowest word rest lowest
    → (places : ℕ) → places ≤ 64 → lowest < places
    → entries_below places word levels stamp
    ≡ entry_octets (record { input = lowest; level = is_set levels lowest; stamp = stamp }) ∷ entries_below places rest levels stamp
unfolding entries_below
entries_below-lowest word rest lowest levels stamp is zero within below = absurd (omega arith)
entries_below-lowest word rest lowest levels stamp is (suc last) within below =
    elim (eqb_tells lowest last) [
      | inl same ↦
          let none : entries_below last word levels stamp ≡ [] =
          entries_below-clear word levels stamp last (λ place low. is.clear_below place (omega (arith, same.1))) in
          let rest_none : entries_below last rest levels stamp ≡ [] =
          entries_below-clear rest levels stamp last
          (λ place low.
          is.others place (omega arith) (λ e. omega (arith, same.1)) ∙ is.clear_below place (omega (arith, same.1))) in
          rw (none, rest_none, ← same.1, is.set, is.cleared) refl
      | inr other ↦
          let before = entries_below-lowest word rest lowest levels stamp is last (omega arith) (omega (arith, other.1)) in
          let here : is_set rest last ≡ is_set word last = is.others last (omega arith) (λ e. other.1 (sym e)) in
          rw (before, here) refl
    ]

-- a word has fewer bits without its lowest, and that bit's entry comes first
pub entries_below-walk : (word levels stamp : ℕ) → 0 < word → word < 2 ^ 64
    → let lowest = trailing_zeros w64 word in
    (lowest < 64) × (without word lowest < word)
    × (entries_below 64 word levels stamp
    ≡ entry_octets (record { input = lowest; level = is_set levels lowest; stamp = stamp })
    ∷ entries_below 64 (without word lowest) levels stamp)
entries_below-walk word levels stamp some fits = grind (arith, nat_tests, trailing_zeros, w64, lowest_of, less_without, entries_below-lowest, without)
