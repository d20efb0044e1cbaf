-- One flipped bit on a line with bit stuffing, which makes no six ones in a row.
use Rattle.std.proofs.Common.{◌≡◌, ℕ, suc, ◌+◌, ◌<◌, ◌≤◌, List, [], ◌∷◌, length, Bool, true, false, refl, sym, ap, ◌∙◌, arith, ◌⊎◌, inl, inr, subst}
use Rattle.std.specs.Prelude.{◌==◌, if◌then◌else◌}
use Rattle.std.proofs.lemmas.Bool.Decides.{nat_tests}
use Rattle.std.proofs.lemmas.Bool.{false≢true}
use Rattle.fio_wire.specs.Bits.{destuffed, HasNoSix}
use Rattle.fio_wire.specs.Laws.{OneFlip}

-- what is left without stuffing differs in one bit, or has one bit more or fewer
abbrev pub IsNear : List Bool → List Bool → Type 0
IsNear bits others = OneFlip bits others ⊎ ((length bits ≡ length others + 1) ⊎ (length others ≡ length bits + 1))

near_cons : (b : Bool) (bits others : List Bool) → IsNear bits others → IsNear (b ∷ bits) (b ∷ others)
near_cons b bits others (inl one) = inl (inr (refl, one))
near_cons b bits others (inr (inl more)) = inr (inl (omega (arith, more)))
near_cons b bits others (inr (inr fewer)) = inr (inr (omega (arith, fewer)))

not_five : (n : ℕ) → n < 5 → (n == 5) ≡ false
not_five n h = grind (arith, nat_tests)

-- other bits than a 0 behind so many ones
abbrev after_zero : Bool → List Bool → List Bool
after_zero five rest = if five then rest else false ∷ rest

by_five : (five low : Bool) (bits : List Bool) → low ≡ false
    → (after_zero five (destuffed 0 bits) ≡ after_zero low (destuffed 0 bits)) ⊎ (length (after_zero low (destuffed 0 bits)) ≡ length (after_zero five (destuffed 0 bits)) + 1)
by_five five true bits h = absurd (false≢true (sym h))
by_five true false bits h = inr (omega arith)
by_five false false bits h = inl refl

-- after more ones the next 0 may be a stuffed one
rest_of : (m k : ℕ) (bits : List Bool) → k < m → m ≤ 5 → HasNoSix m bits
    → (destuffed m bits ≡ destuffed k bits) ⊎ (length (destuffed k bits) ≡ length (destuffed m bits) + 1)
rest_of m k [] less most free = inl refl
rest_of m k (true ∷ bits) less most free =
    elim (rest_of (suc m) (suc k) bits (omega (arith, less)) (omega (arith, free.0)) free.1) [
      | inl same ↦ inl (ap (λ x. true ∷ x) same)
      | inr more ↦ inr (omega (arith, more))
    ]
rest_of m k (false ∷ bits) less most free =
    let low : (k == 5) ≡ false = not_five k (omega (arith, less, most)) in
    by_five (m == 5) (k == 5) bits low

-- a 1 that came as a 0, or the other way round
turned : (n : ℕ) (bits : List Bool) → n < 5 → HasNoSix (suc n) bits → IsNear (true ∷ destuffed (suc n) bits) (false ∷ destuffed 0 bits)
turned n bits h free =
    elim (rest_of (suc n) 0 bits (omega arith) (omega (arith, h)) free) [
      | inl same ↦ inl (inl ((λ e. false≢true (sym e)), same))
      | inr more ↦ inr (inr (omega (arith, more)))
    ]

turned_back : (n : ℕ) (bits : List Bool) → n < 5 → HasNoSix (suc n) bits → IsNear (false ∷ destuffed 0 bits) (true ∷ destuffed (suc n) bits)
turned_back n bits h free =
    elim (rest_of (suc n) 0 bits (omega arith) (omega (arith, h)) free) [
      | inl same ↦ inl (inl (false≢true, sym same))
      | inr more ↦ inr (inl (omega (arith, more)))
    ]

zero_is : (n : ℕ) (bits : List Bool) → n < 5 → destuffed n (false ∷ bits) ≡ false ∷ destuffed 0 bits
zero_is n bits h = ap (λ t. if t then destuffed 0 bits else false ∷ destuffed 0 bits) (not_five n h)

near_zero : (five : Bool) (bits others : List Bool) → IsNear (destuffed 0 bits) (destuffed 0 others)
    → IsNear (after_zero five (destuffed 0 bits)) (after_zero five (destuffed 0 others))
near_zero true bits others h = h
near_zero false bits others h = near_cons false (destuffed 0 bits) (destuffed 0 others) h

-- What one flip does that makes no six ones in a row.
pub near : (n : ℕ) (bits others : List Bool) → OneFlip bits others → HasNoSix n bits → HasNoSix n others → IsNear (destuffed n bits) (destuffed n others)
near n [] others flip free also = absurd flip
near n (b ∷ bits) [] flip free also = absurd flip
near n (true ∷ bits) (true ∷ others) (inl flip) free also = absurd (flip.0 refl)
near n (false ∷ bits) (false ∷ others) (inl flip) free also = absurd (flip.0 refl)
near n (true ∷ bits) (false ∷ others) (inl flip) free also =
    subst (λ x. IsNear (true ∷ destuffed (suc n) bits) x) (sym (ap (λ o. destuffed n (false ∷ o)) (sym flip.1) ∙ zero_is n bits free.0)) (turned n bits free.0 free.1)
near n (false ∷ bits) (true ∷ others) (inl flip) free also =
    subst (λ x. IsNear x (true ∷ destuffed (suc n) others)) (sym (ap (λ o. destuffed n (false ∷ o)) flip.1 ∙ zero_is n others also.0)) (turned_back n others also.0 also.1)
near n (true ∷ bits) (true ∷ others) (inr flip) free also = near_cons true (destuffed (suc n) bits) (destuffed (suc n) others) (near (suc n) bits others flip.1 free.1 also.1)
near n (false ∷ bits) (false ∷ others) (inr flip) free also = near_zero (n == 5) bits others (near 0 bits others flip.1 free also)
near n (true ∷ bits) (false ∷ others) (inr flip) free also = absurd (false≢true (sym flip.0))
near n (false ∷ bits) (true ∷ others) (inr flip) free also = absurd (false≢true flip.0)
