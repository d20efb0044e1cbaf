-- Where no element of a list passes one test, each passes another.
use Rattle.std.proofs.Common.{◌≡◌, ℕ, suc, ◌+◌, Bool, true, false, not, cond, ◌&&◌, List, [], ◌∷◌, length, ltb, Some, None, refl, ap₂, arith}
use Rattle.std.specs.List.{list_all, position, prefix_len}
use Rattle.std.proofs.lemmas.Bool.Decides.{nat_tests}

none_found : (b : Bool) (n : ℕ) → cond b (Some n) None ≡ None → b ≡ false
none_found true n h = cc
none_found false n h = refl

not_empty : (m : ℕ) → ltb 0 (suc m) ≡ false → ⊥
not_empty m h = grind (arith, nat_tests)

shorter : (n m : ℕ) → ltb (1 + n) (suc m) ≡ false → ltb n m ≡ false
shorter n m h = grind (arith, nat_tests)

step : (found passes : Bool) (n m : ℕ) (rest : Bool)
    → (found ≡ false → passes ≡ true) → (ltb n m ≡ false → rest ≡ true)
    → ltb (cond (not found) (1 + n) 0) (suc m) ≡ false → (passes && rest) ≡ true
step true passes n m rest covers tail h = absurd (not_empty m h)
step false passes n m rest covers tail h = ap₂ ◌&&◌ (covers refl) (tail (shorter n m h))

module _ {X : Type 0} (found passes : X → Bool)
    (covers : (x : X) → found x ≡ false → passes x ≡ true) where
  all_pass-prefix : (xs : List X)
      → ltb (prefix_len (λ x. not (found x)) xs) (length xs) ≡ false → list_all passes xs ≡ true
  all_pass-prefix [] h = refl
  all_pass-prefix (x ∷ xs) h =
      step (found x) (passes x) _ _ _ (covers x) (all_pass-prefix xs) h

  pub all_pass-none : (xs : List X) → position found xs ≡ None → list_all passes xs ≡ true
  all_pass-none xs h = all_pass-prefix xs (none_found _ _ h)
