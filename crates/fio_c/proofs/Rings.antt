-- The slots of a ring that a module uses: the front of it, as many as entries may wait.
use Rattle.std.proofs.Common.{◌≡◌, ℕ, List, ◌++◌, length, take, min, ap, sym, ◌∙◌, arith}
use Rattle.std.proofs.lemmas.List.{take_min}
use Rattle.std.proofs.Math.Seq.{take-append_seam}

module _ {X : Type 0} where
  -- the front before a call
  pub front_used : (most used : ℕ) (slots front : List X) → used ≡ min most (length slots) → front ≡ take used slots
      → take most slots ≡ front
  front_used most used slots front counted is =
      sym (is ∙ ap (λ n. take n slots) counted ∙ take_min most slots)

  -- and after it, where the rest is unchanged
  pub front_written : (most : ℕ) (slots front back : List X) → length front ≡ min most (length slots)
      → length (front ++ back) ≡ length slots → take most (front ++ back) ≡ front
  front_written most slots front back counted same =
      sym (take_min most (front ++ back))
      ∙ ap (λ n. take n (front ++ back)) (omega (arith, counted, same))
      ∙ take-append_seam front back
