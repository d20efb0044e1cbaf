use Rattle.std.proofs.Common.{◌≡◌, ℕ, ◌+◌, ◌<◌, ◌≤◌, ◌++◌, codes, decimal, List, length, take, sym, subst, ◌∙◌, arith, inl, inr}
use Rattle.std.proofs.Math.ListN.{get_or, set}
use Rattle.std.proofs.lemmas.Bool.Decides.{eqb_tells}
use Rattle.std.proofs.lemmas.List.{get_or-set_same, get_or-set_other, length-set}
use Rattle.fio_show.specs.declared.fronts.Front.{Front}
use Rattle.fio_show.proofs.fronts.Fronts.new.Goals as goal

-- what holds of the first items holds of one more, once that one is written
one-more : {X : Type 0} (P : ℕ → X → Type 0) (items : List X) (place : ℕ) (item : X) → place < length items
    → ((k : ℕ) (other : X) → k < place → P k (get_or items k other)) → P place item
    → (k : ℕ) (other : X) → k < place + 1 → P k (get_or (set items place item) k other)
one-more P items place item within before here k other below =
    elim (eqb_tells k place) [
      | inl same ↦
          subst (λ n. P n (get_or (set items place item) n other)) (sym same.1)
          (subst (P place) (sym (get_or-set_same items place item other within)) here)
      | inr apart ↦
          let earlier : k < place = omega (arith, apart.1) in
          subst (P k) (sym (get_or-set_other items place k item other apart.1)) (before k other earlier)
    ]

pub loop-input-preserved : goal.loop-input-preserved
loop-input-preserved c = record {
  long = length-set c.loop-input.fronts c.loop-input.input c.front_of.result ∙ c.loop-input.invariant.long;
  made = one-more (λ input (front : Front). (take front.count front.octets ≡ codes "input " ++ (decimal input ++ codes " state ")) × (front.count ≤ 16))
      c.loop-input.fronts c.loop-input.input c.front_of.result (omega (arith, c.loop-input.invariant.long)) c.loop-input.invariant.made
      (c.front_of.ensures.front, c.front_of.ensures.within);
}
