-- The lowest input whose state in the record is not that of the latest 181.
use Rattle.fio_check.proofs.Names.{◌≡◌, ◌<◌, ℕ, suc, true, false, Some, None, sym, ap, ap₂, arith, if◌then◌else◌, option_or, earliest_above, ContentFacts, INPUTS, Seen, differing, differs}
use Rattle.fio_check.specs.ContentRules.{first_differing}
use Rattle.fio_check.proofs.Verdicts.{earliest_stays}

module _ (facts : ContentFacts) (seen : Seen) where
  -- an input that does not differ
  pub none_yet : (input : ℕ) → earliest_above (differing facts seen) input ≡ None → differs seen input (facts.inputs input) ≡ false
      → earliest_above (differing facts seen) (suc input) ≡ None
  none_yet input none same = ap₂ option_or none (ap (λ b. if b then Some input else None) same)

  -- the first that does
  pub first_found : (input : ℕ) → input < INPUTS → earliest_above (differing facts seen) input ≡ None → differs seen input (facts.inputs input) ≡ true
      → Some input ≡ first_differing facts seen
  unfolding first_differing
  first_found input within none differ = sym (earliest_stays (differing facts seen) (suc input) INPUTS input (omega arith)
      (ap₂ option_or none (ap (λ b. if b then Some input else None) differ)))

  -- there is none
  pub none_found : earliest_above (differing facts seen) INPUTS ≡ None → None ≡ first_differing facts seen
  unfolding first_differing
  none_found none = sym none
