-- Which rules of transcripts a block answer keeps that carries a block of the module.
use Rattle.fio_ends.proofs.Names.{◌≡◌, ◌∙◌, ◌<◌, ◌≤◌, ◌&&◌, ◌||◌, ℕ, true, false, length, Some, refl, ap, sym, arith, is_some, nat_lt, nat_tests, list_any, BLOCK_ANSWER, Block, CarriesBlockOf, Facts, Life, Rule, RuleLimits, Settings, SuitModule, blocks_of, breaks_within, each-at, entry_of, is_absent, length-map, says_again, says_lost, says_more, is_overfull_within}
use Rattle.fio_check.specs.declared.observation.Observation.TheVariants as seen
use Rattle.fio_check.specs.declared.rules.Rule.TheVariants as tried
use Rattle.fio_ends.proofs.BlocksOfLives.{KeepsLimits, blocks_keep}
use Rattle.fio_ends.proofs.Hears.{has_number, has_rest, is_asked, none_absent, within_limits}

module _ (settings : Settings) (life : Life) (first round : ℕ) (b : Block) (carries : CarriesBlockOf first (blocks_of settings life) b round) where
  -- it has so many entries as the block has transitions
  pub counted : length b.entries ≡ length carries.block.transitions
  counted = ap length carries.carried.entries ∙ length-map carries.block.transitions entry_of

  pub limits_kept : KeepsLimits settings carries.block
  limits_kept = each-at (KeepsLimits settings) (blocks_of settings life) round carries.block (blocks_keep settings life) carries.is_made

  -- directly below its poll it keeps each rule but that on blocks that are sent again, if it has entries where the block above has C
  pub block_keeps : (limits : RuleLimits) → SuitModule settings limits → (facts : Facts) (polled : ℕ) → facts.awaited ≡ Some BLOCK_ANSWER → facts.polled ≡ Some polled
      → b.number ≡ polled → (facts.more ≡ Some true → 1 ≤ length b.entries) → (rule : Rule) → (rule ≡ tried.Same → ⊥)
      → breaks_within limits facts (seen.Block b.number b.status (length b.entries) (list_any (λ entry. is_absent entry.input) b.entries)) rule ≡ false
  block_keeps limits fit facts polled asked polls numbered rest tried.Pair other = is_asked facts.awaited 182 asked
  block_keeps limits fit facts polled asked polls numbered rest tried.Number other = has_number facts.polled polled b.number polls numbered
  block_keeps limits fit facts polled asked polls numbered rest tried.Same other = absurd (other refl)
  block_keeps limits fit facts polled asked polls numbered rest tried.Sequence other = ap (λ out. out && (says_again b.status || is_some facts.more)) carries.in_sequence
  block_keeps limits fit facts polled asked polls numbered rest tried.RuleLimits other =
      let over : is_overfull_within limits b.status (length b.entries) ≡ false =
      within_limits (nat_lt limits.per_block limits.waiting) (says_lost b.status) (says_more b.status) (length b.entries) limits.per_block
      (λ fewer lost.
      (let less : limits.per_block < limits.waiting = grind (arith, nat_tests) in
      carries.carried.more ∙ limits_kept.lost (omega (arith, fit.per_block, fit.waiting)) (sym carries.carried.lost ∙ lost)))
      (λ more. omega (arith, counted, limits_kept.more (sym carries.carried.more ∙ more), fit.per_block)) in
      let none : list_any (λ entry. is_absent entry.input) b.entries ≡ false =
      ap (list_any (λ entry. is_absent entry.input)) carries.carried.entries ∙ none_absent carries.block.transitions limits_kept.inputs in
      ap (λ o. o || list_any (λ entry. is_absent entry.input) b.entries) over ∙ none
  block_keeps limits fit facts polled asked polls numbered rest tried.Rest other = has_rest facts.more (length b.entries) rest
  block_keeps limits fit facts polled asked polls numbered rest rule other = refl
