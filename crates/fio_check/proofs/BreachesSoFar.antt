-- What a check has found once it has gone through the first lines of a transcript.
use Rattle.fio_check.proofs.Names.{◌≡◌, ◌≤◌, ℕ, suc, List, Option, Some, None, refl, arith, length, option_map, slice_get, unwrap_or, facts_at, facts_with, TranscriptLine, observation_on, earliest_above, first_broken, breach_at, verdict_on, Rule, Verdict, Good, Broken, Facts}
use Rattle.fio_check.proofs.KeptFacts.{facts_next, seen_at}
use Rattle.fio_check.proofs.Verdicts.{breach-is, earliest_stays}

-- the breach is that of the earliest line that breaks a rule; while there is none, the facts are those of the lines
pub record StandsSoFar (lines : List TranscriptLine) (frames : ℕ) (facts : Facts) (breach : Option Verdict) : Type 0 where
  pub found : breach ≡ earliest_above (breach_at lines) frames
  pub kept : breach ≡ None → facts ≡ facts_at lines frames

module _ (lines : List TranscriptLine) (frames : ℕ) (facts : Facts) where
  -- no line is left
  pub verdict_so_far : (breach : Option Verdict) → frames ≡ length lines → StandsSoFar lines frames facts breach
      → verdict_on lines ≡ unwrap_or breach (Good frames)
  verdict_so_far breach all so_far = grind arith

  -- a breach decides, whatever is left
  pub verdict_of_breach : (verdict : Verdict) → frames ≤ length lines → StandsSoFar lines frames facts (Some verdict)
      → verdict_on lines ≡ verdict
  verdict_of_breach verdict within so_far = grind (arith, earliest_stays)

  -- ---- one line more

  -- after a breach
  pub stands_after_breach : (facts' : Facts) (verdict : Verdict) → StandsSoFar lines frames facts (Some verdict)
      → StandsSoFar lines (suc frames) facts' (Some verdict)
  stands_after_breach facts' verdict so_far = grind arith

  unbroken : (number : ℕ) (broken : Option Rule) → option_map (Broken number) broken ≡ None → broken ≡ None
  unbroken number None is = refl
  unbroken number (Some rule) is = absurd (cc)

  -- while there is no breach, by the rule that the line breaks
  pub stands_with_line : (line : TranscriptLine) (facts' : Facts) (broken : Option Rule) → slice_get lines frames ≡ Some line
      → broken ≡ first_broken facts (observation_on line) → (broken ≡ None → facts' ≡ facts_with facts (observation_on line))
      → StandsSoFar lines frames facts None → StandsSoFar lines (suc frames) facts' (option_map (Broken line.number) broken)
  stands_with_line line facts' broken here is added so_far = grind (arith, breach-is, facts_next, seen_at, unbroken)
