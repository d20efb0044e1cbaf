-- Below a lost place the judge of a link finds what both checkers find that begin at the next poll.
use Rattle.fio_check.proofs.Names.{◌≡◌, ◌∙◌, ℕ, inl, Bool, true, false, List, ◌∷◌, Option, refl, sym, ap, ap₂, subst, option_or, TranscriptLine, ContentChecking, Checker, Frame, FrameOutcome, Judging, LogLine, Poll, RuleLimits, both_find_first, judging_below, judging_with, observation_in, arith}
use Rattle.fio_check.specs.Checkers.{checker_within}
use Rattle.fio_check.specs.LinkJudges.{Lost, checking_again, judging_below_outcome, judging_taken, judging_with_line, outcome_in, stamp_in}
use Rattle.fio_check.specs.LinkLaws.{GoesOnAsCheckers, IsLost, LosesAt, RunsOn, accused, accused_first, is_poll, is_set_anew, judging_again, sent_on}
use Rattle.fio_check.specs.declared.outcome.Excuse.TheVariants.{Load, Unheard}
use Rattle.fio_check.specs.declared.outcome.LogPlace.TheVariants.{Cpu}
use Rattle.fio_check.specs.declared.outcome.FrameOutcome.TheVariants.{Kept, Broken, BrokenContent, Excused, NotJudged, Restarted}
use Rattle.fio_check.proofs.Checkers.{limits-stay}
use Rattle.fio_check.proofs.LinkLaws.{below-lost, content-below, is-lost, loads-below, lost_at, loses_the_place, poll-is, poll-kept, poll-kept-anew, poll-same}
use Rattle.fio_check.proofs.LinkTranscripts.{at-checker, says}

-- ---- at the poll

module _ (limits : RuleLimits) (latest asked : Option ℕ) (polls : ℕ) (content : ContentChecking) where
  abbrev here : Judging
  here = lost_at limits content latest asked polls

  abbrev anew : Judging
  anew = judging_again here content.kept.facts.excuses

  -- the same below the poll
  next-is : (octets : List ℕ) (number : ℕ) → observation_in true octets ≡ Poll number
      → judging_with here Cpu true octets ≡ judging_with anew Cpu true octets
  next-is octets number is =
      ap (λ (outcome : FrameOutcome). judging_below_outcome outcome here true octets) (poll-kept limits latest asked polls content Cpu octets number is)
      ∙ poll-same limits latest asked polls content octets number is
      ∙ sym (ap (λ (outcome : FrameOutcome). judging_below_outcome outcome anew true octets) (poll-kept-anew limits latest asked polls content Cpu octets number is))

  outcome-is : (octets : List ℕ) (number : ℕ) → observation_in true octets ≡ Poll number
      → outcome_in here Cpu true octets ≡ outcome_in anew Cpu true octets
  outcome-is octets number is =
      poll-kept limits latest asked polls content Cpu octets number is
      ∙ sym (poll-kept-anew limits latest asked polls content Cpu octets number is)

  accused-at : (number : ℕ) (octets : List ℕ) (below : List TranscriptLine) → is_poll true octets ≡ true
      → accused_first here (sent_on number octets ∷ below) ≡ accused_first anew (sent_on number octets ∷ below)
  accused-at number octets below is =
      let poll = poll-is (observation_in true octets) is in
      ap₂ (λ (outcome : FrameOutcome) (judging : Judging). option_or (accused number outcome) (accused_first judging below))
      (outcome-is octets poll.0 poll.1) (next-is octets poll.0 poll.1)

  runs-at : (number : ℕ) (octets : List ℕ) (below : List TranscriptLine) → is_poll true octets ≡ true
      → RunsOn here (sent_on number octets ∷ below) → RunsOn anew (sent_on number octets ∷ below)
  runs-at number octets below is runs =
      let poll = poll-is (observation_in true octets) is in (
        ap is_set_anew (sym (outcome-is octets poll.0 poll.1)) ∙ runs.0,
        subst (λ (judging : Judging). RunsOn judging below) (next-is octets poll.0 poll.1) runs.1,
      )

  found-at : (number : ℕ) (octets : List ℕ) (below : List TranscriptLine) → is_poll true octets ≡ true
      → RunsOn here (sent_on number octets ∷ below)
      → accused_first here (sent_on number octets ∷ below)
      ≡ both_find_first (checker_within limits) (checking_again content.kept.facts.excuses) (sent_on number octets ∷ below)
  found-at number octets below is runs =
      accused-at number octets below is
      ∙ says anew (sent_on number octets ∷ below) (inl refl) (runs-at number octets below is runs)

-- ---- where the place is lost

limits-below : (outcome : FrameOutcome) (judging : Judging) (from_cpu : Bool) (octets : List ℕ)
    → (judging_below_outcome outcome judging from_cpu octets).checker.limits ≡ judging.checker.limits
limits-below Kept judging from_cpu octets =
    ap (λ (checker : Checker). checker.limits) (at-checker (judging_taken judging judging.checker from_cpu octets) (stamp_in from_cpu octets))
    ∙ limits-stay judging.checker from_cpu (observation_in from_cpu octets)
limits-below (BrokenContent breach) judging from_cpu octets =
    ap (λ (checker : Checker). checker.limits) (at-checker (judging_taken judging judging.checker from_cpu octets) (stamp_in from_cpu octets))
    ∙ limits-stay judging.checker from_cpu (observation_in from_cpu octets)
limits-below (Broken breach) judging from_cpu octets = limits-stay judging.checker from_cpu (observation_in from_cpu octets)
limits-below (Excused Load) judging from_cpu octets = refl
limits-below (Excused Unheard) judging from_cpu octets = limits-stay (checker_within judging.checker.limits) from_cpu (observation_in from_cpu octets)
limits-below Restarted judging from_cpu octets = refl
limits-below (NotJudged reason) judging true octets = refl
limits-below (NotJudged reason) judging false octets = refl

lost-below : (judging : Judging) (line : LogLine) → LosesAt judging line → IsLost (judging_with_line judging line)
lost-below judging Lost loses = (loses_the_place judging).mark loses
lost-below judging (Frame at from_cpu octets) loses = (loses_the_place judging).frame at from_cpu octets loses

same-limits : (judging : Judging) (line : LogLine) → LosesAt judging line → (judging_with_line judging line).checker.limits ≡ judging.checker.limits
same-limits judging Lost loses = grind arith
same-limits judging (Frame at from_cpu octets) loses = limits-below (outcome_in judging at from_cpu octets) judging from_cpu octets

pub goes_on_as_checkers : (judging : Judging) (line : LogLine) (above : List LogLine) → GoesOnAsCheckers judging line above
goes_on_as_checkers judging line above = record {
  from_poll = λ number octets below loses none is runs. (
      let lost = judging_with_line judging line in
      let limits = lost.checker.limits in
      let later = content-below limits lost.latest lost.asked lost.polls lost.content above in
      let there = ap (λ (j : Judging). judging_below j above) (is-lost lost (lost-below judging line loses))
      ∙ below-lost limits lost.latest lost.asked lost.polls lost.content above none in
      ap (λ (j : Judging). accused_first j (sent_on number octets ∷ below)) there
      ∙ found-at limits lost.latest lost.asked lost.polls later number octets below is
      (subst (λ (j : Judging). RunsOn j (sent_on number octets ∷ below)) there runs)
      ∙ ap₂ (λ (limits : RuleLimits) (loads : ℕ). both_find_first (checker_within limits) (checking_again loads) (sent_on number octets ∷ below))
      (same-limits judging line loses) (loads-below limits lost.latest lost.asked lost.polls lost.content above));
}
