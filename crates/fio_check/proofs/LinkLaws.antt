-- Laws of the judge of a link.
use Rattle.fio_check.proofs.Names.{◌≡◌, ◌∙◌, ℕ, suc, Bool, true, false, List, [], ◌∷◌, Option, Some, None, refl, sym, ap, ap₂, fold, map, list_any, is_some, if◌then◌else◌, is_some_and, facts_with, number_polled, ContentChecking, ContentFacts, checking_with, found_in_frame, content_with, Sent, Breach, Checker, Command, ContentBreach, ContentRule, Frame, FrameOutcome, Judging, LogLine, LogPlace, Nothing, Observation, Poll, RuleLimits, Skips, ToCommand, breach_of, checker_below_breach, checker_with, command_from, content_events, content_here, found_by, is_loading, is_unheard, judging_below, judging_with, loads_left, nat_lt, observation_in, one_excuse_more, outcome_found, outcome_in, outcomes_of, passes_over, ◌||◌, arith}
use Rattle.std.specs.Prelude.{filter, max}
use Rattle.fio_check.specs.LinkJudges.{Lost, checker_below_lines, is_set_back, judging_below_outcome, judging_kept, judging_lost, may_be_anew, outcome_anew, outcome_judged, outcome_of_content, outcome_set_back, unjudged_by, with_loads}
use Rattle.fio_check.specs.LinkLaws.{HasOutcomes, IsLost, LinkGoesOn, LosesPlace, is_frame_line, is_poll, is_poll_line, judging_again, loads_below_lines, loads_with, loses_place}
use Rattle.fio_check.specs.declared.outcome.Excuse.TheVariants.{Load}
use Rattle.fio_check.specs.declared.outcome.FrameOutcome.TheVariants.{Kept, Broken, Excused, NotJudged, Restarted}
use Rattle.fio_check.specs.declared.outcome.Unjudged.{Unjudged}
use Rattle.fio_check.specs.declared.outcome.Unjudged.TheVariants.{PlaceLost}
use Rattle.fio_check.proofs.Checkers.{limits-stay, passes-it, with-breach}
use Rattle.fio_check.proofs.LinkJudges.{again-finds-nothing}
use Rattle.fio_check.proofs.Unexcused.{sent_step}

-- ---- each frame

pub has_outcomes : (judging : Judging) (lines : List LogLine) → HasOutcomes judging lines
has_outcomes judging [] = refl
has_outcomes judging (Frame at from_cpu octets ∷ lines) = ap suc (has_outcomes (judging_with judging at from_cpu octets) lines)
has_outcomes judging (Lost ∷ lines) = has_outcomes (judging_lost judging) lines

-- ---- a place that is lost

-- a judge where the place is lost
abbrev pub lost_at : RuleLimits → ContentChecking → Option ℕ → Option ℕ → ℕ → Judging
lost_at limits content latest asked polls = record {
  checker = checker_below_breach limits;
  content = content;
  latest = latest;
  asked = asked;
  polls = polls;
}

none-is : (number : Option ℕ) → is_some number ≡ false → number ≡ None
none-is None is = refl
none-is (Some number) is = absurd (cc)

either-not : (one other : Bool) → one || other ≡ false → (one ≡ false) × (other ≡ false)
either-not true other is = absurd (cc)
either-not false other is = (refl, is)

-- the checker of the rules on content with a frame that is not judged
abbrev content-passed : ContentChecking → Bool → List ℕ → ContentChecking
content-passed content true octets = checking_with content true octets
content-passed content false octets = content

module _ (limits : RuleLimits) (latest asked : Option ℕ) (polls : ℕ) where
  outcome-lost : (content : ContentChecking) (at : LogPlace) (from_cpu : Bool) (octets : List ℕ)
      → is_poll from_cpu octets ≡ false
      → outcome_in (lost_at limits content latest asked polls) at from_cpu octets ≡ NotJudged PlaceLost
  outcome-lost content at from_cpu octets other =
      rw (passes-it limits from_cpu (observation_in from_cpu octets) (none-is (number_polled (observation_in from_cpu octets)) other)) refl

  passed-is : (content : ContentChecking) (from_cpu : Bool) (octets : List ℕ)
      → judging_below_outcome (NotJudged PlaceLost) (lost_at limits content latest asked polls) from_cpu octets
      ≡ lost_at limits (content-passed content from_cpu octets) latest asked polls
  passed-is content true octets = refl
  passed-is content false octets = refl

  with-lost : (content : ContentChecking) (at : LogPlace) (from_cpu : Bool) (octets : List ℕ)
      → is_poll from_cpu octets ≡ false
      → judging_with (lost_at limits content latest asked polls) at from_cpu octets
      ≡ lost_at limits (content-passed content from_cpu octets) latest asked polls
  with-lost content at from_cpu octets other = grind (arith, outcome-lost, passed-is)

  passes_lines : (content : ContentChecking) (lines : List LogLine) → list_any is_poll_line lines ≡ false
      → outcomes_of (lost_at limits content latest asked polls) lines ≡ map (λ line. NotJudged PlaceLost) (filter is_frame_line lines)
  passes_lines content [] none = refl
  passes_lines content (Frame at from_cpu octets ∷ lines) none =
      let both = either-not (is_poll from_cpu octets) (list_any is_poll_line lines) none in
      ap₂ (◌∷◌) (outcome-lost content at from_cpu octets both.0)
      (ap (λ judging. outcomes_of judging lines) (with-lost content at from_cpu octets both.0)
      ∙ passes_lines (content-passed content from_cpu octets) lines both.1)
  passes_lines content (Lost ∷ lines) none =
      passes_lines (with_loads (max 1 content.kept.facts.excuses) content) lines none

  -- the checker of the rules on content below lines that are not judged
  abbrev pub content-below : ContentChecking → List LogLine → ContentChecking
  content-below content [] = content
  content-below content (Frame at from_cpu octets ∷ lines) = content-below (content-passed content from_cpu octets) lines
  content-below content (Lost ∷ lines) = content-below (with_loads (max 1 content.kept.facts.excuses) content) lines

  pub below-lost : (content : ContentChecking) (lines : List LogLine) → list_any is_poll_line lines ≡ false
      → judging_below (lost_at limits content latest asked polls) lines
      ≡ lost_at limits (content-below content lines) latest asked polls
  below-lost content [] none = refl
  below-lost content (Frame at from_cpu octets ∷ lines) none =
      let both = either-not (is_poll from_cpu octets) (list_any is_poll_line lines) none in
      ap (λ judging. judging_below judging lines) (with-lost content at from_cpu octets both.0)
      ∙ below-lost (content-passed content from_cpu octets) lines both.1
  below-lost content (Lost ∷ lines) none =
      below-lost (with_loads (max 1 content.kept.facts.excuses) content) lines none

  loads-by : (facts : ContentFacts) (number : Option ℕ) (command : Option Command)
      → (fold content_with facts (content_events number command None)).excuses
      ≡ (if is_some_and command (λ sent. is_some (is_loading (Sent sent))) then one_excuse_more facts.excuses else facts.excuses)
  loads-by facts number None = refl
  loads-by facts number (Some command) = ap (λ (f : ContentFacts). f.excuses) (sent_step facts command)

  loads-passed : (content : ContentChecking) (at : LogPlace) (from_cpu : Bool) (octets : List ℕ)
      → (content-passed content from_cpu octets).kept.facts.excuses ≡ loads_with content.kept.facts.excuses (Frame at from_cpu octets)
  loads-passed content at true octets = loads-by content.kept.facts content.kept.number (command_from true octets)
  loads-passed content at false octets = refl

  pub loads-below : (content : ContentChecking) (lines : List LogLine)
      → (content-below content lines).kept.facts.excuses ≡ loads_below_lines content.kept.facts.excuses lines
  loads-below content [] = refl
  loads-below content (Frame at from_cpu octets ∷ lines) =
      loads-below (content-passed content from_cpu octets) lines
      ∙ ap (λ loads. loads_below_lines loads lines) (loads-passed content at from_cpu octets)
  loads-below content (Lost ∷ lines) = loads-below (with_loads (max 1 content.kept.facts.excuses) content) lines

-- ---- the next poll

pub poll-is : (observation : Observation) → is_some (number_polled observation) ≡ true → (number : ℕ) × (observation ≡ Poll number)
poll-is observation is = grind arith

module _ (limits : RuleLimits) (latest asked : Option ℕ) (polls : ℕ) (content : ContentChecking) where
  abbrev here : Judging
  here = lost_at limits content latest asked polls

  abbrev anew : Judging
  anew = judging_again here content.kept.facts.excuses

  -- the poll keeps all rules
  pub poll-kept : (at : LogPlace) (octets : List ℕ) (number : ℕ) → observation_in true octets ≡ Poll number
      → outcome_in here at true octets ≡ Kept
  poll-kept at octets number is = grind (arith, again-finds-nothing)

  pub poll-kept-anew : (at : LogPlace) (octets : List ℕ) (number : ℕ) → observation_in true octets ≡ Poll number
      → outcome_in anew at true octets ≡ Kept
  poll-kept-anew at octets number is = grind (arith, again-finds-nothing)

  pub poll-same : (octets : List ℕ) (number : ℕ) → observation_in true octets ≡ Poll number
      → judging_kept here true octets ≡ judging_kept anew true octets
  poll-same octets number is = rw (is) refl

  starts-at : (at : LogPlace) (octets : List ℕ) (below : List LogLine) → is_poll true octets ≡ true
      → outcomes_of here (Frame at true octets ∷ below) ≡ outcomes_of anew (Frame at true octets ∷ below)
  starts-at at octets below polls = grind (arith, poll-is, poll-kept, poll-kept-anew, poll-same)

-- a judge where the place is lost, by its fields
pub is-lost : (judging : Judging) → IsLost judging
    → judging ≡ lost_at judging.checker.limits judging.content judging.latest judging.asked judging.polls
is-lost judging lost = ap {B = Judging} (λ checker. record judging { checker = checker }) lost

pub goes_on : (judging : Judging) (above : List LogLine) → LinkGoesOn judging above
goes_on judging above =
    let limits = judging.checker.limits in
    let content = judging.content in
    record {
      passes = λ lost none. ap (λ j. outcomes_of j above) (is-lost judging lost)
          ∙ passes_lines limits judging.latest judging.asked judging.polls content above none;
      starts = λ at octets below lost none polls.
          (let later = content-below limits judging.latest judging.asked judging.polls content above in
          ap (λ j. outcomes_of (judging_below j above) (Frame at true octets ∷ below)) (is-lost judging lost)
          ∙ ap (λ j. outcomes_of j (Frame at true octets ∷ below)) (below-lost limits judging.latest judging.asked judging.polls content above none)
          ∙ starts-at limits judging.latest judging.asked judging.polls later at octets below polls
          ∙ ap (λ loads. outcomes_of (judging_again judging loads) (Frame at true octets ∷ below))
          (loads-below limits judging.latest judging.asked judging.polls content above));
    }

-- ---- where the place is lost

mark-loses : (checker : Checker) (skips : Skips) → (skips ≡ ToCommand → ⊥)
    → checker_below_lines checker skips ≡ checker_below_breach checker.limits
mark-loses checker skips other = grind arith

-- below a frame that breaks a rule of transcripts
set-back-is : (left : Bool) (breach : Breach) → (if left then Excused Load else Restarted) ≡ Broken breach → ⊥
set-back-is true breach is = cc
set-back-is false breach is = cc

-- if a frame may be of a module that was restarted, and it is said to break a rule, it breaks that rule
rest-is : (rest : Bool) (one breach : Breach) → (if rest then Restarted else Broken one) ≡ Broken breach → Broken one ≡ Broken breach
rest-is true one breach is = absurd (cc)
rest-is false one breach is = is

anew-is : (anew : Bool) (judged : FrameOutcome) (breach : Breach) → outcome_anew anew judged ≡ Broken breach → judged ≡ Broken breach
anew-is anew judged breach is = grind (arith, rest-is)

content-is : (content : ContentBreach) (rule : ContentRule) (breach : Breach) → outcome_of_content content rule ≡ Broken breach → ⊥
content-is content rule breach is = grind arith

found-is : (unheard : Bool) (found : Option Breach) (content : Option ContentBreach) (breach : Breach)
    → outcome_found unheard found content ≡ Broken breach → is_some found ≡ true
found-is unheard found content breach is = grind (arith, content-is)

in-is : (passes back : Bool) (reason : Unjudged) (set judged : FrameOutcome) (breach : Breach) → (set ≡ Broken breach → ⊥)
    → (if passes then NotJudged reason else (if back then set else judged)) ≡ Broken breach → judged ≡ Broken breach
in-is passes back reason set judged breach other is = grind arith

module _ (judging : Judging) (at : LogPlace) (from_cpu : Bool) (octets : List ℕ) where
  abbrev says_it : Observation
  says_it = observation_in from_cpu octets

  broken-lost : (breach : Breach) → outcome_in judging at from_cpu octets ≡ Broken breach
      → checker_with judging.checker from_cpu says_it ≡ checker_below_breach judging.checker.limits
  broken-lost breach is =
      let judged = in-is (passes_over judging.checker from_cpu says_it) (is_set_back judging from_cpu octets)
      (unjudged_by judging.checker.skips) (outcome_set_back judging) (outcome_anew (may_be_anew judging from_cpu octets) (outcome_judged judging at from_cpu octets)) breach
      (set-back-is (nat_lt 0 (loads_left judging)) breach) is in
      with-breach judging.checker.limits judging.checker
      (record judging.checker { facts = facts_with judging.checker.facts says_it; skips = Nothing })
      (passes_over judging.checker from_cpu says_it) (breach_of judging.checker.limits judging.checker.facts says_it)
      (found-is (is_unheard judging at says_it) (found_by judging.checker from_cpu says_it)
      (found_in_frame (content_here judging) from_cpu octets) breach
      (anew-is (may_be_anew judging from_cpu octets) (outcome_judged judging at from_cpu octets) breach judged))

  outcome-loses : (outcome : FrameOutcome) → outcome_in judging at from_cpu octets ≡ outcome → loses_place outcome ≡ true
      → IsLost (judging_below_outcome outcome judging from_cpu octets)
  outcome-loses outcome is loses = grind (arith, broken-lost, limits-stay)

pub loses_the_place : (judging : Judging) → LosesPlace judging
loses_the_place judging = record {
  mark = λ other. (let lost = mark-loses judging.checker judging.checker.skips other in
      lost ∙ ap checker_below_breach (sym (ap (λ (checker : Checker). checker.limits) lost)));
  frame = λ at from_cpu octets loses. outcome-loses judging at from_cpu octets (outcome_in judging at from_cpu octets) refl loses;
}
