-- The outcomes and the answers of a module that was started anew, as a judge of a link sees them.
use Rattle.fio_ends.proofs.Names.{◌≡◌, ◌∙◌, Accepted, Cleared, Clock, ◌⊎◌, ◌&&◌, ℕ, Bool, true, false, List, [], ◌∷◌, length, Option, Some, None, refl, ap, ap₂, sym, subst, arith, if◌then◌else◌, is_some, option_and_then, AllByRecursion, Answer, Command, IsCommand, answered_block, command_octets, ContentFacts, ContentKept, content_events, kept_with, Heard, Done, Facts, RuleLimits, first_broken_within, is_some_and, observation_of, Watchdog, AccusesNeither, Block, Excused, FrameOutcome, HaveRestarts, IsRight, Judging, Kept, Load, NotJudged, Restarted, any_stamp_of, breach_among, breaks_answer, filter, is_answer_set_back, is_before, is_restart, stamp_of, stamp_above, ContentBreach}
use Rattle.fio_check.specs.declared.observation.Observation.TheVariants as seen
use Rattle.fio_check.specs.declared.rules.Rule.TheVariants as tried
use Rattle.fio_ends.proofs.ContentLines.{EventsKeep}
use Rattle.fio_ends.proofs.JudgeStamps.{StampState, stamps_heard}
use Rattle.fio_ends.proofs.Sends.{read_back}

-- ---- outcomes

-- an outcome accuses nobody, and says of no restart
abbrev pub IsQuiet : FrameOutcome → Type 0
IsQuiet Kept = Unit {0}
IsQuiet (NotJudged reason) = Unit {0}
IsQuiet other = ⊥

-- one at most says of a restart
abbrev pub HaveOneRestart : List FrameOutcome → Type 0
HaveOneRestart outcomes = HaveRestarts 1 outcomes

-- such outcomes
pub record AreQuiet (outcomes : List FrameOutcome) : Type 0 where
  pub none_accused : AllByRecursion AccusesNeither outcomes
  pub none : length (filter is_restart outcomes) ≡ 0

pub are_quiet : (outcomes : List FrameOutcome) → AllByRecursion IsQuiet outcomes → AreQuiet outcomes
are_quiet [] quiet = record { none_accused = tt; none = refl }
are_quiet (Kept ∷ outcomes) quiet =
    let rest = are_quiet outcomes quiet.1 in record { none_accused = (tt, rest.none_accused); none = rest.none }
are_quiet (NotJudged reason ∷ outcomes) quiet =
    let rest = are_quiet outcomes quiet.1 in record { none_accused = (tt, rest.none_accused); none = rest.none }
are_quiet (other ∷ outcomes) quiet = absurd quiet.0

pub one_quiet : (outcome : FrameOutcome) (outcomes : List FrameOutcome) → outcome ≡ Kept → HaveOneRestart outcomes → HaveOneRestart (outcome ∷ outcomes)
one_quiet outcome outcomes is rest =
    subst (λ o. HaveOneRestart (o ∷ outcomes)) (sym is) (record { none_accused = (tt, rest.none_accused); few = rest.few })

-- the outcome of a frame below which the place is lost
pub one_back : (outcome : FrameOutcome) (outcomes : List FrameOutcome) → (outcome ≡ Restarted) ⊎ (outcome ≡ Excused Load) → AllByRecursion IsQuiet outcomes
    → HaveOneRestart (outcome ∷ outcomes)
one_back outcome outcomes is quiet = grind (arith, are_quiet)

pub quiet_of : (outcomes : List FrameOutcome) → AllByRecursion IsRight outcomes → AllByRecursion IsQuiet outcomes
quiet_of [] right = tt
quiet_of (Kept ∷ outcomes) right = (tt, quiet_of outcomes right.1)
quiet_of (NotJudged reason ∷ outcomes) right = (tt, quiet_of outcomes right.1)
quiet_of (other ∷ outcomes) right = absurd right.0

-- ---- answers

pub never : (b : Bool) → (b && false) ≡ false
never true = refl
never false = refl

-- a stamp that comes before the latest one is set back for the judge
block_back : (again : Bool) (stamp : ℕ) (asked latest : Option ℕ) → is_some_and (if again then None else Some stamp) (λ s. is_some_and latest (is_before s)) ≡ true
    → is_some_and (if again then asked else latest) (is_before stamp) ≡ true
block_back true stamp asked latest is = absurd (cc is)
block_back false stamp asked latest is = is

pub back_of : (judging : Judging) (answer : Option Answer) → is_some_and (option_and_then stamp_of answer) (λ s. is_some_and judging.latest (is_before s)) ≡ true
    → is_some_and answer (is_answer_set_back judging) ≡ true
back_of judging answer is = grind (arith, block_back)

-- it is no block that is sent again
block_stamp : (again : Bool) (stamp : ℕ) → is_some (if again then None else Some stamp) ≡ true → Some stamp ≡ (if again then None else Some stamp)
block_stamp true stamp is = absurd (cc is)
block_stamp false stamp is = refl

pub same_stamp : (answer : Option Answer) → is_some (option_and_then stamp_of answer) ≡ true → option_and_then any_stamp_of answer ≡ option_and_then stamp_of answer
same_stamp answer is = grind (arith, block_stamp)

pub any_heard : (s : StampState) (answer : Option Answer) (stamp : ℕ) → option_and_then any_stamp_of answer ≡ Some stamp → (stamps_heard s answer).any ≡ Some stamp
any_heard s answer stamp is = grind arith

-- nothing is found in an answer, or a breach of the rule on the watchdog
abbrev pub IsOfWatchdog : Option ContentBreach → Type 0
IsOfWatchdog found = (found ≡ None) ⊎ ((breach : ContentBreach) × (found ≡ Some breach) × (breach.rule ≡ Watchdog))

abbrev pub answered_option : Answer → Option Block
answered_option answer = answered_block (Some answer)

-- what both checkers know of the command directly above is the same
pub record IsSame (above facts : Facts) (content kept : ContentFacts) : Type 0 where
  pub awaited : above.awaited ≡ facts.awaited
  pub named : above.absent_named ≡ facts.absent_named
  pub absent : content.absent_named ≡ kept.absent_named

-- an answer without a stamp breaks no rule but that on the watchdog, if it breaks none for one that knows the module
pub record IsPlain (limits : RuleLimits) (above : Facts) (content : ContentKept) (answer : Option Answer) : Type 0 where
  pub code : ℕ
  pub accepted : Bool
  pub said : observation_of None answer ≡ seen.Answer code accepted
  pub rules : first_broken_within limits above (observation_of None answer) ≡ None
  pub found : IsOfWatchdog (breach_among content.facts 0 (content_events content.number None answer))
  pub no_stamp : option_and_then stamp_of answer ≡ None
  pub no_block : option_and_then answered_option answer ≡ None

answer_alike : (limits : RuleLimits) (above facts : Facts) (code : ℕ) (accepted : Bool) → above.awaited ≡ facts.awaited → above.absent_named ≡ facts.absent_named
    → first_broken_within limits facts (seen.Answer code accepted) ≡ None → first_broken_within limits above (seen.Answer code accepted) ≡ None
answer_alike limits above facts code accepted awaited named none =
    ap₂ (λ a n. first_broken_within limits (record facts { awaited = a; absent_named = n }) (seen.Answer code accepted)) awaited named ∙ none

-- an answer to nothing breaks a rule
never_asked : (limits : RuleLimits) (facts : Facts) (code : ℕ) (accepted : Bool) → facts.awaited ≡ None → first_broken_within limits facts (seen.Answer code accepted) ≡ None → ⊥
never_asked limits facts code accepted none broken =
    let is : Some tried.Pair ≡ None = sym (ap (λ a. first_broken_within limits (record facts { awaited = a }) (seen.Answer code accepted)) none) ∙ broken in cc is

only_watchdog : (facts : ContentFacts) (answer : Answer) → breaks_answer facts answer Done ≡ false → breaks_answer facts answer Accepted ≡ false → breaks_answer facts answer Cleared ≡ false
    → breaks_answer facts answer Clock ≡ false → IsOfWatchdog (breach_among facts 0 (Heard answer ∷ []))
only_watchdog facts answer done accepted cleared clock = grind arith

module _ (limits : RuleLimits) (above facts : Facts) (content kept : ContentKept) (same : IsSame above facts content.facts kept.facts) where
  -- the rules on content that this answer does not break
  record KeepsTwo (answer : Answer) : Type 0 where
    pub done : breaks_answer kept.facts answer Done ≡ false
    pub accepted : breaks_answer kept.facts answer Accepted ≡ false

  plain : (answer : Answer) → is_some (any_stamp_of answer) ≡ false → first_broken_within limits facts (observation_of None (Some answer)) ≡ None → KeepsTwo answer
      → IsPlain limits above content (Some answer)
  plain answer none rules keeps = grind (arith, answer_alike, never, only_watchdog)

-- the same of what is heard, by what is known of the command directly above
module _ (limits : RuleLimits) (above facts : Facts) (content kept : ContentKept) (same : (facts.awaited ≡ None) ⊎ IsSame above facts content.facts kept.facts) where
  plain_of : (answer : Answer) → is_some (any_stamp_of answer) ≡ false → first_broken_within limits facts (observation_of None (Some answer)) ≡ None
      → breaks_answer kept.facts answer Done ≡ false → breaks_answer kept.facts answer Accepted ≡ false → IsPlain limits above content (Some answer)
  plain_of answer none rules done accepted = grind (arith, kept, never_asked, plain)

  pub plain_heard : (answer : Option Answer) → is_some (option_and_then any_stamp_of answer) ≡ false → first_broken_within limits facts (observation_of None answer) ≡ None
      → EventsKeep Done kept.facts (content_events kept.number None answer) → EventsKeep Accepted kept.facts (content_events kept.number None answer) → IsPlain limits above content answer
  plain_heard answer none rules done accepted = grind (arith, plain_of)

-- no answer without a stamp is set back
pub not_back : (judging : Judging) (answer : Option Answer) → option_and_then any_stamp_of answer ≡ None → is_some_and answer (is_answer_set_back judging) ≡ false
not_back judging None none = refl
not_back judging (Some answer) none = ap (λ stamp. is_some_and stamp (λ s. is_some_and (stamp_above judging answer) (is_before s))) none

pub is_none : {A : Type 0} → (option : Option A) → is_some option ≡ false → option ≡ None
is_none None is = refl
is_none (Some one) is = absurd (cc is)

-- a command breaks no rule on content, and both checkers know the same of it
pub sent_none : (facts : ContentFacts) (number : Option ℕ) (command : Option Command) → breach_among facts 0 (content_events number command None) ≡ None
sent_none facts number None = refl
sent_none facts number (Some command) = refl

pub sent_absent : (one other : ContentKept) (command : Command) → IsCommand command
    → (kept_with one true (command_octets command)).facts.absent_named ≡ (kept_with other true (command_octets command)).facts.absent_named
sent_absent one other command within = grind (arith, read_back)
