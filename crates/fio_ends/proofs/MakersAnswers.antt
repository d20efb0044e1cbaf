-- The maker's answers in a log: the judge accuses nobody by one, and below the next command it is as it was without.
use Rattle.fio_ends.proofs.Names.{◌≡◌, ◌∙◌, ◌+◌, ℕ, Bool, true, false, not, List, [], ◌∷◌, Option, Some, None, refl, ap, ap₂, sym, subst, AllByRecursion, ContentKept, Facts, facts_with, RuleLimits, answer_in, command_in, answer_octets, ContentFacts, content_with, Heard, Sent, nat_lt, fun_ext, answer_back, command_back, IsAnswer, identity_answer, other_answer_code, IsCommand, command_octets, other_command_code, ANSWER, OtherAnswer, Command, OtherCommand, ComplexOutputs, ControllerId, TrackInputs, ContentChecking, checking_with, found_in_frame, input_with_item, unnamed, InputAbove, is_judged, rule_broken_by, item_for, breach_of, checker_with, found_by, number_with_command, Frame, Judging, LogLine, Lost, any_stamp_in, is_asked_again, is_at_cpu, judging_below_outcome, judging_kept, judging_lost, judging_passed, judging_with, loads_below, outcome_found, outcome_in, outcomes_of, place_lost, observation_of, Breach, Load, Unheard, FrameOutcome, BrokenContent, Excused, Kept, NotJudged, Restarted, InputItem, Skips, Nothing, ToCommand, ToPoll, LogPlace, taking, makers_answer, Answered, AnsweredLine, Identified, Plain, answer_kind, begin_heard, lines_with, AccusesNeither, nat_tests, arith}
use Rattle.std.specs.Prelude.{◌&&◌, if◌then◌else◌}
use Rattle.fio_message.specs.declared.answers.OtherAnswer.TheVariants as kinds
use Rattle.fio_message.specs.declared.commands.Command.TheVariants as commands
use Rattle.fio_check.specs.ContentRules.{is_excused}
use Rattle.fio_check.specs.declared.outcome.FrameOutcome.TheVariants.{Broken}
use Rattle.fio_check.specs.declared.observation.Observation.TheVariants as seen
use Rattle.fio_ends.specs.AnsweredLogs.{AnswersAccuseNone, JudgeAccusesNoMaker}
use Rattle.fio_ends.specs.LinkLogs.{JudgeAccusesNone}
use Rattle.fio_ends.proofs.JudgeSteps.{Judged, passed}
use Rattle.fio_ends.proofs.JudgeSteps.{kept as judged}
use Rattle.fio_ends.proofs.JudgedLogs.{judge_accuses_none}

-- ---- what the rules on content make of it

and-false : (b : Bool) → (b && false) ≡ false
and-false true = refl
and-false false = refl

-- it breaks none
none_broken : (facts : ContentFacts) (kind : OtherAnswer) (body : List ℕ) → rule_broken_by facts (Heard (makers_answer kind body)) ≡ None
none_broken facts kind body = rw (and-false (is_judged facts)) refl

either : (within : Bool) (item : Option InputItem) → (if within then item else item) ≡ item
either true item = refl
either false item = refl

none_named : (input : ℕ) → item_for input [] ≡ None
none_named input = either (nat_lt input 64) None

-- below a command without items no input is named, so an answer that takes no configuration changes nothing
abbrev below_other : ContentFacts → OtherCommand → List ℕ → ContentFacts
below_other facts kind body = content_with facts (Sent (commands.Other kind (record { items = body })))

same_input : (above : InputAbove) (input : ℕ)
    → record (input_with_item (unnamed above) (item_for input [])) { named = false } ≡ input_with_item (unnamed above) (item_for input [])
same_input above input = rw (none_named input) refl

same_content : (facts : ContentFacts) (kind : OtherCommand) (body : List ℕ) (answer : OtherAnswer) (octets : List ℕ)
    → content_with (below_other facts kind body) (Heard (makers_answer answer octets)) ≡ below_other facts kind body
unfolding is_excused
same_content facts TrackInputs body answer octets =
    ap (λ inputs. record (below_other facts TrackInputs body) { inputs = inputs }) (fun_ext (λ input. same_input (facts.inputs input) input))
same_content facts ComplexOutputs body answer octets =
    ap (λ inputs. record (below_other facts ComplexOutputs body) { inputs = inputs }) (fun_ext (λ input. same_input (facts.inputs input) input))
same_content facts ControllerId body answer octets =
    ap (λ inputs. record (below_other facts ControllerId body) { inputs = inputs }) (fun_ext (λ input. same_input (facts.inputs input) input))

-- ---- what the judge makes of it

-- the octets of a command of the maker, and of his answer
abbrev asks : OtherCommand → List ℕ → List ℕ
asks kind body = command_octets (commands.Other kind (record { items = body }))

abbrev says : OtherAnswer → List ℕ → List ℕ
says kind body = answer_octets (makers_answer kind body)

command_read : (kind : OtherCommand) (body : List ℕ) → IsCommand (commands.Other kind (record { items = body }))
    → command_in (asks kind body) ≡ Some (commands.Other kind (record { items = body }))
command_read kind body within = command_back _ _ (record { within = within; spelled = refl })

answer_read : (kind : OtherAnswer) (body : List ℕ) → IsAnswer (makers_answer kind body) → answer_in (says kind body) ≡ Some (makers_answer kind body)
answer_read kind body within = answer_back _ _ (record { within = within; spelled = refl })

-- a judge that judges each frame
abbrev judge_on : RuleLimits → Facts → ContentKept → Option ℕ → Option ℕ → ℕ → Judging
judge_on limits facts kept latest asked polls = record {
  checker = taking limits facts;
  content = record { begun = true; kept = kept };
  latest = latest;
  asked = asked;
  polls = polls;
}

-- below a command of the maker
abbrev facts_asked : Facts → OtherCommand → Facts
facts_asked facts kind = facts_with facts (seen.Command (other_command_code kind + ANSWER) false)

abbrev kept_asked : ContentKept → OtherCommand → List ℕ → ContentKept
kept_asked kept kind body = record {
  number = number_with_command kept.number (commands.Other kind (record { items = body }));
  facts = below_other kept.facts kind body;
}

-- and below his answer
abbrev unawaited : Facts → Facts
unawaited facts = record facts { awaited = None }

-- ---- the next command says the same to both

module _ (limits : RuleLimits) (facts : Facts) (kept : ContentKept) (latest asked : Option ℕ) (polls : ℕ) where
  abbrev awaits : Judging
  awaits = judge_on limits facts kept latest asked polls

  abbrev answered : Judging
  answered = judge_on limits (unawaited facts) kept latest asked polls

  sent_outcome : (at : LogPlace) (octets : List ℕ) (found : Option Command) → command_in octets ≡ found
      → outcome_in answered at true octets ≡ outcome_in awaits at true octets
  sent_outcome at octets None is = rw is refl
  sent_outcome at octets (Some (commands.Poll number)) is = rw is refl
  sent_outcome at octets (Some other) is = rw is refl

  below_by : (octets : List ℕ) (found : Option Command) → command_in octets ≡ found → (unheard : Bool) (breach : Option Breach)
      → judging_below_outcome (outcome_found unheard breach None) answered true octets ≡ judging_below_outcome (outcome_found unheard breach None) awaits true octets
  below_by octets None is true None = rw is refl
  below_by octets None is true (Some breach) = rw is refl
  below_by octets None is false None = rw is refl
  below_by octets None is false (Some breach) = rw is refl
  below_by octets (Some (commands.Poll number)) is true None = rw is refl
  below_by octets (Some (commands.Poll number)) is true (Some breach) = rw is refl
  below_by octets (Some (commands.Poll number)) is false None = rw is refl
  below_by octets (Some (commands.Poll number)) is false (Some breach) = rw is refl
  below_by octets (Some other) is true None = rw is refl
  below_by octets (Some other) is true (Some breach) = rw is refl
  below_by octets (Some other) is false None = rw is refl
  below_by octets (Some other) is false (Some breach) = rw is refl

  sent_found : (at : LogPlace) (octets : List ℕ) (found : Option Command) → command_in octets ≡ found
      → outcome_in awaits at true octets
      ≡ outcome_found (not (is_at_cpu at) && is_asked_again facts (observation_of found None)) (breach_of limits facts (observation_of found None)) None
  sent_found at octets None is = rw is refl
  sent_found at octets (Some (commands.Poll number)) is = rw is refl
  sent_found at octets (Some other) is = rw is refl

  sent_below : (at : LogPlace) (octets : List ℕ) (found : Option Command) → command_in octets ≡ found
      → judging_with answered at true octets ≡ judging_with awaits at true octets
  sent_below at octets found is =
      let outcome = sent_found at octets found is in
      ap (λ o. judging_below_outcome o answered true octets) (sent_outcome at octets found is ∙ outcome)
      ∙ below_by octets found is (not (is_at_cpu at) && is_asked_again facts (observation_of found None)) (breach_of limits facts (observation_of found None))
      ∙ sym (ap (λ o. judging_below_outcome o awaits true octets) outcome)

  sent_same : (at : LogPlace) (octets : List ℕ) (lines : List LogLine)
      → outcomes_of answered (Frame at true octets ∷ lines) ≡ outcomes_of awaits (Frame at true octets ∷ lines)
  sent_same at octets lines =
      ap₂ (λ outcome below. outcome ∷ outcomes_of below lines) (sent_outcome at octets (command_in octets) refl) (sent_below at octets (command_in octets) refl)

  first_same : (lines : List AnsweredLine) → begin_heard lines ≡ false → outcomes_of answered (lines_with lines) ≡ outcomes_of awaits (lines_with lines)
  first_same [] none = refl
  first_same (Plain (Frame at true octets) ∷ lines) none = sent_same at octets (lines_with lines)
  first_same (Plain (Frame at false octets) ∷ lines) none = absurd (cc none)
  first_same (Plain Lost ∷ lines) none = refl
  first_same (Answered at below kind body answer ∷ lines) none =
      sent_same at (asks kind body) (Frame below false (says (answer_kind kind) answer) ∷ lines_with lines)
  first_same (Identified at id answer ∷ lines) none = absurd (cc none)

-- ---- the answer, below the command

module _ (limits : RuleLimits) (facts : Facts) (kept : ContentKept) (latest asked : Option ℕ) (polls : ℕ) (body answer : List ℕ) where
  abbrev here : OtherCommand → Judging
  here kind = judge_on limits (facts_asked facts kind) (kept_asked kept kind body) latest asked polls

  abbrev below_here : OtherCommand → Judging
  below_here kind = judge_on limits (unawaited (facts_asked facts kind)) (kept_asked kept kind body) latest asked polls

  is_awaited : (kind : OtherCommand) → found_by (taking limits (facts_asked facts kind)) false (seen.Answer (other_answer_code (answer_kind kind)) false) ≡ None
  is_awaited TrackInputs = refl
  is_awaited ComplexOutputs = refl
  is_awaited ControllerId = refl

  taken_below : (kind : OtherCommand) → checker_with (taking limits (facts_asked facts kind)) false (seen.Answer (other_answer_code (answer_kind kind)) false)
      ≡ taking limits (unawaited (facts_asked facts kind))
  taken_below TrackInputs = refl
  taken_below ComplexOutputs = refl
  taken_below ControllerId = refl

  content_none : (kind : OtherCommand) → IsAnswer (makers_answer (answer_kind kind) answer)
      → found_in_frame (record { begun = true; kept = kept_asked kept kind body }) false (says (answer_kind kind) answer) ≡ None
  content_none kind within =
      rw (answer_read (answer_kind kind) answer within) (rw (none_broken (below_other kept.facts kind body) (answer_kind kind) answer) refl)

  answered_is : (kind : OtherCommand) → IsAnswer (makers_answer (answer_kind kind) answer)
      → judging_kept (here kind) false (says (answer_kind kind) answer) ≡ below_here kind
  answered_is kind within = rw (answer_read (answer_kind kind) answer within) (
      ap₂ (λ checker facts. record (here kind) { checker = checker; content = record { begun = true; kept = record (kept_asked kept kind body) { facts = facts } } })
      (taken_below kind) (same_content kept.facts kind body (answer_kind kind) answer))

  answer_judged : (below : LogPlace) (kind : OtherCommand) → IsAnswer (makers_answer (answer_kind kind) answer)
      → Judged (here kind) below false (says (answer_kind kind) answer) (judging_kept (here kind) false (says (answer_kind kind) answer))
  answer_judged below kind within =
      let read = answer_read (answer_kind kind) answer within in
      judged (here kind) below false (says (answer_kind kind) answer)
      (rw read refl) (rw read refl) (rw read (is_awaited kind)) (content_none kind within)

  -- so both frames accuse nobody, and the rest is as without the answer
  two : (judging : Judging) (at below : LogPlace) (kind : OtherCommand) → IsAnswer (makers_answer (answer_kind kind) answer)
      → Judged judging at true (asks kind body) (here kind)
      → (rest : List AnsweredLine) → begin_heard rest ≡ false
      → AllByRecursion AccusesNeither (outcomes_of (judging_with judging at true (asks kind body)) (lines_with rest))
      → AllByRecursion AccusesNeither (outcomes_of judging (Frame at true (asks kind body) ∷ Frame below false (says (answer_kind kind) answer) ∷ lines_with rest))
  two judging at below kind within first rest none all =
      let second = answer_judged below kind within in
      let last : AllByRecursion AccusesNeither (outcomes_of (below_here kind) (lines_with rest)) =
      subst (AllByRecursion AccusesNeither) (sym (first_same limits (facts_asked facts kind) (kept_asked kept kind body) latest asked polls rest none))
      (subst (λ next. AllByRecursion AccusesNeither (outcomes_of next (lines_with rest))) first.is all) in
      let next : AllByRecursion AccusesNeither (outcomes_of (judging_with (here kind) below false (says (answer_kind kind) answer)) (lines_with rest)) =
      subst (λ judge. AllByRecursion AccusesNeither (outcomes_of judge (lines_with rest))) (sym (second.is ∙ answered_is kind within)) last in (
        first.fine,
        subst (λ judge. AllByRecursion AccusesNeither (outcomes_of judge (Frame below false (says (answer_kind kind) answer) ∷ lines_with rest)))
            (sym first.is) (second.fine, next),
      )

-- ---- the command above it

module _ (limits : RuleLimits) (facts : Facts) (content : ContentChecking) (latest asked : Option ℕ) (polls : ℕ) where
  abbrev judge_by : Skips → Judging
  judge_by skips = record {
    checker = record { limits = limits; facts = facts; skips = skips };
    content = content;
    latest = latest;
    asked = asked;
    polls = polls;
  }

  command_kept : (skips : Skips) → (skips ≡ ToPoll → ⊥) → (kind : OtherCommand) (body : List ℕ) (at : LogPlace)
      → IsCommand (commands.Other kind (record { items = body }))
      → Judged (judge_by skips) at true (asks kind body) (judge_on limits (facts_asked facts kind) (kept_asked content.kept kind body) latest asked polls)
  command_kept ToPoll other kind body at within = absurd (other refl)
  command_kept Nothing other kind body at within =
      let read = command_read kind body within in
      let first = judged (judge_by Nothing) at true (asks kind body) (rw read refl) refl (rw read refl) (rw read refl) in
      record { fine = first.fine; is = first.is ∙ rw read refl }
  command_kept ToCommand other kind body at within =
      let read = command_read kind body within in
      let first = judged (judge_by ToCommand) at true (asks kind body) (rw read refl) refl (rw read refl) (rw read refl) in
      record { fine = first.fine; is = first.is ∙ rw read refl }

  -- where the place is lost both are passed over
  both_passed : (kind : OtherCommand) (body answer : List ℕ) (at below : LogPlace)
      → IsCommand (commands.Other kind (record { items = body })) → IsAnswer (makers_answer (answer_kind kind) answer)
      → (lines : List LogLine)
      → AllByRecursion AccusesNeither (outcomes_of (judging_with (judge_by ToPoll) at true (asks kind body)) lines)
      → AllByRecursion AccusesNeither (outcomes_of (judge_by ToPoll) (Frame at true (asks kind body) ∷ Frame below false (says (answer_kind kind) answer) ∷ lines))
  both_passed kind body answer at below within may lines all =
      let first = passed (judge_by ToPoll) at true (asks kind body) (rw (command_read kind body within) refl) in
      let next = judging_passed (judge_by ToPoll) true (asks kind body) in
      let second = passed next below false (says (answer_kind kind) answer) (rw (answer_read (answer_kind kind) answer may) refl) in
      let last : AllByRecursion AccusesNeither (outcomes_of (judging_with next below false (says (answer_kind kind) answer)) lines) =
      subst (λ judge. AllByRecursion AccusesNeither (outcomes_of judge lines)) (sym second.is)
      (subst (λ judge. AllByRecursion AccusesNeither (outcomes_of judge lines)) first.is all) in (
        first.fine,
        subst (λ judge. AllByRecursion AccusesNeither (outcomes_of judge (Frame below false (says (answer_kind kind) answer) ∷ lines)))
            (sym first.is) (second.fine, last),
      )

  -- whatever is skipped
  command_answered : (skips : Skips) (kind : OtherCommand) (body answer : List ℕ) (at below : LogPlace)
      → IsCommand (commands.Other kind (record { items = body })) → IsAnswer (makers_answer (answer_kind kind) answer)
      → (rest : List AnsweredLine) → begin_heard rest ≡ false
      → AllByRecursion AccusesNeither (outcomes_of (judging_with (judge_by skips) at true (asks kind body)) (lines_with rest))
      → AllByRecursion AccusesNeither (outcomes_of (judge_by skips) (Frame at true (asks kind body) ∷ Frame below false (says (answer_kind kind) answer) ∷ lines_with rest))
  command_answered ToPoll kind body answer at below within may rest none all = both_passed kind body answer at below within may (lines_with rest) all
  command_answered Nothing kind body answer at below within may rest none all =
      two limits facts content.kept latest asked polls body answer (judge_by Nothing) at below kind may
      (command_kept Nothing (λ is. absurd (cc is)) kind body at within) rest none all
  command_answered ToCommand kind body answer at below within may rest none all =
      two limits facts content.kept latest asked polls body answer (judge_by ToCommand) at below kind may
      (command_kept ToCommand (λ is. absurd (cc is)) kind body at within) rest none all

-- ---- an identification

-- its body says nothing to the judge
module _ (judging : Judging) (id : ℕ) (answer : List ℕ) (one : IsAnswer (identity_answer id)) (more : IsAnswer (makers_answer kinds.Identify answer)) where
  own : answer_in (answer_octets (identity_answer id)) ≡ Some (identity_answer id)
  own = answer_read kinds.Identify (id ∷ []) one

  his : answer_in (says kinds.Identify answer) ≡ Some (makers_answer kinds.Identify answer)
  his = answer_read kinds.Identify answer more

  identified_outcome : (at : LogPlace) → outcome_in judging at false (answer_octets (identity_answer id)) ≡ outcome_in judging at false (says kinds.Identify answer)
  unfolding is_excused
  identified_outcome at = rw (own, his) refl

  identified_content : checking_with judging.content false (answer_octets (identity_answer id)) ≡ checking_with judging.content false (says kinds.Identify answer)
  unfolding is_excused
  identified_content = rw (own, his) refl

  identified_stamp : any_stamp_in false (answer_octets (identity_answer id)) ≡ any_stamp_in false (says kinds.Identify answer)
  identified_stamp = rw (own, his) refl

  identified_lost : place_lost judging (loads_below judging false (answer_octets (identity_answer id))) (any_stamp_in false (answer_octets (identity_answer id)))
      ≡ place_lost judging (loads_below judging false (says kinds.Identify answer)) (any_stamp_in false (says kinds.Identify answer))
  identified_lost = ap₂ (place_lost judging) (ap (λ (content : ContentChecking). content.kept.facts.excuses) identified_content) identified_stamp

  identified_by : (outcome : FrameOutcome) → judging_below_outcome outcome judging false (answer_octets (identity_answer id)) ≡ judging_below_outcome outcome judging false (says kinds.Identify answer)
  unfolding is_excused
  identified_by Kept = rw (own, his) refl
  identified_by (BrokenContent breach) = rw (own, his) refl
  identified_by (Broken breach) = rw (own, his) refl
  identified_by (Excused Load) = identified_lost
  identified_by (Excused Unheard) = rw (own, his) refl
  identified_by Restarted = identified_lost
  identified_by (NotJudged reason) = refl

  identified_below : (at : LogPlace) → judging_with judging at false (answer_octets (identity_answer id)) ≡ judging_with judging at false (says kinds.Identify answer)
  identified_below at =
      ap (λ outcome. judging_below_outcome outcome judging false (answer_octets (identity_answer id))) (identified_outcome at)
      ∙ identified_by (outcome_in judging at false (says kinds.Identify answer))

-- ---- all lines

pub answers_accuse_none : AnswersAccuseNone
unfolding AnswersAccuseNone
answers_accuse_none judging [] given all = all
answers_accuse_none judging (Plain (Frame at from_cpu octets) ∷ lines) given all =
    (all.0, answers_accuse_none (judging_with judging at from_cpu octets) lines given all.1)
answers_accuse_none judging (Plain Lost ∷ lines) given all = answers_accuse_none (judging_lost judging) lines given all
answers_accuse_none judging (Answered at below kind body answer ∷ lines) given all =
    command_answered judging.checker.limits judging.checker.facts judging.content judging.latest judging.asked judging.polls judging.checker.skips
    kind body answer at below given.0 given.1 lines given.2
    (answers_accuse_none (judging_with judging at true (asks kind body)) lines given.3 all.1)
answers_accuse_none judging (Identified at id answer ∷ lines) given all = (
  subst AccusesNeither (identified_outcome judging id answer given.0 given.1 at) all.0,
  subst (λ next. AllByRecursion AccusesNeither (outcomes_of next (lines_with lines))) (identified_below judging id answer given.0 given.1 at)
      (answers_accuse_none (judging_with judging at false (answer_octets (identity_answer id))) lines given.2 all.1),
)

pub judge_accuses_no_maker : JudgeAccusesNoMaker
unfolding JudgeAccusesNoMaker AnswersAccuseNone JudgeAccusesNone
judge_accuses_no_maker begun settings limits first before steps machine last log lines given without = grind (arith, nat_tests, answers_accuse_none, judge_accuses_none)
