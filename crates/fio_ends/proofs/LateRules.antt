-- What the judge of a link does with a frame where late answers are left out, by its checker and by what is kept of the answers.
use Rattle.fio_ends.proofs.Names.{◌≡◌, ◌∙◌, ◌⊎◌, ℕ, Bool, true, false, List, [], ◌∷◌, Option, Some, None, refl, ap, sym, subst, arith, if◌then◌else◌, is_some, not, option_map, Breach, Checker, ContentRule, Excused, FrameOutcome, Judging, Kept, Load, LogPlace, NotJudged, Observation, Restarted, Rule, RuleLimits, checker_below_breach, checker_below_lines, checker_with, found_by, find, found_in_frame, content_here, is_set_back, is_unheard, judging_at, judging_below_outcome, judging_passed, judging_taken, judging_with, may_be_anew, number_polled, observation_in, outcome_anew, outcome_found, outcome_in, outcome_judged, outcome_set_back, passes_over, stamp_in, unjudged_by, breach_of, breaks_within, first_broken_within, Facts, excuses_what_is_shown, checker_within, due_in, late_with, lateness_of, is_at_cpu, outcome_of_content, has_content, is_excused_late, is_rule_of_late, judging_in_time, outcome_in_time, outcome_without_content, rules, ContentBreach, LateAnswers, InTime, LateButTaken, LateAbove, Link, Unheard, BrokenContent, Bus, Cpu, Module, Unjudged, IsNoBreach}
use Rattle.fio_check.specs.declared.late_answers.Lateness.TheVariants.{Late as LateOne}
use Rattle.fio_check.specs.declared.outcome.FrameOutcome.TheVariants.{Broken}
use Rattle.fio_check.specs.declared.rules.Rule.TheVariants as tried

-- ---- what is known of a judge

-- this is known of a checker and of what is kept of the answers: for which answer the latest command waits, the latest poll, and
-- whether that was answered
abbrev pub Holds : (Checker → Option ℕ → Option ℕ → Bool → Type 0) → Checker → LateAnswers → Type 0
Holds P checker late = P checker late.awaited late.polled late.answered

-- late answers may explain a breach, if one is found, in a log of this place
abbrev pub MayBeLate : LogPlace → Option Breach → Type 0
MayBeLate place None = Unit {0}
MayBeLate place (Some breach) = is_rule_of_late place breach.rule ≡ true

-- the same of a rule
abbrev IsLateIf : LogPlace → Option Rule → Type 0
IsLateIf place None = Unit {0}
IsLateIf place (Some rule) = is_rule_of_late place rule ≡ true

-- a frame is taken that is in time: what it breaks may be explained, and this is known below it
pub record TakesInTime (place : LogPlace) (Q : Checker → Option ℕ → Option ℕ → Bool → Type 0) (checker : Checker) (late : LateAnswers) (from_cpu : Bool)
    (said : Observation) : Type 0 where
  pub timely : lateness_of late said ≡ InTime
  pub found : MayBeLate place (found_by checker from_cpu said)
  pub lost : Holds Q (checker_below_breach checker.limits) (late_with late said)
  pub kept : Holds Q (checker_with checker from_cpu said) (late_with late said)
  pub anew : is_some (number_polled said) ≡ true → Holds Q (checker_with (checker_within checker.limits) from_cpu said) (late_with late said)

-- a frame is taken, in time, late, or late though the CPU's end may have taken it
abbrev pub Takes : LogPlace → (Checker → Option ℕ → Option ℕ → Bool → Type 0) → Checker → LateAnswers → Bool → Observation → Type 0
Takes place Q checker late from_cpu said =
    TakesInTime place Q checker late from_cpu said
    ⊎ (((lateness_of late said ≡ LateOne) × Holds Q checker (late_with late said))
    ⊎ ((lateness_of late said ≡ LateButTaken) × Holds Q (checker_below_lines checker checker.skips) (late_with late said)))

-- ---- which rules are broken

module _ (place : LogPlace) where
  late_first : (broken : Rule → Bool) (rule : Rule) (others : List Rule) (here of_late : Bool) → broken rule ≡ here → is_rule_of_late place rule ≡ of_late
      → (is_rule_of_late place rule ≡ false → broken rule ≡ false) → IsLateIf place (find broken others)
      → IsLateIf place (if here then Some rule else find broken others)
  late_first broken rule others true true is of kept more = of
  late_first broken rule others true false is of kept more = absurd (cc (sym is ∙ kept of))
  late_first broken rule others false of_late is of kept more = more

  late_found : (broken : Rule → Bool) (others : List Rule) → ((rule : Rule) → is_rule_of_late place rule ≡ false → broken rule ≡ false)
      → IsLateIf place (find broken others)
  late_found broken [] kept = tt
  late_found broken (rule ∷ others) kept =
      late_first broken rule others (broken rule) (is_rule_of_late place rule) refl refl (kept rule) (late_found broken others kept)

  of_rule : (facts : Facts) (said : Observation) (found : Option Rule) → IsLateIf place found
      → MayBeLate place (option_map (λ rule. record { rule = rule; due = due_in facts said rule }) found)
  of_rule facts said None late = tt
  of_rule facts said (Some rule) late = late

  -- a breach may be explained if each rule but those of late answers is kept
  pub may_be_late : (limits : RuleLimits) (facts : Facts) (said : Observation)
      → ((rule : Rule) → is_rule_of_late place rule ≡ false → breaks_within limits facts said rule ≡ false)
      → MayBeLate place (breach_of limits facts said)
  may_be_late limits facts said kept =
      of_rule facts said (first_broken_within limits facts said) (late_found (breaks_within limits facts said) rules kept)

-- ---- places

-- what late answers may break in a log of the one place they may break in a log of the other
abbrev pub MayBeAt : LogPlace → LogPlace → Type 0
MayBeAt Cpu at = Unit {0}
MayBeAt other at = is_at_cpu at ≡ false

anywhere : (place at : LogPlace) → MayBeAt place at → (rule : Rule) → is_rule_of_late place rule ≡ true → is_rule_of_late at rule ≡ true
anywhere place at may tried.Same of = refl
anywhere place at may tried.Refusal of = refl
anywhere Cpu at may tried.Advance of = absurd (cc of)
anywhere Module at may tried.Advance of = ap not may
anywhere Bus at may tried.Advance of = ap not may
anywhere place at may rule of = absurd (cc of)

-- ---- the judge of the link

module _ (judging : Judging) (at : LogPlace) (from_cpu : Bool) (octets : List ℕ) where
  abbrev said : Observation
  said = observation_in from_cpu octets

  abbrev checker : Checker
  checker = judging.checker

  set_judged : (left : Bool) (reason : Unjudged) → (if left then Excused Load else Restarted) ≡ NotJudged reason → ⊥
  set_judged left reason is = grind arith

  content_judged : (breach : ContentBreach) (rule : ContentRule) (reason : Unjudged) → outcome_of_content breach rule ≡ NotJudged reason → ⊥
  content_judged breach rule reason is = grind arith

  found_judged : (unheard : Bool) (found : Option Breach) (content : Option ContentBreach) (reason : Unjudged)
      → outcome_found unheard found content ≡ NotJudged reason → ⊥
  found_judged unheard found content reason is = grind (arith, content_judged)

  anew_judged : (anew : Bool) (judged : FrameOutcome) (reason : Unjudged) → outcome_anew anew judged ≡ NotJudged reason → judged ≡ NotJudged reason
  anew_judged anew judged reason is = grind arith

  passed_by : (passes back anew : Bool) (why reason : Unjudged) (set judged : FrameOutcome) → (set ≡ NotJudged reason → ⊥) → (judged ≡ NotJudged reason → ⊥)
      → (if passes then NotJudged why else (if back then set else outcome_anew anew judged)) ≡ NotJudged reason → passes ≡ true
  passed_by true back anew why reason set judged one other is = refl
  passed_by false true anew why reason set judged one other is = absurd (one is)
  passed_by false false anew why reason set judged one other is = absurd (other (anew_judged anew judged reason is))

  module _ (Q : Checker → Type 0) (lost : Q (checker_below_breach checker.limits)) (kept : Q (checker_with checker from_cpu said))
      (anew : is_some (number_polled said) ≡ true → Q (checker_with (checker_within checker.limits) from_cpu said)) where
    stamped : (below : Judging) (stamp : Option ℕ) → Q below.checker → Q (judging_at below stamp).checker
    stamped below None q = q
    stamped below (Some stamp) q = q

    passed : (sent : Bool) → Q checker → Q (judging_passed judging sent octets).checker
    passed true q = q
    passed false q = q

    passed_is : passes_over checker from_cpu said ≡ true → checker_with checker from_cpu said ≡ checker
    passed_is over = rw over refl

    below : (outcome : FrameOutcome) → outcome_in judging at from_cpu octets ≡ outcome → Q (judging_below_outcome outcome judging from_cpu octets).checker
    below Kept is = stamped (judging_taken judging judging.checker from_cpu octets) (stamp_in from_cpu octets) kept
    below (BrokenContent breach) is = stamped (judging_taken judging judging.checker from_cpu octets) (stamp_in from_cpu octets) kept
    below (Broken breach) is = kept
    below (Excused Load) is = lost
    below (Excused Unheard) is =
        let shown = (excuses_what_is_shown judging at from_cpu octets).unheard is in
        anew (ap is_some shown.2 ∙ shown.1)
    below Restarted is = lost
    below (NotJudged reason) is =
        let over = passed_by (passes_over checker from_cpu said) (is_set_back judging from_cpu octets) (may_be_anew judging from_cpu octets)
        (unjudged_by judging.checker.skips) reason (outcome_set_back judging) (outcome_judged judging at from_cpu octets)
        (set_judged _ reason) (found_judged _ _ _ reason) is in
        passed from_cpu (subst Q (passed_is over) kept)

    -- this is known of the checker below a frame that is judged
    pub below_frame : Q (judging_with judging at from_cpu octets).checker
    below_frame = below (outcome_in judging at from_cpu octets) refl

    in_time : (has sent : Bool) → from_cpu ≡ sent → has_content from_cpu said ≡ has → Q (judging_in_time judging at from_cpu octets).checker
    in_time true sent is has = rw has below_frame
    in_time false true is has = absurd (cc (sym (ap (λ (from : Bool). has_content from said) is) ∙ has))
    in_time false false is has = rw has (subst (λ (from : Bool). Q (checker_with checker from said)) is kept)

    -- or of which only the rules of transcripts are judged
    pub below_in_time : Q (judging_in_time judging at from_cpu octets).checker
    below_in_time = in_time (has_content from_cpu said) from_cpu refl refl

  -- what is broken is what the checker finds
  content_broken : (breach : ContentBreach) (rule : ContentRule) (found : Breach) → outcome_of_content breach rule ≡ Broken found → ⊥
  content_broken breach rule found is = grind arith

  found_broken : (unheard : Bool) (found : Option Breach) (content : Option ContentBreach) (breach : Breach)
      → outcome_found unheard found content ≡ Broken breach → found ≡ Some breach
  found_broken unheard found content breach is = grind (arith, content_broken)

  anew_broken : (anew : Bool) (judged : FrameOutcome) (breach : Breach) → outcome_anew anew judged ≡ Broken breach → judged ≡ Broken breach
  anew_broken anew judged breach is = grind arith

  set_broken : (left : Bool) (breach : Breach) → (if left then Excused Load else Restarted) ≡ Broken breach → ⊥
  set_broken left breach is = grind arith

  broken_by : (passes back anew : Bool) (why : Unjudged) (set judged : FrameOutcome) (breach : Breach) → (set ≡ Broken breach → ⊥)
      → (if passes then NotJudged why else (if back then set else outcome_anew anew judged)) ≡ Broken breach → judged ≡ Broken breach
  broken_by true back anew why set judged breach other is = absurd (cc is)
  broken_by false true anew why set judged breach other is = absurd (other is)
  broken_by false false anew why set judged breach other is = anew_broken anew judged breach is

  without_broken : (passes : Bool) (why : Unjudged) (found : Option Breach) (breach : Breach)
      → (if passes then NotJudged why else outcome_found false found None) ≡ Broken breach → found ≡ Some breach
  without_broken true why found breach is = absurd (cc is)
  without_broken false why found breach is = found_broken false found None breach is

  time_broken : (has sent : Bool) (breach : Breach) → from_cpu ≡ sent → has_content from_cpu said ≡ has
      → outcome_in_time judging at from_cpu octets ≡ Broken breach → found_by checker from_cpu said ≡ Some breach
  time_broken true sent breach is has broken =
      let here : outcome_in judging at from_cpu octets ≡ Broken breach =
      sym (ap (λ (b : Bool). if b then outcome_in judging at from_cpu octets else outcome_without_content judging said) has) ∙ broken in
      found_broken (is_unheard judging at said) (found_by checker from_cpu said) (found_in_frame (content_here judging) from_cpu octets) breach
      (broken_by (passes_over checker from_cpu said) (is_set_back judging from_cpu octets) (may_be_anew judging from_cpu octets)
      (unjudged_by judging.checker.skips) (outcome_set_back judging) (outcome_judged judging at from_cpu octets) breach (set_broken _ breach) here)
  time_broken false true breach is has broken = absurd (cc (sym (ap (λ (from : Bool). has_content from said) is) ∙ has))
  time_broken false false breach is has broken =
      let here : outcome_without_content judging said ≡ Broken breach =
      sym (ap (λ (b : Bool). if b then outcome_in judging at from_cpu octets else outcome_without_content judging said) has) ∙ broken in
      ap (λ (from : Bool). found_by checker from said) is
      ∙ without_broken (passes_over checker false said) (unjudged_by judging.checker.skips) (found_by checker false said) breach here

  no_breach_if : (excused : Bool) (outcome : FrameOutcome) → IsNoBreach (Link outcome) → IsNoBreach (if excused then LateAbove else Link outcome)
  no_breach_if true outcome fine = tt
  no_breach_if false outcome fine = fine

  kept_no_breach : (place : LogPlace) → MayBeAt place at → (settled : Bool) (outcome : FrameOutcome)
      → ((breach : Breach) → outcome ≡ Broken breach → is_rule_of_late place breach.rule ≡ true)
      → IsNoBreach (if is_excused_late at settled outcome then LateAbove else Link outcome)
  kept_no_breach place may settled (Broken breach) late = rw (anywhere place at may breach.rule (late breach refl)) tt
  kept_no_breach place may settled Kept late = no_breach_if (is_excused_late at settled Kept) Kept tt
  kept_no_breach place may settled (BrokenContent breach) late = no_breach_if (is_excused_late at settled (BrokenContent breach)) (BrokenContent breach) tt
  kept_no_breach place may settled (Excused excuse) late = no_breach_if (is_excused_late at settled (Excused excuse)) (Excused excuse) tt
  kept_no_breach place may settled Restarted late = no_breach_if (is_excused_late at settled Restarted) Restarted tt
  kept_no_breach place may settled (NotJudged reason) late = no_breach_if (is_excused_late at settled (NotJudged reason)) (NotJudged reason) tt

  -- so it is no breach, if late answers may explain what the checker finds
  pub explained : (place : LogPlace) → MayBeAt place at → (settled : Bool) → MayBeLate place (found_by checker from_cpu said)
      → IsNoBreach (if is_excused_late at settled (outcome_in_time judging at from_cpu octets) then LateAbove else Link (outcome_in_time judging at from_cpu octets))
  explained place where_it_is settled may =
      kept_no_breach place where_it_is settled (outcome_in_time judging at from_cpu octets)
      (λ breach is. subst (MayBeLate place) (time_broken (has_content from_cpu said) from_cpu breach refl refl is) may)
