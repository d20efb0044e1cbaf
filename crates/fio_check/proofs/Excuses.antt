-- What excuses a frame.
use Rattle.fio_check.proofs.Names.{◌≡◌, ◌⊎◌, ℕ, inl, inr, Bool, true, false, List, Option, Some, None, refl, is_some, is_some_and, not, ◌&&◌, ◌||◌, option_and_then, if◌then◌else◌, nat_lt, number_polled, Breach, ContentBreach, ContentRule, Facts, FrameOutcome, Judging, LogPlace, Observation, content_here, found_by, found_in_frame, is_unheard, loads_left, observation_in, outcome_found, outcome_in, passes_over, arith}
use Rattle.std.specs.Prelude.{◌≢◌}
use Rattle.fio_message.specs.declared.answers.Answer.{Answer}
use Rattle.fio_check.specs.ContentSaid.{is_before}
use Rattle.fio_check.specs.Lines.{answer_from}
use Rattle.fio_check.specs.LinkJudges.{any_stamp_in, any_stamp_of, is_answer_set_back, is_asked_again, is_at_cpu, is_set_back, may_answer_anew, may_be_anew, outcome_anew, outcome_judged, outcome_of_content, outcome_set_back, stamp_above, unjudged_by}
use Rattle.fio_check.specs.LinkLaws.{ExcusesWhatIsShown, breaks_watchdog, is_before_kept, is_of_watchdog}
use Rattle.fio_check.specs.declared.outcome.Excuse.TheVariants.{Load, Unheard}
use Rattle.fio_check.specs.declared.outcome.LogPlace.TheVariants.{Cpu}
use Rattle.fio_check.specs.declared.outcome.FrameOutcome.TheVariants.{Excused, NotJudged, Restarted}
use Rattle.fio_check.specs.declared.outcome.Unjudged.{Unjudged}

-- ---- stamps

either_before : (own : ℕ) (above latest asked : Option ℕ) → (above ≡ latest) ⊎ (above ≡ asked) → is_some_and above (is_before own) ≡ true
    → is_some_and latest (is_before own) || is_some_and asked (is_before own) ≡ true
either_before own above latest asked one before = grind arith

above_is : (judging : Judging) (answer : Answer) → (stamp_above judging answer ≡ judging.latest) ⊎ (stamp_above judging answer ≡ judging.asked)
above_is judging answer = grind arith

stamp_before : (judging : Judging) (stamp above : Option ℕ) → (above ≡ judging.latest) ⊎ (above ≡ judging.asked)
    → is_some_and stamp (λ own. is_some_and above (is_before own)) ≡ true → is_before_kept judging stamp ≡ true
stamp_before judging None above one back = absurd (cc)
stamp_before judging (Some own) above one back = either_before own above judging.latest judging.asked one back

back_shown : (judging : Judging) (answer : Option Answer) → is_some_and answer (is_answer_set_back judging) ≡ true
    → is_before_kept judging (option_and_then any_stamp_of answer) ≡ true
back_shown judging None back = absurd (cc)
back_shown judging (Some answer) back = stamp_before judging (any_stamp_of answer) (stamp_above judging answer) (above_is judging answer) back

anew_shown : (judging : Judging) (answer : Option Answer) → is_some_and answer (may_answer_anew judging) ≡ true
    → is_before_kept judging (option_and_then any_stamp_of answer) ≡ true
anew_shown judging answer anew = grind arith

-- ---- outcomes

in_restarted : (passes back anew : Bool) (reason : Unjudged) (set judged : FrameOutcome)
    → (if passes then NotJudged reason else (if back then set else outcome_anew anew judged)) ≡ Restarted
    → (back ≡ true) ⊎ ((anew ≡ true) ⊎ (judged ≡ Restarted))
in_restarted passes back anew reason set judged is = grind arith

anew_load : (anew : Bool) (judged : FrameOutcome) → outcome_anew anew judged ≡ Excused Load → judged ≡ Excused Load
anew_load anew judged is = grind arith

anew_unheard : (anew : Bool) (judged : FrameOutcome) → outcome_anew anew judged ≡ Excused Unheard → judged ≡ Excused Unheard
anew_unheard anew judged is = grind arith

content_load : (breach : ContentBreach) (rule : ContentRule) → outcome_of_content breach rule ≡ Excused Load → ⊥
content_load breach rule is = grind arith

content_unheard : (breach : ContentBreach) (rule : ContentRule) → outcome_of_content breach rule ≡ Excused Unheard → ⊥
content_unheard breach rule is = grind arith

pub found_load : (unheard : Bool) (found : Option Breach) (content : Option ContentBreach) → outcome_found unheard found content ≡ Excused Load → ⊥
found_load unheard found content is = grind (arith, content_load)

found_unheard : (unheard : Bool) (found : Option Breach) (content : Option ContentBreach) → outcome_found unheard found content ≡ Excused Unheard → unheard ≡ true
found_unheard unheard found content is = grind (arith, content_unheard)

content_restarted : (breach : ContentBreach) (rule : ContentRule) → outcome_of_content breach rule ≡ Restarted → is_of_watchdog rule ≡ true
content_restarted breach rule is = grind arith

found_restarted : (unheard : Bool) (found : Option Breach) (content : Option ContentBreach) → outcome_found unheard found content ≡ Restarted
    → breaks_watchdog content ≡ true
found_restarted unheard found content is = grind (arith, content_restarted)

set_load : (left : Bool) → (if left then Excused Load else Restarted) ≡ Excused Load → left ≡ true
set_load left is = grind arith

set_unheard : (left : Bool) → (if left then Excused Load else Restarted) ≡ Excused Unheard → ⊥
set_unheard left is = grind arith

in_load : (passes back anew : Bool) (reason : Unjudged) (set judged : FrameOutcome) → (judged ≡ Excused Load → ⊥)
    → (if passes then NotJudged reason else (if back then set else outcome_anew anew judged)) ≡ Excused Load
    → (back ≡ true) × (set ≡ Excused Load)
in_load true back anew reason set judged other is = absurd (cc)
in_load false true anew reason set judged other is = (refl, is)
in_load false false anew reason set judged other is = absurd (other (anew_load anew judged is))

in_unheard : (passes back anew : Bool) (reason : Unjudged) (set judged : FrameOutcome) → (set ≡ Excused Unheard → ⊥)
    → (if passes then NotJudged reason else (if back then set else outcome_anew anew judged)) ≡ Excused Unheard
    → judged ≡ Excused Unheard
in_unheard true back anew reason set judged other is = absurd (cc)
in_unheard false true anew reason set judged other is = absurd (other is)
in_unheard false false anew reason set judged other is = anew_unheard anew judged is

-- ---- a poll that is sent again

and_both : (one other : Bool) → one && other ≡ true → (one ≡ true) × (other ≡ true)
and_both true other is = (refl, is)
and_both false other is = absurd (cc)

not_cpu : (at : LogPlace) → not (is_at_cpu at) ≡ true → at ≢ Cpu
not_cpu at other is = grind arith

asked_shown : (facts : Facts) (observation : Observation) → is_asked_again facts observation ≡ true
    → (is_some facts.polled ≡ true) × (number_polled observation ≡ facts.polled)
asked_shown facts observation asked = grind arith

module _ (judging : Judging) (at : LogPlace) (from_cpu : Bool) (octets : List ℕ) where
  abbrev said : Observation
  said = observation_in from_cpu octets

  abbrev judged : FrameOutcome
  judged = outcome_judged judging at from_cpu octets

  restarted_shown : outcome_in judging at from_cpu octets ≡ Restarted
      → (is_before_kept judging (any_stamp_in from_cpu octets) ≡ true)
      ⊎ (breaks_watchdog (found_in_frame (content_here judging) from_cpu octets) ≡ true)
  restarted_shown is =
      elim (in_restarted (passes_over judging.checker from_cpu said) (is_set_back judging from_cpu octets) (may_be_anew judging from_cpu octets)
      (unjudged_by judging.checker.skips) (outcome_set_back judging) judged is)
      as (λ _. (is_before_kept judging (any_stamp_in from_cpu octets) ≡ true)
      ⊎ (breaks_watchdog (found_in_frame (content_here judging) from_cpu octets) ≡ true)) [
        | inl back ↦ inl (back_shown judging (answer_from from_cpu octets) back)
        | inr other ↦ elim other as (λ _. (is_before_kept judging (any_stamp_in from_cpu octets) ≡ true)
            ⊎ (breaks_watchdog (found_in_frame (content_here judging) from_cpu octets) ≡ true)) [
              | inl anew ↦ inl (anew_shown judging (answer_from from_cpu octets) anew)
              | inr found ↦ inr (found_restarted (is_unheard judging at said) (found_by judging.checker from_cpu said)
                  (found_in_frame (content_here judging) from_cpu octets) found)
            ]
      ]

pub excuses_what_is_shown : (judging : Judging) (at : LogPlace) (from_cpu : Bool) (octets : List ℕ) → ExcusesWhatIsShown judging at from_cpu octets
excuses_what_is_shown judging at from_cpu octets = record {
  restarted = restarted_shown judging at from_cpu octets;
  load = λ is. (
      let parts = in_load (passes_over judging.checker from_cpu (observation_in from_cpu octets)) (is_set_back judging from_cpu octets)
      (may_be_anew judging from_cpu octets) (unjudged_by judging.checker.skips) (outcome_set_back judging) (outcome_judged judging at from_cpu octets)
      (found_load (is_unheard judging at (observation_in from_cpu octets)) (found_by judging.checker from_cpu (observation_in from_cpu octets))
      (found_in_frame (content_here judging) from_cpu octets)) is in
      (back_shown judging (answer_from from_cpu octets) parts.0, set_load (nat_lt 0 (loads_left judging)) parts.1));
  unheard = λ is. (
      let found = in_unheard (passes_over judging.checker from_cpu (observation_in from_cpu octets)) (is_set_back judging from_cpu octets)
      (may_be_anew judging from_cpu octets) (unjudged_by judging.checker.skips) (outcome_set_back judging) (outcome_judged judging at from_cpu octets)
      (set_unheard (nat_lt 0 (loads_left judging))) is in
      let unheard = found_unheard (is_unheard judging at (observation_in from_cpu octets)) (found_by judging.checker from_cpu (observation_in from_cpu octets))
      (found_in_frame (content_here judging) from_cpu octets) found in
      let both = and_both (not (is_at_cpu at)) (is_asked_again judging.checker.facts (observation_in from_cpu octets)) unheard in
      let again = asked_shown judging.checker.facts (observation_in from_cpu octets) both.1 in
      (not_cpu at both.0, again.0, again.1));
}
