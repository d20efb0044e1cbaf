-- What is judged of a frame that is no late answer.
use Rattle.std.proofs.Common.{◌≡◌, ◌∙◌, ℕ, Bool, true, false, List, Option, Some, None, refl, sym, ap}
use Rattle.std.specs.Prelude.{◌&&◌, nat_lt, not, if◌then◌else◌}
use Rattle.fio_check.specs.Checkers.{found_by, passes_over}
use Rattle.fio_check.specs.LateAnswers.{late_with, lateness_of}
use Rattle.fio_check.specs.LinkJudges.{Judging, is_of_rest, is_set_back, is_unheard, may_be_anew, content_here, loads_left, outcome_anew, outcome_found, outcome_in, outcome_of_content, unjudged_by}
use Rattle.fio_check.specs.ContentCheckers.{found_in_frame}
use Rattle.fio_check.specs.LogJudges.{LogJudging, has_content, is_excused_late, is_rule_of_late, late_settled, outcome_by_lateness, outcome_in_time, outcome_kept_late, outcome_late, outcome_without_content}
use Rattle.fio_check.specs.LogLaws.{JudgesInTime}
use Rattle.fio_check.specs.Observations.{observation_in}
use Rattle.fio_check.specs.declared.checker.Breach.{Breach}
use Rattle.fio_check.specs.declared.content.ContentBreach.{ContentBreach}
use Rattle.fio_check.specs.declared.content_rules.ContentRule.{ContentRule}
use Rattle.fio_check.specs.declared.content_rules.ContentRule.TheVariants.{Watchdog}
use Rattle.fio_check.specs.declared.late_answers.LateAnswers.{LateAnswers}
use Rattle.fio_check.specs.declared.late_answers.Lateness.{Lateness}
use Rattle.fio_check.specs.declared.late_answers.Lateness.TheVariants.{InTime}
use Rattle.fio_check.specs.declared.log_judge.LogOutcome.TheVariants.{Late, LateAbove, Link}
use Rattle.fio_check.specs.declared.outcome.Excuse.TheVariants.{Load}
use Rattle.fio_check.specs.declared.outcome.FrameOutcome.{FrameOutcome}
use Rattle.fio_check.specs.declared.outcome.FrameOutcome.TheVariants.{Broken, BrokenContent, Excused, NotJudged, Restarted}
use Rattle.fio_check.specs.declared.outcome.LogPlace.{LogPlace}
use Rattle.fio_check.specs.declared.outcome.Unjudged.{Unjudged}

-- ---- a breach of a rule of transcripts is found without content

breaks_rest : (rest : Bool) (found breach : Breach) → (if rest then Restarted else Broken found) ≡ Broken breach → Broken found ≡ Broken breach
breaks_rest true found breach is = absurd (cc is)
breaks_rest false found breach is = is

breaks_content : (anew : Bool) (found : ContentBreach) (rule : ContentRule) (breach : Breach)
    → outcome_anew anew (outcome_of_content found rule) ≡ Broken breach → outcome_found false None None ≡ Broken breach
breaks_content true found Watchdog breach is = absurd (cc is)
breaks_content true found rule breach is = absurd (cc is)
breaks_content false found Watchdog breach is = absurd (cc is)
breaks_content false found rule breach is = absurd (cc is)

breaks : (anew unheard : Bool) (found : Option Breach) (content : Option ContentBreach) (breach : Breach)
    → outcome_anew anew (outcome_found unheard found content) ≡ Broken breach → outcome_found false found None ≡ Broken breach
breaks anew unheard None (Some content) breach is = breaks_content anew content content.rule breach is
breaks true unheard None None breach is = absurd (cc is)
breaks false unheard None None breach is = absurd (cc is)
breaks true true (Some found) content breach is = absurd (cc is)
breaks false true (Some found) content breach is = absurd (cc is)
breaks true false (Some found) content breach is = breaks_rest (is_of_rest found.rule) found breach is
breaks false false (Some found) content breach is = is

breaks_back : (load : Bool) (breach : Breach) (found : FrameOutcome) → (if load then Excused Load else Restarted) ≡ Broken breach → found ≡ Broken breach
breaks_back true breach found is = absurd (cc is)
breaks_back false breach found is = absurd (cc is)

by_parts : (passed back load anew unheard : Bool) (found : Option Breach) (content : Option ContentBreach) (reason : Unjudged) (breach : Breach)
    → (if passed then NotJudged reason
    else (if back then (if load then Excused Load else Restarted) else outcome_anew anew (outcome_found unheard found content))) ≡ Broken breach
    → (if passed then NotJudged reason else outcome_found false found None) ≡ Broken breach
by_parts true back load anew unheard found content reason breach is = is
by_parts false true load anew unheard found content reason breach is = breaks_back load breach (outcome_found false found None) is
by_parts false false load anew unheard found content reason breach is = breaks anew unheard found content breach is

without_content : (judging : Judging) (at : LogPlace) (octets : List ℕ) (breach : Breach) → outcome_in judging at false octets ≡ Broken breach
    → outcome_without_content judging (observation_in false octets) ≡ Broken breach
without_content judging at octets breach is = by_parts (passes_over judging.checker false (observation_in false octets))
    (is_set_back judging false octets) (nat_lt 0 (loads_left judging)) (may_be_anew judging false octets)
    (is_unheard judging at (observation_in false octets)) (found_by judging.checker false (observation_in false octets))
    (found_in_frame (content_here judging) false octets) (unjudged_by judging.checker.skips) breach is

either : (has : Bool) (one other : FrameOutcome) (breach : Breach) → one ≡ Broken breach → other ≡ Broken breach
    → (if has then one else other) ≡ Broken breach
either true one other breach first second = first
either false one other breach first second = second

in_time : (judging : Judging) (at : LogPlace) (from_cpu : Bool) (octets : List ℕ) (breach : Breach) → outcome_in judging at from_cpu octets ≡ Broken breach
    → outcome_in_time judging at from_cpu octets ≡ Broken breach
in_time judging at true octets breach is = is
in_time judging at false octets breach is = either (has_content false (observation_in false octets)) (outcome_in judging at false octets)
    (outcome_without_content judging (observation_in false octets)) breach is (without_content judging at octets breach is)

-- ---- what is said of it

the_first : (has : Bool) (one other : FrameOutcome) → has ≡ true → (if has then one else other) ≡ one
the_first true one other is = refl
the_first false one other is = absurd (cc is)

not_excused : (excused : Bool) (outcome : FrameOutcome) → excused ≡ false → (if excused then LateAbove else Link outcome) ≡ Link outcome
not_excused true outcome is = absurd (cc is)
not_excused false outcome is = refl

settled_kept : (settled : Bool) (outcome : FrameOutcome) → settled ≡ true
    → (if not (settled && not false) then LateAbove else Link outcome) ≡ Link outcome
settled_kept true outcome is = refl
settled_kept false outcome is = absurd (cc is)

never_late : (excused : Bool) (outcome : FrameOutcome) → (if excused then LateAbove else Link outcome) ≡ Late → ⊥
never_late true outcome is = cc is
never_late false outcome is = cc is

by_outcome : (log : LogJudging) (late : LateAnswers) (at : LogPlace) (from_cpu : Bool) (octets : List ℕ)
    → lateness_of late (observation_in from_cpu octets) ≡ InTime
    → outcome_late log late at from_cpu octets
    ≡ outcome_kept_late (late_with late (observation_in from_cpu octets)) at (outcome_in_time log.link at from_cpu octets)
by_outcome log late at from_cpu octets is = ap (λ (lateness : Lateness). outcome_by_lateness lateness
    (late_with late (observation_in from_cpu octets)) at (outcome_in_time log.link at from_cpu octets)) is

pub judges_in_time : (log : LogJudging) (late : LateAnswers) (at : LogPlace) (from_cpu : Bool) (octets : List ℕ)
    → lateness_of late (observation_in from_cpu octets) ≡ InTime → JudgesInTime log late at from_cpu octets
judges_in_time log late at from_cpu octets is =
    let below = late_with late (observation_in from_cpu octets) in
    let here = by_outcome log late at from_cpu octets is in
    record {
      kept = λ left. never_late (is_excused_late at (late_settled below at (outcome_in_time log.link at from_cpu octets)) (outcome_in_time log.link at from_cpu octets))
          (outcome_in_time log.link at from_cpu octets) (sym here ∙ left);
      broken = λ breach broken rule. here ∙ ap (λ (outcome : FrameOutcome). outcome_kept_late below at outcome) (in_time log.link at from_cpu octets breach broken)
          ∙ not_excused (is_rule_of_late at breach.rule) (Broken breach) rule;
      content = λ breach broken has settled. here
          ∙ ap (λ (outcome : FrameOutcome). outcome_kept_late below at outcome)
          (the_first (has_content from_cpu (observation_in from_cpu octets)) (outcome_in log.link at from_cpu octets)
          (outcome_without_content log.link (observation_in from_cpu octets)) has ∙ broken)
          ∙ settled_kept below.settled (BrokenContent breach) settled;
    }
