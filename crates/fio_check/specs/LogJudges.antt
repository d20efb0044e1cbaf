-- The judge of a log: its outcome for each frame, from the frames and from what is known of the lines between them.
--
-- It is the judge of a link that also finds out where the log was taken, loses the place at lines that may have held a frame,
-- and can leave out late answers.
use Rattle.std.specs.Prelude.{ℕ, ◌+◌, nat_le, ◌*◌, ◌&&◌, ◌||◌, Bool, List, [], ◌∷◌, ◌++◌, true, false, not, nat_lt, Option, Some, None, option_map, if◌then◌else◌}
use Rattle.fio_check.specs.Checkers.{checker_with, found_by, passes_over}
use Rattle.fio_check.specs.LateAnswers.{late_above, late_with, lateness_of}
use Rattle.fio_check.specs.LinkJudges.{Judging, checker_below_lines, checking_again, is_at_cpu, judging_anywhere, judging_begun, judging_lost, judging_with, loads_left, outcome_found, outcome_in, unjudged_by}
use Rattle.fio_check.specs.LinkKept.{judging}
use Rattle.fio_check.specs.MissingFrames.{do_explain, missing_below}
use Rattle.fio_check.specs.Observations.{observation_in, says_load}
use Rattle.fio_check.specs.Places.{is_some_and}
use Rattle.fio_check.specs.declared.checker.Breach.{Breach}
use Rattle.fio_check.specs.declared.checker.Skips.{Skips}
use Rattle.fio_check.specs.declared.checker.Skips.TheVariants.{Nothing}
use Rattle.fio_check.specs.declared.late_answers.LateAnswers.{LateAnswers}
use Rattle.fio_check.specs.declared.late_answers.Lateness.{Lateness}
use Rattle.fio_check.specs.declared.late_answers.Lateness.TheVariants.{InTime, LateButTaken}
use Rattle.fio_check.specs.declared.late_answers.Lateness.TheVariants.{Late as LateOne}
use Rattle.fio_check.specs.declared.limits.RuleLimits.{RuleLimits}
use Rattle.fio_check.specs.declared.log_judge.LogJudge.{LogJudge}
use Rattle.fio_check.specs.declared.log_judge.LogOutcome.{LogOutcome}
use Rattle.fio_check.specs.declared.log_judge.LogOutcome.TheVariants.{Late, LateAbove, Link}
use Rattle.fio_check.specs.declared.log_judge.LogStart.{LogStart}
use Rattle.fio_check.specs.declared.log_judge.LogStart.TheVariants.{Begun, LateAnswers as StartLate}
use Rattle.fio_check.specs.declared.missing_frames.MissingFrames.{MissingFrames}
use Rattle.fio_check.specs.declared.missing_frames.MissingFrames.TheVariants.{Below, Nowhere}
use Rattle.fio_check.specs.declared.observation.Observation.{Observation}
use Rattle.fio_check.specs.declared.observation.Observation.TheVariants.{Block}
use Rattle.fio_check.specs.declared.outcome.Excuse.TheVariants.{Load}
use Rattle.fio_check.specs.declared.outcome.LogPlace.{LogPlace}
use Rattle.fio_check.specs.declared.outcome.LogPlace.TheVariants.{Bus, Cpu}
use Rattle.fio_check.specs.declared.outcome.FrameOutcome.{FrameOutcome}
use Rattle.fio_check.specs.declared.outcome.FrameOutcome.TheVariants.{Broken, BrokenContent, Excused, Restarted, NotJudged}
use Rattle.fio_check.specs.declared.rules.Rule.{Rule}
use Rattle.fio_check.specs.declared.rules.Rule.TheVariants.{Advance, Same, Refusal}

-- what a judge of a log keeps
pub record LogJudging : Type 0 where
  pub link : Judging
  -- what decides which answers are late, if these are left out
  pub late : Option LateAnswers
  -- where the log was taken, if that is known
  pub place : Option LogPlace
  -- how many frames were sent by the end that the log names, and how many by the other end
  pub agreeing : ℕ
  pub contrary : ℕ
  -- a frame is above
  pub has_frames : Bool
  -- where frames may be missing, since a line speaks of loss
  pub missing : MissingFrames
  -- no load of the counter is among lines that are lost
  pub never_loads : Bool

-- a judge, by its fields
abbrev pub log_judging : LogJudge → LogJudging
log_judging judge = record {
  link = judging judge.link;
  late = judge.late;
  place = judge.place;
  agreeing = judge.agreeing;
  contrary = judge.contrary;
  has_frames = judge.has_frames;
  missing = judge.missing;
  never_loads = judge.never_loads;
}

-- ---- where it begins

-- the judge of its link
abbrev pub link_starting : RuleLimits → LogStart → Judging
link_starting limits Begun = judging_begun limits
link_starting limits start = judging_anywhere limits

-- what decides which answers are late, if these are left out
abbrev pub late_starting : LogStart → Option LateAnswers
late_starting StartLate = Some late_above
late_starting start = None

-- a judge above the first line of a log of a module with these limits
abbrev pub log_starting : RuleLimits → Option LogPlace → LogStart → LogJudging
log_starting limits place start = record {
  link = link_starting limits start;
  late = late_starting start;
  place = place;
  agreeing = 0;
  contrary = 0;
  has_frames = false;
  missing = Nowhere;
  never_loads = false;
}

-- the judge of the log of a CPU that never loads the counter
abbrev pub log_unloaded : LogJudging → LogJudging
log_unloaded log = record log { never_loads = true }

-- ---- lines between frames

-- the judge of a link where lines are lost, but no load of the counter
abbrev pub judging_lost_unloaded : Judging → Judging
judging_lost_unloaded judging =
    record judging { checker = checker_below_lines judging.checker judging.checker.skips }

-- the judge of a link where lines are lost: one of them may have been a load of the counter, unless the CPU never loads it
abbrev pub link_lost : Bool → Judging → Judging
link_lost true judging = judging_lost_unloaded judging
link_lost false judging = judging_lost judging

-- an answer to a command above can still come
abbrev pub unsettled : LateAnswers → LateAnswers
unsettled late = record late { settled = false }

-- the judge after a line that may have held a frame
abbrev pub log_lost : LogJudging → LogJudging
log_lost log = record log { link = link_lost log.never_loads log.link; late = option_map unsettled log.late }

-- whether a checker judges each frame from its first one on, as it does where a log begins with both ends
abbrev pub judges_each : Skips → Bool
judges_each Nothing = true
judges_each skips = false

-- the judge after a line that says a message which nothing confirms: if a frame is above, or if frames are judged from the first one
-- on, the place is lost
abbrev pub log_possible : LogJudging → LogJudging
log_possible log = if log.has_frames || judges_each log.link.checker.skips then log_lost log else log

-- the judge after a heading: if a frame is above, the place is lost
abbrev pub log_heading : LogJudging → LogJudging
log_heading log = if log.has_frames then log_lost log else log

-- the judge after a line without octets that speaks of loss
abbrev pub log_missing : LogJudging → LogJudging
log_missing log = record log { missing = Below }

-- ---- above a frame

-- one more, up to the greatest number of 32 bits
abbrev pub one_more : ℕ → ℕ
one_more count = if nat_lt count 4294967295 then count + 1 else 4294967295

-- two ends are the same, each given by whether it is the CPU's
abbrev pub is_same_end : Bool → Bool → Bool
is_same_end true by_cpu = by_cpu
is_same_end false by_cpu = not by_cpu

-- the counts of directions after a frame, by who sent it and by whom the log names, if it names one
abbrev pub log_counting : LogJudging → Bool → Option Bool → LogJudging
log_counting log from_cpu None = log
log_counting log from_cpu (Some by_cpu) = if is_same_end by_cpu from_cpu
    then record log { agreeing = one_more log.agreeing }
    else record log { contrary = one_more log.contrary }

-- frames that are missing explain a breach, if one is found
abbrev pub is_breach_explained : MissingFrames → Option Breach → Bool
is_breach_explained Nowhere found = false
is_breach_explained missing found = is_some_and found (λ breach. do_explain missing breach.rule)

-- they explain what a frame breaks that says this
abbrev pub is_explained : LogJudging → Bool → Observation → Bool
is_explained log from_cpu observation =
    is_breach_explained log.missing (found_by log.link.checker from_cpu observation)

-- the judge directly above a frame that says this: if frames that are missing explain what it breaks, the place is lost
abbrev pub log_above : LogJudging → Bool → Observation → LogJudging
log_above log from_cpu observation =
    if is_explained log from_cpu observation then log_lost log else log

-- that judge after counting the directions of this frame, which may end what a remark of loss explains; a load of the counter says
-- that the CPU loads it
abbrev pub log_reaching : LogJudging → Bool → Option Bool → Observation → LogJudging
log_reaching log from_cpu said observation = record (log_above (log_counting log from_cpu said) from_cpu observation) {
  has_frames = true;
  missing = missing_below log.missing observation;
  never_loads = log.never_loads && not (says_load observation);
}

-- Where a frame with a direction was logged: at the CPU's end, if at least four of five directions agree with the types of the
-- messages. Else it counts as logged on the bus, where the same is excused as at the module.
abbrev pub end_of : LogJudging → LogPlace
end_of log = if nat_le (4 * log.contrary) log.agreeing then Cpu else Bus

-- where a frame with this direction, or none, was logged
abbrev pub place_found : LogJudging → Option Bool → LogPlace
place_found log None = Bus
place_found log (Some by_cpu) = end_of log

-- where a frame was logged, if the place of the log may be known
abbrev pub place_by : LogJudging → Option LogPlace → Option Bool → LogPlace
place_by log (Some place) said = place
place_by log None said = place_found log said

-- where a frame with this direction, or none, was logged, by what the judge knows
abbrev pub place_of : LogJudging → Option Bool → LogPlace
place_of log said = place_by log log.place said

-- ---- late answers

-- a judge of a link that has forgotten content and stamps, except the loads of the counter
abbrev pub without_content : Judging → Judging
without_content judging =
    record judging { content = checking_again (loads_left judging); latest = None; asked = None }

-- the outcome of an answer that is kept from the rules on content
abbrev pub outcome_without_content : Judging → Observation → FrameOutcome
outcome_without_content judging observation = if passes_over judging.checker false observation
    then NotJudged (unjudged_by judging.checker.skips)
    else outcome_found false (found_by judging.checker false observation) None

-- the rules on content get commands and block answers only
abbrev pub has_content : Bool → Observation → Bool
has_content true observation = true
has_content false (Block number status entries absent) = true
has_content false observation = false

-- the outcome of a frame that is not a late answer
abbrev pub outcome_in_time : Judging → LogPlace → Bool → List ℕ → FrameOutcome
outcome_in_time judging at from_cpu octets = if has_content from_cpu (observation_in from_cpu octets)
    then outcome_in judging at from_cpu octets
    else outcome_without_content judging (observation_in from_cpu octets)

-- the judge of the link after a frame that is not a late answer
abbrev pub judging_in_time : Judging → LogPlace → Bool → List ℕ → Judging
judging_in_time judging at from_cpu octets = if has_content from_cpu (observation_in from_cpu octets)
    then judging_with judging at from_cpu octets
    else record judging { checker = checker_with judging.checker false (observation_in from_cpu octets) }

-- Late answers may break these rules between right ends. At a tap that is also the rule on the numbers of polls: the CPU's end may
-- hear an answer later than the tap, or not at all.
abbrev pub is_rule_of_late : LogPlace → Rule → Bool
is_rule_of_late at Same = true
is_rule_of_late at Refusal = true
is_rule_of_late at Advance = not (is_at_cpu at)
is_rule_of_late at rule = false

-- a frame breaks a rule that late answers may break in a log of this place
abbrev pub is_of_late : LogPlace → FrameOutcome → Bool
is_of_late at (Broken breach) = is_rule_of_late at breach.rule
is_of_late at outcome = false

-- a frame with this outcome of the judge of the link is excused: content is judged only if no answer to a command above can
-- still come
abbrev pub is_excused_late : LogPlace → Bool → FrameOutcome → Bool
is_excused_late at settled (BrokenContent breach) = not settled
is_excused_late at settled Restarted = not settled
is_excused_late at settled (Excused Load) = not settled
is_excused_late at settled outcome = is_of_late at outcome

-- no answer to a command above can still come after a frame with this outcome
abbrev pub late_settled : LateAnswers → LogPlace → FrameOutcome → Bool
late_settled late at outcome = late.settled && not (is_of_late at outcome)

-- the outcome of a frame that is not a late answer, by what is kept of the answers
abbrev pub outcome_kept_late : LateAnswers → LogPlace → FrameOutcome → LogOutcome
outcome_kept_late late at outcome =
    if is_excused_late at (late_settled late at outcome) outcome then LateAbove else Link outcome

-- the judge after a late answer, or where one can still come
abbrev pub log_forgetting : LogJudging → LateAnswers → LogJudging
log_forgetting log late = record log { link = without_content log.link; late = Some late }

-- the judge after a frame that is not a late answer, by what is kept of the answers
abbrev pub log_kept_late : LogJudging → LateAnswers → LogPlace → FrameOutcome → LogJudging
log_kept_late log late at outcome = if late_settled late at outcome
    then record log { late = Some (record late { settled = true }) }
    else log_forgetting log (unsettled late)

-- the outcome of a frame, by whether it is late
abbrev pub outcome_by_lateness : Lateness → LateAnswers → LogPlace → FrameOutcome → LogOutcome
outcome_by_lateness InTime late at outcome = outcome_kept_late late at outcome
outcome_by_lateness lateness late at outcome = Late

-- the outcome of a frame in a log from which late answers are left out
abbrev pub outcome_late : LogJudging → LateAnswers → LogPlace → Bool → List ℕ → LogOutcome
outcome_late log late at from_cpu octets = outcome_by_lateness (lateness_of late (observation_in from_cpu octets))
    (late_with late (observation_in from_cpu octets)) at (outcome_in_time log.link at from_cpu octets)

-- the judge after a frame, by whether it is late: if the CPU's end may take a late answer, the place is lost
abbrev pub log_by_lateness : Lateness → LogJudging → LateAnswers → LogPlace → Bool → List ℕ → LogJudging
log_by_lateness InTime log late at from_cpu octets =
    log_kept_late (record log { link = judging_in_time log.link at from_cpu octets }) late at
    (outcome_in_time log.link at from_cpu octets)
log_by_lateness LateOne log late at from_cpu octets = log_forgetting log late
log_by_lateness LateButTaken log late at from_cpu octets =
    log_forgetting (record log { link = link_lost log.never_loads log.link }) late

-- the judge after a frame in a log from which late answers are left out
abbrev pub log_with_late : LogJudging → LateAnswers → LogPlace → Bool → List ℕ → LogJudging
log_with_late log late at from_cpu octets = log_by_lateness (lateness_of late (observation_in from_cpu octets)) log
    (late_with late (observation_in from_cpu octets)) at from_cpu octets

-- ---- a frame

-- the outcome of a frame, by what decides which answers are late
abbrev pub outcome_here : LogJudging → Option LateAnswers → LogPlace → Bool → List ℕ → LogOutcome
outcome_here log None at from_cpu octets = Link (outcome_in log.link at from_cpu octets)
outcome_here log (Some late) at from_cpu octets = outcome_late log late at from_cpu octets

-- the outcome of a frame that the judge has reached, by where it was logged
abbrev pub outcome_reached : LogJudging → Bool → Option Bool → List ℕ → LogOutcome
outcome_reached log from_cpu said octets = outcome_here log log.late (place_of log said) from_cpu octets

-- the outcome of a frame, by whether the CPU sent it, and by whom its line names as the sender, if it names one
abbrev pub outcome_in_log : LogJudging → Bool → Option Bool → List ℕ → LogOutcome
outcome_in_log log from_cpu said octets =
    outcome_reached (log_reaching log from_cpu said (observation_in from_cpu octets)) from_cpu said octets

-- the judge after that frame
abbrev pub log_below : LogJudging → Option LateAnswers → LogPlace → Bool → List ℕ → LogJudging
log_below log None at from_cpu octets = record log { link = judging_with log.link at from_cpu octets }
log_below log (Some late) at from_cpu octets = log_with_late log late at from_cpu octets

-- the judge after a frame that it has reached, by where it was logged
abbrev pub log_reached : LogJudging → Bool → Option Bool → List ℕ → LogJudging
log_reached log from_cpu said octets = log_below log log.late (place_of log said) from_cpu octets

-- the judge with a frame more
abbrev pub log_with : LogJudging → Bool → Option Bool → List ℕ → LogJudging
log_with log from_cpu said octets =
    log_reached (log_reaching log from_cpu said (observation_in from_cpu octets)) from_cpu said octets

-- ---- all lines

-- what a reader finds in a log, in order: a frame, with whether the CPU sent it and whom its line names as the sender, if it
-- names one; a line that may have held a frame; a line that says a message which nothing confirms; the heading of a part of the log;
-- a line that speaks of loss
pub data LogEvent : Type 0 where
  Found : (from_cpu : Bool) → (said : Option Bool) → (octets : List ℕ) → LogEvent
  Lost : LogEvent
  Possible : LogEvent
  Heading : LogEvent
  Missing : LogEvent

-- the judge with an event more
abbrev pub log_with_event : LogJudging → LogEvent → LogJudging
log_with_event log (Found from_cpu said octets) = log_with log from_cpu said octets
log_with_event log Lost = log_lost log
log_with_event log Possible = log_possible log
log_with_event log Heading = log_heading log
log_with_event log Missing = log_missing log

-- the judge below events
abbrev pub log_below_events : LogJudging → List LogEvent → LogJudging
log_below_events log [] = log
log_below_events log (event ∷ events) = log_below_events (log_with_event log event) events

-- the outcome of an event, if it is a frame
abbrev pub outcome_of_event : LogJudging → LogEvent → List LogOutcome
outcome_of_event log (Found from_cpu said octets) = outcome_in_log log from_cpu said octets ∷ []
outcome_of_event log event = []

-- the outcomes of the frames among events, in order
abbrev pub outcomes_in_log : LogJudging → List LogEvent → List LogOutcome
outcomes_in_log log [] = []
outcomes_in_log log (event ∷ events) = outcome_of_event log event ++ outcomes_in_log (log_with_event log event) events
