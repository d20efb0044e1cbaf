-- The judge of the log of a CPU that never loads the counter.
use Rattle.std.proofs.Common.{arith}
use Rattle.fio_check.proofs.Names.{Bool, Command, Breach, ContentChecking, FrameOutcome, Judging, Link, List, LogJudging, LogPlace, None, Observation, Option, Some, [], ap, ap₂, checking_with, command_from, content_here, false, flat_map, found_by, if◌then◌else◌, is_loading, is_some, is_some_and, judging_with, list_any, loads_below, loads_left, map, nat_lt, not, observation_in, outcome_found, outcome_in, passes_over, place_of, refl, sym, true, ℕ, ◌&&◌, ◌++◌, ◌∙◌, ◌∷◌, ◌≡◌, ◌||◌}
use Rattle.std.specs.Prelude.{option_map}
use Rattle.fio_message.specs.declared.answers.Answer.{Answer}
use Rattle.fio_check.specs.Checkers.{checker_with}
use Rattle.fio_check.specs.ContentEvents.{Sent}
use Rattle.fio_check.specs.LateAnswers.{late_with, lateness_of}
use Rattle.fio_check.specs.Lines.{answer_from}
use Rattle.fio_check.specs.LinkJudges.{judging_at, judging_below_outcome, judging_passed, judging_taken, stamp_in, unjudged_by}
use Rattle.fio_check.specs.LinkLaws.{is_load}
use Rattle.fio_check.specs.LogJudges.{Found, Heading, LogEvent, Lost, Missing, Possible, has_content, is_excused_late, is_explained, is_same_end, judges_each, judging_in_time, late_settled, link_lost, log_below, log_below_events, log_by_lateness, log_counting, log_forgetting, log_heading, log_lost, log_missing, log_possible, log_reaching, log_with, log_with_event, one_more, outcome_by_lateness, outcome_here, outcome_in_log, outcome_in_time, outcome_without_content, outcomes_in_log, unsettled}
use Rattle.fio_check.specs.Observations.{observation_of, says_load}
use Rattle.fio_check.specs.UnloadedLogs.{JudgesUnloaded, SupposesNoLoad, is_by_load, is_load_event, line_or_mark_at, unloaded_outcomes_of}
use Rattle.fio_check.specs.declared.late_answers.LateAnswers.{LateAnswers}
use Rattle.fio_check.specs.declared.late_answers.Lateness.{Lateness}
use Rattle.fio_check.specs.declared.late_answers.Lateness.TheVariants.{InTime, LateButTaken}
use Rattle.fio_check.specs.declared.late_answers.Lateness.TheVariants.{Late as LateOne}
use Rattle.fio_check.specs.declared.log_judge.LogOutcome.{LogOutcome}
use Rattle.fio_check.specs.declared.log_judge.LogOutcome.TheVariants.{LateAbove}
use Rattle.fio_check.specs.declared.outcome.Excuse.TheVariants.{Load, Unheard}
use Rattle.fio_check.specs.declared.outcome.FrameOutcome.TheVariants.{Broken, BrokenContent, Excused, Kept, NotJudged, Restarted}
use Rattle.fio_check.specs.declared.outcome.Unjudged.{Unjudged}
use Rattle.fio_check.proofs.Excuses.{excuses_what_is_shown, found_load}
use Rattle.fio_check.proofs.LinkTranscripts.{at-content}
use Rattle.fio_check.proofs.LogLaws.{that_frame}
use Rattle.fio_check.proofs.RestartsFound.{loads-here, none-with}

-- ---- a load, by what it says

load_said_by : (sent : Option Command) (heard : Option Answer) → says_load (observation_of sent heard) ≡ is_some_and sent (λ command. is_some (is_loading (Sent command)))
load_said_by sent heard = grind arith

load_said : (from_cpu : Bool) (octets : List ℕ) → says_load (observation_in from_cpu octets) ≡ is_load from_cpu octets
load_said from_cpu octets = load_said_by (command_from from_cpu octets) (answer_from from_cpu octets)

-- ---- the judge of a link

-- no load may take effect
abbrev NoneLeft : Judging → Type 0
NoneLeft judging = loads_left judging ≡ 0

module _ (judging : Judging) (at : LogPlace) (from_cpu : Bool) (octets : List ℕ) (none : NoneLeft judging) where
  -- no frame is excused by a load
  not_load : outcome_in judging at from_cpu octets ≡ Excused Load → ⊥
  not_load is =
      let left : nat_lt 0 (loads_left judging) ≡ true = ((excuses_what_is_shown judging at from_cpu octets).load is).1 in
      let zero : false ≡ true = sym (ap (nat_lt 0) none) ∙ left in
      cc

  module _ (quiet : is_load from_cpu octets ≡ false) where
    content_none : (checking_with (content_here judging) from_cpu octets).kept.facts.excuses ≡ 0
    content_none = none-with (content_here judging) from_cpu octets (loads-here judging judging.checker.skips ∙ none) quiet

    kept_none : NoneLeft (judging_at (judging_taken judging judging.checker from_cpu octets) (stamp_in from_cpu octets))
    kept_none =
        ap (λ (content : ContentChecking). content.kept.facts.excuses) (at-content (judging_taken judging judging.checker from_cpu octets) (stamp_in from_cpu octets))
        ∙ content_none

    lost_none : loads_below judging from_cpu octets ≡ 0
    lost_none = none-with judging.content from_cpu octets none quiet

    passed_none : (sent : Bool) → is_load sent octets ≡ false → NoneLeft (judging_passed judging sent octets)
    passed_none true quiet = none-with judging.content true octets none quiet
    passed_none false quiet = none

    below_none : (outcome : FrameOutcome) → NoneLeft (judging_below_outcome outcome judging from_cpu octets)
    below_none Kept = kept_none
    below_none (BrokenContent breach) = kept_none
    below_none (Broken breach) = none
    below_none (Excused Load) = lost_none
    below_none (Excused Unheard) = content_none
    below_none Restarted = lost_none
    below_none (NotJudged reason) = passed_none from_cpu quiet

    with_none : NoneLeft (judging_with judging at from_cpu octets)
    with_none = below_none (outcome_in judging at from_cpu octets)

-- ---- late answers

-- an outcome is by no load
abbrev ByNone : FrameOutcome → Type 0
ByNone outcome = is_by_load (Link outcome) ≡ false

by_none : (outcome : FrameOutcome) → (outcome ≡ Excused Load → ⊥) → ByNone outcome
by_none outcome other = grind (arith, other)

without_by_none : (passes : Bool) (reason : Unjudged) (found : Option Breach)
    → (if passes then NotJudged reason else outcome_found false found None) ≡ Excused Load → ⊥
without_by_none true reason found is = absurd (cc)
without_by_none false reason found is = found_load false found None is

time_outcome : (has : Bool) (one other : FrameOutcome) → (one ≡ Excused Load → ⊥) → (other ≡ Excused Load → ⊥) → ByNone (if has then one else other)
time_outcome true one other fine also = by_none one fine
time_outcome false one other fine also = by_none other also

time_none : (has : Bool) (one other : Judging) → NoneLeft one → NoneLeft other → NoneLeft (if has then one else other)
time_none true one other fine also = fine
time_none false one other fine also = also

kept_late_by : (excused : Bool) (outcome : FrameOutcome) → ByNone outcome → is_by_load (if excused then LateAbove else Link outcome) ≡ false
kept_late_by excused outcome fine = grind (arith, fine)

-- ---- the judge of a log

-- no load may take effect, and the CPU loads nothing
record IsUnloaded (log : LogJudging) : Type 0 where
  never : log.never_loads ≡ true
  none : NoneLeft log.link

link_none : (never : Bool) (judging : Judging) → never ≡ true → NoneLeft judging → NoneLeft (link_lost never judging)
link_none true judging is none = none
link_none false judging is none = absurd (cc)

lost_unloaded : (log : LogJudging) → IsUnloaded log → IsUnloaded (log_lost log)
lost_unloaded log unloaded = record { never = unloaded.never; none = link_none log.never_loads log.link unloaded.never unloaded.none }

marked_unloaded : (marked : Bool) (log : LogJudging) → IsUnloaded log → IsUnloaded (if marked then log_lost log else log)
marked_unloaded true log unloaded = lost_unloaded log unloaded
marked_unloaded false log unloaded = unloaded

either_unloaded : (same : Bool) (log : LogJudging) (agreeing contrary : ℕ) → IsUnloaded log
    → IsUnloaded (if same then record log { agreeing = agreeing } else record log { contrary = contrary })
either_unloaded true log agreeing contrary unloaded = record { never = unloaded.never; none = unloaded.none }
either_unloaded false log agreeing contrary unloaded = record { never = unloaded.never; none = unloaded.none }

counting_unloaded : (log : LogJudging) (from_cpu : Bool) (said : Option Bool) → IsUnloaded log → IsUnloaded (log_counting log from_cpu said)
counting_unloaded log from_cpu None unloaded = unloaded
counting_unloaded log from_cpu (Some by_cpu) unloaded =
    either_unloaded (is_same_end by_cpu from_cpu) log (one_more log.agreeing) (one_more log.contrary) unloaded

reaching_unloaded : (log : LogJudging) (from_cpu : Bool) (said : Option Bool) (observation : Observation) → IsUnloaded log → says_load observation ≡ false
    → IsUnloaded (log_reaching log from_cpu said observation)
reaching_unloaded log from_cpu said observation unloaded quiet =
    let counted = log_counting log from_cpu said in
    let above = marked_unloaded (is_explained counted from_cpu observation) counted (counting_unloaded log from_cpu said unloaded) in
    record { never = ap₂ (λ (never load : Bool). never && not load) unloaded.never quiet; none = above.none }

settled_unloaded : (settled : Bool) (log : LogJudging) (one other : LateAnswers) → IsUnloaded log
    → IsUnloaded (if settled then record log { late = Some one } else log_forgetting log other)
settled_unloaded true log one other unloaded = record { never = unloaded.never; none = unloaded.none }
settled_unloaded false log one other unloaded = record { never = unloaded.never; none = unloaded.none }

module _ (log : LogJudging) (at : LogPlace) (from_cpu : Bool) (octets : List ℕ) (unloaded : IsUnloaded log) (quiet : is_load from_cpu octets ≡ false) where
  timely_none : NoneLeft (judging_in_time log.link at from_cpu octets)
  timely_none = time_none (has_content from_cpu (observation_in from_cpu octets)) (judging_with log.link at from_cpu octets)
      (record log.link { checker = checker_with log.link.checker false (observation_in from_cpu octets) })
      (with_none log.link at from_cpu octets unloaded.none quiet) unloaded.none

  timely_outcome : ByNone (outcome_in_time log.link at from_cpu octets)
  timely_outcome =
      let observation = observation_in from_cpu octets in
      time_outcome (has_content from_cpu observation) (outcome_in log.link at from_cpu octets) (outcome_without_content log.link observation)
      (not_load log.link at from_cpu octets unloaded.none)
      (without_by_none (passes_over log.link.checker false observation) (unjudged_by log.link.checker.skips) (found_by log.link.checker false observation))

  lateness_unloaded : (lateness : Lateness) (late : LateAnswers)
      → IsUnloaded (log_by_lateness lateness log late at from_cpu octets)
      × (is_by_load (outcome_by_lateness lateness late at (outcome_in_time log.link at from_cpu octets)) ≡ false)
  lateness_unloaded InTime late =
      let outcome = outcome_in_time log.link at from_cpu octets in
      let below : LogJudging = record log { link = judging_in_time log.link at from_cpu octets } in (
        settled_unloaded (late_settled late at outcome) below (record late { settled = true }) (unsettled late) (record { never = unloaded.never; none = timely_none }),
        kept_late_by (is_excused_late at (late_settled late at outcome) outcome) outcome timely_outcome,
      )
  lateness_unloaded LateOne late = (record { never = unloaded.never; none = unloaded.none }, refl)
  lateness_unloaded LateButTaken late = (record { never = unloaded.never; none = link_none log.never_loads log.link unloaded.never unloaded.none }, refl)

  below_unloaded : (late : Option LateAnswers) → IsUnloaded (log_below log late at from_cpu octets) × (is_by_load (outcome_here log late at from_cpu octets) ≡ false)
  below_unloaded None = (
    record { never = unloaded.never; none = with_none log.link at from_cpu octets unloaded.none quiet },
    by_none (outcome_in log.link at from_cpu octets) (not_load log.link at from_cpu octets unloaded.none),
  )
  below_unloaded (Some late) =
      lateness_unloaded (lateness_of late (observation_in from_cpu octets)) (late_with late (observation_in from_cpu octets))

found_unloaded : (log : LogJudging) (from_cpu : Bool) (said : Option Bool) (octets : List ℕ) → IsUnloaded log → is_load from_cpu octets ≡ false
    → IsUnloaded (log_with log from_cpu said octets) × (is_by_load (outcome_in_log log from_cpu said octets) ≡ false)
found_unloaded log from_cpu said octets unloaded quiet =
    let observation = observation_in from_cpu octets in
    let reached = log_reaching log from_cpu said observation in
    below_unloaded reached (place_of reached said) from_cpu octets
    (reaching_unloaded log from_cpu said observation unloaded (load_said from_cpu octets ∙ quiet)) quiet reached.late

-- ---- all events

neither : (one other : Bool) → one || other ≡ false → (one ≡ false) × (other ≡ false)
neither true other is = absurd (cc)
neither false other is = (refl, is)

unloaded_events : (log : LogJudging) (events : List LogEvent) → IsUnloaded log → list_any is_load_event events ≡ false
    → (list_any is_by_load (outcomes_in_log log events) ≡ false) × NoneLeft (log_below_events log events).link
unloaded_events log [] unloaded quiet = (refl, unloaded.none)
unloaded_events log (Found from_cpu said octets ∷ events) unloaded quiet =
    let parts = neither (is_load from_cpu octets) (list_any is_load_event events) quiet in
    let one = found_unloaded log from_cpu said octets unloaded parts.0 in
    let more = unloaded_events (log_with log from_cpu said octets) events one.0 parts.1 in
    (ap₂ (λ (first last : Bool). first || last) one.1 more.0, more.1)
unloaded_events log (Lost ∷ events) unloaded quiet = unloaded_events (log_lost log) events (lost_unloaded log unloaded) quiet
unloaded_events log (Possible ∷ events) unloaded quiet =
    unloaded_events (log_possible log) events (marked_unloaded (log.has_frames || judges_each log.link.checker.skips) log unloaded) quiet
unloaded_events log (Heading ∷ events) unloaded quiet = unloaded_events (log_heading log) events (marked_unloaded log.has_frames log unloaded) quiet
unloaded_events log (Missing ∷ events) unloaded quiet =
    unloaded_events (log_missing log) events (record { never = unloaded.never; none = unloaded.none }) quiet

-- ---- where a load is

and_true : (never : Bool) → never ≡ never && true
and_true true = refl
and_true false = refl

and_not : (never one other : Bool) → (never && not one) && not other ≡ never && not (one || other)
and_not true true other = refl
and_not true false other = refl
and_not false one other = refl

marked_never : (marked : Bool) (log : LogJudging) → (if marked then log_lost log else log).never_loads ≡ log.never_loads
marked_never true log = refl
marked_never false log = refl

settled_never : (settled : Bool) (log : LogJudging) (one other : LateAnswers)
    → (if settled then record log { late = Some one } else log_forgetting log other).never_loads ≡ log.never_loads
settled_never true log one other = refl
settled_never false log one other = refl

lateness_never : (lateness : Lateness) (log : LogJudging) (late : LateAnswers) (at : LogPlace) (from_cpu : Bool) (octets : List ℕ)
    → (log_by_lateness lateness log late at from_cpu octets).never_loads ≡ log.never_loads
lateness_never InTime log late at from_cpu octets =
    settled_never (late_settled late at (outcome_in_time log.link at from_cpu octets)) (record log { link = judging_in_time log.link at from_cpu octets })
    (record late { settled = true }) (unsettled late)
lateness_never LateOne log late at from_cpu octets = refl
lateness_never LateButTaken log late at from_cpu octets = refl

below_never : (log : LogJudging) (late : Option LateAnswers) (at : LogPlace) (from_cpu : Bool) (octets : List ℕ)
    → (log_below log late at from_cpu octets).never_loads ≡ log.never_loads
below_never log None at from_cpu octets = refl
below_never log (Some late) at from_cpu octets =
    lateness_never (lateness_of late (observation_in from_cpu octets)) log (late_with late (observation_in from_cpu octets)) at from_cpu octets

event_never : (log : LogJudging) (event : LogEvent) → (log_with_event log event).never_loads ≡ log.never_loads && not (is_load_event event)
event_never log (Found from_cpu said octets) =
    let reached = log_reaching log from_cpu said (observation_in from_cpu octets) in
    below_never reached reached.late (place_of reached said) from_cpu octets
    ∙ ap (λ (load : Bool). log.never_loads && not load) (load_said from_cpu octets)
event_never log Lost = and_true log.never_loads
event_never log Possible = marked_never (log.has_frames || judges_each log.link.checker.skips) log ∙ and_true log.never_loads
event_never log Heading = marked_never log.has_frames log ∙ and_true log.never_loads
event_never log Missing = and_true log.never_loads

events_never : (log : LogJudging) (events : List LogEvent) → (log_below_events log events).never_loads ≡ log.never_loads && not (list_any is_load_event events)
events_never log [] = and_true log.never_loads
events_never log (event ∷ events) =
    events_never (log_with_event log event) events
    ∙ ap (λ (never : Bool). never && not (list_any is_load_event events)) (event_never log event)
    ∙ and_not log.never_loads (is_load_event event) (list_any is_load_event events)

pub supposes_no_load : (log : LogJudging) (events : List LogEvent) → SupposesNoLoad log events
supposes_no_load log events = record {
  ends = events_never log events;
  none = λ never none quiet. unloaded_events log events (record { never = never; none = none }) quiet;
}

-- ---- frames and lost lines

pub judges_unloaded : (log : LogJudging) (at : LogPlace) (events : List LogEvent) → JudgesUnloaded log at events
judges_unloaded log at [] never none nowhere given all quiet = refl
judges_unloaded log at (Found from_cpu said octets ∷ events) never none nowhere given all quiet =
    let parts = neither (is_load from_cpu octets) (list_any is_load_event events) quiet in
    let one = that_frame log at from_cpu said octets none nowhere given in
    let still = one.loads ∙ ap₂ (λ (never load : Bool). never && not load) never (load_said from_cpu octets ∙ parts.0) in
    ap₂ (λ (first last : List LogOutcome). first ++ last) one.outcome
    (judges_unloaded (log_with log from_cpu said octets) at events still one.late one.missing one.place all parts.1
    ∙ ap (λ (judging : Judging). map Link (unloaded_outcomes_of judging (flat_map (line_or_mark_at at) events))) one.link)
judges_unloaded log at (Lost ∷ events) never none nowhere given all quiet =
    judges_unloaded (log_lost log) at events never (ap (option_map unsettled) none) nowhere given all quiet
    ∙ ap (λ (never : Bool). map Link (unloaded_outcomes_of (link_lost never log.link) (flat_map (line_or_mark_at at) events))) never
judges_unloaded log at (Possible ∷ events) never none nowhere given all quiet = absurd (cc)
judges_unloaded log at (Heading ∷ events) never none nowhere given all quiet = absurd (cc)
judges_unloaded log at (Missing ∷ events) never none nowhere given all quiet = absurd (cc)
