-- The judge of a log as C sees it.
use Rattle.std.specs.Prelude.{ℕ, ◌≡◌, ◌==◌, ◌||◌, Bool, true, false, not, nat_lt, List, [], ◌∷◌, replicate, slice_get, unwrap_or, Option, Some, None, if◌then◌else◌}
use Rattle.fio_check.specs.LineKinds.{events_below_frame, events_of_line}
use Rattle.fio_check.specs.LogJudges.{Found, LogEvent, LogJudging, log_below_events, log_starting, log_unloaded, log_with_event, outcome_in_log}
use Rattle.fio_check.specs.declared.late_answers.LateAnswers.{LateAnswers}
use Rattle.fio_check.specs.declared.line_kind.LogLineKind.{LogLineKind}
use Rattle.fio_check.specs.declared.line_kind.LogLineKind.TheVariants as kinds
use Rattle.fio_check.specs.declared.log_judge.LogOutcome.{LogOutcome}
use Rattle.fio_check.specs.declared.log_judge.LogOutcome.TheVariants.{Late, LateAbove, Link}
use Rattle.fio_check.specs.declared.log_judge.LogStart.{LogStart}
use Rattle.fio_check.specs.declared.log_judge.LogStart.TheVariants as starts
use Rattle.fio_check.specs.declared.limits.RuleLimits.{RuleLimits}
use Rattle.fio_check.specs.declared.missing_frames.MissingFrames.{MissingFrames}
use Rattle.fio_check.specs.declared.missing_frames.MissingFrames.TheVariants.{AbovePoll, Below, Nowhere}
use Rattle.fio_check.specs.declared.outcome.LogPlace.{LogPlace}
use Rattle.fio_check.specs.declared.outcome.LogPlace.TheVariants.{Bus, Cpu, Module}
use Rattle.fio_c.specs.BatchItems.{BatchItem}
use Rattle.fio_c.specs.Checkers.{octet_if}
use Rattle.fio_c.specs.Judges.{ReservesZeros, flat_outcome, judge_in, without_breach}
use Rattle.fio_c.specs.declared.judge.JudgeOutcome.{JudgeOutcome}
use Rattle.fio_c.specs.declared.log_batch.LogVerdict.{LogVerdict}
use Rattle.fio_c.specs.declared.log_judge.FlatLogJudge.{FlatLogJudge}
use Rattle.fio_message.specs.declared.types.TheConstants.{ANSWER}

-- where a log was taken: 0 unknown, 1 at the CPU's end, 2 at the module, else on the bus
abbrev pub place_taken : ℕ → Option LogPlace
place_taken place = if place == 0 then None else if place == 1 then Some Cpu else if place == 2 then Some Module else Some Bus

-- the number of where a log was taken
abbrev pub place_number : Option LogPlace → ℕ
place_number None = 0
place_number (Some Cpu) = 1
place_number (Some Module) = 2
place_number (Some Bus) = 3

-- how a log begins: 1 and 5 with both ends, 2 and 6 anywhere and with late answers left out, else anywhere
abbrev pub start_in : ℕ → LogStart
start_in start = if start == 1 || start == 5 then starts.Begun
    else if start == 2 || start == 6 then starts.LateAnswers else starts.Anywhere

-- 4, 5 and 6 say that the CPU never loads the counter
abbrev pub says_unloaded : ℕ → Bool
says_unloaded start = start == 4 || start == 5 || start == 6

-- a judge above the first line of a log of a module with these limits, taken there, that begins so
abbrev pub log_started : RuleLimits → ℕ → ℕ → LogJudging
log_started limits place start = if says_unloaded start
    then log_unloaded (log_starting limits (place_taken place) (start_in start))
    else log_starting limits (place_taken place) (start_in start)

-- where frames may be missing: 0 nowhere, 1 below the latest poll and the latest block answer, else above the latest poll
abbrev pub missing_in : ℕ → MissingFrames
missing_in missing = if missing == 0 then Nowhere else if missing == 1 then Below else AbovePoll

-- its number
abbrev pub missing_number : MissingFrames → ℕ
missing_number Nowhere = 0
missing_number Below = 1
missing_number AbovePoll = 2

-- whether the CPU's end sent a frame, by what its line says: 1 it did, 2 the module, else nothing
abbrev pub end_in : ℕ → Option Bool
end_in said = if said == 1 then Some true else if said == 2 then Some false else None

-- what decides which answers are late, if these are left out
abbrev pub late_in : FlatLogJudge → Option LateAnswers
late_in flat = if flat.has_late == 0 then None else Some (record {
  settled = not (flat.settled == 0);
  awaited = octet_if flat.has_awaited flat.awaited;
  polled = octet_if flat.has_polled flat.polled;
  first = not (flat.first == 0);
  answered = not (flat.answered == 0);
})

-- the judge that a struct of C represents, whatever its octets are
abbrev pub log_judge_in : FlatLogJudge → LogJudging
log_judge_in flat = record {
  link = judge_in flat.link;
  late = late_in flat;
  place = place_taken flat.place;
  agreeing = flat.agreeing;
  contrary = flat.contrary;
  has_frames = not (flat.has_frames == 0);
  missing = missing_in flat.missing;
  never_loads = not (flat.never_loads == 0);
}

-- the octets that the struct of a judge of a log reserves are 0, those of its judge of the link too
abbrev pub LogReservesZeros : FlatLogJudge → Type 0
LogReservesZeros flat = (flat.reserved ≡ replicate 4 0) × ReservesZeros flat.link

-- the outcome of a frame as C sees it
abbrev pub flat_log_outcome : LogOutcome → JudgeOutcome
flat_log_outcome (Link outcome) = flat_outcome outcome
flat_log_outcome Late = without_breach 3 5
flat_log_outcome LateAbove = without_breach 3 6

-- ---- a batch of verdicts

-- whether the CPU's end sent a frame: by its line, if lines count and this one names the sender, else by its type
abbrev pub is_sent_frame : Bool → Option Bool → List ℕ → Bool
is_sent_frame true (Some by_cpu) octets = by_cpu
is_sent_frame as_said said octets = nat_lt (unwrap_or (slice_get octets 0) 0) ANSWER

-- the event that a frame is to the judge
abbrev pub event_of_frame : Bool → Option Bool → List ℕ → LogEvent
event_of_frame as_said said octets = Found (is_sent_frame as_said said octets) said octets

-- What a line is to the judge, by its kind and, if that does not say it, its reason:
abbrev pub line_kind_by : ℕ → ℕ → LogLineKind
line_kind_by kind reason =
    -- frames, and something beside them
    if kind == 1 then (if reason == 0 then kinds.Frames else kinds.FramesAndMore)
    -- a message above that is broken
    else if reason == 14 then kinds.BreakingOff
    -- octets that may be a message in a line of no form
    else if kind == 3 then kinds.Possible
    -- damage
    else if kind == 4 then (if reason == 6 then kinds.TooLong else kinds.Damaged)
    -- none of these
    else if kind == 5 then (if reason == 10 then kinds.Loss else if reason == 11 then kinds.Heading else kinds.Other)
    -- blank, or a part of a message; no line has another kind
    else (if kind == 0 || kind == 2 then kinds.Other else kinds.Damaged)

-- what the line of a verdict is to it
abbrev pub line_kind_of : LogVerdict → LogLineKind
line_kind_of verdict = line_kind_by verdict.kind verdict.reason

-- the judge after one item more: a frame of a line whose kind has no frames is not judged
abbrev pub log_below_item : Bool → LogJudging → BatchItem → LogJudging
log_below_item as_said judge (verdict, None) = log_below_events judge (events_of_line (line_kind_of verdict))
log_below_item as_said judge (verdict, Some octets) = if verdict.kind == 1
    then log_below_events (log_with_event judge (event_of_frame as_said (end_in verdict.said) octets))
    (events_below_frame (line_kind_of verdict))
    else judge

-- the outcome of a frame of a verdict
abbrev pub outcome_of_item : Bool → LogJudging → LogVerdict → List ℕ → JudgeOutcome
outcome_of_item as_said judge verdict octets = if verdict.kind == 1
    then flat_log_outcome (outcome_in_log judge (is_sent_frame as_said (end_in verdict.said) octets) (end_in verdict.said) octets)
    else without_breach 5 0

-- the outcomes of all frames, in order
abbrev pub outcomes_of_items : Bool → LogJudging → List BatchItem → List JudgeOutcome
outcomes_of_items as_said judge [] = []
outcomes_of_items as_said judge ((verdict, None) ∷ items) =
    outcomes_of_items as_said (log_below_item as_said judge (verdict, None)) items
outcomes_of_items as_said judge ((verdict, Some octets) ∷ items) =
    outcome_of_item as_said judge verdict octets
    ∷ outcomes_of_items as_said (log_below_item as_said judge (verdict, Some octets)) items
