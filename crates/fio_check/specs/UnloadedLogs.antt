-- Laws of the judge of the log of a CPU that never loads the counter: it supposes no load among lines that are lost.
use Rattle.std.specs.Prelude.{◌≡◌, Bool, ◌&&◌, true, false, not, List, [], ◌∷◌, ◌++◌, Some, None, map}
use Rattle.std.specs.List.{flat_map, list_all, list_any}
use Rattle.fio_check.specs.LinkJudges.{Frame, Judging, LogLine, judging_with, loads_left, outcome_on}
use Rattle.fio_check.specs.LinkJudges.{Lost as Mark}
use Rattle.fio_check.specs.LinkLaws.{is_load}
use Rattle.fio_check.specs.LogJudges.{Found, LogEvent, LogJudging, Lost, judging_lost_unloaded, log_below_events, outcomes_in_log}
use Rattle.fio_check.specs.LogLaws.{line_at}
use Rattle.fio_check.specs.declared.log_judge.LogOutcome.{LogOutcome}
use Rattle.fio_check.specs.declared.log_judge.LogOutcome.TheVariants.{Link}
use Rattle.fio_check.specs.declared.missing_frames.MissingFrames.TheVariants.{Nowhere}
use Rattle.fio_check.specs.declared.outcome.Excuse.TheVariants.{Load}
use Rattle.fio_check.specs.declared.outcome.FrameOutcome.{FrameOutcome}
use Rattle.fio_check.specs.declared.outcome.FrameOutcome.TheVariants.{Excused}
use Rattle.fio_check.specs.declared.outcome.LogPlace.{LogPlace}

-- an event is a load of the counter
abbrev pub is_load_event : LogEvent → Bool
is_load_event (Found from_cpu said octets) = is_load from_cpu octets
is_load_event event = false

-- an outcome says that a load took effect
abbrev pub is_by_load : LogOutcome → Bool
is_by_load (Link (Excused Load)) = true
is_by_load outcome = false

-- A load among the events ends it that the CPU never loads the counter. With none among them, and none that may take effect above
-- them, the judge says of no frame that a load took effect, and none may take effect below them, whatever lines are lost.
pub record SupposesNoLoad (log : LogJudging) (events : List LogEvent) : Type 0 where
  pub ends : (log_below_events log events).never_loads ≡ log.never_loads && not (list_any is_load_event events)
  pub none : log.never_loads ≡ true → loads_left log.link ≡ 0 → list_any is_load_event events ≡ false
      → (list_any is_by_load (outcomes_in_log log events) ≡ false) × (loads_left (log_below_events log events).link ≡ 0)

-- ---- the judge of a link that supposes none

-- with a line more
abbrev pub unloaded_with_line : Judging → LogLine → Judging
unloaded_with_line judging (Frame at from_cpu octets) = judging_with judging at from_cpu octets
unloaded_with_line judging Mark = judging_lost_unloaded judging

-- its outcomes of the frames among lines, in order
abbrev pub unloaded_outcomes_of : Judging → List LogLine → List FrameOutcome
unloaded_outcomes_of judging [] = []
unloaded_outcomes_of judging (line ∷ lines) = outcome_on judging line ++ unloaded_outcomes_of (unloaded_with_line judging line) lines

-- an event is a frame, or a line that may have held one
abbrev pub is_found_or_lost : LogEvent → Bool
is_found_or_lost (Found from_cpu said octets) = true
is_found_or_lost Lost = true
is_found_or_lost event = false

-- an event as a line of a log that was taken there: a line that may have held a frame is a mark
abbrev pub line_or_mark_at : LogPlace → LogEvent → List LogLine
line_or_mark_at at Lost = Mark ∷ []
line_or_mark_at at event = line_at at event

-- Of events that are frames, none of them a load, and lines that may have held one, the judge says what the judge of the link says that
-- supposes no load where these are.
abbrev pub JudgesUnloaded : LogJudging → LogPlace → List LogEvent → Type 0
JudgesUnloaded log at events =
    log.never_loads ≡ true → log.late ≡ None → log.missing ≡ Nowhere → log.place ≡ Some at
    → list_all is_found_or_lost events ≡ true → list_any is_load_event events ≡ false
    → outcomes_in_log log events ≡ map Link (unloaded_outcomes_of log.link (flat_map (line_or_mark_at at) events))
