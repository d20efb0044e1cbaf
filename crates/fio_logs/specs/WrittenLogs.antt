-- Logs of a right link as lines: what the judge of a log is given of them accuses neither end.
use Rattle.std.specs.Prelude.{◌≡◌, ℕ, ◌+◌, ◌&&◌, ◌||◌, not, Bool, true, false, List, [], ◌∷◌, ◌++◌, length, map, Option, Some, None}
use Rattle.std.specs.List.{AllByRecursion, flat_map}
use Rattle.fio_module.specs.Settings.{Settings, AreInRange, standard_settings}
use Rattle.fio_log.specs.Blanks.{Texts}
use Rattle.fio_log.specs.Heard.{Above}
use Rattle.fio_log.specs.LineLogs.{Gone, LineIs, Message, Other, Spoilt}
use Rattle.fio_log.specs.Wordings.{speaks_of_loss}
use Rattle.fio_check.specs.LogJudges.{late_starting, log_starting, outcomes_in_log}
use Rattle.fio_check.specs.Rules.{standard_rule_limits}
use Rattle.fio_check.specs.declared.limits.RuleLimits.{RuleLimits}
use Rattle.fio_check.specs.declared.log_judge.LogStart.{LogStart}
use Rattle.fio_check.specs.declared.outcome.LogPlace.{LogPlace}
use Rattle.fio_link.specs.declared.event.Event.{Event}
use Rattle.fio_link.specs.declared.event.Event.TheVariants.{ToCpu}
use Rattle.fio_link.specs.Link.{Machine, Leads, after, start}
use Rattle.fio_ends.specs.ContentPremises.{AreTimesNear}
use Rattle.fio_ends.specs.ContentRuns.{MayBegin, judged_events, judged_from}
use Rattle.fio_ends.specs.EventLogs.{AccusesNeitherInLog, starts_begun}
use Rattle.fio_ends.specs.LinkLogs.{AreUnderWay, AreUnderWayAt, below_command, loads_at_start}
use Rattle.fio_ends.specs.PromptRuns.{IsPromptRun, SuitModule, is_command}
use Rattle.fio_ends.specs.Transcripts.{CpuFrame, frames_at}
use Rattle.fio_logs.specs.ReportedLines.{AreReported, ReportedLine, events_of_reported}

-- ---- the lines of a log

-- what becomes of an event of a link in a log, and what other lines are between
pub data LineStep : Type 0 where
  -- its frame, if it has one, is a line by itself
  Logged : (event : Event) → LineStep
  -- its frame is missing
  Missing : (event : Event) → LineStep
  -- a line that is too long, or of which a part is gone
  GoneLine : LineStep
  -- one that a form has, and whose octets are damaged
  SpoiltLine : LineStep
  -- one that no form has, and whether it speaks of loss
  OtherLine : (loss : Bool) → LineStep

-- the events of the link, whether their frames are in the log or not
abbrev pub events_of_steps : List LineStep → List Event
events_of_steps [] = []
events_of_steps (Logged event ∷ steps) = event ∷ events_of_steps steps
events_of_steps (Missing event ∷ steps) = event ∷ events_of_steps steps
events_of_steps (GoneLine ∷ steps) = events_of_steps steps
events_of_steps (SpoiltLine ∷ steps) = events_of_steps steps
events_of_steps (OtherLine loss ∷ steps) = events_of_steps steps

-- what a line of a log is, and whether it speaks of loss, if no form has it
pub record WrittenLine : Type 0 where
  pub is : LineIs
  pub loss : Bool

-- a frame as a line
abbrev pub line_of_frame : CpuFrame → WrittenLine
line_of_frame frame = record { is = Message frame.octets; loss = false }

-- the lines of what the CPU's end sends and hears from a machine on
abbrev pub lines_from : Settings → ℕ → Machine → List LineStep → List WrittenLine
lines_from settings first machine [] = []
lines_from settings first machine (Logged event ∷ steps) =
    map line_of_frame (frames_at first machine event) ++ lines_from settings first (after settings first machine event) steps
lines_from settings first machine (Missing event ∷ steps) = lines_from settings first (after settings first machine event) steps
lines_from settings first machine (GoneLine ∷ steps) = record { is = Gone; loss = false } ∷ lines_from settings first machine steps
lines_from settings first machine (SpoiltLine ∷ steps) = record { is = Spoilt; loss = false } ∷ lines_from settings first machine steps
lines_from settings first machine (OtherLine loss ∷ steps) = record { is = Other; loss = loss } ∷ lines_from settings first machine steps

-- whether a line that no form has speaks of loss
abbrev pub other_of_loss : LineIs → List ℕ → Bool
other_of_loss Other octets = speaks_of_loss octets
other_of_loss line octets = false

-- the lines that a reader reports, as they are written
abbrev pub written_lines : Texts → ℕ → List ReportedLine → List WrittenLine
written_lines texts told [] = []
written_lines texts told (line ∷ lines) =
    record { is = line.told.is; loss = other_of_loss line.told.is (texts (told + 1)).octets } ∷ written_lines texts (told + 1) lines

-- ---- the premises

-- what the lines of a log say above a line
pub record LinesAbove : Type 0 where
  -- a line that is gone or damaged is above, with no message between
  pub lost : Bool
  -- a line that no form has is above, with no command between
  pub other : Bool
  -- a line that no form has, and that speaks of loss, is above
  pub loss : Bool
  -- this number of loads of the counter may be under way at the next command
  pub begins : Option ℕ

-- above the first line
abbrev pub no_lines : Bool → LinesAbove
no_lines begun = record { lost = false; other = false; loss = false; begins = loads_at_start begun }

-- below the frames of an event, if it has any
abbrev pub below_logged : Event → LinesAbove → List CpuFrame → LinesAbove
below_logged event above [] = above
below_logged event above (frame ∷ frames) =
    record above { lost = false; other = not (is_command event) && above.other; begins = below_command event above.begins }

-- below a line that is gone or damaged
abbrev pub below_lost : LinesAbove → LinesAbove
below_lost above = record above { lost = true; begins = Some 1 }

-- below one that no form has
abbrev pub below_other : Bool → LinesAbove → LinesAbove
below_other loss above = record above { other = true; loss = loss || above.loss }

-- frames are missing only below a line that is gone or damaged, with no message between
abbrev pub AreMissingBelowLost : Settings → ℕ → LinesAbove → Machine → List LineStep → Type 0
AreMissingBelowLost settings first above machine [] = Unit {0}
AreMissingBelowLost settings first above machine (Logged event ∷ steps) =
    AreMissingBelowLost settings first (below_logged event above (frames_at first machine event)) (after settings first machine event) steps
AreMissingBelowLost settings first above machine (Missing event ∷ steps) =
    (above.lost ≡ true) × AreMissingBelowLost settings first above (after settings first machine event) steps
AreMissingBelowLost settings first above machine (GoneLine ∷ steps) = AreMissingBelowLost settings first (below_lost above) machine steps
AreMissingBelowLost settings first above machine (SpoiltLine ∷ steps) = AreMissingBelowLost settings first (below_lost above) machine steps
AreMissingBelowLost settings first above machine (OtherLine loss ∷ steps) =
    AreMissingBelowLost settings first (below_other loss above) machine steps

-- Few loads of the counter are under way at the first command that is logged: at most this number, if it is given. At most one is
-- under way at the first command that is logged below a line without a message; and at each below one that speaks of loss.
abbrev pub FewAreUnderWayInLines : Settings → ℕ → LinesAbove → Machine → List LineStep → Type 0
FewAreUnderWayInLines settings first above machine [] = Unit {0}
FewAreUnderWayInLines settings first above machine (Logged event ∷ steps) =
    (is_command event ≡ true → AreUnderWayAt above.begins settings first machine (event ∷ events_of_steps steps)
    × ((above.other || above.loss) ≡ true → AreUnderWay 1 settings first machine (event ∷ events_of_steps steps)))
    × FewAreUnderWayInLines settings first (below_logged event above (frames_at first machine event)) (after settings first machine event) steps
FewAreUnderWayInLines settings first above machine (Missing event ∷ steps) =
    FewAreUnderWayInLines settings first above (after settings first machine event) steps
FewAreUnderWayInLines settings first above machine (GoneLine ∷ steps) = FewAreUnderWayInLines settings first (below_lost above) machine steps
FewAreUnderWayInLines settings first above machine (SpoiltLine ∷ steps) = FewAreUnderWayInLines settings first (below_lost above) machine steps
FewAreUnderWayInLines settings first above machine (OtherLine loss ∷ steps) =
    FewAreUnderWayInLines settings first (below_other loss above) machine steps

-- What the CPU's end logs of a prompt run, a frame a line, from the start of both ends or from any event on, though any frames may
-- be missing at lines that are gone or damaged, and lines that no form has may be anywhere. The judge's limits suit the module; few
-- loads of the counter are under way; and all that is compared is near.
pub record IsLineLog (begun : Bool) (settings : Settings) (limits : RuleLimits) (first : ℕ) (before : List Event)
    (steps : List LineStep) (machine last : Machine) : Type 0 where
  pub in_range : AreInRange settings
  pub suit : SuitModule settings limits
  pub run : IsPromptRun settings first (before ++ events_of_steps steps) last
  pub leads : Leads settings first start before machine
  pub begins : MayBegin begun before
  pub missing : AreMissingBelowLost settings first (no_lines begun) machine steps
  pub few : FewAreUnderWayInLines settings first (no_lines begun) machine steps
  pub near : AreTimesNear begun settings first (judged_from begun settings first machine (events_of_steps steps))
      (judged_events begun (events_of_steps steps)) last

-- From the lines of a log to its outcomes: of what a reader reports of the lines of a right link, the judge of a log accuses neither
-- end, wherever the log was taken. It leaves no late answers out.
unfoldable pub LinesAccuseNone : Type 0
LinesAccuseNone =
    (as_said : Bool) (texts : Texts) (told : ℕ) (above : Above) (lines : List ReportedLine) (place : Option LogPlace) (starts : LogStart)
    (settings : Settings) (limits : RuleLimits) (first : ℕ) (before : List Event) (steps : List LineStep) (machine last : Machine) →
    late_starting starts ≡ None → IsLineLog (starts_begun starts) settings limits first before steps machine last →
    AreReported as_said texts told above lines → written_lines texts told lines ≡ lines_from settings first machine steps →
    AllByRecursion AccusesNeitherInLog (outcomes_in_log (log_starting limits place starts) (flat_map (events_of_reported as_said) lines))

-- the lines of what the CPU's end sends and hears of a module with the limits of TEES 2009, from the start of both ends on
abbrev pub lines_begun : List LineStep → List WrittenLine
lines_begun steps = lines_from (standard_settings 2) 0 start steps

-- There is such a log of four lines, in which an answer is missing at a damaged line below one frame and above two.
unfoldable pub LinesMayBeLost : Type 0
LinesMayBeLost =
    (above below : List LineStep) × (index : ℕ) × (last : Machine)
    × IsLineLog true (standard_settings 2) standard_rule_limits 0 [] (above ++ SpoiltLine ∷ Missing (ToCpu index) ∷ below) start last
    × (length (lines_begun above) ≡ 1)
    × (length (lines_begun (above ++ SpoiltLine ∷ Missing (ToCpu index) ∷ below)) ≡ 4)
