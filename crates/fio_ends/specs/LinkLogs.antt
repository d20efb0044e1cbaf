-- Logs of a right link that begin anywhere, while loads of the counter may still take effect, and in which lines may be lost.
use Rattle.std.specs.Prelude.{◌≡◌, ◌≢◌, ℕ, ◌+◌, ◌<◌, ◌^◌, Bool, true, false, List, [], ◌∷◌, ◌++◌, map, Option, Some, None, if◌then◌else◌}
use Rattle.std.specs.List.{AllByRecursion}
use Rattle.fio_module.specs.Settings.{Settings, AreInRange, standard_settings}
use Rattle.fio_module.specs.Life.{life_of, loads_of, scans_of}
use Rattle.fio_check.specs.ContentCheckers.{found_first}
use Rattle.fio_check.specs.Lines.{TranscriptLine}
use Rattle.fio_check.specs.LinkJudges.{Judging, LogLine, Frame, Lost, checking_again, judging_anywhere, judging_begun, outcomes_of}
use Rattle.fio_check.specs.Rules.{standard_rule_limits}
use Rattle.fio_check.specs.declared.limits.RuleLimits.{RuleLimits}
use Rattle.fio_check.specs.declared.outcome.LogPlace.{LogPlace}
use Rattle.fio_check.specs.declared.outcome.FrameOutcome.{FrameOutcome}
use Rattle.fio_check.specs.declared.outcome.FrameOutcome.TheVariants.{Broken, BrokenContent, Kept, NotJudged}
use Rattle.fio_check.specs.declared.outcome.Unjudged.TheVariants.{AboveCommand}
use Rattle.fio_link.specs.declared.event.Event.{Event}
use Rattle.fio_link.specs.declared.event.Event.TheVariants.{ToCpu}
use Rattle.fio_link.specs.Link.{Machine, Leads, after, start}
use Rattle.fio_ends.specs.ContentPremises.{AreTimesNear, LoadsAreSent}
use Rattle.fio_ends.specs.ContentRuns.{MayBegin, judged_events, judged_from}
use Rattle.fio_ends.specs.PromptRuns.{IsPromptRun, SuitModule, events_from_command, is_command, machine_at_command}
use Rattle.fio_ends.specs.Transcripts.{CpuFrame, HaveFrames, frames_at, frames_from}

-- ---- loads of the counter that were sent above

-- at most this number of loads of the counter are under way: from here on no more take effect than these and those that are
-- sent
abbrev pub AreUnderWay : ℕ → Settings → ℕ → Machine → List Event → Type 0
AreUnderWay loads settings first machine events =
    LoadsAreSent settings first (loads_of (life_of machine.history) + loads) machine events

-- what the CPU's end logs of a prompt run from any event on, while at most this number of loads may still take effect
pub record IsLogBelowLoads (loads : ℕ) (settings : Settings) (first : ℕ) (before later : List Event) (machine last : Machine)
    (lines : List TranscriptLine) : Type 0 where
  pub in_range : AreInRange settings
  pub run : IsPromptRun settings first (before ++ later) last
  pub leads : Leads settings first start before machine
  pub under_way : AreUnderWay loads settings first (machine_at_command settings first machine later) (events_from_command later)
  pub near :
      AreTimesNear false settings first (machine_at_command settings first machine later) (events_from_command later) last
  pub has : HaveFrames lines (frames_from settings first machine later)

-- A checker of content that begins anywhere, given the number of loads that may still take effect, accuses no right link: it
-- finds nothing in such a log.
unfoldable pub AccusesNoneBelowLoads : Type 0
AccusesNoneBelowLoads =
    (loads : ℕ) (settings : Settings) (first : ℕ) (before later : List Event) (machine last : Machine) (lines : List TranscriptLine) →
    IsLogBelowLoads loads settings first before later machine last lines →
    found_first (checking_again loads) lines ≡ None

-- There is such a log, for one load, in which a checker that knows of none would accuse a right link.
unfoldable pub LoadsMayBeUnderWay : Type 0
LoadsMayBeUnderWay =
    (before later : List Event) × (machine last : Machine) × (lines : List TranscriptLine)
    × IsLogBelowLoads 1 (standard_settings 2) 0 before later machine last lines
    × (found_first (checking_again 0) lines ≢ None)

-- ---- a log in which lines may be lost

-- what becomes of an event in a log, and the marks where lines are lost
pub data LogStep : Type 0 where
  -- its frames, if it has any, are in the log, logged there
  Logged : (at : LogPlace) → (event : Event) → LogStep
  -- its frames are missing
  Missing : (event : Event) → LogStep
  -- a mark
  Marked : LogStep

-- the events, whether their frames are in the log or not
abbrev pub events_of : List LogStep → List Event
events_of [] = []
events_of (Logged at event ∷ steps) = event ∷ events_of steps
events_of (Missing event ∷ steps) = event ∷ events_of steps
events_of (Marked ∷ steps) = events_of steps

-- a frame in a log, logged there
abbrev pub logged_at : LogPlace → CpuFrame → LogLine
logged_at at frame = Frame at frame.from_cpu frame.octets

-- the log of what the CPU's end sends and hears from a machine on
abbrev pub log_from : Settings → ℕ → Machine → List LogStep → List LogLine
log_from settings first machine [] = []
log_from settings first machine (Logged at event ∷ steps) =
    map (logged_at at) (frames_at first machine event) ++ log_from settings first (after settings first machine event) steps
log_from settings first machine (Missing event ∷ steps) = log_from settings first (after settings first machine event) steps
log_from settings first machine (Marked ∷ steps) = Lost ∷ log_from settings first machine steps

-- frames are missing only below a mark, with no frame between, by whether a mark is directly above
abbrev pub AreMarked : Bool → List LogStep → Type 0
AreMarked marked [] = Unit {0}
AreMarked marked (Logged at event ∷ steps) = AreMarked false steps
AreMarked marked (Missing event ∷ steps) = (marked ≡ true) × AreMarked marked steps
AreMarked marked (Marked ∷ steps) = AreMarked true steps

-- at most this number of loads are under way where a part of a log begins, if the part has not begun above
abbrev pub AreUnderWayAt : Option ℕ → Settings → ℕ → Machine → List Event → Type 0
AreUnderWayAt None settings first machine events = Unit {0}
AreUnderWayAt (Some loads) settings first machine events = AreUnderWay loads settings first machine events

-- the loads that may be under way after an event that is logged: with a command the part has begun
abbrev pub below_command : Event → Option ℕ → Option ℕ
below_command event begins = if is_command event then None else begins

-- A part of a log begins at its first line, and another below each mark. Few loads are under way at the first command that is
-- logged in a part: at most this number in a part that has not begun above, if there is one, and at most one in each part that
-- begins below a mark.
abbrev pub FewAreUnderWay : Settings → ℕ → Machine → Option ℕ → List LogStep → Type 0
FewAreUnderWay settings first machine begins [] = Unit {0}
FewAreUnderWay settings first machine begins (Logged at event ∷ steps) =
    (is_command event ≡ true → AreUnderWayAt begins settings first machine (event ∷ events_of steps))
    × FewAreUnderWay settings first (after settings first machine event) (below_command event begins) steps
FewAreUnderWay settings first machine begins (Missing event ∷ steps) =
    FewAreUnderWay settings first (after settings first machine event) begins steps
FewAreUnderWay settings first machine begins (Marked ∷ steps) = FewAreUnderWay settings first machine (Some 1) steps

-- an outcome accuses neither end
abbrev pub AccusesNeither : FrameOutcome → Type 0
AccusesNeither (Broken breach) = ⊥
AccusesNeither (BrokenContent breach) = ⊥
AccusesNeither outcome = Unit {0}

-- the judge above the first line of a log, by whether it begins with both ends
abbrev pub judging_at_start : Bool → RuleLimits → Judging
judging_at_start begun limits = if begun then judging_begun limits else judging_anywhere limits

-- how many loads may be under way where a log begins: none. Nothing is required of a log that begins with both ends.
abbrev pub loads_at_start : Bool → Option ℕ
loads_at_start begun = if begun then None else Some 0

-- What the CPU's end logs of a prompt run, from the start of both ends or from any event on, though any frames may be missing at
-- marks. The judge's limits suit the module; at most one load of the counter is under way where the log goes on below a mark,
-- and none where it begins; and all that is compared is near.
pub record IsMarkedLog (begun : Bool) (settings : Settings) (limits : RuleLimits) (first : ℕ) (before : List Event)
    (steps : List LogStep) (machine last : Machine) : Type 0 where
  pub in_range : AreInRange settings
  pub suit : SuitModule settings limits
  pub run : IsPromptRun settings first (before ++ events_of steps) last
  pub leads : Leads settings first start before machine
  pub begins : MayBegin begun before
  pub marked : AreMarked false steps
  pub few : FewAreUnderWay settings first machine (loads_at_start begun) steps
  pub near : AreTimesNear begun settings first (judged_from begun settings first machine (events_of steps))
      (judged_events begun (events_of steps)) last

-- The judge of a link accuses no right link: no outcome of such a log accuses.
unfoldable pub JudgeAccusesNone : Type 0
JudgeAccusesNone =
    (begun : Bool) (settings : Settings) (limits : RuleLimits) (first : ℕ) (before : List Event) (steps : List LogStep) (machine last : Machine) →
    IsMarkedLog begun settings limits first before steps machine last →
    AllByRecursion AccusesNeither (outcomes_of (judging_at_start begun limits) (log_from settings first machine steps))

-- the outcomes of a log of a module with the limits of TEES 2009, which begins with both ends
abbrev pub outcomes_begun : List LogStep → List FrameOutcome
outcomes_begun steps = outcomes_of (judging_begun standard_rule_limits) (log_from (standard_settings 2) 0 start steps)

-- There is such a log in which an answer is missing at a mark, and one frame above it and two below keep all rules.
unfoldable pub FramesMayBeMissing : Type 0
FramesMayBeMissing =
    (above below : List LogStep) × (index : ℕ) × (last : Machine)
    × IsMarkedLog true (standard_settings 2) standard_rule_limits 0 [] (above ++ Marked ∷ Missing (ToCpu index) ∷ below) start last
    × (outcomes_begun above ≡ Kept ∷ [])
    × (outcomes_begun (above ++ Marked ∷ Missing (ToCpu index) ∷ below) ≡ Kept ∷ Kept ∷ Kept ∷ [])

-- ---- a log without marks

-- each frame is in the log
abbrev pub AreLogged : List LogStep → Type 0
AreLogged [] = Unit {0}
AreLogged (Logged at event ∷ steps) = AreLogged steps
AreLogged (other ∷ steps) = ⊥

-- between two machines no load of the counter takes effect, and fewer than 2^31 scans lie
pub record IsCalm (begin last : Machine) : Type 0 where
  pub no_loads : loads_of (life_of last.history) ≡ loads_of (life_of begin.history)
  pub short : scans_of (life_of last.history) < scans_of (life_of begin.history) + 2 ^ 31

-- a frame keeps all rules, or is heard above the first command
abbrev pub IsRight : FrameOutcome → Type 0
IsRight Kept = Unit {0}
IsRight (NotJudged AboveCommand) = Unit {0}
IsRight outcome = ⊥

-- If no frame is missing, the judge also excuses no frame and never takes the module for restarted: from the first command on
-- each frame keeps all rules. No load of the counter takes effect in the log, and it lasts fewer than 2^31 scans.
unfoldable pub JudgeKeepsAll : Type 0
JudgeKeepsAll =
    (settings : Settings) (limits : RuleLimits) (first : ℕ) (before : List Event) (steps : List LogStep) (machine last : Machine) →
    AreInRange settings → SuitModule settings limits →
    IsPromptRun settings first (before ++ events_of steps) last →
    Leads settings first start before machine →
    AreLogged steps →
    IsCalm (machine_at_command settings first machine (events_of steps)) last →
    AreTimesNear false settings first (machine_at_command settings first machine (events_of steps))
    (events_from_command (events_of steps)) last →
    AllByRecursion IsRight (outcomes_of (judging_anywhere limits) (log_from settings first machine steps))
