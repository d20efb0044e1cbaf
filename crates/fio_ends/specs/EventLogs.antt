-- Logs of a right link as the judge of a log gets them: frames with what their lines say of the sender, and other lines between.
use Rattle.std.specs.Prelude.{◌≡◌, ℕ, Bool, true, false, List, [], ◌∷◌, ◌++◌, ◌||◌, map, Option, Some, None}
use Rattle.std.specs.List.{AllByRecursion}
use Rattle.fio_module.specs.Settings.{Settings, AreInRange}
use Rattle.fio_check.specs.LogJudges.{Found, Heading, LogEvent, Lost, Missing, Possible, late_starting, log_starting, outcomes_in_log}
use Rattle.fio_check.specs.declared.limits.RuleLimits.{RuleLimits}
use Rattle.fio_check.specs.declared.log_judge.LogOutcome.{LogOutcome}
use Rattle.fio_check.specs.declared.log_judge.LogOutcome.TheVariants.{Link}
use Rattle.fio_check.specs.declared.log_judge.LogStart.{LogStart}
use Rattle.fio_check.specs.declared.log_judge.LogStart.TheVariants.{Begun}
use Rattle.fio_check.specs.declared.outcome.LogPlace.{LogPlace}
use Rattle.fio_link.specs.declared.event.Event.{Event}
use Rattle.fio_link.specs.Link.{Machine, Leads, after, start}
use Rattle.fio_ends.specs.ContentPremises.{AreTimesNear}
use Rattle.fio_ends.specs.ContentRuns.{MayBegin, judged_events, judged_from}
use Rattle.fio_ends.specs.LinkLogs.{AccusesNeither, AreUnderWay, AreUnderWayAt, below_command, loads_at_start}
use Rattle.fio_ends.specs.PromptRuns.{IsPromptRun, SuitModule, is_command}
use Rattle.fio_ends.specs.Transcripts.{CpuFrame, frames_at}

-- a line of a log without a frame that may have held one, or speaks of loss, or begins another part of the log
pub data Remark : Type 0 where
  MayHaveHeldFrame : Remark
  SaysMessage : Remark
  BeginsPart : Remark
  SpeaksOfLoss : Remark

-- the event that it is
abbrev pub event_of_remark : Remark → LogEvent
event_of_remark MayHaveHeldFrame = Lost
event_of_remark SaysMessage = Possible
event_of_remark BeginsPart = Heading
event_of_remark SpeaksOfLoss = Missing

-- what becomes of an event of a link in a log, and what other lines are between
pub data SeenStep : Type 0 where
  -- its frames, if it has any, are in the log, on lines that name this sender or none
  Seen : (said : Option Bool) → (event : Event) → SeenStep
  -- its frames are missing
  Unseen : (event : Event) → SeenStep
  -- another line
  Remarked : (remark : Remark) → SeenStep

-- the events of the link, whether their frames are in the log or not
abbrev pub events_seen : List SeenStep → List Event
events_seen [] = []
events_seen (Seen said event ∷ steps) = event ∷ events_seen steps
events_seen (Unseen event ∷ steps) = event ∷ events_seen steps
events_seen (Remarked remark ∷ steps) = events_seen steps

-- a frame in a log, whose line names this sender or none
abbrev pub found_saying : Option Bool → CpuFrame → LogEvent
found_saying said frame = Found frame.from_cpu said frame.octets

-- the log of what the CPU's end sends and hears from a machine on
abbrev pub log_seen : Settings → ℕ → Machine → List SeenStep → List LogEvent
log_seen settings first machine [] = []
log_seen settings first machine (Seen said event ∷ steps) =
    map (found_saying said) (frames_at first machine event) ++ log_seen settings first (after settings first machine event) steps
log_seen settings first machine (Unseen event ∷ steps) = log_seen settings first (after settings first machine event) steps
log_seen settings first machine (Remarked remark ∷ steps) = event_of_remark remark ∷ log_seen settings first machine steps

-- what a log says above a line
pub record SeenAbove : Type 0 where
  -- a frame is above
  pub framed : Bool
  -- the place is lost directly above, with no frame between
  pub lost : Bool
  -- a line above speaks of loss
  pub warned : Bool
  -- this many loads of the counter may be under way at the first command that is logged in this part, if it has not begun above
  pub begins : Option ℕ

-- above the first line
abbrev pub nothing_seen : Bool → SeenAbove
nothing_seen begun = record { framed = false; lost = false; warned = false; begins = loads_at_start begun }

-- below the frames of an event, if it has any
abbrev pub below_frames : Event → SeenAbove → List CpuFrame → SeenAbove
below_frames event above [] = above
below_frames event above (frame ∷ frames) =
    record above { framed = true; lost = false; begins = below_command event above.begins }

-- below a line at which the place is lost, if it is: another part begins there
abbrev pub lost_if : Bool → SeenAbove → SeenAbove
lost_if true above = record above { lost = true; begins = Some 1 }
lost_if false above = above

-- Below another line. The place is lost where it may have held a frame; where it says a message, below a frame or in a log that
-- begins with both ends; and where it begins another part, below a frame.
abbrev pub below_remark : Bool → SeenAbove → Remark → SeenAbove
below_remark begun above MayHaveHeldFrame = lost_if true above
below_remark begun above SaysMessage = lost_if (above.framed || begun) above
below_remark begun above BeginsPart = lost_if above.framed above
below_remark begun above SpeaksOfLoss = record above { warned = true }

-- frames are missing only below a line at which the place is lost, with no frame between
abbrev pub AreLostWhereSaid : Bool → Settings → ℕ → SeenAbove → Machine → List SeenStep → Type 0
AreLostWhereSaid begun settings first above machine [] = Unit {0}
AreLostWhereSaid begun settings first above machine (Seen said event ∷ steps) =
    AreLostWhereSaid begun settings first (below_frames event above (frames_at first machine event)) (after settings first machine event) steps
AreLostWhereSaid begun settings first above machine (Unseen event ∷ steps) =
    (above.lost ≡ true) × AreLostWhereSaid begun settings first above (after settings first machine event) steps
AreLostWhereSaid begun settings first above machine (Remarked remark ∷ steps) =
    AreLostWhereSaid begun settings first (below_remark begun above remark) machine steps

-- Few loads of the counter are under way at the first command that is logged in a part: at most this number in the first one, if it
-- is given, and at most one in each that begins where the place is lost. Below a line that speaks of loss at most one is under way
-- at each command that is logged.
abbrev pub FewAreUnderWayInParts : Bool → Settings → ℕ → SeenAbove → Machine → List SeenStep → Type 0
FewAreUnderWayInParts begun settings first above machine [] = Unit {0}
FewAreUnderWayInParts begun settings first above machine (Seen said event ∷ steps) =
    (is_command event ≡ true → AreUnderWayAt above.begins settings first machine (event ∷ events_seen steps)
    × (above.warned ≡ true → AreUnderWay 1 settings first machine (event ∷ events_seen steps)))
    × FewAreUnderWayInParts begun settings first (below_frames event above (frames_at first machine event)) (after settings first machine event) steps
FewAreUnderWayInParts begun settings first above machine (Unseen event ∷ steps) =
    FewAreUnderWayInParts begun settings first above (after settings first machine event) steps
FewAreUnderWayInParts begun settings first above machine (Remarked remark ∷ steps) =
    FewAreUnderWayInParts begun settings first (below_remark begun above remark) machine steps

-- whether a log begins with both ends
abbrev pub starts_begun : LogStart → Bool
starts_begun Begun = true
starts_begun other = false

-- What the CPU's end logs of a prompt run, from the start of both ends or from any event on, though any frames may be missing where
-- the place is lost, and other lines may be anywhere. The judge's limits suit the module; few loads of the counter are under way
-- where a part of the log begins, and below a line that speaks of loss; and all that is compared is near.
pub record IsSeenLog (begun : Bool) (settings : Settings) (limits : RuleLimits) (first : ℕ) (before : List Event)
    (steps : List SeenStep) (machine last : Machine) : Type 0 where
  pub in_range : AreInRange settings
  pub suit : SuitModule settings limits
  pub run : IsPromptRun settings first (before ++ events_seen steps) last
  pub leads : Leads settings first start before machine
  pub begins : MayBegin begun before
  pub lost : AreLostWhereSaid begun settings first (nothing_seen begun) machine steps
  pub few : FewAreUnderWayInParts begun settings first (nothing_seen begun) machine steps
  pub near : AreTimesNear begun settings first (judged_from begun settings first machine (events_seen steps))
      (judged_events begun (events_seen steps)) last

-- an outcome of a frame of a log accuses neither end
abbrev pub AccusesNeitherInLog : LogOutcome → Type 0
AccusesNeitherInLog (Link outcome) = AccusesNeither outcome
AccusesNeitherInLog outcome = Unit {0}

-- The judge of a log accuses no right link, wherever the log was taken, and whatever its lines say of senders: no outcome of such a
-- log accuses. It leaves no late answers out.
unfoldable pub LogJudgeAccusesNone : Type 0
LogJudgeAccusesNone =
    (place : Option LogPlace) (starts : LogStart) (settings : Settings) (limits : RuleLimits) (first : ℕ) (before : List Event)
    (steps : List SeenStep) (machine last : Machine) →
    late_starting starts ≡ None → IsSeenLog (starts_begun starts) settings limits first before steps machine last →
    AllByRecursion AccusesNeitherInLog (outcomes_in_log (log_starting limits place starts) (log_seen settings first machine steps))
