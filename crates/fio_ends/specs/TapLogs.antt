-- Logs of a right link that were taken at a tap on the line: frames may be lost, repeated at once and delayed on both sides of it.
use Rattle.std.specs.Prelude.{◌≡◌, ◌⊎◌, ℕ, Bool, true, false, List, [], ◌∷◌, ◌++◌, length, map, Option, Some, None}
use Rattle.std.specs.List.{AllByRecursion}
use Rattle.fio_module.specs.Settings.{Settings, AreInRange, standard_settings}
use Rattle.fio_check.specs.LinkJudges.{is_at_cpu}
use Rattle.fio_check.specs.LogJudges.{LogEvent, log_starting, outcomes_in_log}
use Rattle.fio_check.specs.Rules.{standard_rule_limits}
use Rattle.fio_check.specs.declared.limits.RuleLimits.{RuleLimits}
use Rattle.fio_check.specs.declared.log_judge.LogOutcome.TheVariants.{LateAbove, Link}
use Rattle.fio_check.specs.declared.log_judge.LogStart.TheVariants.{LateAnswers as StartLate}
use Rattle.fio_check.specs.declared.outcome.Excuse.TheVariants.{Unheard}
use Rattle.fio_check.specs.declared.outcome.FrameOutcome.TheVariants.{Excused, Kept}
use Rattle.fio_check.specs.declared.outcome.LogPlace.{LogPlace}
use Rattle.fio_check.specs.declared.outcome.LogPlace.TheVariants.{Bus}
use Rattle.fio_link.specs.declared.event.Event.{Event}
use Rattle.fio_link.specs.declared.event.Event.TheVariants.{ToCpu, ToModule}
use Rattle.fio_link.specs.Headline.{IsNotRestart}
use Rattle.fio_link.specs.Link.{Machine, SentFrame, after, delivery_refusal, item_numbered, refusal, start}
use Rattle.fio_ends.specs.EventLogs.{Remark, event_of_remark, found_saying}
use Rattle.fio_ends.specs.LateLogs.{IsNoBreach}
use Rattle.fio_ends.specs.PromptRuns.{IsWithinRanges, SuitModule}
use Rattle.fio_ends.specs.Transcripts.{CpuFrame, frame_heard}

-- the numbers of the frames that have passed a tap, newest first
pub record Tap : Type 0 where
  pub to_module : List ℕ
  pub to_cpu : List ℕ

-- none has passed
abbrev pub untapped : Tap
untapped = record { to_module = []; to_cpu = [] }

-- the number of the frame that passed last, 0 for none
abbrev pub last_passed : List ℕ → ℕ
last_passed [] = 0
last_passed (index ∷ older) = index

-- a frame with this number has passed
abbrev pub HasPassed : List ℕ → ℕ → Type 0
HasPassed [] index = ⊥
HasPassed (one ∷ older) index = (index ≡ one) ⊎ HasPassed older index

-- what happens on a link with a tap
pub data TapStep : Type 0 where
  -- an event of the link
  AtEnds : (event : Event) → TapStep
  -- a frame with this number passes the tap, and is in the log, on a line that names this sender or none
  PassesToModule : (said : Option Bool) → (index : ℕ) → TapStep
  PassesToCpu : (said : Option Bool) → (index : ℕ) → TapStep
  -- the log has another line
  Noted : (remark : Remark) → TapStep

-- only what has passed the tap is delivered
abbrev pub MayArrive : Tap → Event → Type 0
MayArrive tap (ToModule index) = HasPassed tap.to_module index
MayArrive tap (ToCpu index) = HasPassed tap.to_cpu index
MayArrive tap other = Unit {0}

-- a step may come next: frames pass the tap in order, each as often as it is repeated, and nothing restarts
abbrev pub MayComeNext : Machine → Tap → TapStep → Type 0
MayComeNext machine tap (AtEnds event) =
    (refusal machine event ≡ None) × IsNotRestart event × IsWithinRanges event × MayArrive tap event
MayComeNext machine tap (PassesToModule said index) =
    delivery_refusal (length machine.to_module) (last_passed tap.to_module) index ≡ None
MayComeNext machine tap (PassesToCpu said index) = delivery_refusal (length machine.to_cpu) (last_passed tap.to_cpu) index ≡ None
MayComeNext machine tap (Noted remark) = Unit {0}

-- the machine after a step
abbrev pub machine_tapped : Settings → ℕ → Machine → TapStep → Machine
machine_tapped settings first machine (AtEnds event) = after settings first machine event
machine_tapped settings first machine other = machine

-- and the tap
abbrev pub tap_after : Tap → TapStep → Tap
tap_after tap (PassesToModule said index) = record tap { to_module = index ∷ tap.to_module }
tap_after tap (PassesToCpu said index) = record tap { to_cpu = index ∷ tap.to_cpu }
tap_after tap other = tap

-- each of these steps may come, one after the other
abbrev pub AreTapped : Settings → ℕ → Machine → Tap → List TapStep → Type 0
AreTapped settings first machine tap [] = Unit {0}
AreTapped settings first machine tap (step ∷ steps) =
    MayComeNext machine tap step × AreTapped settings first (machine_tapped settings first machine step) (tap_after tap step) steps

-- the machine after steps
abbrev pub machine_below : Settings → ℕ → Machine → List TapStep → Machine
machine_below settings first machine [] = machine
machine_below settings first machine (step ∷ steps) = machine_below settings first (machine_tapped settings first machine step) steps

-- a command that passes, if there is one
abbrev pub frame_sent : Option SentFrame → List CpuFrame
frame_sent None = []
frame_sent (Some frame) = record { from_cpu = true; octets = frame.octets } ∷ []

-- the lines that a step adds to the log
abbrev pub lines_tapped : Machine → TapStep → List LogEvent
lines_tapped machine (AtEnds event) = []
lines_tapped machine (PassesToModule said index) = map (found_saying said) (frame_sent (item_numbered machine.to_module index))
lines_tapped machine (PassesToCpu said index) = map (found_saying said) (frame_heard (item_numbered machine.to_cpu index))
lines_tapped machine (Noted remark) = event_of_remark remark ∷ []

-- the log of steps
abbrev pub log_tapped : Settings → ℕ → Machine → List TapStep → List LogEvent
log_tapped settings first machine [] = []
log_tapped settings first machine (step ∷ steps) =
    lines_tapped machine step ++ log_tapped settings first (machine_tapped settings first machine step) steps

-- The law on late answers at a tap: the judge that leaves them out finds no breach of a rule of transcripts in the log of a tap,
-- which may begin at any step, if it is said not to be taken at the CPU.
unfoldable pub TapsBreakNoRule : Type 0
TapsBreakNoRule =
    (place : LogPlace) (settings : Settings) (limits : RuleLimits) (first : ℕ) (before later : List TapStep) →
    is_at_cpu place ≡ false → AreInRange settings → SuitModule settings limits →
    AreTapped settings first start untapped (before ++ later) →
    AllByRecursion IsNoBreach
    (outcomes_in_log (log_starting limits (Some place) StartLate) (log_tapped settings first (machine_below settings first start before) later))

-- There is such a log with a poll that its CPU's end sends since it heard an answer later than the tap: it is excused.
unfoldable pub TapsExcusePolls : Type 0
TapsExcusePolls =
    (steps : List TapStep) × AreTapped (standard_settings 2) 0 start untapped steps
    × (outcomes_in_log (log_starting standard_rule_limits (Some Bus) StartLate) (log_tapped (standard_settings 2) 0 start steps)
    ≡ Link Kept ∷ Link Kept ∷ Link (Excused Unheard) ∷ LateAbove ∷ [])
