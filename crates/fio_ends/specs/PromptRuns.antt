-- Prompt runs: no frame is delivered twice, and an answer reaches the CPU directly after its command or never.
use Rattle.std.specs.Prelude.{◌≡◌, ℕ, ◌+◌, ◌<◌, ◌≤◌, ◌==◌, Bool, true, false, List, [], ◌∷◌, ◌++◌, length, None, if◌then◌else◌}
use Rattle.std.specs.List.{AllByRecursion}
use Rattle.fio_message.specs.Commands.{IsCommand}
use Rattle.fio_module.specs.Settings.{Settings, AreInRange}
use Rattle.fio_check.specs.Checkers.{checker_anywhere, found_at, found_from}
use Rattle.fio_check.specs.Lines.{TranscriptLine, from_first_command}
use Rattle.fio_check.specs.Rules.{standard_rule_limits}
use Rattle.fio_check.specs.Verdicts.{verdict_on}
use Rattle.fio_check.specs.declared.limits.RuleLimits.{RuleLimits}
use Rattle.fio_check.specs.declared.verdict.Verdict.TheVariants.{Good}
use Rattle.fio_link.specs.declared.event.Event.{Event}
use Rattle.fio_link.specs.declared.event.Event.TheVariants.{Poll, Send, ToModule, ToCpu}
use Rattle.fio_link.specs.Link.{Machine, start, after, IsRun, Leads}
use Rattle.fio_link.specs.Headline.{HaveNoRestart}
use Rattle.fio_ends.specs.Transcripts.{HaveFrames, frames_from, transcript_of}

-- After an event, the number among the frames to the CPU of the answer to the command sent last, if it is answered; 0 until
-- the module receives that command.
abbrev pub due_after : Machine → ℕ → Event → ℕ
due_after machine due Poll = 0
due_after machine due (Send command) = 0
due_after machine due (ToModule index) =
    if index == length machine.to_module then length machine.to_cpu + 1 else due
due_after machine due other = due

-- a frame is delivered only if it was not delivered before, and to the CPU only the frame that is due
abbrev pub IsPrompt : Machine → ℕ → Event → Type 0
IsPrompt machine due (ToModule index) = machine.last_to_module < index
IsPrompt machine due (ToCpu index) = (machine.last_to_cpu < index) × (index ≡ due)
IsPrompt machine due other = Unit {0}

-- each of these events is prompt
abbrev pub ArePrompt : Settings → ℕ → Machine → ℕ → List Event → Type 0
ArePrompt settings first machine due [] = Unit {0}
ArePrompt settings first machine due (event ∷ events) =
    IsPrompt machine due event
    × ArePrompt settings first (after settings first machine event) (due_after machine due event) events

-- a command that is sent is within its ranges, as every value of its type is
abbrev pub IsWithinRanges : Event → Type 0
IsWithinRanges (Send command) = IsCommand command
IsWithinRanges other = Unit {0}

-- A run without restarts in which no frame is delivered twice, and an answer reaches the CPU directly after
-- the command that it answers, or never. A command may reach the module late; its answer then never
-- reaches the CPU.
pub record IsPromptRun (settings : Settings) (first : ℕ) (events : List Event) (machine : Machine)
    : Type 0 where
  pub is_run : IsRun settings first events machine
  pub no_restart : HaveNoRestart events
  pub within : AllByRecursion IsWithinRanges events
  pub prompt : ArePrompt settings first start 0 events

-- ---- what is found

-- limits that a checker may use for a module: the module's own, or those of a module in which fewer entries may wait
pub record SuitModule (settings : Settings) (limits : RuleLimits) : Type 0 where
  pub per_block : settings.per_block ≡ limits.per_block
  pub waiting : limits.waiting ≤ settings.waiting

-- a checker with such limits finds nothing in these lines
abbrev pub HasNoBreach : Settings → List TranscriptLine → Type 0
HasNoBreach settings lines =
    (limits : RuleLimits) → SuitModule settings limits →
    (place : ℕ) → place < length lines → found_at limits lines place ≡ None

-- if the limits of TEES 2009 are such limits, the transcript is good
abbrev pub IsGood : Settings → List TranscriptLine → Type 0
IsGood settings lines = SuitModule settings standard_rule_limits → verdict_on lines ≡ Good (length lines)

-- No false accusation: a statement holds for the transcript of each prompt run.
abbrev pub NeverAccuses : (Settings → List TranscriptLine → Type 0) → Type 0
NeverAccuses IsRight =
    (settings : Settings) (first : ℕ) (events : List Event) (machine : Machine) →
    AreInRange settings → IsPromptRun settings first events machine →
    (lines : List TranscriptLine) → HaveFrames lines (transcript_of settings first events) →
    IsRight settings lines

-- ---- a log that begins later

-- the CPU's end sends a command
abbrev pub is_command : Event → Bool
is_command Poll = true
is_command (Send command) = true
is_command other = false

-- these events from the first command on
abbrev pub events_from_command : List Event → List Event
events_from_command [] = []
events_from_command (event ∷ events) = if is_command event then event ∷ events else events_from_command events

-- the machine at which that command is sent
abbrev pub machine_at_command : Settings → ℕ → Machine → List Event → Machine
machine_at_command settings first machine [] = machine
machine_at_command settings first machine (event ∷ events) = if is_command event
    then machine
    else machine_at_command settings first (after settings first machine event) events

-- a checker that was started for a log that begins anywhere finds nothing in these lines, with such limits
abbrev pub HasNoBreachAnywhere : Settings → List TranscriptLine → Type 0
HasNoBreachAnywhere settings lines =
    (limits : RuleLimits) → SuitModule settings limits →
    (place : ℕ) → place < length lines → found_from (checker_anywhere limits) lines place ≡ None

-- a statement holds for the lines from the first command on
abbrev pub FromCommand : (Settings → List TranscriptLine → Type 0) → Settings → List TranscriptLine → Type 0
FromCommand IsRight settings lines = IsRight settings (from_first_command lines)

-- No false accusation in a log that begins later: a statement holds for what the CPU's end logs of a prompt run from any
-- event on.
abbrev pub NeverAccusesLater : (Settings → List TranscriptLine → Type 0) → Type 0
NeverAccusesLater IsRight =
    (settings : Settings) (first : ℕ) (before later : List Event) (machine last : Machine) →
    AreInRange settings → IsPromptRun settings first (before ++ later) last →
    Leads settings first start before machine →
    (lines : List TranscriptLine) → HaveFrames lines (frames_from settings first machine later) →
    IsRight settings lines
