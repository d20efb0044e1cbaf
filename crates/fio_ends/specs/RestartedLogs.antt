-- The log of a link whose module is restarted, below whatever a judge of a link took: it accuses nobody there, and says once at most
-- for each restart that the module was restarted, if a stamp shows it.
use Rattle.std.specs.Prelude.{◌≡◌, ℕ, ◌+◌, ◌≤◌, Bool, true, false, List, [], ◌∷◌, ◌++◌, Option, Some, filter, is_some, length}
use Rattle.std.specs.List.{AllByRecursion, list_any}
use Rattle.fio_module.specs.Settings.{Settings, AreInRange, standard_settings}
use Rattle.fio_check.specs.ContentSaid.{is_before}
use Rattle.fio_check.specs.Facts.{number_due}
use Rattle.fio_check.specs.LinkJudges.{Judging, LogLine, Frame, Lost, any_stamp_in, judging_anywhere, judging_below, outcomes_of, stamp_in}
use Rattle.fio_check.specs.Places.{is_some_and}
use Rattle.fio_check.specs.Rules.{standard_rule_limits}
use Rattle.fio_check.specs.declared.checker.Skips.TheVariants.{Nothing}
use Rattle.fio_check.specs.declared.limits.RuleLimits.{RuleLimits}
use Rattle.fio_check.specs.declared.outcome.FrameOutcome.{FrameOutcome}
use Rattle.fio_check.specs.declared.outcome.FrameOutcome.TheVariants.{Restarted}
use Rattle.fio_link.specs.declared.event.Event.{Event}
use Rattle.fio_link.specs.Link.{Leads, Machine, number_of, start}
use Rattle.fio_ends.specs.ContentPremises.{AreTimesNear}
use Rattle.fio_ends.specs.LinkLogs.{AccusesNeither, AreLogged, IsCalm, LogStep, events_of, log_from}
use Rattle.fio_ends.specs.PromptRuns.{IsPromptRun, SuitModule, events_from_command, machine_at_command}

-- a judge that judges each frame, with these limits, where the next poll has this number, if one is due
pub record JudgesOn (limits : RuleLimits) (number : ℕ) (judging : Judging) : Type 0 where
  pub limits_are : judging.checker.limits ≡ limits
  pub all : judging.checker.skips ≡ Nothing
  pub content : judging.content.begun ≡ true
  pub due : (due : ℕ) → number_due judging.checker.facts ≡ Some due → due ≡ number

-- a frame has a stamp before this one, if there is one
abbrev pub is_earlier : Option ℕ → Bool → List ℕ → Bool
is_earlier latest from_cpu octets =
    is_some_and (any_stamp_in from_cpu octets) (λ stamp. is_some_and latest (is_before stamp))

-- each stamp on these lines, through the first that is not that of a block that is sent again, is before this one
abbrev pub BeginsEarlier : Option ℕ → List LogLine → Type 0
BeginsEarlier latest [] = Unit {0}
BeginsEarlier latest (Lost ∷ lines) = BeginsEarlier latest lines
BeginsEarlier latest (Frame at from_cpu octets ∷ lines) =
    (is_some (any_stamp_in from_cpu octets) ≡ true → is_earlier latest from_cpu octets ≡ true)
    × (is_some (stamp_in from_cpu octets) ≡ false → BeginsEarlier latest lines)

-- an outcome says that the module was restarted
abbrev pub is_restart : FrameOutcome → Bool
is_restart Restarted = true
is_restart outcome = false

-- outcomes accuse nobody, and this many at most say that the module was restarted
pub record HaveRestarts (most : ℕ) (outcomes : List FrameOutcome) : Type 0 where
  pub none_accused : AllByRecursion AccusesNeither outcomes
  pub few : length (filter is_restart outcomes) ≤ most

-- ---- lives of a module, one after the other

-- one of them: what becomes of its events in the log, and the machine at its end
pub record LoggedLife : Type 0 where
  pub steps : List LogStep
  pub last : Machine

-- the lines of lives, for a CPU's end with this first number, which goes on over them
abbrev pub lines_of_lives : Settings → ℕ → List LoggedLife → List LogLine
lines_of_lives settings first [] = []
lines_of_lives settings first (life ∷ lives) =
    log_from settings first start life.steps ++ lines_of_lives settings (first + life.last.round) lives

-- A life below whatever a judge took: the module is started anew with nothing under way, no frame is missing from there on, no load
-- of the counter takes effect, and it lasts fewer than 2^31 scans. Stamps that are heard are before the latest one above, through the
-- first that is not that of a block that is sent again.
pub record IsRestarted (settings : Settings) (first : ℕ) (judging : Judging) (steps : List LogStep) (last : Machine) : Type 0 where
  pub run : IsPromptRun settings first (events_of steps) last
  pub logged : AreLogged steps
  pub calm : IsCalm start last
  pub near : AreTimesNear false settings first start (events_of steps) last
  pub earlier : BeginsEarlier judging.latest (log_from settings first start steps)

-- each life is such a one, and the judge judges each frame where it begins: it has found its place again in the life above
abbrev pub AreRestarted : Settings → ℕ → Judging → List LoggedLife → Type 0
AreRestarted settings first judging [] = Unit {0}
AreRestarted settings first judging (life ∷ lives) =
    (judging.checker.skips ≡ Nothing)
    × IsRestarted settings first judging life.steps life.last
    × AreRestarted settings (first + life.last.round) (judging_below judging (log_from settings first start life.steps)) lives

-- Over restarts of the module the judge accuses nobody, and says once at most for each that it was restarted, whatever it took
-- above the first one.
unfoldable pub JudgeFindsRestartsAnywhere : Type 0
JudgeFindsRestartsAnywhere =
    (settings : Settings) (limits : RuleLimits) (first : ℕ) (lives : List LoggedLife) (judging : Judging) →
    AreInRange settings → SuitModule settings limits →
    JudgesOn limits (number_of first 0) judging →
    AreRestarted settings first judging lives →
    HaveRestarts (length lives) (outcomes_of judging (lines_of_lives settings first lives))

-- A log that begins in one life, at any event, as `JudgeKeepsAll` asks of it, and goes on over restarts.
pub record IsLogOfLives (settings : Settings) (limits : RuleLimits) (first : ℕ) (before : List Event) (steps : List LogStep)
    (machine last : Machine) (lives : List LoggedLife) : Type 0 where
  pub in_range : AreInRange settings
  pub suit : SuitModule settings limits
  pub run : IsPromptRun settings first (before ++ events_of steps) last
  pub leads : Leads settings first start before machine
  pub logged : AreLogged steps
  pub calm : IsCalm (machine_at_command settings first machine (events_of steps)) last
  pub near : AreTimesNear false settings first (machine_at_command settings first machine (events_of steps))
      (events_from_command (events_of steps)) last
  pub restarted : AreRestarted settings (first + last.round)
      (judging_below (judging_anywhere limits) (log_from settings first machine steps)) lives

-- the outcomes of its frames
abbrev pub outcomes_over_lives : Settings → RuleLimits → ℕ → List LogStep → Machine → Machine → List LoggedLife → List FrameOutcome
outcomes_over_lives settings limits first steps machine last lives = outcomes_of (judging_anywhere limits)
    (log_from settings first machine steps ++ lines_of_lives settings (first + last.round) lives)

-- So it is with such a log.
unfoldable pub JudgeFindsRestarts : Type 0
JudgeFindsRestarts =
    (settings : Settings) (limits : RuleLimits) (first : ℕ) (before : List Event) (steps : List LogStep) (machine last : Machine) (lives : List LoggedLife) →
    IsLogOfLives settings limits first before steps machine last lives →
    HaveRestarts (length lives) (outcomes_over_lives settings limits first steps machine last lives)

-- There is such a log in which a restart is found.
unfoldable pub RestartsAreFound : Type 0
RestartsAreFound =
    (steps : List LogStep) × (last : Machine) × (life : LoggedLife)
    × IsLogOfLives (standard_settings 2) standard_rule_limits 0 [] steps start last (life ∷ [])
    × (list_any is_restart (outcomes_over_lives (standard_settings 2) standard_rule_limits 0 steps start last (life ∷ [])) ≡ true)
