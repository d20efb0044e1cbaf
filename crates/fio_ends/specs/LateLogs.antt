-- Logs of a right link whose answers may be late: frames may be lost, repeated at once and delayed, but never overtake each other.
use Rattle.std.specs.Prelude.{◌≡◌, ℕ, List, [], ◌∷◌, ◌++◌, Option, Some}
use Rattle.std.specs.List.{AllByRecursion}
use Rattle.fio_module.specs.Settings.{Settings, AreInRange, standard_settings}
use Rattle.fio_check.specs.LogJudges.{log_starting, outcomes_in_log}
use Rattle.fio_check.specs.Rules.{standard_rule_limits}
use Rattle.fio_check.specs.declared.limits.RuleLimits.{RuleLimits}
use Rattle.fio_check.specs.declared.log_judge.LogOutcome.{LogOutcome}
use Rattle.fio_check.specs.declared.log_judge.LogOutcome.TheVariants.{Late, Link}
use Rattle.fio_check.specs.declared.log_judge.LogStart.TheVariants.{LateAnswers as StartLate}
use Rattle.fio_check.specs.declared.outcome.FrameOutcome.TheVariants.{Broken, Kept}
use Rattle.fio_check.specs.declared.outcome.LogPlace.{LogPlace}
use Rattle.fio_check.specs.declared.outcome.LogPlace.TheVariants.{Cpu}
use Rattle.fio_link.specs.declared.event.Event.{Event}
use Rattle.fio_link.specs.Headline.{HaveNoRestart}
use Rattle.fio_link.specs.Link.{IsRun, Leads, Machine, start}
use Rattle.fio_ends.specs.EventLogs.{SeenStep, Unseen, events_seen, log_seen}
use Rattle.fio_ends.specs.PromptRuns.{IsWithinRanges, SuitModule}

-- the frames of an event, if it has any, are in the log; other lines may be anywhere
abbrev pub IsInLog : SeenStep → Type 0
IsInLog (Unseen event) = ⊥
IsInLog step = Unit {0}

-- What the CPU's end logs of a run without restarts, from any event on: each frame that it sends or hears. Frames may be lost on the
-- line, repeated at once and delayed. The judge's limits suit the module, and commands are within their ranges.
pub record IsLateLog (settings : Settings) (limits : RuleLimits) (first : ℕ) (before : List Event) (steps : List SeenStep)
    (machine last : Machine) : Type 0 where
  pub in_range : AreInRange settings
  pub suit : SuitModule settings limits
  pub run : IsRun settings first (before ++ events_seen steps) last
  pub no_restart : HaveNoRestart (before ++ events_seen steps)
  pub within : AllByRecursion IsWithinRanges (before ++ events_seen steps)
  pub leads : Leads settings first start before machine
  pub whole : AllByRecursion IsInLog steps

-- an outcome of a frame of a log is no breach of a rule of transcripts
abbrev pub IsNoBreach : LogOutcome → Type 0
IsNoBreach (Link (Broken breach)) = ⊥
IsNoBreach outcome = Unit {0}

-- The law on late answers: the judge that leaves them out finds no breach of a rule of transcripts in the log of a right CPU's end,
-- wherever the log is said to be taken, and whatever its lines say of senders.
unfoldable pub LateAnswersBreakNoRule : Type 0
LateAnswersBreakNoRule =
    (place : Option LogPlace) (settings : Settings) (limits : RuleLimits) (first : ℕ) (before : List Event) (steps : List SeenStep)
    (machine last : Machine) →
    IsLateLog settings limits first before steps machine last →
    AllByRecursion IsNoBreach (outcomes_in_log (log_starting limits place StartLate) (log_seen settings first machine steps))

-- There is such a log in which an answer comes again and is late, and in which each frame above it keeps all rules.
unfoldable pub AnswersMayBeLate : Type 0
AnswersMayBeLate =
    (steps : List SeenStep) × (last : Machine) × IsLateLog (standard_settings 2) standard_rule_limits 0 [] steps start last
    × (outcomes_in_log (log_starting standard_rule_limits (Some Cpu) StartLate) (log_seen (standard_settings 2) 0 start steps)
    ≡ Link Kept ∷ Link Kept ∷ Link Kept ∷ Late ∷ [])
