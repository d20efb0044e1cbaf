-- The verdict on a transcript.
use Rattle.std.specs.Prelude.{◌≡◌, ℕ, ◌<◌, List, Option, Some, None, length, option_map, option_and_then, slice_get, unwrap_or}
use Rattle.fio_check.specs.Lines.{TranscriptLine}
use Rattle.fio_check.specs.Places.{earliest_above}
use Rattle.fio_check.specs.Rules.{rule_broken}
use Rattle.fio_check.specs.declared.rules.Rule.{Rule}
use Rattle.fio_check.specs.declared.verdict.Verdict.{Verdict}
use Rattle.fio_check.specs.declared.verdict.Verdict.TheVariants.{Good, Broken}

-- no line above a place breaks a rule
abbrev pub KeepsRulesAbove : List TranscriptLine → ℕ → Type 0
KeepsRulesAbove lines place = (above : ℕ) → above < place → rule_broken lines above ≡ None

-- the first line that breaks a rule has this number, and breaks this rule first
pub record IsFirstBreach (lines : List TranscriptLine) (number : ℕ) (rule : Rule) : Type 0 where
  pub place : ℕ
  pub line : TranscriptLine
  pub here : slice_get lines place ≡ Some line
  pub numbered : line.number ≡ number
  pub broken : rule_broken lines place ≡ Some rule
  pub above : KeepsRulesAbove lines place

-- the verdict on a transcript: good, with the count of its frames, exactly if no line breaks a rule
abbrev pub IsVerdict : List TranscriptLine → Verdict → Type 0
IsVerdict lines (Good frames) = (frames ≡ length lines) × KeepsRulesAbove lines (length lines)
IsVerdict lines (Broken number rule) = IsFirstBreach lines number rule

-- the verdict of the line at a place, if it breaks a rule
abbrev pub breach_at : List TranscriptLine → ℕ → Option Verdict
breach_at lines place = option_and_then
    (λ line. option_map (Broken line.number) (rule_broken lines place)) (slice_get lines place)

-- the verdict as a function: that of the earliest line that breaks a rule. By the law
-- `laws::verdicts_are_one` it is the one verdict.
abbrev pub verdict_on : List TranscriptLine → Verdict
verdict_on lines =
    unwrap_or (earliest_above (breach_at lines) (length lines)) (Good (length lines))
