-- The checker, one line at a time: what it finds in a line, and what it keeps.
use Rattle.std.specs.Prelude.{◌≡◌, ℕ, zero, suc, ◌+◌, ◌<◌, Bool, true, false, List, Option, None, drop, is_some, length, not, option_map, option_and_then, slice_get, unwrap_or, if◌then◌else◌}
use Rattle.fio_message.specs.declared.types.TheConstants.{BLOCK_ANSWER}
use Rattle.fio_check.specs.Facts.{facts_with, no_facts, number_due, number_polled}
use Rattle.fio_check.specs.Lines.{TranscriptLine, from_first_command}
use Rattle.fio_check.specs.Observations.{is_sent_at, observation_at}
use Rattle.fio_check.specs.Places.{earliest_above}
use Rattle.fio_check.specs.Rules.{first_broken_within, standard_rule_limits}
use Rattle.fio_check.specs.declared.checker.Breach.{Breach}
use Rattle.fio_check.specs.declared.checker.Checker.{Checker}
use Rattle.fio_check.specs.declared.checker.Due.{Due}
use Rattle.fio_check.specs.declared.checker.Skips.{Skips}
use Rattle.fio_check.specs.declared.checker.Skips.TheVariants.{Nothing, ToCommand, ToPoll}
use Rattle.fio_check.specs.declared.facts.Facts.{Facts}
use Rattle.fio_check.specs.declared.limits.RuleLimits.{RuleLimits}
use Rattle.fio_check.specs.declared.observation.Observation.{Observation}
use Rattle.fio_check.specs.declared.observation.Observation.TheVariants.{Poll, Block, Answer}
use Rattle.fio_check.specs.declared.rules.Rule.{Rule}
use Rattle.fio_check.specs.declared.rules.Rule.TheVariants.{Pair, Number, Advance}
use Rattle.fio_check.specs.declared.verdict.Verdict.{Verdict}
use Rattle.fio_check.specs.declared.verdict.Verdict.TheVariants.{Good, Broken}

-- ---- one line

-- what was due, if anything was, and what the line has instead
abbrev pub instead_of : Option ℕ → ℕ → Option Due
instead_of due actual = option_map (λ expected. record { expected = expected; actual = actual }) due

-- what was due by a rule, given the facts above: the type of an answer below a command, the number of a block answer or
-- of a poll
abbrev pub due_in : Facts → Observation → Rule → Option Due
due_in facts (Answer code accepted) Pair = instead_of facts.awaited code
due_in facts (Block number status entries absent) Pair = instead_of facts.awaited BLOCK_ANSWER
due_in facts (Block number status entries absent) Number = instead_of facts.polled number
due_in facts (Poll number) Advance = instead_of (number_due facts) number
due_in facts observation rule = None

-- the first rule that a line with this observation breaks, with these limits, and what was due
abbrev pub breach_of : RuleLimits → Facts → Observation → Option Breach
breach_of limits facts observation =
    option_map (λ rule. record { rule = rule; due = due_in facts observation rule })
    (first_broken_within limits facts observation)

-- a checker of a module with these limits that skips these frames, and knows nothing of the lines above
abbrev pub checker_skipping : Skips → RuleLimits → Checker
checker_skipping skips limits = record { limits = limits; facts = no_facts; skips = skips }

-- a checker above the first line, of a module with these limits
abbrev pub checker_within : RuleLimits → Checker
checker_within limits = checker_skipping Nothing limits

-- a checker above the first line, with the limits of TEES 2009
abbrev pub new_checker : Checker
new_checker = checker_within standard_rule_limits

-- a checker above the first line of a log that begins anywhere
abbrev pub checker_anywhere : RuleLimits → Checker
checker_anywhere limits = checker_skipping ToCommand limits

-- a checker below a breach
abbrev pub checker_below_breach : RuleLimits → Checker
checker_below_breach limits = checker_skipping ToPoll limits

-- whether a checker skips a frame that the CPU sent or heard: frames heard above the first command, or all frames above
-- the next poll
abbrev pub skips_frame : Skips → Bool → Bool
skips_frame Nothing from_cpu = false
skips_frame ToCommand from_cpu = not from_cpu
skips_frame ToPoll from_cpu = true

-- whether a checker skips a line: it skips no poll
abbrev pub passes_over : Checker → Bool → Observation → Bool
passes_over checker from_cpu (Poll number) = false
passes_over checker from_cpu observation = skips_frame checker.skips from_cpu

-- what a checker finds in a line with this observation that the CPU sent or heard
abbrev pub found_by : Checker → Bool → Observation → Option Breach
found_by checker from_cpu observation =
    if passes_over checker from_cpu observation then None else breach_of checker.limits checker.facts observation

-- the checker with a line more
abbrev pub checker_with : Checker → Bool → Observation → Checker
checker_with checker from_cpu observation =
    if passes_over checker from_cpu observation then checker
    else (if is_some (breach_of checker.limits checker.facts observation) then checker_below_breach checker.limits
    else (record checker { facts = facts_with checker.facts observation; skips = Nothing }))

-- ---- all lines

-- a checker, given as it was above the first line, after the lines above a place
abbrev pub checker_from : Checker → List TranscriptLine → ℕ → Checker
checker_from checker lines zero = checker
checker_from checker lines (suc place) =
    checker_with (checker_from checker lines place) (is_sent_at lines place) (observation_at lines place)

-- what that checker finds in the line at the place
abbrev pub found_from : Checker → List TranscriptLine → ℕ → Option Breach
found_from checker lines place =
    found_by (checker_from checker lines place) (is_sent_at lines place) (observation_at lines place)

-- the checker at a place, started above the first line, of a module with these limits
abbrev pub checker_at : RuleLimits → List TranscriptLine → ℕ → Checker
checker_at limits = checker_from (checker_within limits)

-- what the checker started above the first line finds in the line at the place
abbrev pub found_at : RuleLimits → List TranscriptLine → ℕ → Option Breach
found_at limits = found_from (checker_within limits)

-- that finding as a verdict, with the limits of TEES 2009
abbrev pub verdict_found_at : List TranscriptLine → ℕ → Option Verdict
verdict_found_at lines place =
    option_and_then (λ line. option_map (λ breach. Broken line.number breach.rule) (found_at standard_rule_limits lines place))
    (slice_get lines place)

-- the verdict by the first breach that a checker finds
abbrev pub verdict_of_checker : List TranscriptLine → Verdict
verdict_of_checker lines =
    unwrap_or (earliest_above (verdict_found_at lines) (length lines)) (Good (length lines))

-- no poll is below the one place and above the other
abbrev pub HasNoPollBetween : List TranscriptLine → ℕ → ℕ → Type 0
HasNoPollBetween lines above below = (between : ℕ) → above < between → between < below
    → number_polled (observation_at lines between) ≡ None

-- Below a breach nothing is found above the next poll. From that poll on, a checker finds what a checker started there
-- finds.
pub record GoesOn (limits : RuleLimits) (lines : List TranscriptLine) : Type 0 where
  pub passes : (breach place : ℕ) → is_some (found_at limits lines breach) ≡ true → breach < place
      → HasNoPollBetween lines breach (suc place) → found_at limits lines place ≡ None
  pub starts : (breach poll further : ℕ) → is_some (found_at limits lines breach) ≡ true → breach < poll
      → is_some (number_polled (observation_at lines poll)) ≡ true
      → HasNoPollBetween lines breach poll
      → found_at limits lines (poll + further) ≡ found_at limits (drop poll lines) further

-- In a log that begins anywhere a checker finds nothing above the first command. From that command on, it finds what a
-- checker started there finds.
pub record BeginsAnywhere (limits : RuleLimits) (lines : List TranscriptLine) : Type 0 where
  pub passes : (place : ℕ) → place + length (from_first_command lines) < length lines
      → found_from (checker_anywhere limits) lines place ≡ None
  pub starts : (above further : ℕ) → above + length (from_first_command lines) ≡ length lines
      → further < length (from_first_command lines)
      → found_from (checker_anywhere limits) lines (above + further) ≡ found_at limits (from_first_command lines) further
