-- The rules of a transcript. It is what the CPU's end logs on a bus that doubles nothing and delivers
-- an answer before the CPU's next command or never. The module is not restarted, and has the limits
-- that the rules are given. The CPU's end never runs out of memory.
--
-- Each rule is stated once, by what is above a line and what the line says.
use Rattle.std.specs.Prelude.{ℕ, ◌==◌, ◌&&◌, ◌||◌, Bool, true, false, List, [], ◌∷◌, Option, codes, find, is_some, nat_lt, not}
use Rattle.fio_message.specs.Status.{says_more, says_lost, says_again, says_out_of_sequence}
use Rattle.fio_message.specs.declared.types.TheConstants.{BLOCK_ANSWER}
use Rattle.fio_message.specs.declared.limits.TheConstants.{BLOCK_ENTRIES}
use Rattle.fio_check.specs.Facts.{facts_at, number_due}
use Rattle.fio_check.specs.Lines.{TranscriptLine}
use Rattle.fio_check.specs.Observations.{observation_at}
use Rattle.fio_check.specs.Places.{is_some_and}
use Rattle.fio_check.specs.declared.facts.Facts.{Facts}
use Rattle.fio_check.specs.declared.limits.RuleLimits.{RuleLimits}
use Rattle.fio_check.specs.declared.observation.Observation.{Observation}
use Rattle.fio_check.specs.declared.observation.Observation.TheVariants.{Unreadable, Poll, Block, Answer}
use Rattle.fio_check.specs.declared.rules.Rule.{Rule}
use Rattle.fio_check.specs.declared.rules.Rule.TheVariants.{Readable, Pair, Number, Advance, Same, Sequence, RuleLimits as LimitsRule, Rest, Refusal}

-- directly above is no command that an answer of this type answers
abbrev pub is_unasked : Facts → ℕ → Bool
is_unasked facts answer = not (is_some_and facts.awaited (λ awaited. awaited == answer))

-- the limits of TEES 2009
abbrev pub standard_rule_limits : RuleLimits
standard_rule_limits = record { per_block = BLOCK_ENTRIES; waiting = 1024 }

-- F without C, if more entries may wait than a block takes; or C with another count than a block takes
abbrev pub is_overfull_within : RuleLimits → ℕ → ℕ → Bool
is_overfull_within limits status entries =
    (nat_lt limits.per_block limits.waiting && (says_lost status && not (says_more status)))
    || (says_more status && not (entries == limits.per_block))

-- A line breaks a rule, if the module has these limits:
abbrev pub breaks_within : RuleLimits → Facts → Observation → Rule → Bool
-- Readable: its octets are no message of its direction.
breaks_within limits facts Unreadable Readable = true
-- Pair: it is an answer, and directly above is no command that it answers.
breaks_within limits facts (Answer code accepted) Pair = is_unasked facts code
breaks_within limits facts (Block number status entries absent) Pair = is_unasked facts BLOCK_ANSWER
-- Number: it is a block answer whose number is not that of the latest poll, which is directly above if the rule on
-- pairs holds.
breaks_within limits facts (Block number status entries absent) Number =
    is_some_and facts.polled (λ polled. not (number == polled))
-- Advance: it is a poll, and its number is not the next one though the latest poll was answered, or not the same
-- again though it was not.
breaks_within limits facts (Poll number) Advance = is_some_and (number_due facts) (λ due. not (number == due))
-- Same: it is a block answer with E, and its poll has another number than the poll before it.
breaks_within limits facts (Block number status entries absent) Same = says_again status && facts.advanced
-- Sequence: it is a block answer with G that also has E, or that has another block answer above it.
breaks_within limits facts (Block number status entries absent) Sequence =
    says_out_of_sequence status && (says_again status || is_some facts.more)
-- Limits: it is a block answer with F and without C, though more entries may wait than a block takes, or with C and
-- another count than a block takes, or with an input above 63.
breaks_within limits facts (Block number status entries absent) LimitsRule =
    is_overfull_within limits status entries || absent
-- Rest: it is a block answer without entries, and the latest block answer above has C.
breaks_within limits facts (Block number status entries absent) Rest =
    entries == 0 && is_some_and facts.more (λ more. more)
-- Refusal: it is an answer that a configuration was taken, though the command directly above names an input above
-- 63.
breaks_within limits facts (Answer code accepted) Refusal = accepted && facts.absent_named
-- No other line breaks it.
breaks_within limits facts observation rule = false

-- the name of a rule
abbrev pub rule_name : Rule → List ℕ
rule_name Readable = codes "readable"
rule_name Pair = codes "pair"
rule_name Number = codes "number"
rule_name Advance = codes "advance"
rule_name Same = codes "same"
rule_name Sequence = codes "sequence"
rule_name LimitsRule = codes "limits"
rule_name Rest = codes "rest"
rule_name Refusal = codes "refusal"

-- the place of a rule in the order in which they are tried, from 1
abbrev pub rule_number : Rule → ℕ
rule_number Readable = 1
rule_number Pair = 2
rule_number Number = 3
rule_number Advance = 4
rule_number Same = 5
rule_number Sequence = 6
rule_number LimitsRule = 7
rule_number Rest = 8
rule_number Refusal = 9

-- the rules, in the order in which they are tried
abbrev pub rules : List Rule
rules = Readable ∷ Pair ∷ Number ∷ Advance ∷ Same ∷ Sequence ∷ LimitsRule ∷ Rest ∷ Refusal ∷ []

-- the rule with this number
abbrev pub rule_of_number : ℕ → Option Rule
rule_of_number number = find (λ rule. rule_number rule == number) rules

-- the first rule that a line with this observation breaks, given the facts above it, with these limits
abbrev pub first_broken_within : RuleLimits → Facts → Observation → Option Rule
first_broken_within limits facts observation = find (breaks_within limits facts observation) rules

-- the first rule that a line with this observation breaks, with the limits of TEES 2009
abbrev pub first_broken : Facts → Observation → Option Rule
first_broken facts observation = first_broken_within standard_rule_limits facts observation

-- the first rule that the line at a place breaks, with the limits of TEES 2009
abbrev pub rule_broken : List TranscriptLine → ℕ → Option Rule
rule_broken lines place = first_broken (facts_at lines place) (observation_at lines place)
