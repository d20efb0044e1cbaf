-- The rules on content: what an answer, an entry or the end of a block may break in a transcript that keeps the rules of
-- `Rules`.
--
-- Each rule is stated once, by what is above an event and what the event says.
use Rattle.std.specs.Prelude.{ℕ, ◌==◌, Bool, ◌&&◌, ◌||◌, false, List, [], ◌∷◌, Option, Some, None, bit_and, codes, find, is_some, nat_lt, not, option_map, option_and_then, if◌then◌else◌}
use Rattle.std.specs.Bool.{beq}
use Rattle.std.specs.List.{list_any}
use Rattle.std.specs.Option.{option_or}
use Rattle.fio_message.specs.Bits.{is_set}
use Rattle.fio_message.specs.Status.{says_error, says_set_before}
use Rattle.fio_message.specs.declared.answers.Answer.{Answer}
use Rattle.fio_message.specs.declared.answers.Answer.TheVariants as answers
use Rattle.fio_message.specs.declared.limits.TheConstants.{INPUTS}
use Rattle.fio_cpu.specs.declared.record.Item.TheVariants.{Entry}
use Rattle.fio_check.specs.ContentKnown.{ContentFacts, InputAbove, WatchedState}
use Rattle.fio_check.specs.ContentKnown.{input_coming}
use Rattle.fio_check.specs.ContentSaid.{FilterPair, Floor, Seen, TimedState, comes_to, is_before, is_later, milliseconds_between, stamp_of}
use Rattle.fio_check.specs.ContentEvents.{ContentEvent, Heard, Recorded, Ended}
use Rattle.fio_check.specs.Places.{earliest_above, is_some_and}
use Rattle.fio_check.specs.declared.content_rules.BrokenRule.{BrokenRule}
use Rattle.fio_check.specs.declared.content_rules.ContentRule.{ContentRule}
use Rattle.fio_check.specs.declared.content_rules.ContentRule.TheVariants.{Order, Fresh, Alternate, Apart, Ignored, State, Clock, Done, Accepted, Cleared, Watchdog}

-- ---- an entry

-- an entry of one input comes after an entry of another: it is later, or it has the same time and a higher input
abbrev pub comes_after : ℕ → ℕ → ℕ → ℕ → Bool
comes_after input wide above time = is_later wide time || (wide == time && nat_lt above input)

-- an entry does not come after the entry above it, and no block without C ends between them
abbrev pub is_out_of_order : ℕ → ℕ → Floor → Bool
is_out_of_order input wide floor =
    is_some_and floor.input (λ above. not (comes_after input wide above floor.time))

-- an entry is not later than the block without C above it
abbrev pub is_stale : ℕ → Floor → Bool
is_stale wide floor = not (is_some floor.input) && not (is_later wide floor.time)

-- the filter that is in force for a change to this state
abbrev pub filter_towards : Bool → FilterPair → ℕ
filter_towards level filters = if level then filters.trailing else filters.leading

-- an entry is nearer to an earlier one of its input than the filter for the change
abbrev pub is_too_near : TimedState → FilterPair → ℕ → Bool
is_too_near entry filters earlier =
    nat_lt (milliseconds_between earlier entry.wide) (filter_towards entry.level filters)

-- no load of the counter excuses a breach of a rule on time
abbrev pub is_judged : ContentFacts → Bool
is_judged facts = facts.excuses == 0

-- the times of entries that are recorded now are known and judged: they were not forgotten since the latest clear block, no
-- load excuses a breach, and the block was made so soon after the latest one without C that 16 bits determine the times of its
-- entries
abbrev pub are_times_judged : ContentFacts → Bool
are_times_judged facts = is_judged facts && (facts.timely && not facts.aged)

-- the states to which the record comes with an entry of this wide time
abbrev pub coming_with : ContentFacts → ℕ → Option Seen
coming_with facts wide =
    option_and_then (λ seen. if is_later wide seen.stamp then Some seen else None) facts.seen

-- an entry of this state contradicts what a 181 shows of an input: it repeats the known state, or the input's changes are not
-- logged
abbrev pub is_shown_otherwise : Bool → InputAbove → Bool
is_shown_otherwise level above = is_some_and above.shown (beq level) || above.unlogged

-- An entry of this input breaks a rule:
abbrev pub breaks_entry : ContentFacts → ℕ → TimedState → ContentRule → Bool
-- Order: it does not come after the entry above it, with no end of a block without C between, and times are known and judged.
breaks_entry facts input entry Order =
    are_times_judged facts && is_some_and facts.floor (is_out_of_order input entry.wide)
-- Fresh: it is not later than the block without C above it, and times are known and judged.
breaks_entry facts input entry Fresh =
    are_times_judged facts && is_some_and facts.floor (is_stale entry.wide)
-- Alternate: it has the state of its input's latest entry, and no change between them can have been hidden.
breaks_entry facts input entry Alternate =
    is_some_and (facts.inputs input).watched (λ watched. beq entry.level watched.level)
-- Apart: it is nearer to its input's latest entry than the lowest filter that can be in force for the change, and the times of
-- both are known and judged.
breaks_entry facts input entry Apart = are_times_judged facts
    && is_some_and (facts.inputs input).timed (is_too_near entry (facts.inputs input).least)
-- Ignored: its input was ignored.
breaks_entry facts input entry Ignored = (facts.inputs input).shut
-- State: its input has that state in the latest 181 already, and no entry since; or it changed its state between two of them
-- without an entry. No item of the input was sent since the clear block above them, and times are judged.
breaks_entry facts input entry State = is_judged facts
    && is_shown_otherwise entry.level (input_coming input (coming_with facts entry.wide) (facts.inputs input))
breaks_entry facts input entry rule = false

-- the rules on entries, in the order in which they are tried
abbrev pub entry_rules : List ContentRule
entry_rules = Order ∷ Fresh ∷ Alternate ∷ Apart ∷ Ignored ∷ State ∷ []

-- ---- the states that were asked for

-- the state of an entry that is watched, if no item that ignores its input was sent since the latest clear block above it
abbrev pub steady_state : Option WatchedState → Option Bool
steady_state watched =
    option_and_then (λ entry. if entry.shaded then None else Some entry.level) watched

-- the latest entry of an input has another state, and no change since can have been hidden
abbrev pub differs : Seen → ℕ → InputAbove → Bool
differs seen input above =
    is_some_and (steady_state above.watched) (λ level. not (beq level (is_set seen.levels input)))

-- an input, if it differs
abbrev pub differing : ContentFacts → Seen → ℕ → Option ℕ
differing facts seen input = if differs seen input (facts.inputs input) then Some input else None

-- the lowest input that differs
unfoldable pub first_differing : ContentFacts → Seen → Option ℕ
first_differing facts seen = earliest_above (differing facts seen) INPUTS

-- ---- an answer

-- An answer breaks a rule:
abbrev pub breaks_answer : ContentFacts → Answer → ContentRule → Bool
-- Done: it says that a load of the counter is refused.
breaks_answer facts (answers.LoadCounter status) Done = says_error status
-- Accepted: it says that a configuration is refused, though its command names no input above 63.
breaks_answer facts (answers.ConfigureInputs status) Accepted =
    says_error status && not facts.absent_named
-- Cleared: it has a flag that its command clears.
breaks_answer facts (answers.Status flags receive transmit stamp) Cleared =
    not (bit_and flags facts.clearing == 0)
-- Watchdog: it says that the watchdog had not been set, though a watchdog command was answered above.
breaks_answer facts (answers.Watchdog status) Watchdog =
    not (says_set_before status) && facts.watchdog_set
-- Clock: its stamp is before the latest one above, it is not a repeated block, and times are judged.
breaks_answer facts answer Clock = is_judged facts
    && is_some_and (stamp_of answer) (λ stamp. is_some_and facts.clock (is_before stamp))
breaks_answer facts answer rule = false

-- the rules on answers, in the order in which they are tried
abbrev pub answer_rules : List ContentRule
answer_rules = Done ∷ Accepted ∷ Cleared ∷ Watchdog ∷ Clock ∷ []

-- ---- an event

-- the breach of the states that were asked for, if the record comes to them and this input differs
abbrev pub state_breach : Bool → Option ℕ → Option BrokenRule
state_breach comes input =
    if comes then option_map (λ found. record { input = Some found; rule = State }) input else None

-- State: the record comes to the states that were asked for, an input has another one in it, and times are judged.
abbrev pub broken_state : ContentFacts → ContentEvent → Option Seen → Option BrokenRule
broken_state facts event None = None
broken_state facts event (Some seen) =
    state_breach (is_judged facts && comes_to seen event) (first_differing facts seen)

-- the first rule that an event breaks: an answer, an entry, or the end of a block
abbrev pub rule_broken_by : ContentFacts → ContentEvent → Option BrokenRule
rule_broken_by facts (Heard answer) = option_map (λ rule. record { input = None; rule = rule })
    (find (breaks_answer facts answer) answer_rules)
rule_broken_by facts (Recorded (Entry input level stamp wide)) = option_or
    (broken_state facts (Recorded (Entry input level stamp wide)) facts.seen)
    (option_map (λ rule. record { input = Some input; rule = rule })
    (find (breaks_entry facts input (record { level = level; wide = wide })) entry_rules))
rule_broken_by facts (Ended status stamp) = broken_state facts (Ended status stamp) facts.seen
rule_broken_by facts event = None

-- ---- what a load of the counter excuses

-- the facts without excuses
abbrev pub without_excuse : ContentFacts → ContentFacts
without_excuse facts = record facts { excuses = 0 }

-- an event breaks a rule on time
abbrev pub breaks_time : ContentFacts → ContentEvent → Bool
breaks_time facts (Heard answer) = breaks_answer facts answer Clock
breaks_time facts (Recorded (Entry input level stamp wide)) =
    is_some (broken_state facts (Recorded (Entry input level stamp wide)) facts.seen)
    || list_any (breaks_entry facts input (record { level = level; wide = wide })) (Order ∷ Fresh ∷ Apart ∷ State ∷ [])
breaks_time facts (Ended status stamp) = is_some (broken_state facts (Ended status stamp) facts.seen)
breaks_time facts event = false

-- An event is excused: it would break a rule on time, but a load of the counter was sent that has excused no breach yet, and
-- may have taken effect since times were last forgotten. No more loads take effect than were sent, so each excuses one breach.
unfoldable pub is_excused : ContentFacts → ContentEvent → Bool
is_excused facts event = breaks_time (without_excuse facts) event && not (is_judged facts)

-- ---- names and numbers

-- the name of a rule on content
abbrev pub content_rule_name : ContentRule → List ℕ
content_rule_name Order = codes "order"
content_rule_name Fresh = codes "fresh"
content_rule_name Alternate = codes "alternate"
content_rule_name Apart = codes "apart"
content_rule_name Ignored = codes "ignored"
content_rule_name State = codes "state"
content_rule_name Clock = codes "clock"
content_rule_name Done = codes "done"
content_rule_name Accepted = codes "accepted"
content_rule_name Cleared = codes "cleared"
content_rule_name Watchdog = codes "watchdog"

-- the number of a rule on content, from 1
abbrev pub content_rule_number : ContentRule → ℕ
content_rule_number Order = 1
content_rule_number Fresh = 2
content_rule_number Alternate = 3
content_rule_number Apart = 4
content_rule_number Ignored = 5
content_rule_number State = 6
content_rule_number Clock = 7
content_rule_number Done = 8
content_rule_number Accepted = 9
content_rule_number Cleared = 10
content_rule_number Watchdog = 11

-- all rules on content, by their numbers
abbrev pub content_rules : List ContentRule
content_rules =
    Order ∷ Fresh ∷ Alternate ∷ Apart ∷ Ignored ∷ State ∷ Clock ∷ Done ∷ Accepted ∷ Cleared ∷ Watchdog ∷ []

-- the rule on content with this number
abbrev pub content_rule_of_number : ℕ → Option ContentRule
content_rule_of_number number = find (λ rule. content_rule_number rule == number) content_rules
