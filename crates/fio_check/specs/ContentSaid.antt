-- What one event says to the rules on content: the items of a command, the stamp of an answer, an entry, the end of a
-- block; and the distance of times.
use Rattle.std.specs.Prelude.{ℕ, ◌^◌, ◌-◌, ◌+◌, ◌%◌, ◌==◌, Bool, ◌&&◌, ◌||◌, true, false, List, [], Option, Some, None, is_some, not, nat_le, nat_lt, option_map, if◌then◌else◌}
use Rattle.std.specs.Option.{option_map_or}
use Rattle.fio_message.specs.Status.{says_again, says_error, says_more}
use Rattle.fio_message.specs.declared.answers.Answer.{Answer}
use Rattle.fio_message.specs.declared.answers.Answer.TheVariants as answers
use Rattle.fio_message.specs.declared.commands.Command.{Command}
use Rattle.fio_message.specs.declared.commands.Command.TheVariants as commands
use Rattle.fio_message.specs.declared.fields.InputItem.{InputItem}
use Rattle.fio_message.specs.declared.limits.TheConstants.{INPUTS}
use Rattle.fio_input.specs.FilterHistory.{last_item_of}
use Rattle.fio_input.specs.FilterRule.{filter_in_force}
use Rattle.fio_cpu.specs.declared.record.Item.TheVariants.{Entry, Gap}
use Rattle.fio_check.specs.ContentEvents.{ContentEvent, Sent, Heard, Recorded, Ended}

-- ---- times

-- the time from an earlier moment to a later one, modulo 2 ^ 32
abbrev pub milliseconds_between : ℕ → ℕ → ℕ
milliseconds_between earlier later = (later + 2 ^ 32 - earlier) % 2 ^ 32

-- a time is before another: the distance from the other to it is 2 ^ 31 or more
abbrev pub is_before : ℕ → ℕ → Bool
is_before time other = nat_le (2 ^ 31) (milliseconds_between other time)

-- a time is so far after an earlier one that 16 bits do not determine it
abbrev pub is_far : ℕ → ℕ → Bool
is_far earlier later = nat_le (2 ^ 16) (milliseconds_between earlier later)

-- a time is after another
abbrev pub is_later : ℕ → ℕ → Bool
is_later time other = not (time == other) && not (is_before time other)

-- ---- what is kept of an event

-- both filters of an input, in samples
pub record FilterPair : Type 0 where
  pub leading : ℕ
  pub trailing : ℕ

-- an entry: its state and its wide time
pub record TimedState : Type 0 where
  pub level : Bool
  pub wide : ℕ

-- what each later entry is compared with: the wide time of an entry of this input, or the stamp of a block without C,
-- without an input
pub record Floor : Type 0 where
  pub time : ℕ
  pub input : Option ℕ

-- the states that an answer 181 has, and its stamp
pub record Seen : Type 0 where
  pub stamp : ℕ
  pub levels : ℕ

-- an item as the module has it once it is applied: whether it ignores the input, and the filters in force
pub record SentItem : Type 0 where
  pub ignore : Bool
  pub filters : FilterPair

-- ---- what an event says

-- the last item of this input among items: only that one counts; inputs above 63 have none
abbrev pub item_for : ℕ → List InputItem → Option InputItem
item_for input items = if nat_lt input INPUTS then last_item_of input items else None

-- the items of a command
abbrev pub items_sent : Command → List InputItem
items_sent (commands.ConfigureInputs items) = items.items
items_sent command = []

-- the item of this input that an event sends
abbrev pub item_of_input : ℕ → ContentEvent → Option InputItem
item_of_input input (Sent command) = item_for input (items_sent command)
item_of_input input event = None

-- both filters of an item, as they take effect
abbrev pub filters_of : InputItem → FilterPair
filters_of item =
    record { leading = filter_in_force item.leading; trailing = filter_in_force item.trailing }

-- an item as it is kept
abbrev pub item_kept : InputItem → SentItem
item_kept item = record { ignore = item.ignore; filters = filters_of item }

-- an item exists and ignores its input
abbrev pub ignores : Option InputItem → Bool
ignores item = option_map_or (λ found. found.ignore) item false

-- an item exists and does not ignore its input
abbrev pub opens : Option InputItem → Bool
opens item = option_map_or (λ found. not found.ignore) item false

-- an event says true, if this holds
abbrev pub said_if : Bool → Option Bool
said_if holds = if holds then Some true else None

-- the item of this input that is sent
abbrev pub item_sent : ℕ → ContentEvent → Option SentItem
item_sent input event = option_map item_kept (item_of_input input event)

-- an item is sent that ignores this input
abbrev pub ignoring : ℕ → ContentEvent → Option Bool
ignoring input event = said_if (ignores (item_of_input input event))

-- an item is sent that does not ignore it
abbrev pub opening : ℕ → ContentEvent → Option Bool
opening input event = said_if (opens (item_of_input input event))

-- a load of the counter is sent
abbrev pub is_loading : ContentEvent → Option Bool
is_loading (Sent (commands.LoadCounter load)) = Some true
is_loading event = None

-- an answer to a watchdog is heard
abbrev pub is_set_dog : ContentEvent → Option Bool
is_set_dog (Heard (answers.Watchdog status)) = Some true
is_set_dog event = None

-- for a command, the command that awaits its answer; for an answer, none
abbrev pub awaiting : ContentEvent → Option (Option Command)
awaiting (Sent command) = Some (Some command)
awaiting (Heard answer) = Some None
awaiting event = None

-- an answer says that a configuration was taken
abbrev pub accepts_items : Answer → Bool
accepts_items (answers.ConfigureInputs status) = not (says_error status)
accepts_items answer = false

-- an answer that a configuration was taken is heard
abbrev pub is_accepting : ContentEvent → Bool
is_accepting (Heard answer) = accepts_items answer
is_accepting event = false

-- the stamp of an answer, unless it is a repeated block
abbrev pub stamp_of : Answer → Option ℕ
stamp_of (answers.Status flags receive transmit stamp) = Some stamp
stamp_of (answers.RawInputs inputs stamp) = Some stamp
stamp_of (answers.FilteredInputs inputs stamp) = Some stamp
stamp_of (answers.Block block entries status stamp) = if says_again status then None else Some stamp
stamp_of answer = None

-- the stamp of an answer that is heard, unless it is a repeated block
abbrev pub stamp_heard : ContentEvent → Option ℕ
stamp_heard (Heard answer) = stamp_of answer
stamp_heard event = None

-- the end of a clear block
abbrev pub is_clear_end : ContentEvent → Bool
is_clear_end (Ended status stamp) = not (says_more status) && not (says_again status)
is_clear_end event = false

-- the end of a block
abbrev pub is_end : ContentEvent → Bool
is_end (Ended status stamp) = true
is_end event = false

-- the end of a repeated block without C
abbrev pub is_again_end : ContentEvent → Bool
is_again_end (Ended status stamp) = not (says_more status) && says_again status
is_again_end event = false

-- for a poll, true; for the end of a block, false
abbrev pub polling : ContentEvent → Option Bool
polling (Sent (commands.Poll number)) = Some true
polling (Ended status stamp) = Some false
polling event = None

-- the stamp of a block answer that is heard
abbrev pub block_stamp : ContentEvent → Option ℕ
block_stamp (Heard (answers.Block block entries status stamp)) = Some stamp
block_stamp event = None

-- the end of a block without C: its stamp
abbrev pub full_end : ContentEvent → Option ℕ
full_end (Ended status stamp) = if says_more status then None else Some stamp
full_end event = None

-- an entry of any input, or the end of a block without C, as the floor of later entries
abbrev pub floor_of : ContentEvent → Option Floor
floor_of (Recorded (Entry input level stamp wide)) = Some (record { time = wide; input = Some input })
floor_of (Ended status stamp) =
    if says_more status then None else Some (record { time = stamp; input = None })
floor_of event = None

-- an entry of this input; inputs above 63 have none
abbrev pub entry_recorded : ℕ → ContentEvent → Option TimedState
entry_recorded input (Recorded (Entry other level stamp wide)) =
    if input == other && nat_lt input INPUTS then Some (record { level = level; wide = wide }) else None
entry_recorded input event = None

-- a gap mark is recorded
abbrev pub is_gap : ContentEvent → Option Bool
is_gap (Recorded Gap) = Some true
is_gap event = None

-- what makes the state of this input in a 181 outdated: an item or an entry of it, or a gap mark
abbrev pub ends_shown : ℕ → ContentEvent → Bool
ends_shown input event = (is_some (item_of_input input event) || is_some (entry_recorded input event))
    || is_some (is_gap event)

-- the states that were asked for
abbrev pub states_heard : ContentEvent → Option Seen
states_heard (Heard (answers.FilteredInputs inputs stamp)) = Some (record { stamp = stamp; levels = inputs })
states_heard event = None

-- the record comes to these states: it has all entries up to their stamp, and none later yet
abbrev pub comes_to : Seen → ContentEvent → Bool
comes_to seen (Recorded (Entry input level stamp wide)) = is_later wide seen.stamp
comes_to seen (Ended status stamp) = not (says_more status) && not (is_before stamp seen.stamp)
comes_to seen event = false
