-- What is above an event, as far as the rules on content read it, by the places of the events.
--
-- A clear block is a block answer with neither C nor E. Without E it was made at the poll directly above it, so each command
-- above was received or is lost. Without C it took all waiting entries, so each entry below was logged later.
--
-- A block that is sent again was made at an earlier poll for it, so each command above the first one was received by then or is
-- lost. If it has no C, it settles each input for which no item was sent since that first poll, as a clear block settles all
-- inputs. A clear block must be above; then the first poll is above, too.
use Rattle.std.specs.Prelude.{ℕ, zero, suc, ◌+◌, ◌-◌, ◌==◌, Bool, ◌&&◌, ◌||◌, false, List, Option, Some, None, drop, fold, is_some, min, not, nat_lt, option_map, option_and_then, take, unwrap_or, if◌then◌else◌}
use Rattle.std.specs.Option.{option_map_or}
use Rattle.fio_message.specs.declared.limits.TheConstants.{INPUTS}
use Rattle.fio_message.specs.declared.commands.Command.{Command}
use Rattle.fio_message.specs.declared.commands.Command.TheVariants as commands
use Rattle.fio_message.specs.declared.fields.InputItem.{InputItem}
use Rattle.fio_check.specs.ContentEvents.{ContentEvent, LineEvent, content_event_at}
use Rattle.fio_check.specs.ContentSaid.{FilterPair, Floor, Seen, SentItem, TimedState, awaiting, block_stamp, comes_to, ends_shown, entry_recorded, filters_of, floor_of, full_end, ignoring, is_accepting, is_again_end, is_clear_end, is_end, is_far, is_gap, is_loading, is_set_dog, item_for, item_of_input, item_sent, items_sent, opening, polling, said_if, stamp_heard, states_heard}
use Rattle.fio_check.specs.Observations.{names_absent}
use Rattle.fio_check.specs.ContentKnown.{ContentFacts, InputAbove, WatchedState, if_comes, shows_other, state_shown}
use Rattle.fio_check.specs.ContentRules.{is_excused}
use Rattle.fio_check.specs.Places.{Placed, is_some_and, latest_above}

-- ---- by places

-- the latest value that events above a place say, by what one event says
abbrev pub latest_said : {A : Type 0} → (ContentEvent → Option A) → List LineEvent → ℕ → Option (Placed A)
latest_said says events place =
    latest_above (λ above. option_and_then says (content_event_at events above)) place

-- the latest value that events above a place say, without its place
abbrev pub last_said : {A : Type 0} → (ContentEvent → Option A) → List LineEvent → ℕ → Option A
last_said says events place = option_map (λ found. found.value) (latest_said says events place)

-- events between two places say it
abbrev pub is_said_between : {A : Type 0} → (ContentEvent → Option A) → List LineEvent → ℕ → ℕ → Bool
is_said_between says events above place =
    is_some_and (latest_said says events place) (λ found. nat_lt above found.place)

-- an event at a place passes a test
abbrev pub is_at : (ContentEvent → Bool) → List LineEvent → ℕ → Bool
is_at test events place = is_some_and (content_event_at events place) test

-- a clear block is above
abbrev pub is_clear_above : List LineEvent → ℕ → Bool
is_clear_above events place = is_some (latest_said (λ event. said_if (is_clear_end event)) events place)

-- ---- times, of the events below those that are forgotten

-- the end of a clear block that was heard among the events
abbrev pub clearing_at : List LineEvent → ℕ → Option Bool
clearing_at events place =
    said_if (is_at is_clear_end events place && is_some (latest_said block_stamp events place))

-- times are known: the end of such a block is above
abbrev pub is_timely : List LineEvent → ℕ → Bool
is_timely events place = is_some (latest_above (clearing_at events) place)

-- the stamp of the latest block without C, if times are known
abbrev pub full_above : List LineEvent → ℕ → Option ℕ
full_above events place =
    if is_timely events place then last_said full_end events place else None

-- for a block answer that is heard: whether it was made long after the latest block without C, if times are known
abbrev pub aging_at : List LineEvent → ℕ → Option Bool
aging_at events place = option_map (λ stamp. is_some_and (full_above events place) (λ full. is_far full stamp))
    (option_and_then block_stamp (content_event_at events place))

-- the latest block was made long after the latest block without C
abbrev pub is_aged : List LineEvent → ℕ → Bool
is_aged events place = is_some_and (latest_above (aging_at events) place) (λ turn. turn.value)

-- a block made long after the latest one without C is heard, or a gap mark is recorded
abbrev pub losing_at : List LineEvent → ℕ → Option Bool
losing_at events place = said_if (unwrap_or (aging_at events place) false || is_at (λ event. is_some (is_gap event)) events place)

-- a poll was sent since the latest block
abbrev pub is_polled : List LineEvent → ℕ → Bool
is_polled events place = is_some_and (latest_said polling events place) (λ turn. turn.value)

-- for an item of this input that is sent below a poll for the block that is due, true; for the end of a block, false
abbrev pub since_poll_at : List LineEvent → ℕ → ℕ → Option Bool
since_poll_at events input place = if is_at is_end events place then Some false
    else said_if (is_at (λ event. is_some (item_of_input input event)) events place && is_polled events place)

-- an item of this input was sent below the first poll for the block that is due
abbrev pub is_since_poll : List LineEvent → ℕ → ℕ → Bool
is_since_poll events input place = is_some_and (latest_above (since_poll_at events input) place) (λ turn. turn.value)

-- a block ends that settles this input
abbrev pub settles_at : List LineEvent → ℕ → ℕ → Bool
settles_at events input place = is_at is_clear_end events place
    || (is_at is_again_end events place && (is_clear_above events place && not (is_since_poll events input place)))

-- for an item that ignores this input, true; for the end of a block that settles it, false
abbrev pub hiding_at : List LineEvent → ℕ → ℕ → Option Bool
hiding_at events input place = if settles_at events input place then Some false
    else option_and_then (ignoring input) (content_event_at events place)

-- an item that ignores this input was sent since the latest block that settles it
abbrev pub is_hidden : List LineEvent → ℕ → ℕ → Bool
is_hidden events input place = is_some_and (latest_above (hiding_at events input) place) (λ turn. turn.value)

-- the command above, if no answer is below it
abbrev pub awaited_command : List LineEvent → ℕ → Option Command
awaited_command events place = option_and_then (λ found. found.value) (latest_said awaiting events place)

-- the item of an input that this command has
abbrev pub item_named : ℕ → Option Command → Option InputItem
item_named input awaited = option_and_then (λ command. item_for input (items_sent command)) awaited

-- for a command with an item of this input, false; for the answer that such a command was taken, true
abbrev pub taking_at : List LineEvent → ℕ → ℕ → Option Bool
taking_at events input place =
    if is_at (λ event. is_some (item_of_input input event)) events place then Some false
    else said_if (is_at is_accepting events place && is_some (item_named input (awaited_command events place)))

-- the last item of this input that was sent was taken
abbrev pub is_taken_above : List LineEvent → ℕ → ℕ → Bool
is_taken_above events input place = is_some_and (latest_above (taking_at events input) place) (λ turn. turn.value)

-- at the end of a block that settles this input: the last item of it, if it was taken
abbrev pub settled_at : List LineEvent → ℕ → ℕ → Option SentItem
settled_at events input place = if settles_at events input place && is_taken_above events input place
    then last_said (item_sent input) events place
    else None

-- the latest item of this input that the module had for certain at a block that settles it, and the place of the block
abbrev pub settled : List LineEvent → ℕ → ℕ → Option (Placed SentItem)
settled events input place = latest_above (settled_at events input) place

-- an item that was settled at a place above ignores the input, and no item sent since opens it
abbrev pub is_shut_by : List LineEvent → ℕ → ℕ → Placed SentItem → Bool
is_shut_by events input place item =
    item.value.ignore && not (is_said_between (opening input) events item.place place)

-- the lower filters of two pairs
abbrev pub lesser : FilterPair → FilterPair → FilterPair
lesser filters others = record {
  leading = min filters.leading others.leading;
  trailing = min filters.trailing others.trailing;
}

-- the lowest of these filters and those of an item, if one is given
abbrev pub least_with : FilterPair → Option InputItem → FilterPair
least_with filters item = option_map_or (λ found. lesser filters (filters_of found)) item filters

-- the lowest filters: one sample
abbrev pub one_sample : FilterPair
one_sample = record { leading = 1; trailing = 1 }

-- the lowest of these filters and of the filters in the items of an input that were sent between two places
abbrev pub least_between : FilterPair → ℕ → List LineEvent → ℕ → ℕ → FilterPair
least_between filters input events from place =
    fold (λ least found. least_with least (item_of_input input found.event)) filters (drop from (take place events))

-- the lowest of the settled filters and the filters in the items sent since
abbrev pub least_since : List LineEvent → ℕ → ℕ → Option (Placed SentItem) → FilterPair
least_since events input place None = least_between one_sample input events 0 place
least_since events input place (Some item) = least_between item.value.filters input events item.place place

-- an item that ignores this input was sent above a place, since the latest block above another one that settles it
abbrev pub is_shaded : List LineEvent → ℕ → ℕ → ℕ → Bool
is_shaded events input from place =
    is_hidden events input from || is_said_between (ignoring input) events from place

-- an event at a place opens this input below an item that ignores it, which was sent since the latest block above an entry at
-- an earlier place that settles it
abbrev pub reopens_for : List LineEvent → ℕ → ℕ → ℕ → Option Bool
reopens_for events input from place =
    said_if (is_at (λ event. is_some (opening input event)) events place && is_shaded events input from place)

-- for an event that opens this input below an item that ignores it, true; for the end of a block that settles it, false
abbrev pub reopening_at : List LineEvent → ℕ → ℕ → Option Bool
reopening_at events input place = if settles_at events input place then Some false
    else said_if (is_at (λ event. is_some (opening input event)) events place && is_hidden events input place)

-- since the latest block that settles this input an item was sent that ignores it, and below that one an item that opens it
abbrev pub is_reopened : List LineEvent → ℕ → ℕ → Bool
is_reopened events input place =
    is_some_and (latest_above (reopening_at events input) place) (λ turn. turn.value)

-- an item that reopens the input was sent below an entry
abbrev pub is_reopened_for : List LineEvent → ℕ → ℕ → ℕ → Bool
is_reopened_for events input from place =
    is_some_and (latest_above (reopens_for events input from) place) (λ found. nat_lt from found.place)

-- No change of an input between an entry at a place and an entry below can have been hidden. To hide one, the input must have
-- been ignored and then opened for the latter. This is excluded: a clear block is above the place; among the items sent since
-- the latest block that settles the input, none opens it below one that ignores it; and no gap mark is below the place.
abbrev pub is_watched_from : List LineEvent → ℕ → ℕ → ℕ → Bool
is_watched_from events input from place =
    (is_clear_above events from && not (is_reopened events input from))
    && not (is_reopened_for events input from place || is_said_between is_gap events from place)

-- an entry, if its input is watched from its place on
abbrev pub watched_state : List LineEvent → ℕ → ℕ → Placed TimedState → Option WatchedState
watched_state events input place entry = if is_watched_from events input entry.place place
    then Some (record { level = entry.value.level; shaded = is_shaded events input entry.place place })
    else None

-- the wide time of an entry, if times were known there and its block was made soon
abbrev pub timed_below : List LineEvent → Placed TimedState → Option ℕ
timed_below events entry = if is_timely events entry.place && not (is_aged events entry.place)
    then Some entry.value.wide
    else None

-- a floor, unless it is an entry of a block that was made long after the latest one without C
abbrev pub floor_known : List LineEvent → Placed Floor → Option Floor
floor_known events floor =
    if is_some floor.value.input && is_aged events floor.place then None else Some floor.value

-- between two places a block that was made long after the latest one without C is heard, or a gap mark is recorded
abbrev pub is_lost_between : List LineEvent → ℕ → ℕ → Bool
is_lost_between events above place =
    is_some_and (latest_above (losing_at events) place) (λ found. nat_lt above found.place)

-- states that were heard where times were known, if between them and here no event comes to them, no block made long after the
-- latest one without C is heard, and no gap mark is recorded
abbrev pub seen_still : List LineEvent → ℕ → Placed Seen → Option Seen
seen_still events place seen = if is_timely events seen.place
    && not (is_said_between (λ event. said_if (comes_to seen.value event)) events seen.place place
    || is_lost_between events seen.place place)
    then Some seen.value
    else None

-- the latest states that were asked for, if the record has not come to them
abbrev pub seen_at : List LineEvent → ℕ → Option Seen
seen_at events place = option_and_then (seen_still events place) (latest_said states_heard events place)

-- the states to which the record comes with an event
abbrev pub coming_at : List LineEvent → ℕ → Option Seen
coming_at events place =
    option_and_then (λ event. option_and_then (if_comes event) (seen_at events place)) (content_event_at events place)

-- for an item of this input, true; for the end of a block that settles it, false
abbrev pub touching_at : List LineEvent → ℕ → ℕ → Option Bool
touching_at events input place = if settles_at events input place then Some false
    else said_if (is_at (λ event. is_some (item_of_input input event)) events place)

-- an item of this input was sent since the latest block that settles it
abbrev pub is_touched : List LineEvent → ℕ → ℕ → Bool
is_touched events input place = is_some_and (latest_above (touching_at events input) place) (λ turn. turn.value)

-- the state of this input that is known below an event: none after an event that ends this knowledge, or the state that the
-- record comes to
abbrev pub showing_at : List LineEvent → ℕ → ℕ → Option (Option Bool)
showing_at events input place = if is_at (ends_shown input) events place then Some None
    else (if nat_lt input INPUTS then option_map (state_shown input (is_touched events input place)) (coming_at events place) else None)

-- the state of this input that is known by a 181
abbrev pub shown_at : List LineEvent → ℕ → ℕ → Option Bool
shown_at events input place = option_and_then (λ found. found.value) (latest_above (showing_at events input) place)

-- for an event with which the record comes to another state of this input, true; for an item of the input, false
abbrev pub unlogging_at : List LineEvent → ℕ → ℕ → Option Bool
unlogging_at events input place = if is_at (λ event. is_some (item_of_input input event)) events place then Some false
    else said_if (nat_lt input INPUTS && is_some_and (coming_at events place) (shows_other input (is_touched events input place) (shown_at events input place)))

-- the changes of this input are not logged
abbrev pub is_unlogged : List LineEvent → ℕ → ℕ → Bool
is_unlogged events input place = is_some_and (latest_above (unlogging_at events input) place) (λ turn. turn.value)

-- what is above a place for one input; times are read from these events, above this place of theirs
abbrev pub input_at : List LineEvent → ℕ → List LineEvent → ℕ → ℕ → InputAbove
input_at timed at events input place = record {
  named = is_some (item_named input (awaited_command events place));
  item = last_said (item_sent input) events place;
  taken = is_taken_above events input place;
  hidden = is_hidden events input place;
  reopened = is_reopened events input place;
  watched = option_and_then (watched_state events input place) (latest_said (entry_recorded input) events place);
  timed = option_and_then (timed_below timed) (latest_said (entry_recorded input) timed at);
  touched = is_touched events input place;
  shown = shown_at timed input at;
  unlogged = is_unlogged timed input at;
  shut = is_some_and (settled events input place) (is_shut_by events input place);
  least = least_since events input place (settled events input place);
}

-- the flags that a command clears
abbrev pub flags_cleared : Command → ℕ
flags_cleared (commands.Status clear) = clear
flags_cleared command = 0

-- ---- what loads of the counter excuse

-- the loads that were sent and have excused no breach yet, and the place from which times are read
pub record Excuses : Type 0 where
  pub left : ℕ
  pub from : ℕ

-- what is above a place, with this number of excuses; times are read from these events, above this place of theirs
abbrev pub content_above : ℕ → List LineEvent → ℕ → List LineEvent → ℕ → ContentFacts
content_above excuses timed at events place = record {
  excuses = excuses;
  watchdog_set = is_some (latest_said is_set_dog events place);
  clearing = option_map_or flags_cleared (awaited_command events place) 0;
  absent_named = is_some_and (awaited_command events place) names_absent;
  clear = is_clear_above events place;
  polled = is_polled events place;
  since_poll = λ input. is_since_poll events input place;
  clock = last_said stamp_heard timed at;
  block_heard = is_some (latest_said block_stamp timed at);
  timely = is_timely timed at;
  full = full_above timed at;
  aged = is_aged timed at;
  floor = option_and_then (floor_known timed) (latest_said floor_of timed at);
  seen = seen_at timed at;
  inputs = λ input. input_at timed at events input place;
}

-- what is above the last place of events, where times are read from a place on
abbrev pub content_from : Excuses → List LineEvent → ℕ → ContentFacts
content_from excuses events place =
    content_above excuses.left (drop excuses.from events) (place - excuses.from) events place

-- one excuse more; the count is an octet, which stays at 255
abbrev pub one_excuse_more : ℕ → ℕ
one_excuse_more excuses = min 255 (excuses + 1)

-- one excuse less, unless there are 255
abbrev pub one_excuse_less : ℕ → ℕ
one_excuse_less excuses = if excuses == 255 then 255 else excuses - 1

-- the excuses below an event at a place: a load of the counter adds one; an event that is excused uses one, and times are then
-- read from below it
abbrev pub excuses_below : Excuses → ContentFacts → ℕ → Option ContentEvent → Excuses
excuses_below excuses facts place None = excuses
excuses_below excuses facts place (Some event) =
    if is_excused facts event then record { left = one_excuse_less excuses.left; from = suc place }
    else (if is_some (is_loading event) then record excuses { left = one_excuse_more excuses.left } else excuses)

-- the excuses above a place
unfoldable pub excuses_at : List LineEvent → ℕ → Excuses
excuses_at events zero = record { left = 0; from = 0 }
excuses_at events (suc place) =
    let above = excuses_at events place in
    excuses_below above (content_from above events place) place (content_event_at events place)

-- what is above a place
abbrev pub content_at : List LineEvent → ℕ → ContentFacts
content_at events place = content_from (excuses_at events place) events place
