-- What is above an event, updated event by event. By the law `laws::content_is_kept` this is what `ContentAbove` defines by
-- places.
use Rattle.std.specs.Prelude.{ℕ, ◌==◌, Bool, ◌&&◌, ◌||◌, true, false, List, Option, Some, None, is_some, not, nat_lt, option_and_then, option_map, unwrap_or, if◌then◌else◌}
use Rattle.std.specs.Option.{option_or}
use Rattle.fio_message.specs.declared.answers.Answer.{Answer}
use Rattle.fio_message.specs.declared.commands.Command.{Command}
use Rattle.fio_message.specs.declared.fields.InputItem.{InputItem}
use Rattle.fio_message.specs.declared.limits.TheConstants.{INPUTS}
use Rattle.fio_cpu.specs.declared.record.Item.TheVariants.{Entry, Gap}
use Rattle.fio_check.specs.ContentAbove.{flags_cleared, lesser, one_excuse_less, one_excuse_more, one_sample}
use Rattle.fio_check.specs.ContentRules.{is_excused}
use Rattle.fio_check.specs.ContentKnown.{ContentFacts, InputAbove, WatchedState, if_comes, input_coming}
use Rattle.fio_check.specs.ContentSaid.{Seen, SentItem, accepts_items, block_stamp, comes_to, filters_of, floor_of, full_end, is_again_end, is_clear_end, is_far, is_loading, is_set_dog, item_for, item_kept, items_sent, polling, stamp_of, states_heard}
use Rattle.fio_check.specs.ContentEvents.{ContentEvent, Sent, Heard, Recorded, Ended, item_at_start}
use Rattle.fio_check.specs.Observations.{names_absent}
use Rattle.fio_check.specs.Places.{is_some_and}

-- an input of which nothing is above
abbrev pub no_input : InputAbove
no_input = record {
  named = false;
  item = None;
  taken = false;
  hidden = false;
  reopened = false;
  watched = None;
  timed = None;
  touched = false;
  shown = None;
  unlogged = false;
  shut = false;
  least = one_sample;
}

-- nothing is above the first event
abbrev pub no_content : ContentFacts
no_content = record {
  excuses = 0;
  watchdog_set = false;
  clearing = 0;
  absent_named = false;
  clear = false;
  polled = false;
  since_poll = λ input. false;
  clock = None;
  block_heard = false;
  timely = false;
  full = None;
  aged = false;
  floor = None;
  seen = None;
  inputs = λ input. no_input;
}

-- ---- a command

-- a watched entry, below an item that ignores its input
abbrev pub shaded : WatchedState → WatchedState
shaded watched = record watched { shaded = true }

-- a watched entry below an item that opens its input: it is no longer watched if it was shaded
abbrev pub unless_shaded : WatchedState → Option WatchedState
unless_shaded watched = if watched.shaded then None else Some watched

-- an input below an item of it that ignores it, or opens it
abbrev pub turned_by : Bool → InputAbove → InputAbove
turned_by true above = record above {
  hidden = true;
  watched = option_map shaded above.watched;
}
turned_by false above = record above {
  reopened = above.hidden || above.reopened;
  watched = option_and_then unless_shaded above.watched;
  shut = false;
}

-- an input with an item of it more, if there is one
abbrev pub input_with_item : InputAbove → Option InputItem → InputAbove
input_with_item above None = above
input_with_item above (Some item) = record (turned_by item.ignore above) {
  named = true;
  item = Some (item_kept item);
  taken = false;
  touched = true;
  shown = None;
  unlogged = false;
  least = lesser above.least (filters_of item);
}

-- an input with an item of a command more, if the command has no later one of it
abbrev pub input_with_earlier : InputAbove → Option InputItem → InputAbove
input_with_earlier above item = if above.named then above else input_with_item above item

-- the facts with these items of the command that awaits its answer
abbrev pub with_items : ContentFacts → List InputItem → ContentFacts
with_items facts items =
    record facts { inputs = λ input. input_with_item (facts.inputs input) (item_for input items) }

-- no item of a command is known yet, or its answer is heard
abbrev pub unnamed : InputAbove → InputAbove
unnamed above = record above { named = false }

-- the facts with a command, before its items
abbrev pub with_command : ContentFacts → Command → ContentFacts
with_command facts command = record facts {
  excuses = if is_some (is_loading (Sent command)) then one_excuse_more facts.excuses else facts.excuses;
  clearing = flags_cleared command;
  absent_named = names_absent command;
  polled = unwrap_or (polling (Sent command)) facts.polled;
  inputs = λ input. unnamed (facts.inputs input);
}

-- the facts with a command whose items are known: each counts as sent since the first poll for the block that is due, if that
-- poll is above
abbrev pub with_since_poll : ContentFacts → ContentFacts
with_since_poll facts =
    record facts { since_poll = λ input. (facts.polled && (facts.inputs input).named) || facts.since_poll input }

-- ---- an answer

-- an input below the answer that its configuration was taken, or that it was not
abbrev pub input_with_answer : Bool → InputAbove → InputAbove
input_with_answer accepted above =
    record above { named = false; taken = (accepted && above.named) || above.taken }

-- the states of an answer 181, if times are known
abbrev pub seen_with : ContentFacts → Option Seen → Option Seen
seen_with facts None = facts.seen
seen_with facts (Some seen) = if facts.timely then Some seen else None

-- a block with this stamp, if one is heard, was made long after the latest block without C
abbrev pub is_aging : ContentFacts → Option ℕ → Bool
is_aging facts stamp = is_some_and stamp (λ now. is_some_and facts.full (λ full. is_far full now))

-- the facts below an answer, as far as every answer changes them
abbrev pub below_answer : ContentFacts → Answer → ContentFacts
below_answer facts answer = record facts {
  clearing = 0;
  absent_named = false;
  clock = option_or (stamp_of answer) facts.clock;
  inputs = λ input. input_with_answer (accepts_items answer) (facts.inputs input);
}

-- the facts with an answer
abbrev pub with_answer : ContentFacts → Answer → ContentFacts
with_answer facts answer = record (below_answer facts answer) {
  watchdog_set = is_some (is_set_dog (Heard answer)) || facts.watchdog_set;
  block_heard = is_some (block_stamp (Heard answer)) || facts.block_heard;
  aged = if is_some (block_stamp (Heard answer)) then is_aging facts (block_stamp (Heard answer)) else facts.aged;
  seen = if is_aging facts (block_stamp (Heard answer)) then None else seen_with facts (states_heard (Heard answer));
}

-- ---- an entry, a gap mark, the end of a block

-- the states that were asked for, if an event does not come to them
abbrev pub seen_below : ContentEvent → Option Seen → Option Seen
seen_below event None = None
seen_below event (Some seen) = if comes_to seen event then None else Some seen

-- an entry that is recorded now, if it is watched
abbrev pub watched_now : Bool → Bool → InputAbove → Option WatchedState
watched_now clear level above =
    if clear && not above.reopened then Some (record { level = level; shaded = above.hidden }) else None

-- the states to which the record comes with an event
abbrev pub coming : ContentFacts → ContentEvent → Option Seen
coming facts event = option_and_then (if_comes event) facts.seen

-- an input with an entry of it
abbrev pub input_with_entry : ContentFacts → Bool → ℕ → InputAbove → InputAbove
input_with_entry facts level wide above = record above {
  watched = watched_now facts.clear level above;
  timed = if facts.timely && not facts.aged then Some wide else None;
  shown = None;
}

-- an input below an entry of this input or another
abbrev pub input_recorded : ContentFacts → ℕ → Bool → ℕ → ℕ → InputAbove → InputAbove
input_recorded facts recorded level wide input above = if input == recorded && nat_lt input INPUTS
    then input_with_entry facts level wide above
    else above

-- an input below a gap mark
abbrev pub unwatched : InputAbove → InputAbove
unwatched above = record above { watched = None; shown = None }

-- an input below a block that settles it, with the item that is then settled
abbrev pub input_below_clear : InputAbove → Option SentItem → InputAbove
input_below_clear above None = record above { hidden = false; reopened = false; touched = false }
input_below_clear above (Some item) =
    record above { hidden = false; reopened = false; touched = false; shut = item.ignore; least = item.filters }

-- the item that is settled: the last one, if it was taken
abbrev pub settled_now : InputAbove → Option SentItem
settled_now above = if above.taken then above.item else None

-- an input below the end of a block, by whether the block settles it
abbrev pub input_ended : Bool → InputAbove → InputAbove
input_ended true above = input_below_clear above (settled_now above)
input_ended false above = above

-- an event is the end of a block that settles this input: a clear one, or one that is sent again, without C and below a clear
-- one, if no item of the input was sent since the first poll for it
abbrev pub settles : ContentFacts → ℕ → ContentEvent → Bool
settles facts input event =
    is_clear_end event || (is_again_end event && (facts.clear && not (facts.since_poll input)))

-- whether times are known below the end of a block without C, by whether it is clear
abbrev pub timely_below : Bool → ContentFacts → Bool
timely_below clear facts = (clear && facts.block_heard) || facts.timely

-- the facts below a clear block with this stamp: times are known, if none was forgotten since it was heard
abbrev pub below_clear : ContentFacts → ℕ → ContentFacts
below_clear facts stamp = record facts {
  clear = true;
  timely = facts.block_heard || facts.timely;
  full = if facts.block_heard || facts.timely then Some stamp else None;
}

-- ---- all events

-- the facts with an event more that is not excused
abbrev pub content_step : ContentFacts → ContentEvent → ContentFacts
content_step facts (Sent command) = with_since_poll (with_items (with_command facts command) (items_sent command))
content_step facts (Heard answer) = with_answer facts answer
content_step facts (Recorded Gap) =
    record facts { seen = None; inputs = λ input. unwatched (facts.inputs input) }
content_step facts (Recorded (Entry recorded level stamp wide)) = record facts {
  floor = if facts.aged then None else floor_of (Recorded (Entry recorded level stamp wide));
  seen = seen_below (Recorded (Entry recorded level stamp wide)) facts.seen;
  inputs = λ input. input_recorded facts recorded level wide input
      (input_coming input (coming facts (Recorded (Entry recorded level stamp wide))) (facts.inputs input));
}
content_step facts (Ended status stamp) =
    let ended = record facts {
      full = if facts.timely then option_or (full_end (Ended status stamp)) facts.full else None;
      floor = option_or (floor_of (Ended status stamp)) facts.floor;
      seen = seen_below (Ended status stamp) facts.seen;
      polled = false;
      since_poll = λ input. false;
      inputs = λ input. input_ended (settles facts input (Ended status stamp))
          (input_coming input (coming facts (Ended status stamp)) (facts.inputs input));
    } in
    if is_clear_end (Ended status stamp) then below_clear ended stamp else ended

-- an input, after forgetting all times if that is asked
abbrev pub forgetting_input : Bool → InputAbove → InputAbove
forgetting_input forgets above = record above {
  timed = if forgets then None else above.timed;
  shown = if forgets then None else above.shown;
  unlogged = not forgets && above.unlogged;
}

-- the facts, after using one excuse and forgetting all times if an event is excused
abbrev pub forgetting : Bool → ContentFacts → ContentFacts
forgetting forgets facts = record facts {
  excuses = if forgets then one_excuse_less facts.excuses else facts.excuses;
  clock = if forgets then None else facts.clock;
  block_heard = not forgets && facts.block_heard;
  timely = not forgets && facts.timely;
  full = if forgets then None else facts.full;
  aged = not forgets && facts.aged;
  floor = if forgets then None else facts.floor;
  seen = if forgets then None else facts.seen;
  inputs = λ input. forgetting_input forgets (facts.inputs input);
}

-- the facts with an event more
abbrev pub content_with : ContentFacts → ContentEvent → ContentFacts
content_with facts event = forgetting (is_excused facts event) (content_step facts event)

-- ---- both ends begin

-- an input that was configured at the start, and settled
abbrev pub input_begun : InputAbove
input_begun = record no_input {
  item = Some (item_kept (item_at_start 0));
  taken = true;
  shut = true;
  least = filters_of (item_at_start 0);
}

-- what is above the first line if both ends begin there
abbrev pub content_begun : ContentFacts
content_begun = record no_content {
  clear = true;
  clock = Some 0;
  block_heard = true;
  timely = true;
  full = Some 0;
  floor = Some (record { time = 0; input = None });
  inputs = λ input. if nat_lt input INPUTS then input_begun else no_input;
}
