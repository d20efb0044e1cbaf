-- What the rules on content read of a transcript: its events, in order. They are those of a CPU's end that starts at the
-- first poll with the number of that poll, takes each block answer with its number, and then goes on to the next
-- number.
use Rattle.std.specs.Prelude.{ℕ, zero, suc, ◌+◌, ◌%◌, ◌==◌, Bool, true, List, [], ◌∷◌, ◌++◌, map, Option, Some, None, option_map, slice_get, if◌then◌else◌}
use Rattle.std.specs.List.{flat_map}
use Rattle.fio_message.specs.Blocks.{Block, block_answer}
use Rattle.fio_message.specs.declared.answers.Answer.{Answer}
use Rattle.fio_message.specs.declared.answers.Answer.TheVariants as answers
use Rattle.fio_message.specs.declared.commands.Command.{Command}
use Rattle.fio_message.specs.declared.commands.Command.TheVariants as commands
use Rattle.fio_message.specs.declared.fields.InputItem.{InputItem}
use Rattle.fio_message.specs.declared.limits.TheConstants.{INPUTS}
use Rattle.fio_input.specs.declared.filters.TheConstants.{DEFAULT_FILTER}
use Rattle.fio_cpu.specs.Record.{items_of_block}
use Rattle.fio_cpu.specs.declared.record.Item.{Item}
use Rattle.fio_check.specs.Lines.{TranscriptLine, command_from, answer_from, from_first_command}
use Rattle.fio_check.specs.Places.{is_some_and}

-- what the CPU's end does: it sends a command; it hears an answer, but of the block answers only those that it takes; it
-- records an item of a block; or it has recorded all items of a block with this status and stamp
pub data ContentEvent : Type 0 where
  Sent : (command : Command) → ContentEvent
  Heard : (answer : Answer) → ContentEvent
  Recorded : (item : Item) → ContentEvent
  Ended : (status stamp : ℕ) → ContentEvent

-- ---- one frame, by the CPU's number above it, if there is a poll above

-- a block answer with the CPU's number is taken
abbrev pub is_taken : Option ℕ → ℕ → Bool
is_taken number block = is_some_and number (λ due. block == due)

-- the number below a command: that of the first poll
abbrev pub number_with_command : Option ℕ → Command → Option ℕ
number_with_command None (commands.Poll polled) = Some polled
number_with_command number command = number

-- the number below an answer: the next one below a block that is taken
abbrev pub number_with_answer : Option ℕ → Answer → Option ℕ
number_with_answer number (answers.Block block entries status stamp) =
    if is_taken number block then Some ((block + 1) % 256) else number
number_with_answer number answer = number

-- items are recorded, and then their block has ended
abbrev pub items_and_end : List Item → ℕ → ℕ → List ContentEvent
items_and_end items status stamp = map Recorded items ++ (Ended status stamp ∷ [])

-- the events of a block that is taken: it is heard, its items are recorded, and then it has ended
abbrev pub events_of_block : Block → List ContentEvent
events_of_block block =
    Heard (block_answer block) ∷ items_and_end (items_of_block block) block.status block.stamp

-- the events of an answer
abbrev pub events_of_answer : Option ℕ → Answer → List ContentEvent
events_of_answer number (answers.Block block entries status stamp) = if is_taken number block
    then events_of_block (record { number = block; entries = entries.items; status = status; stamp = stamp })
    else []
events_of_answer number answer = Heard answer ∷ []

-- the number after a frame, by its command or its answer
abbrev pub number_after : Option ℕ → Option Command → Option Answer → Option ℕ
number_after number (Some command) heard = number_with_command number command
number_after number None (Some answer) = number_with_answer number answer
number_after number None None = number

-- the events of a frame, by its command or its answer
abbrev pub content_events : Option ℕ → Option Command → Option Answer → List ContentEvent
content_events number (Some command) heard = Sent command ∷ []
content_events number None (Some answer) = events_of_answer number answer
content_events number None None = []

-- the number below a frame, by whether the CPU sent it
abbrev pub number_below : Option ℕ → Bool → List ℕ → Option ℕ
number_below number from_cpu octets =
    number_after number (command_from from_cpu octets) (answer_from from_cpu octets)

-- the events of the frame
abbrev pub events_in : Option ℕ → Bool → List ℕ → List ContentEvent
events_in number from_cpu octets =
    content_events number (command_from from_cpu octets) (answer_from from_cpu octets)

-- ---- all lines

-- an event, and the number of its line
pub record LineEvent : Type 0 where
  pub line : ℕ
  pub event : ContentEvent

-- the events of a line
abbrev pub events_on : Option ℕ → TranscriptLine → List LineEvent
events_on number line = map (λ event. record { line = line.number; event = event })
    (events_in number line.from_cpu line.octets)

-- the events of lines, by the CPU's number above them
abbrev pub events_below : Option ℕ → List TranscriptLine → List LineEvent
events_below number [] = []
events_below number (line ∷ lines) =
    events_on number line ++ events_below (number_below number line.from_cpu line.octets) lines

-- the events of a transcript
abbrev pub events_of_lines : List TranscriptLine → List LineEvent
events_of_lines lines = events_below None lines

-- ---- a log that begins with both ends

-- the configuration of an input at the start of a module: ignored, with the initial filters
abbrev pub item_at_start : ℕ → InputItem
item_at_start input =
    record { input = input; ignore = true; leading = DEFAULT_FILTER; trailing = DEFAULT_FILTER }

-- such an item of each input below a number
unfoldable pub items_at_start : ℕ → List InputItem
items_at_start zero = []
items_at_start (suc input) = items_at_start input ++ (item_at_start input ∷ [])

-- the events that represent the start of both ends above the first line: each input is configured as at the start of a
-- module, and that is accepted; then a clear block without entries is taken, at time 0
abbrev pub events_at_start : List ContentEvent
events_at_start = Sent (commands.ConfigureInputs (record { items = items_at_start INPUTS }))
    ∷ (Heard (answers.ConfigureInputs 0)
    ∷ events_of_block (record { number = 0; entries = []; status = 0; stamp = 0 }))

-- the events above the first line: none if a log begins later than both ends
abbrev pub events_above : Bool → List ContentEvent
events_above begun = if begun then events_at_start else []

-- the lines that are judged: all if a log begins with both ends, else those from the first command on
abbrev pub judged_lines : Bool → List TranscriptLine → List TranscriptLine
judged_lines begun lines = if begun then lines else from_first_command lines

-- the events of a log, by whether it begins with both ends
abbrev pub events_of_log : Bool → List TranscriptLine → List LineEvent
events_of_log begun lines =
    map (λ event. record { line = 0; event = event }) (events_above begun) ++ events_of_lines (judged_lines begun lines)

-- the event at a place, if there is one; the first has place 0
abbrev pub content_event_at : List LineEvent → ℕ → Option ContentEvent
content_event_at events place = option_map (λ found. found.event) (slice_get events place)

-- an event's item, if it records one
abbrev pub item_of_event : ContentEvent → List Item
item_of_event (Recorded item) = item ∷ []
item_of_event event = []

-- the items that events record, in order
abbrev pub recorded_items : List LineEvent → List Item
recorded_items events = flat_map (λ found. item_of_event found.event) events
