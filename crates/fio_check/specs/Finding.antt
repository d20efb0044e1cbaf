-- What the rules on content always find in a log in which a block has other entries than it was sent with, and by which line.
-- A log may be cut below any of its lines: a fault is found by the last line of a log that has it.
use Rattle.std.specs.Prelude.{◌≡◌, ℕ, ◌+◌, Bool, ◌&&◌, ◌||◌, true, false, not, List, [], ◌∷◌, ◌++◌, Option, Some, None, fold, if◌then◌else◌, is_some, length, option_map, replicate}
use Rattle.fio_message.specs.Blocks.{Block}
use Rattle.fio_message.specs.declared.fields.Entry.{Entry}
use Rattle.fio_cpu.specs.Record.{items_of_block}
use Rattle.fio_check.specs.ContentAbove.{content_at, is_at, latest_said}
use Rattle.fio_check.specs.ContentKnown.{ContentFacts, WatchedState}
use Rattle.fio_check.specs.ContentSaid.{Seen, comes_to, entry_recorded, is_loading}
use Rattle.fio_check.specs.ContentEvents.{ContentEvent, LineEvent, events_of_log, is_taken, number_below}
use Rattle.fio_check.specs.ContentFacts.{is_aging}
use Rattle.fio_check.specs.ContentRules.{steady_state}
use Rattle.fio_check.specs.ContentFaults.{ContentFault, content_fault_in}
use Rattle.fio_check.specs.Lines.{TranscriptLine}
use Rattle.fio_check.specs.Places.{is_some_and}
use Rattle.fio_check.specs.Pollers.{block_on}

-- ---- found

-- a fault is found by the last of these lines: whatever follows them, it is the first fault of the log
pub record IsFoundBy (begun : Bool) (lines : List TranscriptLine) : Type 0 where
  pub fault : ContentFault
  pub found : (below : List TranscriptLine) → content_fault_in begun (lines ++ below) ≡ Some fault

-- ---- a block with other entries

-- the CPU's number below lines, if a poll is among them
abbrev pub number_below_lines : List TranscriptLine → Option ℕ
number_below_lines lines = fold (λ number line. number_below number line.from_cpu line.octets) None lines

-- at this line, below these, the CPU hears a block and takes it
pub record LineTakesBlock (above : List TranscriptLine) (line : TranscriptLine) (block : Block) : Type 0 where
  pub heard : block_on line ≡ Some block
  pub taken : is_taken (number_below_lines above) block.number ≡ true

-- the block with these entries
abbrev pub with_entries : Block → List Entry → Block
with_entries block entries = record block { entries = entries }

-- the line with these octets
abbrev pub with_octets : TranscriptLine → List ℕ → TranscriptLine
with_octets line octets = record line { octets = octets }

-- a line's block has these entries; these octets encode the same block with other entries
pub record ChangesEntries (above : List TranscriptLine) (line : TranscriptLine) (octets : List ℕ) (block : Block)
    (entries others : List Entry) : Type 0 where
  pub was : LineTakesBlock above line (with_entries block entries)
  pub is : LineTakesBlock above (with_octets line octets) (with_entries block others)

-- the entry with the other state
abbrev pub turned : Entry → Entry
turned entry = record entry { level = not entry.level }

-- ---- what is compared

-- what is below lines
abbrev pub content_below : Bool → List TranscriptLine → ContentFacts
content_below begun lines = content_at (events_of_log begun lines) (length (events_of_log begun lines))

-- below these lines the times of neighbouring entries of a block with this stamp are compared: times are known and no load of
-- the counter excuses anything, and the block was made soon after the latest one without C
pub record ComparesTimes (begun : Bool) (lines : List TranscriptLine) (stamp : ℕ) : Type 0 where
  pub timely : (content_below begun lines).timely ≡ true
  pub judged : (content_below begun lines).excuses ≡ 0
  pub soon : is_aging (content_below begun lines) (Some stamp) ≡ false

-- an event shows the state of an input whose latest entry is watched: it is an entry of that input, or the record comes there
-- to states that were asked for, and no item that ignores the input was sent since the clear block above its latest entry
abbrev pub tells_of : Option Seen → ℕ → ContentEvent → WatchedState → Bool
tells_of seen input event watched =
    is_some (entry_recorded input event) || (not watched.shaded && is_some_and seen (λ states. comes_to states event))

-- the states that were asked for and that the record has not come to, if no load of the counter is sent above
abbrev pub seen_unloaded : List LineEvent → ℕ → Option Seen
seen_unloaded events place =
    if is_some (latest_said is_loading events place) then None else (content_at events place).seen

-- at a place the latest entry of an input is compared with an event that shows the state of the input: no change since can
-- have been hidden
abbrev pub is_compared : List LineEvent → ℕ → ℕ → Bool
is_compared events input place = is_at
    (λ event. is_some_and ((content_at events place).inputs input).watched (tells_of (seen_unloaded events place) input event))
    events place

-- at a place the latest entry of an input is watched, and no item that ignores the input was sent since the latest clear block
-- above that entry
abbrev pub is_steady : List LineEvent → ℕ → ℕ → Bool
is_steady events input place = is_some (steady_state ((content_at events place).inputs input).watched)

-- the place of the latest entry of an input above a place
abbrev pub place_of_latest : List LineEvent → ℕ → ℕ → Option ℕ
place_of_latest events input place =
    option_map (λ found. found.place) (latest_said (entry_recorded input) events place)

-- the entry of this input that is compared at a place is the one at an earlier place
pub record IsComparedAt (events : List LineEvent) (input earlier place : ℕ) : Type 0 where
  pub latest : place_of_latest events input place ≡ Some earlier
  pub compared : is_compared events input place ≡ true

-- the place of the entry of a block that follows these in it: the block is heard, and its items above that entry are recorded
abbrev pub place_of_entry : Bool → List TranscriptLine → Block → List Entry → ℕ
place_of_entry begun above block front =
    length (events_of_log begun above) + (1 + length (items_of_block (with_entries block front)))

-- ---- what is found

-- Doubled: where times are compared, an entry is in a block twice in succession. The fault is found by that block, whatever
-- else is in the log.
abbrev pub FindsDoubled : Bool → Type 0
FindsDoubled begun =
    (above : List TranscriptLine) (line : TranscriptLine) (block : Block) (front back : List Entry) (entry : Entry)
    → ComparesTimes begun above block.stamp
    → LineTakesBlock above line (with_entries block (front ++ (replicate 2 entry ++ back)))
    → IsFoundBy begun (above ++ (line ∷ []))

-- Swapped: where times are compared, two neighbours in a block are exchanged, in a log that had no fault. The fault is found
-- by that block.
abbrev pub FindsSwapped : Bool → Type 0
FindsSwapped begun =
    (above : List TranscriptLine) (line : TranscriptLine) (octets : List ℕ) (block : Block) (front back : List Entry)
    (entry other : Entry)
    → ComparesTimes begun above block.stamp
    → content_fault_in begun (above ++ (line ∷ [])) ≡ None
    → ChangesEntries above line octets block (front ++ (entry ∷ (other ∷ back))) (front ++ (other ∷ (entry ∷ back)))
    → IsFoundBy begun (above ++ (with_octets line octets ∷ []))

-- Turned: the state of an entry is inverted, in a log that had no fault. The fault is found by its block if an earlier entry
-- of its input is compared with it.
abbrev pub FindsTurned : Bool → Type 0
FindsTurned begun =
    (above : List TranscriptLine) (line : TranscriptLine) (octets : List ℕ) (block : Block) (front back : List Entry)
    (entry : Entry)
    → content_fault_in begun (above ++ (line ∷ [])) ≡ None
    → ChangesEntries above line octets block (front ++ (entry ∷ back)) (front ++ (turned entry ∷ back))
    → is_compared (events_of_log begun (above ++ (line ∷ []))) entry.input (place_of_entry begun above block front) ≡ true
    → IsFoundBy begun (above ++ (with_octets line octets ∷ []))

-- Turned: the fault is found by the line at which the entry is compared, if it is compared later.
abbrev pub FindsTurnedLater : Bool → Type 0
FindsTurnedLater begun =
    (above below : List TranscriptLine) (line : TranscriptLine) (octets : List ℕ) (block : Block) (front back : List Entry)
    (entry : Entry) (place : ℕ)
    → content_fault_in begun (above ++ (line ∷ below)) ≡ None
    → ChangesEntries above line octets block (front ++ (entry ∷ back)) (front ++ (turned entry ∷ back))
    → IsComparedAt (events_of_log begun (above ++ (line ∷ below))) entry.input (place_of_entry begun above block front) place
    → IsFoundBy begun (above ++ (with_octets line octets ∷ below))

-- Dropped: an entry is left out of its block, in a log that had no fault. The fault is found by the line at which the entry
-- was compared, if an earlier entry of its input was compared with it, and no item that ignores the input was sent since the
-- clear block above that one.
abbrev pub FindsDropped : Bool → Type 0
FindsDropped begun =
    (above below : List TranscriptLine) (line : TranscriptLine) (octets : List ℕ) (block : Block) (front back : List Entry)
    (entry : Entry) (place : ℕ)
    → content_fault_in begun (above ++ (line ∷ below)) ≡ None
    → ChangesEntries above line octets block (front ++ (entry ∷ back)) (front ++ back)
    → is_steady (events_of_log begun (above ++ (line ∷ below))) entry.input (place_of_entry begun above block front) ≡ true
    → IsComparedAt (events_of_log begun (above ++ (line ∷ below))) entry.input (place_of_entry begun above block front) place
    → IsFoundBy begun (above ++ (with_octets line octets ∷ below))
