-- How the CPU responds to octets that it hears.
use Rattle.std.specs.Prelude.{◌≡◌, ◌≢◌, ◌≤◌, ⊤, ℕ, ◌+◌, ◌%◌, ◌==◌, List, [], ◌++◌, length, Option, Some, None, Result, Ok, Err, if◌then◌else◌}
use Rattle.fio_message.specs.declared.answers.Answer.{Answer}
use Rattle.fio_message.specs.declared.answers.Answer.TheVariants as answers
use Rattle.fio_message.specs.declared.faults.DecodeError.{DecodeError}
use Rattle.fio_message.specs.declared.limits.TheConstants.{BLOCK_ENTRIES}
use Rattle.fio_message.specs.Answers.{answer_code}
use Rattle.fio_message.specs.Bits.{bit_of}
use Rattle.fio_message.specs.Blocks.{Block as BlockOf}
use Rattle.fio_message.specs.Status.{says_lost}
use Rattle.fio_message.specs.Views.{EntriesView, entries_of}
use Rattle.fio_cpu.specs.declared.poller.Heard.{Heard}
use Rattle.fio_cpu.specs.declared.poller.Heard.TheVariants.{Unreadable, Other, Stale, Block}
use Rattle.fio_cpu.specs.Poller.{Polling}
use Rattle.fio_cpu.specs.declared.record.Item.{Item}
use Rattle.fio_cpu.specs.Record.{items_of_block}

-- the block that these fields of a view of an answer show
abbrev pub block_shown : ℕ → EntriesView → ℕ → ℕ → BlockOf
block_shown number entries status stamp =
    record { number = number; entries = entries_of entries; status = status; stamp = stamp }

-- a block answer is taken if it has the CPU's number, and is stale otherwise; any other answer is only named
abbrev pub heard_answer : ℕ → Answer → Heard
heard_answer number (answers.Block block entries status stamp) =
    if block == number then Block (length entries.items) status else Stale block
heard_answer number other = Other (answer_code other)

-- what a CPU with this number reports of octets, given how they decode
abbrev pub heard_as : ℕ → Result Answer DecodeError → Heard
heard_as number (Err fault) = Unreadable fault
heard_as number (Ok answer) = heard_answer number answer

-- the CPU after a block answer: if the block has the CPU's number, it is recorded, and the number becomes the next one
-- modulo 256
abbrev pub after_block : Polling → BlockOf → Polling
after_block cpu block =
    if block.number == cpu.number
    then record { number = (cpu.number + 1) % 256; items = cpu.items ++ items_of_block block }
    else cpu

-- the CPU after octets that spell this block, or no block: whatever is no block answer changes nothing
abbrev pub after_hearing : Polling → Option BlockOf → Polling
after_hearing cpu None = cpu
after_hearing cpu (Some block) = after_block cpu block

-- how many items are added to the record if this is heard
abbrev pub items_added : Heard → ℕ
items_added (Block entries status) = bit_of (says_lost status) + entries
items_added other = 0

-- a block that is taken has no more entries than a block may have
abbrev pub HasFewEntries : Heard → Type 0
HasFewEntries (Block entries status) = entries ≤ BLOCK_ENTRIES
HasFewEntries other = ⊤

-- the items that a CPU with this number adds to its record when it hears octets that spell this block, or no block
abbrev pub new_items : ℕ → Option BlockOf → List Item
new_items number None = []
new_items number (Some block) = if block.number == number then items_of_block block else []

-- the number of such a CPU afterwards
abbrev pub next_number : ℕ → Option BlockOf → ℕ
next_number number None = number
next_number number (Some block) = if block.number == number then (number + 1) % 256 else number

-- hearing octets that spell this block, or no block, adds to the record
abbrev pub AddsItems : Polling → Option BlockOf → Type 0
AddsItems cpu None = ⊥
AddsItems cpu (Some block) = (block.number ≡ cpu.number) × (items_of_block block ≢ [])
