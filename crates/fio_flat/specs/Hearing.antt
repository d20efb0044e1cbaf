-- How the poller of a caller in C responds to octets.
use Rattle.std.specs.Prelude.{◌≡◌, ℕ, ◌<◌, ◌≤◌, List, ◌++◌, length, map, drop, replicate, Option, Some, None}
use Rattle.std.specs.Borrow.{MutBor}
use Rattle.fio_message.specs.Bits.{bit_of}
use Rattle.fio_message.specs.Blocks.{Block as BlockOf}
use Rattle.fio_message.specs.Decoding.{decoded_answer, block_in}
use Rattle.fio_cpu.specs.declared.poller.Heard.{Heard}
use Rattle.fio_cpu.specs.declared.poller.Heard.TheVariants as outcomes
use Rattle.fio_cpu.specs.declared.record.Item.{Item}
use Rattle.fio_cpu.specs.declared.record.Item.TheVariants as items
use Rattle.fio_cpu.specs.Hearing.{new_items, heard_as, next_number}
use Rattle.fio_flat.specs.Faults.{no_fault, fault_of}
use Rattle.fio_flat.specs.declared.poller.FlatHeard.{FlatHeard}
use Rattle.fio_flat.specs.declared.poller.RecordItem.{RecordItem}

-- an item of the record in flat form
abbrev pub flat_record_item : Item → RecordItem
flat_record_item items.Gap = record { gap = 1; input = 0; state = 0; reserved = replicate 3 0; stamp = 0; wide = 0 }
flat_record_item (items.Entry input level stamp wide) =
    record {
      gap = 0;
      input = input;
      state = bit_of level;
      reserved = replicate 3 0;
      stamp = stamp;
      wide = wide;
    }

-- nothing was heard except that the octets add `count` items
abbrev pub heard_nothing : ℕ → FlatHeard
heard_nothing count = record {
  kind = 0;
  code = 0;
  number = 0;
  status = 0;
  stamp = 0;
  items = count;
  entries = 0;
  reserved = replicate 5 0;
  fault = no_fault;
}

-- what was heard of octets that add `count` items to the record, in flat form, without the number and the stamp of their
-- block
abbrev pub flat_heard : ℕ → Heard → FlatHeard
flat_heard count (outcomes.Block entries status) =
    record (heard_nothing count) { kind = 0; entries = entries; status = status }
flat_heard count (outcomes.Unreadable error) =
    record (heard_nothing count) { kind = 1; fault = fault_of error }
flat_heard count (outcomes.Other code) = record (heard_nothing count) { kind = 2; code = code }
flat_heard count (outcomes.Stale block) = record (heard_nothing count) { kind = 3 }

-- there is no room for `count` items
abbrev pub heard_no_room : ℕ → FlatHeard
heard_no_room count = record (heard_nothing count) { kind = 4 }

-- what was heard, with the number and the stamp of the block that the octets encode, if they encode one
abbrev pub with_block : Option BlockOf → FlatHeard → FlatHeard
with_block None heard = heard
with_block (Some block) heard = record heard { number = block.number; stamp = block.stamp }

-- the caller's array after items were written to its front, for which there was room
pub record Gain (before : MutBor (List RecordItem)) (items : List Item)
    (after : MutBor (List RecordItem)) : Type 0 where
  pub same : after.ghost_name ≡ before.ghost_name
  pub room : length items ≤ length before.now
  pub written : after.now ≡ map flat_record_item items ++ drop (length items) before.now

-- A poller with this number hears octets that encode the block `found`, or no block, and reports `what`. What they add to
-- its record is written to the front of the caller's items, and its number becomes the next one if a block was taken. If
-- there is no room for all that they add, the poller says so and nothing changes. The number and the stamp of any block are
-- reported.
pub record HearsAs (number : ℕ) (what : Heard) (found : Option BlockOf) (before after : List RecordItem)
    (next : ℕ) (heard : FlatHeard) : Type 0 where
  pub room :
      let items = new_items number found in
      length items ≤ length before →
      (heard ≡ with_block found (flat_heard (length items) what))
      × (next ≡ next_number number found)
      × (after ≡ map flat_record_item items ++ drop (length items) before)
  pub no_room :
      let count = length (new_items number found) in
      length before < count →
      (heard ≡ with_block found (heard_no_room count)) × (next ≡ number) × (after ≡ before)

-- A poller with this number hears these octets.
abbrev pub Hears : ℕ → List ℕ → List RecordItem → List RecordItem → ℕ → FlatHeard → Type 0
Hears number octets before after next heard =
    HearsAs number (heard_as number (decoded_answer octets)) (block_in octets) before after next heard
