-- What the CPU records of a block that it takes.
use Rattle.std.specs.Prelude.{ℕ, Bool, List, [], ◌∷◌, ◌++◌, map, if◌then◌else◌}
use Rattle.fio_message.specs.declared.fields.Entry.{Entry as EntryOf}
use Rattle.fio_message.specs.Blocks.{Block}
use Rattle.fio_message.specs.Status.{says_lost}
use Rattle.fio_input.specs.Widening.{wide_time_of}
use Rattle.fio_cpu.specs.declared.record.Item.{Item}
use Rattle.fio_cpu.specs.declared.record.Item.TheVariants.{Entry, Gap}

-- an entry as an item of the record, from an answer with this stamp: its wide time is widened from that stamp
abbrev pub item_of : ℕ → EntryOf → Item
item_of stamp entry = Entry entry.input entry.level entry.stamp (wide_time_of stamp entry.stamp)

-- a gap mark, if entries were lost
abbrev pub gap_if : Bool → List Item
gap_if lost = if lost then Gap ∷ [] else []

-- what taking a block appends to the record: one gap mark if F is set, then all its entries in order
abbrev pub items_of_block : Block → List Item
items_of_block block = gap_if (says_lost block.status) ++ map (item_of block.stamp) block.entries
