-- The lines of entries, in records and in the text of a block.
use Rattle.std.specs.Prelude.{ℕ, Bool, List, ◌++◌, codes, decimal}
use Rattle.fio_message.specs.Bits.{bit_of}
use Rattle.fio_cpu.specs.declared.record.Item.{Item}
use Rattle.fio_cpu.specs.declared.record.Item.TheVariants.{Entry, Gap}

-- the end of an entry's line: its stamp and its wide time
abbrev pub scan_ending : ℕ → ℕ → List ℕ
scan_ending stamp wide =
    codes " stamp " ++ (decimal stamp ++ (codes " wide " ++ (decimal wide ++ codes "\n")))

-- the line of an entry, with its wide time
abbrev pub entry_line : ℕ → Bool → ℕ → ℕ → List ℕ
entry_line input level stamp wide =
    codes "input " ++ (decimal input
    ++ (codes " state " ++ (decimal (bit_of level) ++ scan_ending stamp wide)))

-- the line of an item of a record
abbrev pub item_line : Item → List ℕ
item_line Gap = codes "gap\n"
item_line (Entry input level stamp wide) = entry_line input level stamp wide
