-- The headline. After any list of scans, line syncs, polls, other commands and in-order deliveries with losses and immediate
-- repeats, but without module restarts, the CPU's record is the module's transition list from its start through the last
-- block taken, each entry once and in order. Entries are missing only at gap marks, and each gap mark is where an overflow
-- was flagged; up to the first mark the record is a prefix of that list.
use Rattle.std.specs.Prelude.{◌≡◌, ℕ, List, map, take}
use Rattle.std.specs.List.{AllByRecursion}
use Rattle.fio_module.specs.Settings.{Settings}
use Rattle.fio_module.specs.Life.{life_of}
use Rattle.fio_module.specs.Blocks.{end_of_blocks, blocks_of}
use Rattle.fio_cpu.specs.declared.record.Item.{Item}
use Rattle.fio_link.specs.declared.event.Event.{Event}
use Rattle.fio_link.specs.declared.event.Event.TheVariants.{Restart}
use Rattle.fio_link.specs.Link.{Machine, IsRun}
use Rattle.fio_link.specs.Pieces.{piece_of, ArePieces, until_gap, BeginLog}

-- an event that does not restart the module
abbrev pub IsNotRestart : Event → Type 0
IsNotRestart Restart = ⊥
IsNotRestart other = Unit {0}

-- none of these events restarts the module
abbrev pub HaveNoRestart : List Event → Type 0
HaveNoRestart events = AllByRecursion IsNotRestart events

-- the place in the log where the last block that the CPU has taken ends, or 0 if it has taken none
abbrev pub end_taken : Settings → Machine → ℕ
end_taken settings machine =
    end_of_blocks (take machine.round (blocks_of settings (life_of machine.history)))

-- The record is the log from its start through the last block taken, and up to the first gap mark a prefix of it.
pub record RecordIsLog (settings : Settings) (machine : Machine) : Type 0 where
  pub pieces :
      ArePieces settings (life_of machine.history) 0
      (map piece_of machine.items) (end_taken settings machine)
  pub prefix : BeginLog (life_of machine.history) (until_gap (map piece_of machine.items))

-- the headline for the record that a CPU has after these events
abbrev pub Headline : Settings → ℕ → List Event → List Item → Type 0
Headline settings first events items = HaveNoRestart events →
    (machine : Machine) × IsRun settings first events machine × (machine.items ≡ items)
    × RecordIsLog settings machine
