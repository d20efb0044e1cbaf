use Rattle.std.proofs.Common.{◌≡◌, ◌≤◌, ◌+◌, length, map, take, drop, ◌++◌}
use Rattle.fio_c.specs.Flat.{flat_entry}
use Rattle.fio_c.proofs.blocks.copy_entries.Given as goal

-- the iterator is the list of the entries that are left
abbrev pub invariant-loop-entry : goal.invariant-loop-entry
invariant-loop-entry l = record {
  counted : l.place + length l.entry-iterator ≡ length l.view.entries;
  fits : length l.view.entries ≤ length l.entries;
  copied : take l.place l.entries ++ map flat_entry l.entry-iterator ≡ map flat_entry l.view.entries;
  rest : drop (length l.view.entries) l.entries ≡ drop (length l.view.entries) l.initial.entries;
}
