use Rattle.std.proofs.Common.{◌≡◌, ◌≤◌, ◌+◌, length, map, take, drop, ◌++◌}
use Rattle.fio_message.specs.Views.{items_of}
use Rattle.fio_c.specs.Flat.{flat_item}
use Rattle.fio_c.proofs.commands.copy_items.Given as goal

-- the iterator is the list of the items that are left
abbrev pub invariant-loop-item : goal.invariant-loop-item
invariant-loop-item l = record {
  counted : l.place + length l.item-iterator ≡ length (items_of l.fn.read);
  fits : length (items_of l.fn.read) ≤ length l.items;
  copied : take l.place l.items ++ map flat_item l.item-iterator ≡ map flat_item (items_of l.fn.read);
  rest : drop (length (items_of l.fn.read)) l.items ≡ drop (length (items_of l.fn.read)) l.initial.items;
}
