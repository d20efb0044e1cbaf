use Rattle.std.proofs.Common.{◌≡◌, ◌≤◌, ◌+◌, length, map, take, drop, ◌++◌}
use Rattle.fio_flat.specs.Hearing.{flat_record_item}
use Rattle.fio_c.proofs.poller.write_items.Given as goal

-- the iterator is the list of the items that are left
abbrev pub invariant-loop-item : goal.invariant-loop-item
invariant-loop-item l = record {
  counted : l.place + length l.item-iterator ≡ length l.items;
  fits : length l.items ≤ length l.places;
  written : take l.place l.places ++ map flat_record_item l.item-iterator ≡ map flat_record_item l.items;
  rest : drop (length l.items) l.places ≡ drop (length l.items) l.initial.places;
}
