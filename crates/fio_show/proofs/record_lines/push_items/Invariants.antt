use Rattle.std.proofs.Common.{◌≡◌, ◌≤◌, ◌++◌, take}
use Rattle.std.specs.List.{flat_map}
use Rattle.fio_show.specs.EntryLines.{item_line}
use Rattle.fio_show.proofs.record_lines.push_items.Given as goal

-- the text, followed by the lines that are gathered
abbrev pub invariant-loop-item : goal.invariant-loop-item
invariant-loop-item l = record {
  within : l.end ≤ 4096;
  so_far : l.text.items ++ take l.end l.room ≡ l.fn.text.items ++ flat_map item_line (take l.item-index l.items);
}
