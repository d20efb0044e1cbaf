use Rattle.std.proofs.Common.{◌*◌, length}
use Rattle.std.specs.List.{flat_map}
use Rattle.fio_message.specs.Views.{items_of}
use Rattle.fio_show.specs.CommandLines.{item_text}
use Rattle.fio_show.proofs.further_lines.append_items.Given as goal

-- what follows completes the text, and has room
abbrev pub invariant-items : goal.invariant-items
invariant-items g l = record {
  room : g.S.TextSink.has_room l.sink (128 * length l.item-iterator);
  whole :
      (after : g.row.S.Denot) → g.S.TextSink.takes l.sink (flat_map item_text l.item-iterator) after
      → g.S.TextSink.takes l.initial.sink (flat_map item_text (items_of l.fn.items)) after;
}
