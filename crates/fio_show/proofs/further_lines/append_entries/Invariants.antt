use Rattle.std.proofs.Common.{◌*◌, length}
use Rattle.std.specs.List.{flat_map}
use Rattle.fio_message.specs.Views.{entries_of}
use Rattle.fio_show.specs.AnswerLines.{entry_text}
use Rattle.fio_show.proofs.further_lines.append_entries.Given as goal

-- what follows completes the text, and has room
abbrev pub invariant-entries : goal.invariant-entries
invariant-entries g l = record {
  room : g.S.TextSink.has_room l.sink (128 * length l.entry-iterator);
  whole :
      (after : g.row.S.Denot) → g.S.TextSink.takes l.sink (flat_map (entry_text l.stamp) l.entry-iterator) after
      → g.S.TextSink.takes l.initial.sink (flat_map (entry_text l.stamp) (entries_of l.fn.entries)) after;
}
