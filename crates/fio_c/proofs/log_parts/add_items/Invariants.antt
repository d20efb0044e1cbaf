use Rattle.std.proofs.Common.{◌≡◌, ◌+◌, ◌≤◌, ◌==◌, ◌++◌, [], drop}
use Rattle.fio_c.specs.BatchItems.{AreShort, frame_count, line_count, octet_count}
use Rattle.fio_c.specs.Logs.{Content, Holds}
use Rattle.fio_c.proofs.LogParts.{frames_by_items, lines_by_items}
use Rattle.fio_c.proofs.log_parts.add_items.Given as goal

-- the iterator is the list of the items that are left: with them the part is complete
abbrev pub invariant-items : goal.invariant-items
invariant-items l = record {
  count : l.part.verdict_count ≡ l.line;
  lines : l.line + line_count l.verdict-iterator ≡ line_count l.fn.items;
  frames : l.part.frame_count + frame_count l.verdict-iterator ≤ frame_count l.fn.items;
  octets : l.part.octet_count + octet_count l.verdict-iterator ≤ octet_count l.fn.items;
  short : AreShort l.verdict-iterator;
  above : Content;
  held : Holds l.part above;
  verdicts_all : above.verdicts ++ lines_by_items (drop l.line l.mask) l.verdict-iterator ≡ lines_by_items l.mask l.fn.items;
  frames_all : above.frames ++ frames_by_items (l.how == 1) (drop l.line l.mask) l.verdict-iterator
      ≡ frames_by_items (0 == 1) l.mask l.fn.items;
  places : above.places ≡ [];
}
