use Rattle.std.proofs.Common.{◌≡◌, ◌+◌, ◌≤◌, ◌++◌, length, take, drop, fold}
use Rattle.fio_c.specs.BatchItems.{frame_count}
use Rattle.fio_c.specs.LogCounts.{counts_with_item, times_to_items}
use Rattle.fio_c.proofs.log_counts.count_items.Given as goal

-- the iterator is the list of the items that are left: with them all is counted
abbrev pub invariant-items : goal.invariant-items
invariant-items l = record {
  room : l.at + frame_count l.verdict-iterator ≤ length l.taken;
  next : fold counts_with_item l.counts l.verdict-iterator ≡ fold counts_with_item l.fn.counts l.fn.items;
  taken : take l.at l.taken ++ times_to_items l.counts l.verdict-iterator ≡ times_to_items l.fn.counts l.fn.items;
  rest : drop l.at l.taken ≡ drop l.at l.fn.taken;
}
