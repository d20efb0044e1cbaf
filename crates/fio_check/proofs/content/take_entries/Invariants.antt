use Rattle.fio_check.proofs.Names.{◌≡◌, ◌≤◌, ◌+◌, length, map, fold, option_or, entries_of, item_of, content_with, breach_among, Recorded, facts_kept}
use Rattle.fio_check.proofs.content.take_entries.Given as goal

abbrev pub invariant-entries : goal.invariant-entries
invariant-entries l = record {
  within : l.items + length l.entry-iterator ≤ 256;
  found : option_or l.found (breach_among (facts_kept l.above) l.items (map Recorded (map (item_of l.stamp) l.entry-iterator)))
      ≡ option_or l.fn.found (breach_among (facts_kept l.fn.above) l.fn.items (map Recorded (map (item_of l.stamp) (entries_of l.fn.entries))));
  facts : fold content_with (facts_kept l.above) (map Recorded (map (item_of l.stamp) l.entry-iterator))
      ≡ fold content_with (facts_kept l.fn.above) (map Recorded (map (item_of l.stamp) (entries_of l.fn.entries)));
}
