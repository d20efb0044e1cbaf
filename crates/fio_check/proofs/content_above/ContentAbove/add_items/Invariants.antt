use Rattle.fio_check.proofs.Names.{◌≡◌, ◌≤◌, drop, items_of, length, facts_kept, with_items}
use Rattle.fio_check.proofs.content_above.ContentAbove.add_items.Given as goal

abbrev pub invariant-items : goal.invariant-items
invariant-items l = record {
  within : l.left ≤ length (items_of l.fn.items);
  facts : facts_kept l.self ≡ with_items (facts_kept l.fn.self) (drop l.left (items_of l.fn.items));
}

abbrev pub decreases-items : goal.decreases-items
decreases-items l = l.left
