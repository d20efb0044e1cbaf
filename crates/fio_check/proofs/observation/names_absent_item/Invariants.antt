use Rattle.fio_check.proofs.Names.{◌≡◌, list_any, items_of, is_absent}
use Rattle.fio_check.proofs.observation.names_absent_item.Given as goal

abbrev pub invariant-loop-item : goal.invariant-loop-item
invariant-loop-item l = list_any (λ item. is_absent item.input) l.item-iterator ≡ list_any (λ item. is_absent item.input) (items_of l.fn.items)
