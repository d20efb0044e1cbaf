use Rattle.std.proofs.Common.{◌≡◌, fold}
use Rattle.fio_c.specs.LogSigns.{signs_with_item}
use Rattle.fio_c.proofs.log_signs.take_items.Given as goal

-- the iterator is the list of the items that are left: with them all is taken
abbrev pub invariant-items : goal.invariant-items
invariant-items l = fold (signs_with_item l.as_said) l.signs l.verdict-iterator ≡ fold (signs_with_item l.as_said) l.fn.signs l.fn.items
