use Rattle.std.proofs.Common.{◌≡◌, ◌+◌, ◌≤◌, ◌++◌, length, vec_len}
use Rattle.std.specs.Vec.{vec_capacity}
use Rattle.fio_cpu.proofs.record.extended.Given as goal

-- the iterator is the list of the items that remain: there is room for them, and with them the record is complete
abbrev pub invariant-loop-item : goal.invariant-loop-item
invariant-loop-item l = record {
  fits : vec_len l.kept + length l.item-iterator ≤ vec_capacity l.kept;
  so_far : l.kept.items ++ l.item-iterator ≡ l.fn.kept.items ++ l.items;
}
