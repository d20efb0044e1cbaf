use Rattle.fio_input.proofs.Names.{◌≤◌}
use Rattle.fio_input.proofs.Present.{front}
use Rattle.fio_input.proofs.filters.first_bad_item.Given as goal

-- the items that the loop has gone through are of the front
abbrev pub invariant-loop-place : goal.invariant-loop-place
invariant-loop-place g l = l.place ≤ front (g.C.Configuration.items l.items)
