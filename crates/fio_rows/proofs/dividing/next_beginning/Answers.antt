-- what is not found at an index is looked for after it
use Rattle.std.proofs.Common.{arith}
use Rattle.fio_rows.proofs.Beginnings.{beginning_past_index, beginning_at_index}
use Rattle.fio_rows.proofs.dividing.next_beginning.Goals as goal

pub loop-at-preserved : goal.loop-at-preserved
loop-at-preserved c = grind (arith, beginning_past_index)

pub returns-then-goes_on-clause-exact : goal.returns-then-goes_on-clause-exact
returns-then-goes_on-clause-exact c = grind (arith, beginning_at_index)
