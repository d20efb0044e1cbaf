use Rattle.fio_check.proofs.Names.{arith}
use Rattle.fio_check.proofs.InputSets.{put_in, take_out}
use Rattle.fio_check.proofs.input_sets.with_input.Goals as goal

pub returns-then-holds : goal.returns-then-holds
returns-then-holds c other = rw c.if-holds.true (put_in c.args.set c.args.input (omega arith) other)

pub returns-else-holds : goal.returns-else-holds
returns-else-holds c other = rw c.if-holds.false (take_out c.args.set c.args.input (omega arith) other (omega arith))
