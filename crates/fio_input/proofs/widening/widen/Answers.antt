use Rattle.fio_input.proofs.Names.{arith}
use Rattle.std.proofs.lemmas.Nat.{and_mask}
use Rattle.fio_input.specs.Widening.{wide_time_of}
use Rattle.fio_input.proofs.widening.widen.Goals as goal

pub returns-clause-value : goal.returns-clause-value
unfolding wide_time_of
returns-clause-value c = let low = and_mask c.args.answer_stamp 16 in omega arith
