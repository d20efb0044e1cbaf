use Rattle.fio_check.proofs.Names.{refl, is_set-zero}
use Rattle.fio_check.proofs.KeptInputs.{answer_taken}
use Rattle.fio_check.proofs.content_inputs.ContentInputs.add_answer.Goals as goal

pub returns-then-accepted : goal.returns-then-accepted
returns-then-accepted c input = rw c.if-accepted.true (answer_taken c.args.self.now input)

pub returns-else-accepted : goal.returns-else-accepted
returns-else-accepted c input = rw (c.if-accepted.false, is_set-zero input) refl
