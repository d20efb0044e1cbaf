use Rattle.fio_module.proofs.SendingLaws.{sendings_carry, sendings_answer_polls}
use Rattle.fio_module.proofs.laws.block_answers.Goals as goal

pub returns-clause-carries : goal.returns-clause-carries
returns-clause-carries c = sendings_carry

pub returns-clause-numbers : goal.returns-clause-numbers
returns-clause-numbers c = sendings_answer_polls
