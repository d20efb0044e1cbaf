use Rattle.fio_message.proofs.MessageLaws.{answer_back, answer_spelled}
use Rattle.fio_message.proofs.laws.answers_are_read.Goals as goal

pub returns-clause-back : goal.returns-clause-back
returns-clause-back c = answer_back

pub returns-clause-spelled : goal.returns-clause-spelled
returns-clause-spelled c = answer_spelled
