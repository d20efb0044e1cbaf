use Rattle.fio_message.proofs.MessageLaws.{poll_back, poll_spelled}
use Rattle.fio_message.proofs.laws.polls_are_read.Goals as goal

pub returns-clause-back : goal.returns-clause-back
returns-clause-back c = poll_back

pub returns-clause-spelled : goal.returns-clause-spelled
returns-clause-spelled c = poll_spelled
