use Rattle.fio_message.proofs.MessageLaws.{command_back, command_spelled}
use Rattle.fio_message.proofs.laws.commands_are_read.Goals as goal

pub returns-clause-back : goal.returns-clause-back
returns-clause-back c = command_back

pub returns-clause-spelled : goal.returns-clause-spelled
returns-clause-spelled c = command_spelled
