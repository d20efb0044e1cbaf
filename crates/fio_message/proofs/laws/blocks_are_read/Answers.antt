use Rattle.fio_message.proofs.MessageLaws.{block_back, block_spelled}
use Rattle.fio_message.proofs.laws.blocks_are_read.Goals as goal

pub returns-clause-back : goal.returns-clause-back
returns-clause-back c = block_back

pub returns-clause-spelled : goal.returns-clause-spelled
returns-clause-spelled c = block_spelled
