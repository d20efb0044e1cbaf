use Rattle.fio_message.proofs.Marks.{keeps_block_answers}
use Rattle.fio_message.proofs.laws.kept_blocks_are_block_answers.Goals as goal

pub returns : goal.returns
returns c = keeps_block_answers
