use Rattle.fio_link.proofs.Promises.{answers_carry_blocks}
use Rattle.fio_link.proofs.laws.answers_carry_blocks.Goals as goal

pub returns : goal.returns
returns c = answers_carry_blocks
