use Rattle.fio_check.proofs.Names.{arith}
use Rattle.fio_check.proofs.KeptSettled.{come_kept}
use Rattle.fio_check.proofs.content_inputs.ContentInputs.come_to.Goals as goal

pub returns : goal.returns
returns c input stamp = come_kept c.args.self.now c.args.levels stamp input (omega arith) (omega arith) (omega arith)
