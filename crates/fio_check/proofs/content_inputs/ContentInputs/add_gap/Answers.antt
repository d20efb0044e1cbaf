use Rattle.fio_check.proofs.Names.{refl, is_set-zero}
use Rattle.fio_check.proofs.content_inputs.ContentInputs.add_gap.Goals as goal

pub returns : goal.returns
returns c input = rw (is_set-zero input) refl
