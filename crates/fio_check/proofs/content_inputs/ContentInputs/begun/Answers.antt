use Rattle.fio_check.proofs.Names.{refl, replicate, DEFAULT_FILTER}
use Rattle.fio_check.proofs.KeptInputs.{begun_kept}
use Rattle.fio_check.proofs.content_inputs.ContentInputs.begun.Goals as goal

pub returns : goal.returns
returns c input = begun_kept (replicate 64 0) DEFAULT_FILTER input refl
