use Rattle.fio_check.proofs.Names.{replicate}
use Rattle.fio_check.proofs.KeptInputs.{nothing_kept, replicated}
use Rattle.fio_check.proofs.content_inputs.ContentInputs.new.Goals as goal

pub returns : goal.returns
returns c input = nothing_kept (replicate 64 0) (replicate 64 1) (replicate 64 1) (replicate 64 1) (replicate 64 1) input
    (replicated 64 1 input) (replicated 64 1 input)
