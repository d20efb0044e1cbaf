use Rattle.fio_module.proofs.Alternation.{transitions_alternate}
use Rattle.fio_module.proofs.laws.transitions_alternate.Goals as goal

pub returns : goal.returns
returns c = transitions_alternate
