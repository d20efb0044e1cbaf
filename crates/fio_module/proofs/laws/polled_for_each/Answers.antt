use Rattle.fio_module.proofs.FiltersThatDiffer.{polled_for_each_loses_none}
use Rattle.fio_module.proofs.laws.polled_for_each.Goals as goal

pub returns : goal.returns
returns c = polled_for_each_loses_none
