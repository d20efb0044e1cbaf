use Rattle.fio_check.proofs.Checkers.{goes_on}
use Rattle.fio_check.proofs.laws.checkers_go_on.Goals as goal

pub returns : goal.returns
returns c = goes_on
