use Rattle.fio_check.proofs.Checkers.{finds_the_first_breach}
use Rattle.fio_check.proofs.laws.checkers_find_the_first_breach.Goals as goal

pub returns : goal.returns
returns c = finds_the_first_breach
