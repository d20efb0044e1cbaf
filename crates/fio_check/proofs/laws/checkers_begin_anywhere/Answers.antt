use Rattle.fio_check.proofs.Checkers.{begins_anywhere}
use Rattle.fio_check.proofs.laws.checkers_begin_anywhere.Goals as goal

pub returns : goal.returns
returns c = begins_anywhere
