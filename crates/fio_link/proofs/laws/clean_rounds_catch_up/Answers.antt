use Rattle.fio_link.proofs.Promises.{runs_are_sound}
use Rattle.fio_link.proofs.laws.clean_rounds_catch_up.Goals as goal

pub returns-clause-taken : goal.returns-clause-taken
returns-clause-taken c = λ settings first events machine range run. (runs_are_sound settings first events machine range run).delivers.takes_all

pub returns-clause-caught_up : goal.returns-clause-caught_up
returns-clause-caught_up c = λ settings first events machine range run. (runs_are_sound settings first events machine range run).delivers.catches_up
