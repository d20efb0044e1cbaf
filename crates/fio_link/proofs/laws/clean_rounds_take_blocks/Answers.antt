use Rattle.fio_link.proofs.Promises.{runs_are_sound}
use Rattle.fio_link.proofs.laws.clean_rounds_take_blocks.Goals as goal

pub returns-clause-possible : goal.returns-clause-possible
returns-clause-possible c = λ settings first events machine range run. (runs_are_sound settings first events machine range run).delivers.takes_block

pub returns-clause-each : goal.returns-clause-each
returns-clause-each c = λ settings first events machine range run. (runs_are_sound settings first events machine range run).delivers.takes_one
