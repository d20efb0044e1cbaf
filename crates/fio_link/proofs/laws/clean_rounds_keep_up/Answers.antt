use Rattle.fio_link.proofs.Promises.{runs_are_sound}
use Rattle.fio_link.proofs.Pauses.{round_is_in_time}
use Rattle.fio_link.proofs.laws.clean_rounds_keep_up.Goals as goal

pub returns-clause-blocks : goal.returns-clause-blocks
returns-clause-blocks c = λ settings first events machine range run. (runs_are_sound settings first events machine range run).delivers.makes_blocks

pub returns-clause-in_time : goal.returns-clause-in_time
returns-clause-in_time c = round_is_in_time
