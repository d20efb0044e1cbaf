use Rattle.fio_link.proofs.Promises.{runs_are_sound}
use Rattle.fio_link.proofs.laws.settled_points.Goals as goal

pub returns : goal.returns
returns c = λ settings first events machine range run none. ((runs_are_sound settings first events machine range run).sound none).settles
