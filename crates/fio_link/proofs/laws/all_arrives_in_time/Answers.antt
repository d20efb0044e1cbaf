use Rattle.fio_link.proofs.Promises.{runs_are_sound}
use Rattle.fio_link.proofs.Pauses.{all_arrives_in_time}
use Rattle.fio_link.proofs.laws.all_arrives_in_time.Goals as goal

pub returns : goal.returns
returns c = λ settings first events machine range run. all_arrives_in_time settings first machine (runs_are_sound settings first events machine range run).delivers.kept_up_with
