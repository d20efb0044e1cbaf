use Rattle.fio_link.proofs.Promises.{runs_are_sound}
use Rattle.fio_link.proofs.laws.all_arrives_where_kept_up_with.Goals as goal

pub returns : goal.returns
returns c = λ settings first events machine range run. (runs_are_sound settings first events machine range run).delivers.kept_up_with
