use Rattle.fio_link.proofs.ForEach.{all_arrives_for_each}
use Rattle.fio_link.proofs.Promises.{opens}
use Rattle.fio_link.proofs.laws.all_arrives_for_each.Goals as goal

pub returns : goal.returns
returns c = λ settings first events machine range run.
    all_arrives_for_each settings range first machine (opens settings first events machine range run)
