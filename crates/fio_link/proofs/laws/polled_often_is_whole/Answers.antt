use Rattle.fio_link.proofs.Promises.{runs_are_sound}
use Rattle.fio_link.proofs.WholeRecords.{whole_where_polled_often, whole_where_polled_for_each, whole_after_outage}
use Rattle.fio_link.proofs.laws.polled_often_is_whole.Goals as goal

pub returns-clause-polled_often : goal.returns-clause-polled_often
returns-clause-polled_often c = λ settings first events machine range run none.
    whole_where_polled_often settings range machine ((runs_are_sound settings first events machine range run).sound none).headline.pieces

pub returns-clause-for_each : goal.returns-clause-for_each
returns-clause-for_each c = λ settings first events machine range run none.
    whole_where_polled_for_each settings machine ((runs_are_sound settings first events machine range run).sound none).headline.pieces

pub returns-clause-outage : goal.returns-clause-outage
returns-clause-outage c = λ settings first events machine range run none.
    whole_after_outage settings machine ((runs_are_sound settings first events machine range run).sound none).headline.pieces
