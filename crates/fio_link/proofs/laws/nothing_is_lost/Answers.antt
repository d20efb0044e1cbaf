use Rattle.fio_link.proofs.Promises.{runs_are_sound}
use Rattle.fio_link.proofs.laws.nothing_is_lost.Goals as goal

pub returns-clause-whole : goal.returns-clause-whole
returns-clause-whole c = λ settings first events machine range run none. ((runs_are_sound settings first events machine range run).sound none).unless_full

pub returns-clause-gaps : goal.returns-clause-gaps
returns-clause-gaps c = λ settings first events machine range run none. ((runs_are_sound settings first events machine range run).sound none).gaps
