use Rattle.fio_check.proofs.Names.{is_answering, number_polled, status_of_block, observation_at}
use Rattle.fio_check.proofs.Places.{is_the_latest}
use Rattle.fio_check.proofs.laws.latest_is_latest_above.Goals as goal

pub returns-clause-polls : goal.returns-clause-polls
returns-clause-polls c = λ lines. is_the_latest (λ place. number_polled (observation_at lines place))

pub returns-clause-blocks : goal.returns-clause-blocks
returns-clause-blocks c = λ lines. is_the_latest (λ place. status_of_block (observation_at lines place))

pub returns-clause-turns : goal.returns-clause-turns
returns-clause-turns c = λ lines. is_the_latest (λ place. is_answering (observation_at lines place))
