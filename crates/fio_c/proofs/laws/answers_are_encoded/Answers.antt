use Rattle.fio_c.proofs.GivenBack.{answers_given_back, given_answers_read}
use Rattle.fio_c.proofs.laws.answers_are_encoded.Goals as goal

pub returns-clause-back : goal.returns-clause-back
returns-clause-back c = answers_given_back

pub returns-clause-read : goal.returns-clause-read
returns-clause-read c = given_answers_read
