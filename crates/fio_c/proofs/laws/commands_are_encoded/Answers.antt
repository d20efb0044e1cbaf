use Rattle.fio_c.proofs.GivenBack.{commands_given_back, given_commands_read}
use Rattle.fio_c.proofs.laws.commands_are_encoded.Goals as goal

pub returns-clause-back : goal.returns-clause-back
returns-clause-back c = commands_given_back

pub returns-clause-read : goal.returns-clause-read
returns-clause-read c = given_commands_read
