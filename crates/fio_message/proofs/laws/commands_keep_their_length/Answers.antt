use Rattle.fio_message.proofs.KeptLengths.{commands_begin_no_other, commands_differ_by_threes, commands_take_any_length}
use Rattle.fio_message.proofs.laws.commands_keep_their_length.Goals as goal

pub returns-clause-beginnings : goal.returns-clause-beginnings
returns-clause-beginnings c = commands_begin_no_other

pub returns-clause-lengths : goal.returns-clause-lengths
returns-clause-lengths c = commands_differ_by_threes

pub returns-clause-any_length : goal.returns-clause-any_length
returns-clause-any_length c = commands_take_any_length
