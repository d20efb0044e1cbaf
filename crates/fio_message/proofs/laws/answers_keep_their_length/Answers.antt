use Rattle.fio_message.proofs.KeptLengths.{answers_begin_no_other, answers_differ_by_threes, answers_take_any_length}
use Rattle.fio_message.proofs.laws.answers_keep_their_length.Goals as goal

pub returns-clause-beginnings : goal.returns-clause-beginnings
returns-clause-beginnings c = answers_begin_no_other

pub returns-clause-lengths : goal.returns-clause-lengths
returns-clause-lengths c = answers_differ_by_threes

pub returns-clause-any_length : goal.returns-clause-any_length
returns-clause-any_length c = answers_take_any_length
