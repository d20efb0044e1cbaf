use Rattle.fio_input.proofs.Times.{IsWideTime-wide_time_of, wide_time_of_only}
use Rattle.fio_input.proofs.laws.widened_is_one_number.Goals as goal

pub returns-clause-some : goal.returns-clause-some
returns-clause-some c = IsWideTime-wide_time_of

pub returns-clause-only : goal.returns-clause-only
returns-clause-only c = wide_time_of_only
