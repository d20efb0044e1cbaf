use Rattle.fio_module.proofs.BlockLaws.{blocks_end_within}
use Rattle.fio_module.proofs.WaitingLaws.{scans_add_waiting, new_polls_take_waiting, others_leave_waiting}
use Rattle.fio_module.proofs.laws.waiting_entries.Goals as goal

pub returns-clause-gain : goal.returns-clause-gain
returns-clause-gain c = scans_add_waiting

pub returns-clause-give : goal.returns-clause-give
returns-clause-give c = new_polls_take_waiting

pub returns-clause-kept : goal.returns-clause-kept
returns-clause-kept c = others_leave_waiting

pub returns-clause-within : goal.returns-clause-within
returns-clause-within c = blocks_end_within
