use Rattle.fio_module.proofs.LogOrder.{log_is_in_order, counters_are_scans}
use Rattle.fio_module.proofs.laws.log_is_in_order.Goals as goal

pub returns-clause-scans : goal.returns-clause-scans
returns-clause-scans c = log_is_in_order

pub returns-clause-counters : goal.returns-clause-counters
returns-clause-counters c = counters_are_scans
