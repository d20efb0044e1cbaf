use Rattle.fio_check.proofs.UnloadedLogs.{judges_unloaded, supposes_no_load}
use Rattle.fio_check.proofs.laws.unloaded_logs_excuse_no_load.Goals as goal

pub returns-clause-none : goal.returns-clause-none
returns-clause-none c = supposes_no_load

pub returns-clause-lines : goal.returns-clause-lines
returns-clause-lines c = judges_unloaded
