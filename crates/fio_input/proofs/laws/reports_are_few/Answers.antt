use Rattle.fio_input.proofs.FewStayOpen.{reports_are_few, configurations_leave_few_open}
use Rattle.fio_input.proofs.laws.reports_are_few.Goals as goal

pub returns-clause-few : goal.returns-clause-few
returns-clause-few c = reports_are_few

pub returns-clause-configured : goal.returns-clause-configured
returns-clause-configured c = configurations_leave_few_open
