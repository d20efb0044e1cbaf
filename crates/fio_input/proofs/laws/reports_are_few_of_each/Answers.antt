use Rattle.fio_input.proofs.FiltersThatDiffer.{reports_are_few_of_each, none_applied_stays_as_planned}
use Rattle.fio_input.proofs.laws.reports_are_few_of_each.Goals as goal

pub returns-clause-few : goal.returns-clause-few
returns-clause-few c = reports_are_few_of_each

pub returns-clause-none_applied : goal.returns-clause-none_applied
returns-clause-none_applied c = none_applied_stays_as_planned
