use Rattle.fio_check.proofs.FoundTurned.{finds_turned, finds_turned_later}
use Rattle.fio_check.proofs.laws.turned_entries_are_found.Goals as goal

pub returns-clause-at_once : goal.returns-clause-at_once
returns-clause-at_once c = finds_turned

pub returns-clause-later : goal.returns-clause-later
returns-clause-later c = finds_turned_later
