-- each octet is where it is found, of a line that begins and of a row that goes on
use Rattle.fio_rows.proofs.PlaceLaws.{first_there, next_there}
use Rattle.fio_rows.proofs.laws.octets_stand_where_they_are_found.Goals as goal

pub returns-clause-first : goal.returns-clause-first
returns-clause-first c = first_there

pub returns-clause-next : goal.returns-clause-next
returns-clause-next c = next_there
