use Rattle.fio_link.proofs.Pauses.{outages_are_possible, rounds_catch_up, standard_limits_have_room}
use Rattle.fio_link.proofs.laws.outages_within_a_pace.Goals as goal

pub returns-clause-possible : goal.returns-clause-possible
returns-clause-possible c = outages_are_possible

pub returns-clause-caught_up : goal.returns-clause-caught_up
returns-clause-caught_up c = rounds_catch_up

pub returns-clause-standard : goal.returns-clause-standard
returns-clause-standard c = standard_limits_have_room
