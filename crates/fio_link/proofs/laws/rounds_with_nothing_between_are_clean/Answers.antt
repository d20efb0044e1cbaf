use Rattle.fio_link.proofs.WithinRounds.{nothing_between_is_clean}
use Rattle.fio_link.proofs.Pauses.{quick_round_after}
use Rattle.fio_link.proofs.laws.rounds_with_nothing_between_are_clean.Goals as goal

pub returns-clause-clean : goal.returns-clause-clean
returns-clause-clean c = nothing_between_is_clean

pub returns-clause-after : goal.returns-clause-after
returns-clause-after c = quick_round_after
