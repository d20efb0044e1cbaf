use Rattle.fio_check.proofs.FoundTurned.{finds_dropped}
use Rattle.fio_check.proofs.laws.dropped_entries_are_found.Goals as goal

pub returns : goal.returns
returns c = finds_dropped
