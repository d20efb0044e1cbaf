use Rattle.fio_ends.proofs.Pollers.{good_is_of_poller}
use Rattle.fio_ends.proofs.laws.good_transcripts_are_of_pollers.Goals as goal

pub returns : goal.returns
returns c = good_is_of_poller
