use Rattle.fio_message.proofs.StatusBits.{status_back}
use Rattle.fio_message.proofs.laws.status_reads_back.Goals as goal

pub returns-clause-block : goal.returns-clause-block
returns-clause-block c more lost again out_of_sequence = status_back more lost again out_of_sequence
