use Rattle.fio_form.proofs.Logs.{read_back}
use Rattle.fio_form.proofs.laws.what_is_written_is_read.Goals as goal

pub returns : goal.returns
returns c = read_back
