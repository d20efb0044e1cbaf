use Rattle.fio_form.proofs.Cuts.{cut_seen}
use Rattle.fio_form.proofs.laws.a_cut_line_is_not_another.Goals as goal

pub returns : goal.returns
returns c = cut_seen
