use Rattle.fio_tool.proofs.CommandLineLemmas.{names_tool}
use Rattle.fio_tool.proofs.laws.a_name_names_its_tool.Goals as goal

pub returns : goal.returns
returns c = names_tool
