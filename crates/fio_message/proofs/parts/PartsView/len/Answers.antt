use Rattle.fio_message.proofs.Names.{sym}
use Rattle.fio_message.proofs.PartLists.{length-parts_in}
use Rattle.fio_message.proofs.parts.PartsView.len.Goals as goal

pub returns-clause-value : goal.returns-clause-value
returns-clause-value g c = sym (length-parts_in g.T.Part.part_at c.args.self.now.octets.now)
