use Rattle.fio_message.proofs.Names.{arith}
use Rattle.fio_message.proofs.PartLists.{length-parts_in}
use Rattle.fio_message.proofs.parts.PartsView.iter.Goals as goal

pub returns-clause-fits : goal.returns-clause-fits
returns-clause-fits g c = omega (arith, length-parts_in g.T.Part.part_at c.args.self.now.octets.now, c.args.self.now.fits)
