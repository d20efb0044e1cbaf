use Rattle.fio_message.proofs.Names.{refl, arith}
use Rattle.fio_message.proofs.PartLists.{length-parts_in}
use Rattle.fio_message.proofs.parts.PartsIterator.size_hint.Goals as goal

pub returns-clause-lower : goal.returns-clause-lower
returns-clause-lower g c = rw (← c.self.view_is) (λ _. omega (arith, length-parts_in g.T.Part.part_at c.self.inside.octets.now))

pub returns-clause-upper : goal.returns-clause-upper
returns-clause-upper g c = rw (← c.self.view_is) (tt, omega (arith, length-parts_in g.T.Part.part_at c.self.inside.octets.now))

pub returns-clause-exact : goal.returns-clause-exact
returns-clause-exact g c = rw (← c.self.view_is, length-parts_in g.T.Part.part_at c.self.inside.octets.now) refl
