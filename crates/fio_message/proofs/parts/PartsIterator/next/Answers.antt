use Rattle.fio_message.proofs.Names.{arith, take_rest}
use Rattle.fio_message.proofs.PartLists.{parts_in-some}
use Rattle.fio_message.proofs.parts.PartsIterator.next.Goals as goal

pub returns-clause-steps : goal.returns-clause-steps
returns-clause-steps g c = rw (← c.self.view_is, c.of_octets-part.ensures, take_rest c.self.inside.octets.now 3) (parts_in-some g.T.Part.part_at c.self.inside.octets.now c.if-self-lt3.false)

pub returns-clause-goes : goal.returns-clause-goes
returns-clause-goes g c = rw (← c.self.view_is, parts_in-some g.T.Part.part_at c.self.inside.octets.now c.if-self-lt3.false, take_rest c.self.inside.octets.now 3) (record { on = λ _. (tt, tt, omega arith); keeps = tt; rests = λ _. tt })
