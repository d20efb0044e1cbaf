use Rattle.fio_message.proofs.Names.{◌≡◌, ◌++◌, parts_in}
use Rattle.fio_message.proofs.parts.PartsView.to_array.Given as goal

abbrev pub invariant-loop-part : goal.invariant-loop-part
invariant-loop-part g l = l.parts.items ++ l.part-iterator ≡ parts_in g.T.Part.part_at l.self.octets.now
