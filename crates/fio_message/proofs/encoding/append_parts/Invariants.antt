use Rattle.fio_message.proofs.Names.{FRAME_OCTETS}
use Rattle.fio_message.proofs.PartLoops.{IsPutSoFar}
use Rattle.fio_message.proofs.encoding.append_parts.Given as goal

abbrev pub invariant-loop-part : goal.invariant-loop-part
invariant-loop-part g l = IsPutSoFar g.T.Part.IsPart g.T.Part.part_octets FRAME_OCTETS l.octets l.parts l.part-index l.count
