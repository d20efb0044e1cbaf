use Rattle.fio_message.proofs.Names.{arith, sym, ◌∙◌, FRAME_OCTETS}
use Rattle.fio_message.proofs.PartLoops.{put_more, three_octets}
use Rattle.fio_message.proofs.encoding.append_parts.Goals as goal

pub loop-part-preserved : goal.loop-part-preserved
loop-part-preserved g c =
    let step = c.loop-part in
    put_more g.T.Part.IsPart g.T.Part.part_octets FRAME_OCTETS step.octets c.args.parts.now step.part-index step.count
    c.part-item.result _ _ _ c.loop-part-test.true
    (omega (arith, c.loop-part-test.true, c.requires, step.invariant.counted)) c.part-item.is
    c.to_octets-three.ensures.within (sym c.to_octets-three.ensures.spelled ∙ three_octets _ (omega arith)) step.invariant
