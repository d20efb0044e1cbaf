use Rattle.std.proofs.Common.{ap, ◌∙◌, arith}
use Rattle.fio_flat.specs.Written.{buffer_with}
use Rattle.fio_c.proofs.Overwriting.{part-more}
use Rattle.fio_c.proofs.parts.write_parts.Goals as goal

pub loop-part-preserved : goal.loop-part-preserved
loop-part-preserved g c =
    let loop = c.loop-part in
    record {
      counted = omega arith;
      written = part-more g.T.FlatPart.spelled g.T.FlatPart.three c.args.from loop.place loop.part-index c.args.parts.now c.part-item.result
          c.args.out.now loop.out c.write_at.new.out loop.invariant.counted c.loop-part-test.true c.requires.room loop.invariant.written
          (c.write_at.ensures ∙ ap (λ octets. buffer_with loop.place octets loop.out) (c.octets.ensures ∙ ap g.T.FlatPart.spelled c.part-item.is));
    }
