use Rattle.std.proofs.Common.{[], ◌∷◌, arith}
use Rattle.fio_show.specs.FrameLines.{frame_text}
use Rattle.fio_c.proofs.Overwriting.{buffer_with-more, writes-text}
use Rattle.fio_c.proofs.show.fio2070_show.Goals as goal

pub returns-then-count-text : goal.returns-then-count-text
returns-then-count-text c =
    let words = frame_text c.args.octets.now in
    let before = c.args.text.now in
    let count = c.write_lines-count.result in
    let room = c.if-count-text.true in
    let long = c.write_lines-count.ensures.counted in
    let here = c.write_lines.ensures.written (omega (arith, c.write_lines.ensures.counted, long, room)) in
    writes-text words before c.write_at.new.out count (omega (arith, long)) room
    (buffer_with-more 0 count words (0 ∷ []) before c.write_lines.new.text c.write_at.new.out (omega (arith, long)) (omega (arith, room)) here c.write_at.ensures)
