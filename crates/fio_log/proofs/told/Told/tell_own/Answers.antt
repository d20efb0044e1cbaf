use Rattle.std.proofs.Common.{sym, arith, length-take-le}
use Rattle.fio_log.proofs.OwnVerdictLemmas.{frame-short, frame-spells}
use Rattle.fio_log.proofs.told.Told.tell_own.Goals as goal

pub slice_bounds-room-end : goal.slice_bounds-room-end
slice_bounds-room-end c = omega (arith, frame-short _ _ _ _ c.in-Frame.ensures)

pub slice_bounds-take_own-end : goal.slice_bounds-take_own-end
slice_bounds-take_own-end c =
    let short = frame-short _ _ _ _ c.in-Frame.ensures in
    sym (length-take-le _ c.read_own_line.new.room (omega (arith, short, c.read_own_line.array_long)))

pub take_own-requires : goal.take_own-requires
take_own-requires c = record {
  none = c.clear.ensures.frames;
  spelled = frame-spells _ _ _ _ c.in-Frame.ensures;
}
