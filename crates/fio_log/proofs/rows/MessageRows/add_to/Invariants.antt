use Rattle.std.proofs.Common.{◌≡◌, ◌+◌, length}
use Rattle.fio_log.proofs.rows.MessageRows.add_to.Given as goal

abbrev pub invariant-loop-place : goal.invariant-loop-place
invariant-loop-place l = record {
  frames : l.told.frames ≡ l.initial.told.frames;
  places : length l.told.places ≡ length l.initial.told.places + l.place-index;
}
