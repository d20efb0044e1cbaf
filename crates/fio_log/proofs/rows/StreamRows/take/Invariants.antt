use Rattle.std.proofs.Common.{◌≡◌}
use Rattle.fio_log.proofs.rows.StreamRows.take.Given as goal

abbrev pub invariant-rows : goal.invariant-rows
invariant-rows l = l.told.frames ≡ l.initial.told.frames
