use Rattle.std.proofs.Common.{◌≡◌}
use Rattle.fio_log.proofs.by_forms.FormReader.add.Given as goal

abbrev pub invariant-loop-form : goal.invariant-loop-form
invariant-loop-form l = record {
  reading : l.self.reading ≡ l.initial.self.reading;
  rows : l.self.rows ≡ l.initial.self.rows;
}
