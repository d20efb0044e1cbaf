use Rattle.std.proofs.Common.{◌≡◌}
use Rattle.fio_log.proofs.by_forms.FormReader.tell_stream.Given as goal

abbrev pub invariant-loop-at : goal.invariant-loop-at
invariant-loop-at l = record {
  forms : l.self.forms ≡ l.initial.self.forms;
  reading : l.self.reading ≡ l.initial.self.reading;
}
