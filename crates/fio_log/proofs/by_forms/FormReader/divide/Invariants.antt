use Rattle.std.proofs.Common.{◌≡◌}
use Rattle.fio_log.proofs.by_forms.FormReader.divide.Given as goal

abbrev pub invariant-parts : goal.invariant-parts
invariant-parts l = record {
  forms : l.self.forms ≡ l.initial.self.forms;
  reading : l.self.reading ≡ l.initial.self.reading;
}
