use Rattle.std.proofs.Common.{◌≡◌, ◌≤◌, true, length}
use Rattle.fio_log.specs.Heard.{KeepsFirst}
use Rattle.fio_log.proofs.by_forms.FormReader.tell_seconds.Given as goal

abbrev pub invariant-seconds : goal.invariant-seconds
invariant-seconds l = record {
  more : length l.initial.told.frames ≤ length l.told.frames;
  first : KeepsFirst l.initial.told.frames l.told.frames;
  forms : l.self.forms ≡ l.initial.self.forms;
  reading : l.self.reading ≡ l.initial.self.reading;
  none : l.fn.end ≡ length l.fn.line.text.now → (l.from ≡ l.fn.end) × (l.is_all ≡ true) × (l.told.frames ≡ l.initial.told.frames);
}
