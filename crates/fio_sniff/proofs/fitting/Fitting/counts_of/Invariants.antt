use Rattle.std.proofs.Common.{◌≡◌, ◌+◌, ◌-◌, ◌≤◌, length, drop}
use Rattle.fio_sniff.specs.Windows.{damaged_by, had_by, messages_by}
use Rattle.fio_sniff.proofs.fitting.Fitting.counts_of.Given as goal

abbrev pub invariant-lines : goal.invariant-lines
invariant-lines l = record {
  had : l.counts.had + had_by l.above l.form (drop l.at l.lines) ≡ had_by l.above l.form l.lines;
  said : l.counts.said + messages_by l.above l.form (drop l.at l.lines) ≡ messages_by l.above l.form l.lines;
  damaged : l.counts.damaged + damaged_by l.above l.form (drop l.at l.lines) ≡ damaged_by l.above l.form l.lines;
  bound : l.counts.had ≤ l.at;
  less : l.counts.said ≤ l.at;
  few : l.counts.damaged ≤ l.at;
}

abbrev pub decreases-lines : goal.decreases-lines
decreases-lines l = length l.lines - l.at
