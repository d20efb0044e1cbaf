use Rattle.std.proofs.Common.{length, ◌-◌, ◌≡◌, ◌≤◌, drop}
use Rattle.fio_log.specs.Clock.{blanks_from}
use Rattle.fio_log.proofs.time_ends.blanks_in.Given as goal

abbrev pub invariant-blanks : goal.invariant-blanks
invariant-blanks l = record {
  same : blanks_from l.count (drop l.count l.text) ≡ blanks_from 0 l.text;
  within : l.count ≤ length l.text;
}

abbrev pub decreases-blanks : goal.decreases-blanks
decreases-blanks l = length l.text - l.count
