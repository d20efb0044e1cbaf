use Rattle.std.proofs.Common.{length, ◌-◌, ◌≡◌, ◌≤◌, drop}
use Rattle.fio_log.specs.Clock.{gap_from}
use Rattle.fio_log.proofs.time_forms.gap_in.Given as goal

abbrev pub invariant-gap : goal.invariant-gap
invariant-gap l = record {
  same : gap_from l.count (drop l.count l.text) ≡ gap_from 0 l.text;
  within : l.count ≤ length l.text;
}

abbrev pub decreases-gap : goal.decreases-gap
decreases-gap l = length l.text - l.count
