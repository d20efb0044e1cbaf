use Rattle.std.proofs.Common.{length, ◌-◌, ◌≡◌, ◌≤◌, drop}
use Rattle.fio_log.specs.Clock.{no_number, time_number}
use Rattle.fio_log.proofs.time_forms.number_in.Given as goal

abbrev pub invariant-digits : goal.invariant-digits
invariant-digits l = record {
  same : time_number l.most l.number (drop l.number.count l.text) ≡ time_number l.most no_number l.text;
  within : l.number.count ≤ length l.text;
}

abbrev pub decreases-digits : goal.decreases-digits
decreases-digits l = length l.text - l.number.count
