use Rattle.std.proofs.Common.{length, ◌-◌, ◌≡◌, ◌≤◌, drop}
use Rattle.fio_log.specs.Clock.{form_from, none_read}
use Rattle.fio_log.proofs.time_forms.form_in.Given as goal

abbrev pub invariant-signs : goal.invariant-signs
invariant-signs l = record {
  same : form_from l.read (drop l.place l.form) l.text ≡ form_from none_read l.form l.text;
  within : l.read.count ≤ length l.text;
}

abbrev pub decreases-signs : goal.decreases-signs
decreases-signs l = length l.form - l.place
