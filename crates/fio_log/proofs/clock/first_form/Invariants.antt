use Rattle.std.proofs.Common.{length, ◌-◌, ◌≡◌, drop, map}
use Rattle.fio_log.specs.Clock.{first_form}
use Rattle.fio_log.proofs.clock.first_form.Given as goal

abbrev pub invariant-forms : goal.invariant-forms
invariant-forms l = record {
  same : first_form (map (λ form. form.now) (drop l.place l.forms)) l.text ≡ first_form (map (λ form. form.now) l.forms) l.text;
}

abbrev pub decreases-forms : goal.decreases-forms
decreases-forms l = length l.forms - l.place
