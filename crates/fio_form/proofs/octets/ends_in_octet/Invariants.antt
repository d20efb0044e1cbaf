use Rattle.std.proofs.Common.{length, ◌-◌, ◌≡◌, ◌≤◌, drop}
use Rattle.fio_form.specs.Octets.{ends_open}
use Rattle.fio_form.specs.declared.octets.Begun.TheVariants.{Nothing}
use Rattle.fio_form.proofs.octets.ends_in_octet.Given as goal

abbrev pub invariant-characters : goal.invariant-characters
invariant-characters l = record {
  same : ends_open l.digits l.begun (drop l.place l.text) ≡ ends_open l.digits Nothing l.text;
  within : l.place ≤ length l.text;
}

abbrev pub decreases-characters : goal.decreases-characters
decreases-characters l = length l.text - l.place
