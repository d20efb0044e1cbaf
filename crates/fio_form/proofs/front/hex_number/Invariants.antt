use Rattle.std.proofs.Common.{length, ◌-◌, ◌≡◌, ◌<◌, ◌≤◌, ◌^◌, drop}
use Rattle.fio_form.specs.Fronts.{value_of}
use Rattle.fio_form.proofs.front.hex_number.Given as goal

abbrev pub invariant-digits : goal.invariant-digits
invariant-digits l = record {
  same : value_of l.value (drop l.place l.digits) ≡ value_of 0 l.digits;
  within : l.place ≤ length l.digits;
  small : l.value < 16 ^ l.place;
}

abbrev pub decreases-digits : goal.decreases-digits
decreases-digits l = length l.digits - l.place
