use Rattle.std.proofs.Common.{◌≡◌, ℕ, ◌-◌, ◌<◌, ◌≤◌, true, length}
use Rattle.std.specs.Prelude.{slice_index}
use Rattle.fio_log.specs.Lines.{is_plain}
use Rattle.fio_log.proofs.lines.plain_count.Given as goal

abbrev pub invariant-eights : goal.invariant-eights
invariant-eights l = record {
  within : l.count ≤ length l.text;
  plain : (place : ℕ) → place < l.count → is_plain (slice_index l.text place) ≡ true;
}

abbrev pub decreases-eights : goal.decreases-eights
decreases-eights l = length l.text - l.count

abbrev pub invariant-octets : goal.invariant-octets
invariant-octets l = record {
  within : l.count ≤ length l.text;
  plain : (place : ℕ) → place < l.count → is_plain (slice_index l.text place) ≡ true;
}

abbrev pub decreases-octets : goal.decreases-octets
decreases-octets l = length l.text - l.count
