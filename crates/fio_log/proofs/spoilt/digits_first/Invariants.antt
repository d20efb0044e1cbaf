use Rattle.std.proofs.Common.{◌≡◌, ◌≤◌, drop}
use Rattle.fio_log.specs.Spoilt.{digits_after}
use Rattle.fio_log.proofs.spoilt.digits_first.Given as goal

abbrev pub invariant-loop-character : goal.invariant-loop-character
invariant-loop-character l = record {
  digits : digits_after l.count (drop l.character-index l.text) ≡ digits_after 0 l.text;
  few : l.count ≤ l.character-index;
}
