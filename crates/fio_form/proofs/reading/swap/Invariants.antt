use Rattle.std.proofs.Common.{length, ◌-◌, ◌≡◌, ◌≤◌, ◌++◌, drop}
use Rattle.fio_form.specs.Reading.{in_words}
use Rattle.fio_form.proofs.reading.swap.Given as goal

abbrev pub invariant-words : goal.invariant-words
invariant-words l = record {
  same : l.words.items ++ in_words (drop l.at l.octets.items) ≡ in_words l.octets.items;
  size : length l.words.items ≡ l.at;
  within : l.at ≤ l.count;
}

abbrev pub decreases-words : goal.decreases-words
decreases-words l = l.count - l.at
