use Rattle.std.proofs.Common.{◌≡◌, ◌≤◌, ◌+◌, ◌-◌, ◌<◌, false, drop, length, map}
use Rattle.fio_log.specs.Wordings.{has_one_of}
use Rattle.fio_log.proofs.wordings.has_one_of.Given as goal

abbrev pub invariant-words : goal.invariant-words
invariant-words l = record {
  within : l.start ≤ length l.line + 1;
  rest : l.start ≤ length l.line
      → has_one_of (map (λ one. one.now) l.known) l.line ≡ has_one_of (map (λ one. one.now) l.known) (drop l.start l.line);
  end : length l.line < l.start → has_one_of (map (λ one. one.now) l.known) l.line ≡ false;
}

abbrev pub decreases-words : goal.decreases-words
decreases-words l = length l.line + 1 - l.start
