use Rattle.std.proofs.Common.{length, ◌-◌, ◌≡◌, ◌≤◌, drop}
use Rattle.fio_form.specs.Reading.{from_front}
use Rattle.fio_form.proofs.reading.find_here.Given as goal

abbrev pub invariant-fronts : goal.invariant-fronts
invariant-fronts l = record {
  same : from_front l.form l.line (drop l.front l.line) ≡ from_front l.form l.line l.line;
  within : l.front ≤ length l.line;
}

abbrev pub decreases-fronts : goal.decreases-fronts
decreases-fronts l = length l.line - l.front
