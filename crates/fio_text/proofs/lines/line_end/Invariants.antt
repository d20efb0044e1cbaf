use Rattle.std.proofs.Common.{◌≡◌, ℕ, ◌-◌, ◌<◌, ◌≤◌, length, get_or}
use Rattle.fio_text.proofs.lines.line_end.Given as goal

abbrev pub invariant-lanes : goal.invariant-lanes
invariant-lanes l = record {
  within : l.at ≤ length l.text;
  before : (k : ℕ) → k < l.at → get_or l.text k 0 ≡ 10 → ⊥;
}

abbrev pub decreases-lanes : goal.decreases-lanes
decreases-lanes l = length l.text - l.at

abbrev pub invariant-rest : goal.invariant-rest
invariant-rest l = record {
  within : l.at ≤ length l.text;
  before : (k : ℕ) → k < l.at → get_or l.text k 0 ≡ 10 → ⊥;
}

abbrev pub decreases-rest : goal.decreases-rest
decreases-rest l = length l.text - l.at
