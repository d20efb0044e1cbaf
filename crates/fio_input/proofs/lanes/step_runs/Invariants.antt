use Rattle.fio_input.proofs.Names.{◌≡◌, ℕ, ◌*◌, ◌<◌, ◌≤◌, false, length, get_or, is_set}
use Rattle.fio_input.proofs.Stepped.{IsStepped, IsMet}
use Rattle.fio_input.proofs.lanes.step_runs.Given as goal

abbrev pub invariant-loop-group : goal.invariant-loop-group
invariant-loop-group l = record {
  long : length l.run_lengths ≡ 64;
  lengths : (i : ℕ) → i < 16 * l.group → IsStepped l.fn.run_lengths l.run_lengths l.levels l.raw l.filtered i;
  rest : (i : ℕ) → 16 * l.group ≤ i → get_or l.run_lengths i 0 ≡ get_or l.fn.run_lengths i 0;
  met : (i : ℕ) → i < 16 * l.group → IsMet l.leading l.trailing l.run_lengths l.raw l.filtered l.met i;
  no_rest : (i : ℕ) → 16 * l.group ≤ i → i < 64 → is_set l.met i ≡ false;
}
