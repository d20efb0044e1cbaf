use Rattle.fio_input.proofs.Names.{◌≡◌, ℕ, ◌<◌, true, false, length, get_or, is_set, next_length, meets_filter}
use Rattle.fio_input.proofs.few.step_few.Given as goal

abbrev pub invariant-inputs : goal.invariant-inputs
invariant-inputs l = record {
  long : length l.run_lengths ≡ 64;
  lengths : (i : ℕ) → i < 64 → is_set l.fn.stepped i ≡ true → is_set l.left i ≡ false
      → get_or l.run_lengths i 0 ≡ next_length (get_or l.fn.run_lengths i 0) (is_set l.levels i) (is_set l.raw i);
  rest : (i : ℕ) → i < 64 → is_set l.left i ≡ true → get_or l.run_lengths i 0 ≡ get_or l.fn.run_lengths i 0;
  met : (i : ℕ) → i < 64 → is_set l.fn.stepped i ≡ true → is_set l.left i ≡ false
      → is_set l.met i ≡ meets_filter (get_or l.leading i 0) (get_or l.trailing i 0) (is_set l.raw i) (get_or l.run_lengths i 0);
  no_rest : (i : ℕ) → i < 64 → is_set l.left i ≡ true → is_set l.met i ≡ false;
}

abbrev pub decreases-inputs : goal.decreases-inputs
decreases-inputs l = l.left
