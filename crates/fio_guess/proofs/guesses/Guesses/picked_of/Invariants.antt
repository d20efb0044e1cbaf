use Rattle.std.proofs.Common.{◌≤◌}
use Rattle.fio_guess.proofs.guesses.Guesses.picked_of.Given as goal

abbrev pub invariant-guesses : goal.invariant-guesses
invariant-guesses l = l.count ≤ l.guess-index
