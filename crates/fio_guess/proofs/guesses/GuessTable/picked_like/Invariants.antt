use Rattle.std.proofs.Common.{◌≤◌}
use Rattle.fio_guess.proofs.guesses.GuessTable.picked_like.Given as goal

abbrev pub invariant-guesses : goal.invariant-guesses
invariant-guesses l = l.count ≤ l.other-index
