use Rattle.std.proofs.Common.{◌<◌, length}
use Rattle.std.specs.Prelude.{IfSome}
use Rattle.fio_guess.proofs.guesses.GuessTable.heaviest.Given as goal

abbrev pub invariant-guesses : goal.invariant-guesses
invariant-guesses l = IfSome l.best (λ at. at < length l.self.all.items)
