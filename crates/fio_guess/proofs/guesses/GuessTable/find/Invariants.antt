use Rattle.std.proofs.Common.{◌<◌}
use Rattle.fio_guess.specs.declared.table.TheConstants.{GUESS_SLOTS}
use Rattle.fio_guess.proofs.guesses.GuessTable.find.Given as goal

abbrev pub invariant-slots : goal.invariant-slots
invariant-slots l = l.slot < GUESS_SLOTS
