use Rattle.std.proofs.Common.{◌≤◌}
use Rattle.fio_guess.specs.declared.table.TheConstants.{NUMBERS_TRIED}
use Rattle.fio_guess.proofs.rows.numbers_in.Given as goal

abbrev pub invariant-pieces : goal.invariant-pieces
invariant-pieces l = l.count ≤ NUMBERS_TRIED
