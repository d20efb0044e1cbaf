use Rattle.std.proofs.Common.{◌≤◌, ◌-◌}
use Rattle.fio_guess.proofs.fronts.front_of.Given as goal

abbrev pub invariant-pieces : goal.invariant-pieces
invariant-pieces l = l.place ≤ l.end

abbrev pub decreases-pieces : goal.decreases-pieces
decreases-pieces l = l.end - l.place
