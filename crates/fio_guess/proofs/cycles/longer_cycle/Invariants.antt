use Rattle.std.proofs.Common.{◌≤◌, length}
use Rattle.fio_guess.proofs.cycles.longer_cycle.Given as goal

abbrev pub invariant-octets : goal.invariant-octets
invariant-octets l = l.place ≤ length l.line
