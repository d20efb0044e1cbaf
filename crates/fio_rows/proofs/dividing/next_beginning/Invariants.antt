-- what the stream goes on with from here is what it goes on with after the first octet
use Rattle.std.proofs.Common.{◌≡◌, drop}
use Rattle.fio_rows.specs.Dividing.{beginning_from}
use Rattle.fio_rows.proofs.dividing.next_beginning.Given as goal

abbrev pub invariant-loop-at : goal.invariant-loop-at
invariant-loop-at l = beginning_from l.at (drop l.at l.octets) ≡ beginning_from 1 (drop 1 l.octets)
