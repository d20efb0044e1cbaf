use Rattle.std.proofs.Common.{◌≡◌, ◌≤◌, ◌-◌, true, length, take}
use Rattle.fio_c.specs.Logs.{HasNoneDue, HasRoomFirst, HasTakenOctets, HasVerdicts, has_room}
use Rattle.fio_c.proofs.log.read_on.Given as goal

abbrev pub invariant-pieces : goal.invariant-pieces
invariant-pieces l = record {
  within : l.taken ≤ length l.octets;
  octets : HasTakenOctets l.fn.reader (take l.taken l.octets) l.reader;
  verdicts : HasVerdicts l.fn.reader octets.whole l.batch l.reader;
  room : HasRoomFirst l.batch;
  due : has_room l.batch ≡ true → HasNoneDue l.reader;
}

abbrev pub decreases-pieces : goal.decreases-pieces
decreases-pieces l = length l.octets - l.taken
