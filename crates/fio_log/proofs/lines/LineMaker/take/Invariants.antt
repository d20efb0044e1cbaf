use Rattle.std.proofs.Common.{◌≡◌, ◌-◌, ◌<◌, ◌≤◌, false, length, take}
use Rattle.fio_log.specs.Lines.{is_whole, lines_after, only}
use Rattle.fio_log.proofs.lines.LineMaker.take.Given as goal

abbrev pub invariant-octets : goal.invariant-octets
invariant-octets l = record {
  within : l.count ≤ length l.octets;
  lines : lines_after (only l.initial.self) (take l.count l.octets) ≡ only l.self;
  open_yet : 0 < l.count → is_whole l.self.ending ≡ false;
}

abbrev pub decreases-octets : goal.decreases-octets
decreases-octets l = length l.octets - l.count
