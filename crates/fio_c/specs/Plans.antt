-- Lines and paces, as C has them.
use Rattle.std.specs.Prelude.{◌≡◌, ℕ, ◌==◌, ◌&&◌, nat_le, Bool, max, if◌then◌else◌}
use Rattle.fio_message.specs.declared.limits.TheConstants.{INPUTS}
use Rattle.fio_wire.specs.declared.line_kind.LineKind.TheVariants.{Asynchronous, Synchronous}
use Rattle.fio_link.specs.declared.line.TimedLine.{TimedLine}
use Rattle.fio_link.specs.declared.line.Traffic.{Traffic}
use Rattle.fio_link.specs.Pace.{HasNoPaceBelow, IsPace, most_late, most_load, round_scans}
use Rattle.fio_c.specs.declared.plan.FlatLine.{FlatLine}
use Rattle.fio_c.specs.declared.plan.FlatPace.{FlatPace}

-- the line that C gives
abbrev pub line_of : FlatLine → TimedLine
line_of given =
    record {
      kind = if given.stop_bits == 0 then Synchronous else Asynchronous given.stop_bits;
      rate = given.rate;
      answer = given.answer;
      other = given.other;
      lost = given.lost;
      drift = given.drift;
      jitter = given.jitter;
    }

-- the traffic that C gives
abbrev pub traffic_in : FlatLine → Traffic
traffic_in given =
    record {
      opened = given.inputs;
      filter = max 1 given.filter;
      per_block = given.per_block;
      waiting = given.waiting;
    }

-- whether numbers are in their ranges
abbrev pub can_plan : FlatLine → Bool
can_plan given = nat_le 1 given.rate && (nat_le 1 given.inputs && (nat_le given.inputs INPUTS && nat_le given.drift 10000))

-- the least pace, and what holds at it
pub record IsPlanned (line : TimedLine) (traffic : Traffic) (pace : FlatPace) : Type 0 where
  pub is_pace : IsPace line traffic pace.scans
  pub least : HasNoPaceBelow line traffic pace.scans
  pub round : pace.round ≡ round_scans line traffic pace.scans
  pub late : pace.late ≡ most_late line traffic pace.scans
  pub load : pace.load ≡ most_load line traffic pace.scans
