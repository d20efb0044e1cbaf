use Rattle.fio_tool.proofs.Names.{◌-◌, ◌≤◌, vec_len}
use Rattle.std.specs.Io.KnownBytes.{Consumes}
use Rattle.fio_tool.specs.declared.streams.TheConstants.{MOST_READ}
use Rattle.fio_tool.proofs.streams.read_input.Given as goal

abbrev pub invariant-reads : goal.invariant-reads
invariant-reads g l =
    Consumes (g.R.Read.remaining l.fn.reader) (g.R.Read.remaining l.reader) l.input.items
    × (vec_len l.input ≤ MOST_READ)

abbrev pub decreases-reads : goal.decreases-reads
decreases-reads g l = MOST_READ - vec_len l.input
