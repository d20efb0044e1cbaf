use Rattle.fio_tool.proofs.Names.{◌≡◌, ℕ, List, ◌++◌, length}
use Rattle.std.specs.Io.KnownBytes.{Appends}
use Rattle.fio_tool.proofs.streams.write_text.Given as goal

abbrev pub invariant-writes : goal.invariant-writes
invariant-writes g l =
    (done : List ℕ)
    × Appends (g.W.Write.contents l.fn.writer) (g.W.Write.contents l.writer) done
    × (done ++ l.rest ≡ l.text)

abbrev pub decreases-writes : goal.decreases-writes
decreases-writes g l = length l.rest
