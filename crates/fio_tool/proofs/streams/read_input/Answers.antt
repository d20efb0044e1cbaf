use Rattle.fio_tool.proofs.Names.{◌≡◌, ◌++◌, take, drop, arith}
use Rattle.std.proofs.lemmas.Grind.{common_steps}
use Rattle.std.proofs.KnownBytes.{Consumes-trans}
use Rattle.fio_tool.proofs.streams.read_input.Goals as goal

pub returns-in_err-extend_from_slice-clause-taken :
    goal.returns-in_err-extend_from_slice-clause-taken
returns-in_err-extend_from_slice-clause-taken g c = (
  c.reads.input.items ++ take c.in-Ok.count c.read.new.buf,
  Consumes-trans _ _ _ _ _ c.reads.invariant.0 c.in-Ok.ensures.bytes.0,
  grind (arith, common_steps),
)

pub reads-preserved : goal.reads-preserved
reads-preserved g c =
    let count = c.in-Ok.count in
    let taken : take count (c.read.new.buf ++ drop c.min-room.result c.reads.buffer) ≡ take count c.read.new.buf = grind (arith, common_steps) in (
      rw (c.in_ok-extend_from_slice.ensures.items, taken)
          (Consumes-trans _ _ _ _ _ c.reads.invariant.0 c.in-Ok.ensures.bytes.0),
      grind (arith, common_steps),
    )
