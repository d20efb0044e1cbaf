use Rattle.fio_world.proofs.Names.{ap, sym, arith, item_numbered}
use Rattle.fio_world.proofs.EndToEndLemmas.{none_past}
use Rattle.fio_world.proofs.world.frames.StoredFrames.get.Goals as goal

pub returns-then-index-eq0-clause-is : goal.returns-then-index-eq0-clause-is
returns-then-index-eq0-clause-is c = ap (item_numbered c.args.self.now.frames) (sym c.if-index-eq0.true)

pub returns-then-len-index-clause-is : goal.returns-then-len-index-clause-is
returns-then-len-index-clause-is c =
    none_past c.args.self.now.frames c.args.index (omega (arith, c.len.ensures, c.if-len-index.true))
