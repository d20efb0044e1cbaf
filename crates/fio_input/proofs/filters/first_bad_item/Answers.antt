use Rattle.fio_input.proofs.Names.{sym, arith}
use Rattle.fio_input.proofs.Present.{front-more, position-front, position-none}
use Rattle.fio_input.proofs.filters.first_bad_item.Goals as goal

pub loop-place-preserved : goal.loop-place-preserved
loop-place-preserved g c =
    front-more (g.C.Configuration.items c.args.items.now) c.loop-place.place c.item.result (omega arith) c.item.ensures (omega arith) c.loop-place.invariant

pub returns : goal.returns
returns g c = sym (position-none (g.C.Configuration.items c.args.items.now) (omega arith))

pub returns-then-from-ge-INPUTS : goal.returns-then-from-ge-INPUTS
returns-then-from-ge-INPUTS g c =
    sym (position-front (g.C.Configuration.items c.args.items.now) c.loop-place.place c.item.result (omega arith) c.item.ensures (omega arith) c.loop-place.invariant)
