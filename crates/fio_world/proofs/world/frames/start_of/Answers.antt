use Rattle.fio_world.proofs.Names.{◌≡◌, ◌-◌, suc, ap, sym, ◌∙◌, arith, start_at}
use Rattle.fio_world.proofs.EndToEndLemmas.{start-after}
use Rattle.fio_world.proofs.world.frames.start_of.Goals as goal

pub returns-else-place-eq0 : goal.returns-else-place-eq0
returns-else-place-eq0 c =
    let same : suc (c.args.place - 1) ≡ c.args.place = omega (arith, c.if-place-eq0.false) in
    sym (start-after 0 c.args.ends.now (c.args.place - 1) (omega (arith, c.requires, same))) ∙ ap (start_at 0 c.args.ends.now) same
