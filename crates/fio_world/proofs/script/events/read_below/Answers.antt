use Rattle.fio_world.proofs.Names.{sym, ◌∙◌}
use Rattle.std.proofs.lemmas.Slice.Eq.{bytes_eq-Decides}
use Rattle.fio_world.proofs.ReadingLemmas.{same_line}
use Rattle.fio_world.proofs.script.events.read_below.Goals as goal

pub returns-in-Some : goal.returns-in-Some
returns-in-Some c =
    let same = (bytes_eq-Decides c.args.above.now c.args.line.now).0 (sym c.are_same.ensures ∙ c.if-are_same.true) in
    same_line c.args.restarts c.args.number c.args.above.now c.args.line.now c.args.last c.in-Some.step c.requires c.in-Some.is same
