use Rattle.std.proofs.Common.{◌≡◌, ◌<◌, [], true, length, arith, get_or}
use Rattle.std.proofs.lemmas.Grind.{common_steps}
use Rattle.std.proofs.lemmas.List.Elements.{All-get_or}
use Rattle.fio_guess.specs.Lines.{parts_of}
use Rattle.fio_guess.proofs.Lines.{length-parts_of}
use Rattle.fio_log.specs.OwnTexts.{spells}
use Rattle.fio_log.proofs.told.Told.frame.Goals as goal

pub returns-then-index-len-clause-given : goal.returns-then-index-len-clause-given
returns-then-index-len-clause-given c =
    let same : length (parts_of c.self.inside.octets.items 0 c.self.inside.ends.items) ≡ length c.self.inside.ends.items = length-parts_of _ 0 _ in
    rw (← c.self.view_is) (grind (arith, common_steps))

pub returns-clause-given : goal.returns-clause-given
returns-clause-given c =
    let same : length (parts_of c.self.inside.octets.items 0 c.self.inside.ends.items) ≡ length c.self.inside.ends.items = length-parts_of _ 0 _ in
    rw (← c.self.view_is) (grind (arith, common_steps))

pub returns-clause-spelled : goal.returns-clause-spelled
returns-clause-spelled c =
    let octets = c.self.inside.octets.items in
    let ends = c.self.inside.ends.items in
    let same : length (parts_of octets 0 ends) ≡ length ends = length-parts_of octets 0 ends in
    let inside : c.args.index < length (parts_of octets 0 ends) = grind (arith, common_steps) in
    let at : c.frame_in.result.now ≡ get_or (parts_of octets 0 ends) c.args.index [] = grind (arith, common_steps) in
    rw at (All-get_or (λ frame. spells frame ≡ true) (parts_of octets 0 ends) c.args.index [] inside c.self.invariant.1)
