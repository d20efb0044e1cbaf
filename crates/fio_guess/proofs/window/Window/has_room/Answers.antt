use Rattle.std.proofs.Common.{◌≡◌, ◌+◌, length, arith}
use Rattle.std.proofs.lemmas.Grind.{common_steps}
use Rattle.fio_guess.specs.Lines.{parts_of}
use Rattle.std.specs.Prelude.{sum_by}
use Rattle.fio_guess.proofs.Lines.{length-parts_of, sum_by-parts_of}
use Rattle.fio_guess.proofs.window.Window.has_room.Goals as goal

pub returns-then-len-lt-LINES : goal.returns-then-len-lt-LINES
returns-then-len-lt-LINES c =
    let same : length (parts_of c.self.inside.text.items 0 c.self.inside.ends.items) ≡ length c.self.inside.ends.items = length-parts_of _ 0 _ in
    let all : 0 + sum_by length (parts_of c.self.inside.text.items 0 c.self.inside.ends.items) ≡ length c.self.inside.text.items = sum_by-parts_of _ 0 _ c.self.invariant in
    rw (← c.self.view_is) (grind (arith, common_steps))

pub returns-else-len-lt-LINES : goal.returns-else-len-lt-LINES
returns-else-len-lt-LINES c =
    let same : length (parts_of c.self.inside.text.items 0 c.self.inside.ends.items) ≡ length c.self.inside.ends.items = length-parts_of _ 0 _ in
    rw (← c.self.view_is) (grind (arith, common_steps))
