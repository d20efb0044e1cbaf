use Rattle.std.proofs.Common.{◌≡◌, length, arith}
use Rattle.std.proofs.lemmas.Grind.{common_steps}
use Rattle.fio_guess.specs.Lines.{parts_of}
use Rattle.fio_guess.proofs.Lines.{length-parts_of}
use Rattle.fio_guess.proofs.window.Window.is_empty.Goals as goal

pub returns : goal.returns
returns c = let same : length (parts_of c.self.inside.text.items 0 c.self.inside.ends.items) ≡ length c.self.inside.ends.items = length-parts_of _ 0 _ in rw (← c.self.view_is) (grind (arith, common_steps))
