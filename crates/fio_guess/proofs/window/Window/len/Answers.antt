use Rattle.std.proofs.Common.{◌≡◌, length}
use Rattle.fio_guess.specs.Lines.{parts_of}
use Rattle.fio_guess.proofs.Lines.{length-parts_of}
use Rattle.fio_guess.proofs.window.Window.len.Goals as goal

pub returns : goal.returns
returns c = rw (← c.self.view_is) (let same : length (parts_of c.self.inside.text.items 0 c.self.inside.ends.items) ≡ length c.self.inside.ends.items = length-parts_of _ 0 _ in cc)
