use Rattle.fio_world.proofs.Names.{ap, frames_in}
use Rattle.fio_world.proofs.world.frames.StoredFrames.new.Goals as goal

pub returns : goal.returns
returns c = ap (frames_in c.new.result.items 0) c.new-2.ensures.items
