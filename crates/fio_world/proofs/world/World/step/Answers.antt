use Rattle.fio_world.proofs.Names.{◌∷◌, ◌++◌, [], Ok, Err}
use Rattle.fio_world.proofs.Shown.{stands_on}
use Rattle.fio_world.proofs.SoundWorlds.{sound_world, headline_of}
use Rattle.fio_world.proofs.world.World.step.Goals as goal

pub returns-in-Ok-clause-row : goal.returns-in-Ok-clause-row
returns-in-Ok-clause-row c settings first machine shown = rw c.outcome.ensures (c.in-Ok.ensures.row settings first machine shown)

pub returns-in-Ok-clause-stands : goal.returns-in-Ok-clause-stands
returns-in-Ok-clause-stands c settings first events s =
    sound_world settings first (events ++ c.args.event.now ∷ []) c.happen.new.world
    (stands_on settings first events c.args.event.now (Ok c.outcome.result) c.args.self.now c.happen.new.world s (returns-in-Ok-clause-row c settings first) tt)

pub returns-in-Ok-clause-headline : goal.returns-in-Ok-clause-headline
returns-in-Ok-clause-headline c settings first events s =
    headline_of settings first (events ++ c.args.event.now ∷ []) c.happen.new.world
    (stands_on settings first events c.args.event.now (Ok c.outcome.result) c.args.self.now c.happen.new.world s (returns-in-Ok-clause-row c settings first) tt)

pub returns-in-Err-clause-stands : goal.returns-in-Err-clause-stands
returns-in-Err-clause-stands c settings first events s =
    sound_world settings first events c.happen.new.world
    (stands_on settings first events c.args.event.now (Err c.in-Err.fault) c.args.self.now c.happen.new.world s (c.in-Err.ensures.row settings first) c.in-Err.ensures.err)

pub returns-in-Err-clause-headline : goal.returns-in-Err-clause-headline
returns-in-Err-clause-headline c settings first events s =
    headline_of settings first events c.happen.new.world
    (stands_on settings first events c.args.event.now (Err c.in-Err.fault) c.args.self.now c.happen.new.world s (c.in-Err.ensures.row settings first) c.in-Err.ensures.err)
