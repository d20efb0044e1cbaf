use Rattle.fio_world.proofs.Names.{◌≡◌, map, take, event_of}
use Rattle.fio_world.proofs.script.events_of.Given as goal

abbrev pub invariant-steps : goal.invariant-steps
invariant-steps l = l.events.items ≡ map event_of (take l.step-index l.steps)
