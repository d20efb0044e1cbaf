use Rattle.fio_world.proofs.Names.{ℕ, List, ◌++◌, take, Settings, Event, IsWorldAfter}
use Rattle.fio_world.proofs.world.World.step_all.Given as goal

abbrev pub invariant-loop-place : goal.invariant-loop-place
invariant-loop-place l = (settings : Settings) (first : ℕ) (before : List Event) → IsWorldAfter settings first before l.fn.self → IsWorldAfter settings first (before ++ take l.place l.events) l.self
