-- How a world shows the link machine, and what its calls promise.
use Rattle.std.specs.Prelude.{◌≡◌, ◌⊎◌, ℕ, List, [], ◌∷◌, ◌++◌, map, take, slice_get, Option, Some, None, Result, Ok, Err, MatchResult}
use Rattle.fio_message.specs.Decoding.{block_in}
use Rattle.fio_module.specs.Settings.{Settings, AreInRange}
use Rattle.fio_module.specs.Module as modules
use Rattle.fio_cpu.specs.Poller.{Polling}
use Rattle.fio_cpu.specs.Hearing.{AddsItems}
use Rattle.fio_link.specs.declared.event.Event.{Event}
use Rattle.fio_link.specs.declared.event.Event.TheVariants as events
use Rattle.fio_world.specs.declared.outcome.Outcome.{Outcome}
use Rattle.fio_world.specs.declared.outcome.RunError.{RunError}
use Rattle.fio_world.specs.declared.outcome.WorldError.{WorldError}
use Rattle.fio_world.specs.declared.outcome.WorldError.TheVariants as errors
use Rattle.fio_link.specs.Link.{Machine, SentFrame, Refusal, refusal, after, item_numbered, IsRun, polling_of}
use Rattle.fio_link.specs.Sound.{IsSoundRun}
use Rattle.fio_world.specs.Ends.{Ends}
use Rattle.fio_world.specs.Outcomes.{outcome_of, error_of}

-- ---- what is shown

-- the octets of a frame
abbrev pub octets_sent : SentFrame → List ℕ
octets_sent frame = frame.octets

-- the world shows everything of the machine except the rounds
pub record ShowsMachine (settings : Settings) (first : ℕ) (machine : Machine) (world : Ends) : Type 0 where
  pub history : modules.IsModuleAfter settings world.module_end machine.history
  pub polling : world.poller_end ≡ polling_of first machine
  pub frames_to_module : world.to_module ≡ map octets_sent machine.to_module
  pub frames_to_cpu : world.to_cpu ≡ map octets_sent machine.to_cpu
  pub last_to_module : world.last_to_module ≡ machine.last_to_module
  pub last_to_cpu : world.last_to_cpu ≡ machine.last_to_cpu

-- ---- one event

-- this frame carries a block that adds to the CPU's record
abbrev pub AddsFrom : Polling → Option SentFrame → Type 0
AddsFrom polling None = ⊥
AddsFrom polling (Some frame) = AddsItems polling (block_in frame.octets)

-- the event may allocate memory: it sends a frame, or may be answered, or is a delivery that adds to the record
abbrev pub TakesMemory : ℕ → Machine → Event → Type 0
TakesMemory first machine events.Poll = Unit {0}
TakesMemory first machine (events.Send command) = Unit {0}
TakesMemory first machine (events.ToModule index) = Unit {0}
TakesMemory first machine (events.ToCpu index) =
    AddsFrom (polling_of first machine) (item_numbered machine.to_cpu index)
TakesMemory first machine other = ⊥

-- the fault is the machine's refusal; if the machine does not refuse, memory ran out in an event that may allocate
abbrev pub IsFault : Option Refusal → Type 0 → WorldError → Type 0
IsFault None takes fault = (fault ≡ errors.Memory) × takes
IsFault (Some refusal) takes fault = fault ≡ error_of refusal

-- what holds when an event is done: the machine does not refuse it, the outcome is exact, and the world shows the machine
-- after it
pub record IsDone (settings : Settings) (first : ℕ) (machine : Machine) (event : Event)
    (seen : Outcome) (world : Ends) : Type 0 where
  pub fine : refusal machine event ≡ None
  pub outcome : seen ≡ outcome_of settings first machine event
  pub shown : ShowsMachine settings first (after settings first machine event) world

-- one event on a world that shows a machine: it is done, or it is refused exactly as the machine
-- refuses it, or memory runs out
abbrev pub Happens : Settings → ℕ → Machine → Event → Result Outcome WorldError → Ends → Type 0
Happens settings first machine event result world =
    MatchResult result
    (λ outcome. IsDone settings first machine event outcome world)
    (λ fault. IsFault (refusal machine event) (TakesMemory first machine event) fault)

-- ---- runs

-- the world shows the machine to which these events lead
pub record IsWorldAfter (settings : Settings) (first : ℕ) (events : List Event)
    (world : Ends) : Type 0 where
  pub in_range : AreInRange settings
  pub machine : Machine
  pub is_run : IsRun settings first events machine
  pub shown : ShowsMachine settings first machine world

-- the world shows the machine to which these events lead, and all that is promised of runs holds of that machine
pub record IsSoundWorld (settings : Settings) (first : ℕ) (events : List Event)
    (world : Ends) : Type 0 where
  pub in_range : AreInRange settings
  pub machine : Machine
  pub sound : IsSoundRun settings first events machine
  pub shown : ShowsMachine settings first machine world

-- the events that have happened after one more was done or refused
abbrev pub events_done : List Event → Event → Result Outcome WorldError → List Event
events_done events event (Ok outcome) = events ++ event ∷ []
events_done events event (Err fault) = events

-- the events that have happened after these were done, or after those before the first that was not done
abbrev pub all_done : List Event → List Event → Result Unit RunError → List Event
all_done before events (Ok done) = before ++ events
all_done before events (Err stopped) = before ++ take stopped.place events

-- After the events `before`, those of `events` before the index `place` were done, and the world shows the machine to which
-- they lead. The event at this index has this fault.
pub record HasStoppedAt (settings : Settings) (first : ℕ) (before events : List Event) (place : ℕ)
    (fault : WorldError) (world : Ends) : Type 0 where
  pub machine : Machine
  pub done : IsRun settings first (before ++ take place events) machine
  pub shown : ShowsMachine settings first machine world
  pub event : Event
  pub here : slice_get events place ≡ Some event
  pub cause : IsFault (refusal machine event) (TakesMemory first machine event) fault

-- A run has stopped after `place` events: there was no memory to start it, or the event at this index has this fault.
abbrev pub HasStopped : Settings → ℕ → List Event → ℕ → WorldError → Type 0
HasStopped settings first events place fault =
    (place ≡ 0) × (fault ≡ errors.Memory)
    ⊎ ((world : Ends) × HasStoppedAt settings first [] events place fault world)
