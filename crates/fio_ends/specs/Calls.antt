-- What a caller does with one module and one poller, call by call, and the frames that it carries between
-- them, in order, with losses and immediate repeats.
use Rattle.std.specs.Prelude.{◌≡◌, ◌≢◌, ℕ, ◌<◌, ◌≤◌, ◌==◌, List, [], ◌∷◌, ◌++◌, length, map, take, Option, Some, None, if◌then◌else◌, ◌||◌, nat_lt, true}
use Rattle.fio_message.specs.declared.commands.Command.{Command}
use Rattle.fio_message.specs.declared.commands.Command.TheVariants as commands
use Rattle.fio_message.specs.Commands.{command_octets}
use Rattle.fio_message.specs.Decoding.{command_in}
use Rattle.fio_module.specs.Settings.{Settings}
use Rattle.fio_module.specs.Life as lives
use Rattle.fio_module.specs.Replies.{longest_answer}
use Rattle.fio_link.specs.declared.event.Event.{Event}
use Rattle.fio_link.specs.declared.event.Event.TheVariants.{Scan, LineSync, Raise, Poll, Send, ToModule, ToCpu, Restart}
use Rattle.fio_link.specs.Link.{Machine, item_numbered, delivery_refusal, sending_refusal}
use Rattle.fio_link.specs.Sound.{IsSoundRun}
use Rattle.fio_flat.specs.Module as module_events
use Rattle.fio_flat.specs.Module.{Reached, ErrorsChanged, ErrorChange, AddsEvent, Replies, IsDeviceAfter, are_flat_limits, flat_settings}
use Rattle.fio_flat.specs.Written.{Writes}
use Rattle.fio_flat.specs.Hearing.{Hears, flat_record_item}
use Rattle.fio_flat.specs.declared.module.FlatLimits.{FlatLimits}
use Rattle.fio_flat.specs.declared.module.SizedModule.{SizedModule}
use Rattle.fio_flat.specs.declared.poller.FlatHeard.{FlatHeard}
use Rattle.fio_flat.specs.declared.poller.RecordItem.{RecordItem}

-- what a caller has: the module and its ring; the poller's number; the frames that each end has sent, oldest first; the
-- number of the frame delivered last in each direction, 0 for none; and the items that hearing has written
pub record CallerState : Type 0 where
  pub device : SizedModule
  pub ring : List (List ℕ)
  pub number : ℕ
  pub to_module : List (List ℕ)
  pub to_cpu : List (List ℕ)
  pub last_to_module : ℕ
  pub last_to_cpu : ℕ
  pub items : List RecordItem

-- before the first call: a module with its ring, and a poller with its first number
abbrev pub caller_at_start : SizedModule → List (List ℕ) → ℕ → CallerState
caller_at_start device ring number = record {
  device = device;
  ring = ring;
  number = number;
  to_module = [];
  to_cpu = [];
  last_to_module = 0;
  last_to_cpu = 0;
  items = [];
}

-- one call of a caller: one for an event of the link, or one that changes the error counts of the module
pub data Call : Type 0 where
  For : (event : Event) → Call
  ChangeErrors : (change : ErrorChange) → Call

-- the events of the link among calls
abbrev pub link_events : List Call → List Event
link_events [] = []
link_events (For event ∷ calls) = event ∷ link_events calls
link_events (ChangeErrors change ∷ calls) = link_events calls

-- the module has had one event more, and nothing else has changed
pub record HasHappened (event : module_events.DeviceEvent) (old new : CallerState) : Type 0 where
  pub device : SizedModule
  pub ring : List (List ℕ)
  pub had : AddsEvent event old.device old.ring device ring
  pub rest : new ≡ record old { device = device; ring = ring }

-- `fio2070_poller_poll` wrote a poll, for which there was room, and the caller sends what it wrote
pub record HasPolled (old new : CallerState) : Type 0 where
  pub before : List ℕ
  pub after : List ℕ
  pub count : ℕ
  pub wrote : Writes (command_octets (commands.Poll old.number)) before after count
  pub room : count ≤ length before
  pub rest : new ≡ record old { to_module = old.to_module ++ take count after ∷ [] }

-- the answer of a call that wrote this number of octets to the front of a buffer: none if it wrote none, or needed more
-- room than the buffer has
abbrev pub frames_written : ℕ → List ℕ → List (List ℕ)
frames_written count buffer =
    if count == 0 || nat_lt (length buffer) count then [] else take count buffer ∷ []

-- `fio2070_sized_module_receive` took this frame, with room for the longest answer, and the caller sends the answer, if
-- there is one
pub record HasReceived (index : ℕ) (octets : List ℕ) (old new : CallerState) : Type 0 where
  pub device : SizedModule
  pub ring : List (List ℕ)
  pub before : List ℕ
  pub after : List ℕ
  pub count : ℕ
  pub room : longest_answer old.device.state.per_block ≤ length before
  pub had : AddsEvent (Reached (lives.Received octets)) old.device old.ring device ring
  pub reply :
      (command : Command) → command_in octets ≡ Some command
      → Replies octets old.device old.ring before after count
  pub no_command : command_in octets ≡ None → length after < count
  pub rest :
      new ≡ record old {
        device = device;
        ring = ring;
        last_to_module = index;
        to_cpu = old.to_cpu ++ frames_written count after;
      }

-- `fio2070_poller_hear` heard this frame with room for its items, and the caller keeps those
pub record HasHeard (index : ℕ) (octets : List ℕ) (old new : CallerState) : Type 0 where
  pub before : List RecordItem
  pub after : List RecordItem
  pub number : ℕ
  pub heard : FlatHeard
  pub hears : Hears old.number octets before after number heard
  pub room : heard.kind ≢ 4
  pub rest :
      new ≡ record old {
        number = number;
        last_to_cpu = index;
        items = old.items ++ take heard.items after;
      }

-- the frame with a number exists, and this has happened to it
abbrev pub IsFoundAnd : Option (List ℕ) → (List ℕ → Type 0) → Type 0
IsFoundAnd None Happened = ⊥
IsFoundAnd (Some octets) Happened = Happened octets

-- The caller makes the call for an event: a frame goes to either end only if the link machine allows it, and never
-- after a later frame of its direction.
abbrev pub IsCalledFor : Event → CallerState → CallerState → Type 0
IsCalledFor (Scan raw) old new = HasHappened (Reached (lives.Scan raw)) old new
IsCalledFor LineSync old new = HasHappened (Reached lives.LineSync) old new
IsCalledFor (Raise mask) old new = HasHappened (Reached (lives.Raise mask)) old new
IsCalledFor Restart old new = HasHappened (Reached lives.Restart) old new
IsCalledFor Poll old new = HasPolled old new
-- a command other than a poll may be encoded by any call
IsCalledFor (Send command) old new =
    (sending_refusal command ≡ None)
    × (new ≡ record old { to_module = old.to_module ++ command_octets command ∷ [] })
IsCalledFor (ToModule index) old new =
    (delivery_refusal (length old.to_module) old.last_to_module index ≡ None)
    × IsFoundAnd (item_numbered old.to_module index) (λ octets. HasReceived index octets old new)
IsCalledFor (ToCpu index) old new =
    (delivery_refusal (length old.to_cpu) old.last_to_cpu index ≡ None)
    × IsFoundAnd (item_numbered old.to_cpu index) (λ octets. HasHeard index octets old new)

-- the caller makes the call
abbrev pub IsCalled : Call → CallerState → CallerState → Type 0
IsCalled (For event) old new = IsCalledFor event old new
IsCalled (ChangeErrors change) old new = HasHappened (ErrorsChanged change) old new

-- the caller makes these calls, one after the other
abbrev pub AreCalled : List Call → CallerState → CallerState → Type 0
AreCalled [] old last = last ≡ old
AreCalled (call ∷ calls) old last = (new : CallerState) × IsCalled call old new × AreCalled calls new last

-- Calls are a run of the link: what holds of each run holds of the machine to which their events lead, and
-- its record is, item by item, what hearing has written.
pub record AreRun (settings : Settings) (first : ℕ) (events : List Event) (last : CallerState) : Type 0 where
  pub machine : Machine
  pub sound : IsSoundRun settings first events machine
  pub items : last.items ≡ map flat_record_item machine.items

-- Any calls, from the start of a module and of a poller on, are a run, whatever the limits of the module.
abbrev pub CallsAreRuns : Type 0
CallsAreRuns =
    (id first : ℕ) (limits : FlatLimits) (device : SizedModule) (ring : List (List ℕ)) (calls : List Call)
    (last : CallerState)
    → id < 256 → first < 256 → limits.per_block < 256 → are_flat_limits limits ≡ true
    → IsDeviceAfter (flat_settings id limits) device ring []
    → AreCalled calls (caller_at_start device ring first) last
    → AreRun (flat_settings id limits) first (link_events calls) last
