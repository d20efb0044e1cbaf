-- Several modules and one CPU on one bus: what may come at each station.
use Rattle.std.specs.Prelude.{◌≡◌, ◌≢◌, ℕ, ◌<◌, ◌⊎◌, false, List, [], ◌∷◌, ◌++◌, Option, Some, None}
use Rattle.fio_message.specs.Octets.{IsOctet}
use Rattle.fio_module.specs.Settings.{Settings, AreInRange}
use Rattle.fio_link.specs.Link.{item_numbered}
use Rattle.fio_wire.specs.declared.limits.TheConstants.{FLAG}
use Rattle.fio_wire.specs.Frames.{is_own}
use Rattle.fio_wire.specs.Laws.{Loss, Octet}
use Rattle.fio_ends.specs.Lines.{Framing, IsFraming, WireLine, WiredEnds, ends_at_start, Brought, Arrives, EndOf, WireEvent, Happens, AtModule, AtCpu, IsNoise, ComesWhole, MayHappen, after_line_event}

-- ---- The stations

-- a station: its module, its frames, and the first number with which the CPU polls it
pub record Station : Type 0 where
  pub settings : Settings
  pub framing : Framing
  pub first : ℕ

-- how many stations are on a bus, and each of them by its number, from 0
pub record Bus : Type 0 where
  pub count : ℕ
  pub station : ℕ → Station

-- settings, frames and first numbers are within their ranges, and no frame of one station is another's own
pub record IsBus (bus : Bus) : Type 0 where
  pub settings : (station : ℕ) → station < bus.count → AreInRange (bus.station station).settings
  pub framing : (station : ℕ) → station < bus.count → IsFraming (bus.station station).framing
  pub first : (station : ℕ) → station < bus.count → IsOctet (bus.station station).first
  pub apart : (sender station : ℕ) → sender < bus.count → station < bus.count → sender ≢ station
      → is_own (bus.station station).framing.own
      ((bus.station sender).framing.address ∷ (bus.station sender).framing.control ∷ []) ≡ false

-- both ends of each station: its module, and the CPU's number, record and decoder for it
abbrev pub BusEnds : Type 0
BusEnds = ℕ → WiredEnds

-- all of them at their start
abbrev pub bus_at_start : Bus → BusEnds
bus_at_start bus = λ station. ends_at_start (bus.station station).first

-- ---- What happens

-- what comes or happens at each station, if anything does: each receiver may get something else, as when only one loses an octet
abbrev pub BusEvent : Type 0
BusEvent = ℕ → Option WireEvent

-- with what comes at a station, if anything does
abbrev pub with_event : Option WireEvent → List WireEvent → List WireEvent
with_event None events = events
with_event (Some event) events = event ∷ events

-- all that comes at one station
abbrev pub at_station : ℕ → List BusEvent → List WireEvent
at_station station [] = []
at_station station (event ∷ events) = with_event (event station) (at_station station events)

-- the ends of a station after what comes there
abbrev pub after_if : Station → WiredEnds → Option WireEvent → WiredEnds
after_if station ends None = ends
after_if station ends (Some event) = after_line_event station.settings station.framing ends event

-- the ends of each station after an event
abbrev pub after_bus_event : Bus → BusEnds → BusEvent → BusEnds
after_bus_event bus ends event = λ station. after_if (bus.station station) (ends station) (event station)

-- ---- What may come

-- octets between two flags that are a frame of another station, as it was written
pub record IsAnothers (bus : Bus) (line : ℕ → WireLine) (station : ℕ) (part : List ℕ) : Type 0 where
  pub sender : ℕ
  pub is_on_bus : sender < bus.count
  pub is_other : sender ≢ station
  pub number : ℕ
  pub is_written : item_numbered (line sender).written number ≡ Some (FLAG ∷ part ++ FLAG ∷ [])

-- What a line may carry to a station: any octets, if between two flags they are its own frame, whole and in order, or another
-- station's, whole, or noise. That another's frame is noise is not asked.
abbrev pub MayBringTo : Bus → (ℕ → WireLine) → ℕ → Brought → Type 0
MayBringTo bus line station (Arrives (Octet octet)) =
    octet ≡ FLAG → (part : List ℕ) → (line station).part ≡ Some part
    → IsNoise (bus.station station).framing.own part ⊎ IsAnothers bus line station part
MayBringTo bus line station (Arrives Loss) = Unit {0}
MayBringTo bus line station (EndOf number) = ComesWhole (line station) number

-- what may come at a station
abbrev pub MayComeAt : Bus → BusEnds → ℕ → Option WireEvent → Type 0
MayComeAt bus ends station None = Unit {0}
MayComeAt bus ends station (Some (Happens event)) = MayHappen event
MayComeAt bus ends station (Some (AtModule brought)) = MayBringTo bus (λ other. (ends other).to_module) station brought
MayComeAt bus ends station (Some (AtCpu brought)) = MayBringTo bus (λ other. (ends other).to_cpu) station brought

-- these events may come one after the other, and lead from some ends to others
abbrev pub LeadOnBus : Bus → BusEnds → List BusEvent → BusEnds → Type 0
LeadOnBus bus ends [] last = last ≡ ends
LeadOnBus bus ends (event ∷ events) last =
    ((station : ℕ) → station < bus.count → MayComeAt bus ends station (event station))
    × LeadOnBus bus (after_bus_event bus ends event) events last
