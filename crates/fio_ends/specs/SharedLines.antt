-- A bus of two lines, one from the CPU to all modules and one from all modules to the CPU: each carries the same to all its
-- receivers.
use Rattle.std.specs.Prelude.{◌≡◌, ◌≢◌, ℕ, ◌<◌, ◌≤◌, ◌==◌, if◌then◌else◌, List, [], ◌∷◌, map, Some, None}
use Rattle.fio_link.specs.declared.event.Event.{Event}
use Rattle.fio_link.specs.Headline.{Headline}
use Rattle.fio_link.specs.Link.{item_numbered}
use Rattle.fio_wire.specs.declared.limits.TheConstants.{FLAG}
use Rattle.fio_wire.specs.Frames.{frame_of}
use Rattle.fio_wire.specs.Laws.{Arrival, Loss, Octet}
use Rattle.fio_wire.specs.Octets.{sent, stuffed}
use Rattle.fio_ends.specs.Lines.{WireLine, WiredEnds, Brought, Arrives, EndOf, Happens, AtModule, AtCpu, IsNoise, ComesWhole, MayHappen, events_on_wire}
use Rattle.fio_ends.specs.Bus.{Bus, IsBus, BusEnds, BusEvent, LeadOnBus, after_bus_event, at_station, bus_at_start}
use Rattle.fio_ends.specs.BusRuns.{bus_of}

-- ---- What happens

-- what a line carries to all its receivers: an octet or the report that one was lost; or the flag that ends the frame with this
-- number of a station, which has come whole
pub data BroughtToAll : Type 0 where
  ArrivesAtAll : (arrival : Arrival) → BroughtToAll
  EndOfFrame : (sender number : ℕ) → BroughtToAll

-- something happens at the ends of one station, or a line carries something to all modules, or to all decoders of the CPU
pub data SharedEvent : Type 0 where
  HappensAt : (station : ℕ) (event : Event) → SharedEvent
  AtModules : (brought : BroughtToAll) → SharedEvent
  AtDecoders : (brought : BroughtToAll) → SharedEvent

-- what a line carries to one station: for the others the end of a frame is a flag as any
abbrev pub brought_to : ℕ → BroughtToAll → Brought
brought_to station (ArrivesAtAll arrival) = Arrives arrival
brought_to station (EndOfFrame sender number) = if station == sender then EndOf number else Arrives (Octet FLAG)

-- what comes at each station
abbrev pub at_each : SharedEvent → BusEvent
at_each (HappensAt at event) = λ station. if station == at then Some (Happens event) else None
at_each (AtModules brought) = λ station. Some (AtModule (brought_to station brought))
at_each (AtDecoders brought) = λ station. Some (AtCpu (brought_to station brought))

-- ---- What may come

-- What a line may carry to all: any octets, if between two flags they are a frame of some station, whole and in order, or noise
-- to each. Nothing is asked of the other stations where a frame ends.
abbrev pub MayBringToAll : Bus → (ℕ → WireLine) → BroughtToAll → Type 0
MayBringToAll bus line (ArrivesAtAll (Octet octet)) =
    octet ≡ FLAG → (station : ℕ) → station < bus.count → (part : List ℕ) → (line station).part ≡ Some part
    → IsNoise (bus.station station).framing.own part
MayBringToAll bus line (ArrivesAtAll Loss) = Unit {0}
MayBringToAll bus line (EndOfFrame sender number) = (sender < bus.count) × ComesWhole (line sender) number

-- what may come
abbrev pub MayComeToAll : Bus → BusEnds → SharedEvent → Type 0
MayComeToAll bus ends (HappensAt station event) = MayHappen event
MayComeToAll bus ends (AtModules brought) = MayBringToAll bus (λ station. (ends station).to_module) brought
MayComeToAll bus ends (AtDecoders brought) = MayBringToAll bus (λ station. (ends station).to_cpu) brought

-- these events may come one after the other, and lead from some ends to others
abbrev pub LeadOverShared : Bus → BusEnds → List SharedEvent → BusEnds → Type 0
LeadOverShared bus ends [] last = last ≡ ends
LeadOverShared bus ends (event ∷ events) last =
    MayComeToAll bus ends event × LeadOverShared bus (after_bus_event bus ends (at_each event)) events last

-- ---- What is promised

-- What may come over the two lines may come on a bus: at each other station a frame is another's, or the station has no part of
-- it, as after a restart.
abbrev pub SharedLinesAreABus : Type 0
SharedLinesAreABus =
    (bus : Bus) (events : List SharedEvent) (last : BusEnds)
    → LeadOverShared bus (bus_at_start bus) events last → LeadOnBus bus (bus_at_start bus) (map at_each events) last

-- So the headline holds of each station's record.
abbrev pub HeadlineOverSharedLines : Type 0
HeadlineOverSharedLines =
    (bus : Bus) (events : List SharedEvent) (last : BusEnds) (station : ℕ)
    → IsBus bus → LeadOverShared bus (bus_at_start bus) events last → station < bus.count
    → Headline (bus.station station).settings (bus.station station).first
    (events_on_wire (at_station station (map at_each events))) (last station).polling.items

-- ---- What the premise leaves open

-- what a line carries for a part: its octets one by one, and what ends it
abbrev pub part_to_all : (BroughtToAll → SharedEvent) → List ℕ → BroughtToAll → List SharedEvent
part_to_all at [] ending = at ending ∷ []
part_to_all at (octet ∷ part) ending = at (ArrivesAtAll (Octet octet)) ∷ part_to_all at part ending

-- Directly after a flag a line may carry to all each frame of each station that was written to it whole, if none of that station
-- after it came before.
abbrev pub EachFrameMayComeToAll : (WiredEnds → WireLine) → (BroughtToAll → SharedEvent) → Type 0
EachFrameMayComeToAll line_of at =
    (bus : Bus) (ends : BusEnds) (sender number : ℕ) (message : List ℕ) → sender < bus.count
    → (line_of (ends sender)).part ≡ Some [] → (line_of (ends sender)).last ≤ number
    → item_numbered (line_of (ends sender)).written number
    ≡ Some (sent (bus.station sender).framing.address (bus.station sender).framing.control message)
    → (later : BusEnds)
    × LeadOverShared bus ends
    (part_to_all at (stuffed (frame_of (bus.station sender).framing.address (bus.station sender).framing.control message))
    (EndOfFrame sender number)) later

-- There are lines over which the records of two stations gain something.
abbrev pub SharedLinesBringRecords : Type 0
SharedLinesBringRecords =
    (events : List SharedEvent) × (last : BusEnds)
    × LeadOverShared (bus_of 2) (bus_at_start (bus_of 2)) events last × ((last 0).polling.items ≢ []) × ((last 1).polling.items ≢ [])
