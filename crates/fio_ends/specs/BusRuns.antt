-- Each station of a bus is a run of the link, as if it were alone on its lines.
use Rattle.std.specs.Prelude.{◌≡◌, ℕ, ◌<◌, ◌≤◌, List}
use Rattle.fio_module.specs.Settings.{Settings, standard_settings}
use Rattle.fio_link.specs.Headline.{Headline}
use Rattle.fio_ends.specs.Lines.{Framing, WiredEnds, WireEvent, ends_at_start, events_on_wire}
use Rattle.fio_ends.specs.LineRuns.{AreOfRun, LeadOverLines}
use Rattle.fio_ends.specs.Bus.{Bus, IsBus, BusEnds, BusEvent, LeadOnBus, at_station, bus_at_start}

-- a promise holds of each station of a bus, from the start on, by all that comes there
abbrev pub HoldsAtStations : (Settings → Framing → ℕ → List WireEvent → WiredEnds → Type 0) → Type 0
HoldsAtStations Holds =
    (bus : Bus) (events : List BusEvent) (last : BusEnds) (station : ℕ)
    → IsBus bus → LeadOnBus bus (bus_at_start bus) events last → station < bus.count
    → Holds (bus.station station).settings (bus.station station).framing (bus.station station).first
    (at_station station events) (last station)

-- What comes at a station may come over its lines if it is alone: each promise over lines holds on a bus.
abbrev pub StationsAreLines : Type 0
StationsAreLines =
    HoldsAtStations (λ settings framing first events last. LeadOverLines settings framing (ends_at_start first) events last)

-- Each station is a run of the link.
abbrev pub StationsAreRuns : Type 0
StationsAreRuns =
    HoldsAtStations (λ settings framing first events last. AreOfRun settings framing first (events_on_wire events) last)

-- So the headline holds of each station's record.
abbrev pub HeadlineAtStations : Type 0
HeadlineAtStations =
    HoldsAtStations (λ settings framing first events last. Headline settings first (events_on_wire events) last.polling.items)

-- ---- What the premises leave open

-- What may come over the lines of each station if it is alone may come on a bus.
abbrev pub LinesAreStations : Type 0
LinesAreStations =
    (bus : Bus) (ends last : BusEnds) (events : List BusEvent)
    → ((station : ℕ) → station < bus.count
    → LeadOverLines (bus.station station).settings (bus.station station).framing (ends station) (at_station station events) (last station))
    → (later : BusEnds) × LeadOnBus bus ends events later × ((station : ℕ) → station < bus.count → later station ≡ last station)

-- this number of stations, each with its number as its address
abbrev pub bus_of : ℕ → Bus
bus_of count = record {
  count = count;
  station =
      λ station. record {
        settings = standard_settings 2;
        framing = record { address = station; control = 131; own = record { address = station; control = 131 } };
        first = 0;
      };
}

-- There is a bus of each number of stations up to 256.
abbrev pub BusesExist : Type 0
BusesExist = (count : ℕ) → count ≤ 256 → IsBus (bus_of count)
