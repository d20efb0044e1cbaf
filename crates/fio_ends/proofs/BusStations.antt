-- Each station of a bus goes as if it were alone on its lines.
use Rattle.fio_ends.proofs.Names.{◌<◌, ◌⊎◌, inl, inr, ℕ, List, [], ◌∷◌, Option, Some, None, ap, Machine, start, SentFrame, Arrives, AtCpu, AtModule, EndOf, Happens, LeadOverLines, Loss, MayBring, Octet, WireEvent, WireLine, WiredEnds, Brought, MayCome, IsNoise, BusEnds, BusEvent, IsAnothers, IsBus, LeadOnBus, MayBringTo, MayComeAt, Station, after_bus_event, after_if, at_station, bus_at_start, with_event, HeadlineAtStations, StationsAreLines, StationsAreRuns, nat_tests, arith}
use Rattle.fio_ends.specs.Bus.{Bus}
use Rattle.fio_ends.proofs.LineFrames.{IsLine}
use Rattle.fio_ends.proofs.LineRuns.{Follows, begin, follow_one, headline_over_lines, lines_are_runs}
use Rattle.fio_ends.proofs.BusNoise.{written_noise}

-- what may come over the lines of a station, if anything does
abbrev pub MayComeIf : Station → WiredEnds → Option WireEvent → Type 0
MayComeIf station ends None = Unit {0}
MayComeIf station ends (Some event) = MayCome station.framing ends event

lead_if : (station : Station) (event : Option WireEvent) (events : List WireEvent) (ends last : WiredEnds) → MayComeIf station ends event
    → LeadOverLines station.settings station.framing (after_if station ends event) events last
    → LeadOverLines station.settings station.framing ends (with_event event events) last
lead_if station None events ends last may lead = lead
lead_if station (Some event) events ends last may lead = (may, lead)

module _ (bus : Bus) (is : IsBus bus) where
  -- each station's line has the frames of a machine
  abbrev HasFrames : (ℕ → WireLine) → Type 0
  HasFrames line =
      (station : ℕ) → station < bus.count
      → (sent_frames : List SentFrame) × (last : ℕ) × IsLine (bus.station station).framing sent_frames last (line station)

  noise_alone : (line : ℕ → WireLine) (station : ℕ) → HasFrames line → station < bus.count → (part : List ℕ)
      → IsNoise (bus.station station).framing.own part ⊎ IsAnothers bus line station part
      → IsNoise (bus.station station).framing.own part
  noise_alone line station has within part (inl noise) = noise
  noise_alone line station has within part (inr anothers) =
      let sender = has anothers.sender anothers.is_on_bus in
      written_noise (bus.station station).framing.own (bus.station anothers.sender).framing (is.framing anothers.sender anothers.is_on_bus)
      (is.apart anothers.sender station anothers.is_on_bus within anothers.is_other) sender.0 sender.1 (line anothers.sender) anothers.number part sender.2 anothers.is_written

  -- what a line may carry to a station, it may carry if the station is alone
  bring_alone : (line : ℕ → WireLine) (station : ℕ) → HasFrames line → station < bus.count → (brought : Brought)
      → MayBringTo bus line station brought → MayBring (bus.station station).framing.own (line station) brought
  bring_alone line station has within (Arrives (Octet octet)) may =
      λ flag part same. noise_alone line station has within part (may flag part same)
  bring_alone line station has within (Arrives Loss) may = tt
  bring_alone line station has within (EndOf number) may = may

  -- each station follows a machine
  abbrev AllFollow : BusEnds → Type 0
  AllFollow ends =
      (station : ℕ) → station < bus.count
      → (machine : Machine) × Follows (bus.station station).framing (bus.station station).first machine (ends station)

  come_alone : (ends : BusEnds) (station : ℕ) → AllFollow ends → station < bus.count → (event : Option WireEvent)
      → MayComeAt bus ends station event → MayComeIf (bus.station station) (ends station) event
  come_alone ends station all within None may = tt
  come_alone ends station all within (Some (Happens event)) may = may
  come_alone ends station all within (Some (AtModule brought)) may =
      bring_alone (λ other. (ends other).to_module) station
      (λ other there. (let f = all other there in (f.0.to_module, f.0.last_to_module, f.1.to_module))) within brought may
  come_alone ends station all within (Some (AtCpu brought)) may =
      bring_alone (λ other. (ends other).to_cpu) station
      (λ other there. (let f = all other there in (f.0.to_cpu, f.0.last_to_cpu, f.1.to_cpu))) within brought may

  follow_if : (station : ℕ) → station < bus.count → (machine : Machine) (ends : WiredEnds) (event : Option WireEvent)
      → Follows (bus.station station).framing (bus.station station).first machine ends
      → MayComeIf (bus.station station) ends event
      → (next : Machine) × Follows (bus.station station).framing (bus.station station).first next (after_if (bus.station station) ends event)
  follow_if station within machine ends None f may = (machine, f)
  follow_if station within machine ends (Some event) f may =
      follow_one (bus.station station).settings (is.settings station within) (bus.station station).framing (is.framing station within) (bus.station station).first event machine ends f may

  lead_alone : (events : List BusEvent) (ends last : BusEnds) → AllFollow ends → LeadOnBus bus ends events last
      → (station : ℕ) → station < bus.count
      → LeadOverLines (bus.station station).settings (bus.station station).framing (ends station) (at_station station events) (last station)
  lead_alone [] ends last all lead station within = ap (λ (e : BusEnds). e station) lead
  lead_alone (event ∷ events) ends last all lead station within =
      let alone = λ (other : ℕ) (there : other < bus.count). come_alone ends other all there (event other) (lead.0 other there) in
      lead_if (bus.station station) (event station) (at_station station events) (ends station) (last station) (alone station within)
      (lead_alone events (after_bus_event bus ends event) last
      (λ other there. follow_if other there (all other there).0 (ends other) (event other) (all other there).1 (alone other there))
      lead.1 station within)

  begin_all : AllFollow (bus_at_start bus)
  begin_all station within = (
    start,
    begin (bus.station station).settings (is.settings station within) (bus.station station).framing (is.framing station within)
        (bus.station station).first (is.first station within),
  )

pub stations_are_lines : StationsAreLines
stations_are_lines bus events last station is lead within =
    lead_alone bus is events (bus_at_start bus) last (begin_all bus is) lead station within

pub stations_are_runs : StationsAreRuns
stations_are_runs bus events last station is lead within = grind (arith, nat_tests, lines_are_runs, stations_are_lines)

pub headline_at_stations : HeadlineAtStations
headline_at_stations bus events last station is lead within =
    headline_over_lines (bus.station station).settings (bus.station station).framing (bus.station station).first (at_station station events)
    (last station) (is.settings station within) (is.framing station within) (is.first station within)
    (stations_are_lines bus events last station is lead within)
