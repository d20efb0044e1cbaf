-- What the premises of a bus leave open: whatever may come at each station if it is alone, and up to 256 stations.
use Rattle.fio_ends.proofs.Names.{◌≡◌, ◌≢◌, ◌<◌, inl, ℕ, Bool, true, false, List, [], ◌∷◌, Option, Some, None, refl, sym, arith, nat_tests, ◌&&◌, Arrives, AtCpu, AtModule, EndOf, Happens, LeadOverLines, Loss, MayBring, Octet, WireEvent, WireLine, WiredEnds, standard_in_range, admits, Brought, BusEnds, MayBringTo, MayComeAt, Station, after_bus_event, after_if, at_station, with_event, BusesExist, LinesAreStations}
use Rattle.fio_ends.specs.Bus.{Bus}
use Rattle.fio_ends.proofs.BusStations.{MayComeIf}

parts_of : (station : Station) (event : Option WireEvent) (events : List WireEvent) (ends last : WiredEnds)
    → LeadOverLines station.settings station.framing ends (with_event event events) last
    → MayComeIf station ends event × LeadOverLines station.settings station.framing (after_if station ends event) events last
parts_of station None events ends last lead = (tt, lead)
parts_of station (Some event) events ends last lead = (lead.0, lead.1)

module _ (bus : Bus) where
  bring_to : (line : ℕ → WireLine) (station : ℕ) (brought : Brought) → MayBring (bus.station station).framing.own (line station) brought
      → MayBringTo bus line station brought
  bring_to line station (Arrives (Octet octet)) may = λ flag part same. inl (may flag part same)
  bring_to line station (Arrives Loss) may = tt
  bring_to line station (EndOf number) may = may

  come_at : (ends : BusEnds) (station : ℕ) (event : Option WireEvent) → MayComeIf (bus.station station) (ends station) event
      → MayComeAt bus ends station event
  come_at ends station None may = tt
  come_at ends station (Some (Happens event)) may = may
  come_at ends station (Some (AtModule brought)) may = bring_to (λ other. (ends other).to_module) station brought may
  come_at ends station (Some (AtCpu brought)) may = bring_to (λ other. (ends other).to_cpu) station brought may

-- what may come if each station is alone may come on a bus
pub lines_are_stations : LinesAreStations
lines_are_stations bus ends last [] leads = (ends, refl, λ station within. sym (leads station within))
lines_are_stations bus ends last (event ∷ events) leads =
    let parts = λ (station : ℕ) (within : station < bus.count).
    parts_of (bus.station station) (event station) (at_station station events) (ends station) (last station) (leads station within) in
    let rest = lines_are_stations bus (after_bus_event bus ends event) last events (λ station within. (parts station within).1) in
    (rest.0, ((λ station within. come_at bus ends station (event station) (parts station within).0), rest.1), rest.2)

-- ---- Addresses

same_admitted : (octet : ℕ) → admits octet octet ≡ true
same_admitted octet = grind (arith, nat_tests)

other_not_admitted : (setting octet : ℕ) → setting < 256 → octet ≢ setting → admits setting octet ≡ false
other_not_admitted setting octet small other = grind (arith, nat_tests)

both : (a b : Bool) → a ≡ true → b ≡ true → (a && b) ≡ true
both a b x y = grind arith

not_both : (a b : Bool) → a ≡ false → (a && b) ≡ false
not_both true b x = absurd (cc x)
not_both false b x = refl

-- each station's number is its address
pub buses_exist : BusesExist
buses_exist count few = grind (arith, nat_tests, standard_in_range, both, same_admitted, not_both, other_not_admitted)
