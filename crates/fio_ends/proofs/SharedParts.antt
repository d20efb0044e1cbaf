-- What the receivers of a line that carries the same to all have of the present part: the same octets, or nothing.
use Rattle.fio_ends.proofs.Names.{◌≡◌, ◌∙◌, ◌⊎◌, inl, inr, ℕ, Bool, true, false, List, [], ◌∷◌, ◌++◌, Option, Some, None, refl, ap, if◌then◌else◌, ◌==◌, option_map, Answer, Event, Restart, Framing, Settings, Arrives, EndOf, FLAG, Happens, Octet, Loss, WireLine, WiredEnds, after_message, after_receipt, message_heard, line_after, part_after, reply_to, with_answer_written, Arrival, after_happening, arrival_of, BusEnds, Station, after_bus_event, after_if, ArrivesAtAll, AtDecoders, AtModules, BroughtToAll, EndOfFrame, HappensAt, SharedEvent, at_each, brought_to, nat_tests, arith}
use Rattle.fio_ends.specs.Bus.{Bus}
use Rattle.fio_ends.proofs.LinePremises.{at_module, at_cpu}

-- nothing, or this
abbrev pub IsNoneOr : Option (List ℕ) → Option (List ℕ) → Type 0
IsNoneOr common part = (part ≡ None) ⊎ (part ≡ common)

-- each receiver of a line has the same of the present part, or nothing
abbrev pub IsShared : (ℕ → WireLine) → Type 0
IsShared line = (common : Option (List ℕ)) × ((station : ℕ) → IsNoneOr common (line station).part)

-- ---- What arrives at all

shared_octet : (is_flag : Bool) (o : ℕ) (common part : Option (List ℕ)) → part ≡ None
    → IsNoneOr (if is_flag then Some [] else option_map (λ before. before ++ o ∷ []) common)
    (if is_flag then Some [] else option_map (λ before. before ++ o ∷ []) part)
shared_octet true o common part none = inr refl
shared_octet false o common part none = inl (ap (option_map (λ before. before ++ o ∷ [])) none)

shared_arrival : (arrival : Arrival) (common part : Option (List ℕ)) → IsNoneOr common part
    → IsNoneOr (part_after common arrival) (part_after part arrival)
shared_arrival (Octet o) common part (inl none) = shared_octet (o == FLAG) o common part none
shared_arrival (Octet o) common part (inr same) = inr (ap (λ p. part_after p (Octet o)) same)
shared_arrival Loss common part is = inl refl

-- what arrives at all
abbrev pub arrival_at_all : BroughtToAll → Arrival
arrival_at_all (ArrivesAtAll arrival) = arrival
arrival_at_all (EndOfFrame sender number) = Octet FLAG

flag_if : (is : Bool) (number : ℕ) → arrival_of (if is then EndOf number else Arrives (Octet FLAG)) ≡ Octet FLAG
flag_if true number = refl
flag_if false number = refl

same_arrival : (station : ℕ) (brought : BroughtToAll) → arrival_of (brought_to station brought) ≡ arrival_at_all brought
same_arrival station (ArrivesAtAll arrival) = refl
same_arrival station (EndOfFrame sender number) = flag_if (station == sender) number

-- a line whose part goes on so
shared_on : (common : Option (List ℕ)) (station : ℕ) (brought : BroughtToAll) (before after : WireLine)
    → after ≡ line_after before (brought_to station brought) → IsNoneOr common before.part
    → IsNoneOr (part_after common (arrival_at_all brought)) after.part
shared_on common station brought before after goes is = grind (arith, nat_tests, part_after, same_arrival, shared_arrival, inl, inr)

-- ---- What changes no part, or ends it

less : (common before after : Option (List ℕ)) → IsNoneOr before after → IsNoneOr common before → IsNoneOr common after
less common before after (inl none) is = inl none
less common before after (inr same) (inl none) = inl (same ∙ none)
less common before after (inr same) (inr is) = inr (same ∙ is)

answered : (framing : Framing) (line : WireLine) (reply : Option Answer) → (with_answer_written framing line reply).part ≡ line.part
answered framing line None = refl
answered framing line (Some answer) = refl

received : (settings : Settings) (framing : Framing) (ends : WiredEnds) (heard : Option (List ℕ))
    → (after_receipt settings framing ends heard).to_cpu.part ≡ ends.to_cpu.part
received settings framing ends None = refl
received settings framing ends (Some message) = answered framing ends.to_cpu (reply_to settings ends.history message)

heard_by_cpu : (ends : WiredEnds) (heard : Option (List ℕ)) → (after_message ends heard).to_module.part ≡ ends.to_module.part
heard_by_cpu ends None = refl
heard_by_cpu ends (Some message) = refl

module_happening : (framing : Framing) (ends : WiredEnds) (event : Event)
    → IsNoneOr ends.to_module.part (after_happening framing ends event).to_module.part
module_happening framing ends Restart = inl refl
module_happening framing ends other = inr refl

cpu_happening : (framing : Framing) (ends : WiredEnds) (event : Event)
    → IsNoneOr ends.to_cpu.part (after_happening framing ends event).to_cpu.part
cpu_happening framing ends Restart = inr refl
cpu_happening framing ends other = inr refl

module_if : (station : Station) (ends : WiredEnds) (event : Event) (is : Bool)
    → IsNoneOr ends.to_module.part (after_if station ends (if is then Some (Happens event) else None)).to_module.part
module_if station ends event true = module_happening station.framing ends event
module_if station ends event false = inr refl

cpu_if : (station : Station) (ends : WiredEnds) (event : Event) (is : Bool)
    → IsNoneOr ends.to_cpu.part (after_if station ends (if is then Some (Happens event) else None)).to_cpu.part
cpu_if station ends event true = cpu_happening station.framing ends event
cpu_if station ends event false = inr refl

-- ---- After an event

module _ (bus : Bus) (ends : BusEnds) where
  pub shared_by_modules : (event : SharedEvent) → IsShared (λ station. (ends station).to_module)
      → IsShared (λ station. (after_bus_event bus ends (at_each event) station).to_module)
  shared_by_modules (HappensAt at event) is = (
    is.0,
    λ station.
        less is.0 (ends station).to_module.part (after_bus_event bus ends (at_each (HappensAt at event)) station).to_module.part
        (module_if (bus.station station) (ends station) event (station == at)) (is.1 station),
  )
  shared_by_modules (AtModules brought) is = (
    part_after is.0 (arrival_at_all brought),
    λ station.
        shared_on is.0 station brought (ends station).to_module (after_bus_event bus ends (at_each (AtModules brought)) station).to_module
        (at_module.goes (bus.station station).settings (bus.station station).framing (ends station) (brought_to station brought))
        (is.1 station),
  )
  shared_by_modules (AtDecoders brought) is = (
    is.0,
    λ station.
        let before = record (ends station) { to_cpu = line_after (ends station).to_cpu (brought_to station brought) } in
        let heard = message_heard (bus.station station).framing.own (ends station).to_cpu.reading (arrival_of (brought_to station brought)) in
        less is.0 (ends station).to_module.part (after_bus_event bus ends (at_each (AtDecoders brought)) station).to_module.part
        (inr (heard_by_cpu before heard)) (is.1 station),
  )

  pub shared_by_decoders : (event : SharedEvent) → IsShared (λ station. (ends station).to_cpu)
      → IsShared (λ station. (after_bus_event bus ends (at_each event) station).to_cpu)
  shared_by_decoders (HappensAt at event) is = (
    is.0,
    λ station.
        less is.0 (ends station).to_cpu.part (after_bus_event bus ends (at_each (HappensAt at event)) station).to_cpu.part
        (cpu_if (bus.station station) (ends station) event (station == at)) (is.1 station),
  )
  shared_by_decoders (AtModules brought) is = (
    is.0,
    λ station.
        let before = record (ends station) { to_module = line_after (ends station).to_module (brought_to station brought) } in
        let heard = message_heard (bus.station station).framing.own (ends station).to_module.reading (arrival_of (brought_to station brought)) in
        less is.0 (ends station).to_cpu.part (after_bus_event bus ends (at_each (AtModules brought)) station).to_cpu.part
        (inr (received (bus.station station).settings (bus.station station).framing before heard)) (is.1 station),
  )
  shared_by_decoders (AtDecoders brought) is = (
    part_after is.0 (arrival_at_all brought),
    λ station.
        shared_on is.0 station brought (ends station).to_cpu (after_bus_event bus ends (at_each (AtDecoders brought)) station).to_cpu
        (at_cpu.goes (bus.station station).settings (bus.station station).framing (ends station) (brought_to station brought))
        (is.1 station),
  )
