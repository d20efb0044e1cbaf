-- Lines that carry the same to all make a bus.
use Rattle.fio_ends.proofs.Names.{◌≡◌, ◌∙◌, ◌<◌, inl, inr, ℕ, Bool, true, false, List, [], ◌∷◌, ◌++◌, map, Option, Some, None, refl, sym, subst, same_Some, if◌then◌else◌, ◌==◌, eqb_tells, Event, Arrives, AtCpu, AtModule, ComesWhole, EndOf, FLAG, Happens, HasNoFlag, LeadOverLines, Loss, Octet, WireLine, WiredEnds, frame_of, item_numbered, part_brought, stuffed, free_of_flags, MayHappen, BusEnds, LeadOnBus, MayBringTo, MayComeAt, after_bus_event, bus_at_start, ArrivesAtAll, AtDecoders, AtModules, BroughtToAll, EachFrameMayComeToAll, EndOfFrame, HappensAt, HeadlineOverSharedLines, LeadOverShared, MayBringToAll, MayComeToAll, SharedEvent, SharedLinesAreABus, at_each, brought_to, part_to_all}
use Rattle.fio_ends.specs.Bus.{Bus}
use Rattle.fio_ends.proofs.LinePremises.{frames_to_cpu, frames_to_module}
use Rattle.fio_ends.proofs.BusStations.{headline_at_stations}
use Rattle.fio_ends.proofs.SharedParts.{IsNoneOr, IsShared, shared_by_decoders, shared_by_modules}

same_part : (common mine : Option (List ℕ)) (part : List ℕ) → IsNoneOr common mine → mine ≡ Some part → common ≡ Some part
same_part common mine part (inl none) is = let no : None ≡ Some part = sym none ∙ is in absurd (cc no)
same_part common mine part (inr same) is = sym same ∙ is

module _ (bus : Bus) where
  -- what a line carries to all, it may carry to each
  brings : (line : ℕ → WireLine) → IsShared line → (station : ℕ) → station < bus.count → (brought : BroughtToAll)
      → MayBringToAll bus line brought → MayBringTo bus line station (brought_to station brought)
  brings line is station within (ArrivesAtAll (Octet octet)) may = λ flag part same. inl (may flag station within part same)
  brings line is station within (ArrivesAtAll Loss) may = tt
  brings line is station within (EndOfFrame sender number) may =
      elim (eqb_tells station sender) as (λ _. MayBringTo bus line station (brought_to station (EndOfFrame sender number))) [
        | inl mine ↦
            subst (λ b. MayBringTo bus line station (if b then EndOf number else Arrives (Octet FLAG))) (sym mine.0)
            (subst (λ s. ComesWhole (line s) number) (sym mine.1) may.1)
        | inr other ↦
            subst (λ b. MayBringTo bus line station (if b then EndOf number else Arrives (Octet FLAG))) (sym other.0)
            (λ flag part same. (
            let whole : ComesWhole (line sender) number = may.1 in
            let common : Some whole.part ≡ Some part =
            sym (same_part is.0 (line sender).part whole.part (is.1 sender) whole.is_part)
            ∙ same_part is.0 (line station).part part (is.1 station) same in
            inr (record {
              sender = sender;
              is_on_bus = may.0;
              is_other = λ e. other.1 (sym e);
              number = number;
              is_written =
                  subst (λ p. item_numbered (line sender).written number ≡ Some (FLAG ∷ p ++ FLAG ∷ [])) (same_Some _ _ common) whole.is_written;
            })
            ))
      ]

  happens_if : (ends : BusEnds) (station : ℕ) (event : Event) (is : Bool) → MayHappen event
      → MayComeAt bus ends station (if is then Some (Happens event) else None)
  happens_if ends station event true may = may
  happens_if ends station event false may = tt

  comes : (ends : BusEnds) → IsShared (λ station. (ends station).to_module) → IsShared (λ station. (ends station).to_cpu)
      → (event : SharedEvent) → MayComeToAll bus ends event
      → (station : ℕ) → station < bus.count → MayComeAt bus ends station (at_each event station)
  comes ends m c (HappensAt at event) may station within = happens_if ends station event (station == at) may
  comes ends m c (AtModules brought) may station within = brings (λ other. (ends other).to_module) m station within brought may
  comes ends m c (AtDecoders brought) may station within = brings (λ other. (ends other).to_cpu) c station within brought may

  leads : (events : List SharedEvent) (ends last : BusEnds) → IsShared (λ station. (ends station).to_module)
      → IsShared (λ station. (ends station).to_cpu) → LeadOverShared bus ends events last
      → LeadOnBus bus ends (map at_each events) last
  leads [] ends last m c lead = lead
  leads (event ∷ events) ends last m c lead = (
    comes ends m c event lead.0,
    leads events (after_bus_event bus ends (at_each event)) last
        (shared_by_modules bus ends event m) (shared_by_decoders bus ends event c) lead.1,
  )

  -- ---- Each frame may come

  module_frame : (sender number : ℕ) → sender < bus.count → (part : List ℕ) (ends : BusEnds) (last : WiredEnds) → HasNoFlag part
      → LeadOverLines (bus.station sender).settings (bus.station sender).framing (ends sender) (part_brought AtModule part (EndOf number)) last
      → (later : BusEnds) × LeadOverShared bus ends (part_to_all AtModules part (EndOfFrame sender number)) later
  module_frame sender number within [] ends last free lead =
      (after_bus_event bus ends (at_each (AtModules (EndOfFrame sender number))), ((within, lead.0), refl))
  module_frame sender number within (o ∷ part) ends last free lead =
      let next = after_bus_event bus ends (at_each (AtModules (ArrivesAtAll (Octet o)))) in
      let rest = module_frame sender number within part next last free.1 lead.1 in
      (rest.0, ((λ flag station there octets is. absurd (free.0 flag)), rest.1))

  cpu_frame : (sender number : ℕ) → sender < bus.count → (part : List ℕ) (ends : BusEnds) (last : WiredEnds) → HasNoFlag part
      → LeadOverLines (bus.station sender).settings (bus.station sender).framing (ends sender) (part_brought AtCpu part (EndOf number)) last
      → (later : BusEnds) × LeadOverShared bus ends (part_to_all AtDecoders part (EndOfFrame sender number)) later
  cpu_frame sender number within [] ends last free lead =
      (after_bus_event bus ends (at_each (AtDecoders (EndOfFrame sender number))), ((within, lead.0), refl))
  cpu_frame sender number within (o ∷ part) ends last free lead =
      let next = after_bus_event bus ends (at_each (AtDecoders (ArrivesAtAll (Octet o)))) in
      let rest = cpu_frame sender number within part next last free.1 lead.1 in
      (rest.0, ((λ flag station there octets is. absurd (free.0 flag)), rest.1))

pub shared_lines_are_a_bus : SharedLinesAreABus
shared_lines_are_a_bus bus events last lead =
    leads bus events (bus_at_start bus) last (None, λ station. inl refl) (None, λ station. inl refl) lead

pub headline_over_shared_lines : HeadlineOverSharedLines
headline_over_shared_lines bus events last station is lead within =
    headline_at_stations bus (map at_each events) last station is (shared_lines_are_a_bus bus events last lead) within

pub frames_to_all_modules : EachFrameMayComeToAll (λ ends. ends.to_module) AtModules
frames_to_all_modules bus ends sender number message within begun order is =
    let framing = (bus.station sender).framing in
    let alone = frames_to_module (bus.station sender).settings framing (ends sender) number message begun order is in
    module_frame bus sender number within (stuffed (frame_of framing.address framing.control message)) ends alone.0
    (free_of_flags (frame_of framing.address framing.control message)) alone.1

pub frames_to_all_decoders : EachFrameMayComeToAll (λ ends. ends.to_cpu) AtDecoders
frames_to_all_decoders bus ends sender number message within begun order is =
    let framing = (bus.station sender).framing in
    let alone = frames_to_cpu (bus.station sender).settings framing (ends sender) number message begun order is in
    cpu_frame bus sender number within (stuffed (frame_of framing.address framing.control message)) ends alone.0
    (free_of_flags (frame_of framing.address framing.control message)) alone.1
