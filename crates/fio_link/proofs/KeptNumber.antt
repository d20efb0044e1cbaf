-- A CPU that begins again with the number that it had: its lives are one run.
use Rattle.std.proofs.Common.{arith}
use Rattle.std.proofs.lemmas.Bool.Decides.{nat_tests}
use Rattle.fio_link.proofs.Names.{◌≡◌, ℕ, ◌+◌, ◌==◌, Bool, true, false, List, [], ◌∷◌, ◌++◌, Option, Some, None, refl, ap, sym, subst, ◌∙◌, if◌then◌else◌, append_assoc, append-nil, flat_map, Block, block_in, Settings, Item, items_of_block, Event, SentFrame, Machine, start, number_of, item_numbered, refusal, after_delivered_block, after_delivery_to_module, after_delivery_to_cpu, after, Leads}
use Rattle.fio_link.specs.declared.event.Event.TheVariants as events
use Rattle.fio_link.specs.CpuRestarts.{CpuLife, with_kept_number, LivesLead, KeptNumberLosesNothing}
use Rattle.fio_link.proofs.Grown.{leads-append}

-- a machine with these items before its record
abbrev with_earlier : List Item → Machine → Machine
with_earlier before machine = record machine { items = before ++ machine.items }

module _ (settings : Settings) (first : ℕ) (before : List Item) where
  -- they change nothing else
  same_refusal : (machine : Machine) (event : Event) → refusal (with_earlier before machine) event ≡ refusal machine event
  same_refusal machine (events.ToModule index) = refl
  same_refusal machine (events.ToCpu index) = refl
  same_refusal machine (events.Send command) = refl
  same_refusal machine event = refl

  received : (machine : Machine) (index : ℕ) (frame : Option SentFrame)
      → after_delivery_to_module settings (with_earlier before machine) index frame
      ≡ with_earlier before (after_delivery_to_module settings machine index frame)
  received machine index None = refl
  received machine index (Some frame) = refl

  taken : (machine : Machine) (block : Block) (same : Bool)
      → (if same then record machine { round = machine.round + 1; items = (before ++ machine.items) ++ items_of_block block } else with_earlier before machine)
      ≡ with_earlier before (if same then record machine { round = machine.round + 1; items = machine.items ++ items_of_block block } else machine)
  taken machine block true = grind (arith, nat_tests, append_assoc)
  taken machine block false = refl

  heard_block : (machine : Machine) (found : Option Block)
      → after_delivered_block first (with_earlier before machine) found ≡ with_earlier before (after_delivered_block first machine found)
  heard_block machine None = refl
  heard_block machine (Some block) = taken machine block (block.number == number_of first machine.round)

  heard : (machine : Machine) (index : ℕ) (frame : Option SentFrame)
      → after_delivery_to_cpu first (with_earlier before machine) index frame
      ≡ with_earlier before (after_delivery_to_cpu first machine index frame)
  heard machine index None = refl
  heard machine index (Some frame) = heard_block (record machine { last_to_cpu = index }) (block_in frame.octets)

  same_after : (machine : Machine) (event : Event)
      → after settings first (with_earlier before machine) event ≡ with_earlier before (after settings first machine event)
  same_after machine (events.ToModule index) = received machine index (item_numbered machine.to_module index)
  same_after machine (events.ToCpu index) = heard machine index (item_numbered machine.to_cpu index)
  same_after machine event = refl

  leads_earlier : (events : List Event) (machine last : Machine) → Leads settings first machine events last
      → Leads settings first (with_earlier before machine) events (with_earlier before last)
  leads_earlier [] machine last leads = ap (with_earlier before) leads
  leads_earlier (event ∷ events) machine last leads = (
    same_refusal machine event ∙ leads.0,
    subst (λ m. Leads settings first m events (with_earlier before last)) (sym (same_after machine event))
        (leads_earlier events (after settings first machine event) last leads.1),
  )

-- the records, joined, are that of all events
joined : (settings : Settings) (first : ℕ) (before : List Item) (lives : List CpuLife) (machine last : Machine)
    → LivesLead settings first machine lives last
    → Leads settings first (record machine { items = before }) (flat_map (λ (life : CpuLife). life.events) lives)
    (record last { items = before ++ flat_map (λ (life : CpuLife). life.items) lives })
joined settings first before [] machine last same = grind (arith, nat_tests, append-nil)
joined settings first before (life ∷ lives) machine last l =
    let ended = l.0 in
    let rest = flat_map (λ (life : CpuLife). life.items) lives in
    let now : Leads settings first (record machine { items = before }) life.events (with_earlier before ended) =
    subst (λ items. Leads settings first (record machine { items = items }) life.events (with_earlier before ended)) (append-nil before)
    (leads_earlier settings first before life.events (with_kept_number machine) ended l.1) in
    let later : Leads settings first (record ended { items = before ++ life.items }) (flat_map (λ (life : CpuLife). life.events) lives)
    (record last { items = before ++ (life.items ++ rest) }) =
    subst (λ items. Leads settings first (record ended { items = before ++ life.items }) (flat_map (λ (life : CpuLife). life.events) lives) (record last { items = items }))
    (append_assoc before life.items rest) (joined settings first (before ++ life.items) lives ended last l.3) in
    leads-append settings first life.events (flat_map (λ (life : CpuLife). life.events) lives)
    (record machine { items = before }) (record ended { items = before ++ life.items }) (record last { items = before ++ (life.items ++ rest) })
    (subst (λ items. Leads settings first (record machine { items = before }) life.events (record ended { items = before ++ items })) l.2 now) later

pub kept_number_loses_nothing : KeptNumberLosesNothing
kept_number_loses_nothing settings first lives last l = joined settings first [] lives start last l
