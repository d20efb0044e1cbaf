-- Scans between the parts of a clean round may be moved out of it.
use Rattle.std.proofs.Common.{arith}
use Rattle.std.proofs.lemmas.Bool.Decides.{nat_tests}
use Rattle.fio_link.proofs.Names.{◌≡◌, ℕ, ◌==◌, Bool, true, false, List, [], ◌∷◌, ◌++◌, Option, Some, None, refl, sym, subst, AllByRecursion, Block, Settings, Event, Scan, ToModule, ToCpu, SentFrame, Machine, number_of, after_module_event, after_delivered_block, after_delivery_to_cpu, after, Leads}
use Rattle.fio_module.specs.Life as module_events
use Rattle.fio_link.specs.declared.event.Event.TheVariants.{LineSync, Raise, Poll}
use Rattle.fio_link.specs.MovedScans.{ReachesModule, ScansMoveOut}

-- what reaches the module and what the CPU hears may change places
heard-block : (first : ℕ) (machine : Machine) (event : module_events.Event) (block : Block) (index : ℕ)
    (same : Bool) → (block.number == number_of first machine.round) ≡ same
    → after_module_event (after_delivered_block first (record machine { last_to_cpu = index }) (Some block)) event
    ≡ after_delivered_block first (record (after_module_event machine event) { last_to_cpu = index }) (Some block)
heard-block first machine event block index true is = rw is refl
heard-block first machine event block index false is = rw is refl

heard-found : (first : ℕ) (machine : Machine) (event : module_events.Event) (index : ℕ) (found : Option Block)
    → after_module_event (after_delivered_block first (record machine { last_to_cpu = index }) found) event
    ≡ after_delivered_block first (record (after_module_event machine event) { last_to_cpu = index }) found
heard-found first machine event index None = refl
heard-found first machine event index (Some block) = grind (arith, nat_tests, heard-block)

heard-frame : (first : ℕ) (machine : Machine) (event : module_events.Event) (index : ℕ) (found : Option SentFrame)
    → after_module_event (after_delivery_to_cpu first machine index found) event ≡ after_delivery_to_cpu first (after_module_event machine event) index found
heard-frame first machine event index None = refl
heard-frame first machine event index (Some frame) = grind (arith, nat_tests, heard-found)

heard-then : (settings : Settings) (first : ℕ) (machine : Machine) (event : Event) (index : ℕ) → ReachesModule event
    → after settings first (after settings first machine (ToCpu index)) event
    ≡ after settings first (after settings first machine event) (ToCpu index)
heard-then settings first machine (Scan raw) index is = grind (arith, nat_tests, heard-frame)
heard-then settings first machine LineSync index is = grind (arith, nat_tests, heard-frame)
heard-then settings first machine (Raise mask) index is = grind (arith, nat_tests, heard-frame)
heard-then settings first machine other index is = absurd is

-- a poll moves after such events
poll_later : (settings : Settings) (first : ℕ) (machine last : Machine) (events rest : List Event)
    → AllByRecursion ReachesModule events → Leads settings first machine (Poll ∷ (events ++ rest)) last
    → Leads settings first machine (events ++ Poll ∷ rest) last
poll_later settings first machine last [] rest all leads = leads
poll_later settings first machine last (Scan raw ∷ events) rest all leads =
    (refl, poll_later settings first (after settings first machine (Scan raw)) last events rest all.1 (refl, leads.1.1))
poll_later settings first machine last (LineSync ∷ events) rest all leads =
    (refl, poll_later settings first (after settings first machine LineSync) last events rest all.1 (refl, leads.1.1))
poll_later settings first machine last (Raise mask ∷ events) rest all leads =
    (refl, poll_later settings first (after settings first machine (Raise mask)) last events rest all.1 (refl, leads.1.1))
poll_later settings first machine last (other ∷ events) rest all leads = absurd all.0

-- a delivery to the CPU moves before them
hears_earlier : (settings : Settings) (first : ℕ) (machine last : Machine) (events : List Event) (index : ℕ)
    → AllByRecursion ReachesModule events → Leads settings first machine (events ++ ToCpu index ∷ []) last
    → Leads settings first machine (ToCpu index ∷ events) last
hears_earlier settings first machine last [] index all leads = leads
hears_earlier settings first machine last (Scan raw ∷ events) index all leads =
    let rest = hears_earlier settings first (after settings first machine (Scan raw)) last events index all.1 leads.1 in
    (rest.0, (refl, subst (λ m. Leads settings first m events last) (sym (heard-then settings first machine (Scan raw) index tt)) rest.1))
hears_earlier settings first machine last (LineSync ∷ events) index all leads =
    let rest = hears_earlier settings first (after settings first machine LineSync) last events index all.1 leads.1 in
    (rest.0, (refl, subst (λ m. Leads settings first m events last) (sym (heard-then settings first machine LineSync index tt)) rest.1))
hears_earlier settings first machine last (Raise mask ∷ events) index all leads =
    let rest = hears_earlier settings first (after settings first machine (Raise mask)) last events index all.1 leads.1 in
    (rest.0, (refl, subst (λ m. Leads settings first m events last) (sym (heard-then settings first machine (Raise mask) index tt)) rest.1))
hears_earlier settings first machine last (other ∷ events) index all leads = absurd all.0

-- what is before the delivery of the poll stays there
then_moved : (settings : Settings) (first : ℕ) (machine last : Machine) (events : List Event) (command answer : ℕ) (later : List Event)
    → AllByRecursion ReachesModule later
    → Leads settings first machine (events ++ Poll ∷ ToModule command ∷ (later ++ ToCpu answer ∷ [])) last
    → Leads settings first machine (events ++ Poll ∷ ToModule command ∷ ToCpu answer ∷ later) last
then_moved settings first machine last [] command answer later all leads =
    let polled = after settings first machine Poll in
    (leads.0, (leads.1.0, hears_earlier settings first (after settings first polled (ToModule command)) last later answer all leads.1.1))
then_moved settings first machine last (event ∷ events) command answer later all leads =
    (leads.0, then_moved settings first (after settings first machine event) last events command answer later all leads.1)

-- so scans within a clean round are scans before and after it
pub scans_move_out : (settings : Settings) (first : ℕ) (machine : Machine) → ScansMoveOut settings first machine
scans_move_out settings first machine before later command answer last in_before in_later leads = grind (arith, nat_tests, then_moved, poll_later)
