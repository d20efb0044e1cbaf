-- What each event keeps.
use Rattle.fio_link.proofs.Names.{◌≡◌, ℕ, suc, ◌+◌, ◌-◌, ◌^◌, ◌<◌, ◌≤◌, List, [], ◌∷◌, length, Option, Some, None, slice_get, ap, sym, subst, ◌∙◌, arith, nat_tests, same_Some, Command, Block, command_octets, poll_in, Settings, Event, SentFrame, Machine, number_of, item_numbered, delivery_refusal, refusal, after_module_event, after_sending, after_delivery_to_module, after_delivery_to_cpu, after, Leads, HasBlock, IsNotRestart, HaveNoRestart}
use Rattle.fio_message.specs.declared.commands.Command.TheVariants as commands
use Rattle.fio_message.proofs.MessageLaws.{poll_back}
use Rattle.fio_module.specs.Life as module_events
use Rattle.fio_link.specs.declared.event.Event.TheVariants as events
use Rattle.fio_link.proofs.Places.{some_block}
use Rattle.fio_link.proofs.RoundNumbers.{number_of-fits}
use Rattle.fio_link.proofs.Spelled.{no_poll_in}
use Rattle.fio_link.proofs.HeardRows.{after_taken, InOrder, after_heard}

-- a delivery that is not refused names a frame, not before the one delivered last
pub record CanDeliver (frames : List SentFrame) (last index : ℕ) : Type 0 where
  pub place : ℕ
  pub numbered : index ≡ place + 1
  pub frame : SentFrame
  pub found : slice_get frames place ≡ Some frame
  pub in_order : last ≤ index

pub deliverable : (frames : List SentFrame) (last index : ℕ) → delivery_refusal (length frames) last index ≡ None
    → CanDeliver frames last index
deliverable frames last index fine =
    let low : 0 < index = grind (arith, nat_tests) in
    let high : index ≤ length frames = grind (arith, nat_tests) in
    let order : last ≤ index = grind (arith, nat_tests) in
    let found = some_block frames (index - 1) (omega arith) in
    record { place = index - 1; numbered = omega arith; frame = found.0; found = found.1; in_order = order }

-- the frame with a number is at the place before
pub frame_at_place : (frames : List SentFrame) (place : ℕ)
    → item_numbered frames (place + 1) ≡ slice_get frames place
frame_at_place frames place = let next : place + 1 ≡ suc place = omega arith in ap (item_numbered frames) next

-- what holds after the delivery of each frame, from the one delivered last on, holds after a delivery
-- that is not refused
pub after_delivery : (P : ℕ → Option SentFrame → Type 0) (frames : List SentFrame) (last index : ℕ)
    → delivery_refusal (length frames) last index ≡ None
    → ((place : ℕ) (frame : SentFrame) → last ≤ place + 1 → slice_get frames place ≡ Some frame → P (place + 1) (Some frame))
    → P index (item_numbered frames index)
after_delivery P frames last index fine each =
    let d = deliverable frames last index fine in
    let at = d.numbered in
    let le : last ≤ d.place + 1 = omega (arith, d.in_order) in
    let here = sym (frame_at_place frames d.place ∙ d.found) in
    subst (λ n. P n (item_numbered frames n)) (sym at) (subst (P (d.place + 1)) here (each d.place d.frame le d.found))

-- What has to be shown of a property of machines, event by event, if these facts are known of the machine before.
pub record IsKeptByEvents (settings : Settings) (first : ℕ) (Known P : Machine → Type 0) : Type 0 where
  pub scans : (machine : Machine) (raw : ℕ) → Known machine
      → P machine → P (after_module_event machine (module_events.Scan raw))
  pub syncs : (machine : Machine) → Known machine → P machine → P (after_module_event machine module_events.LineSync)
  pub raises : (machine : Machine) (mask : ℕ) → Known machine
      → P machine → P (after_module_event machine (module_events.Raise mask))
  -- the CPU sends a command, with its number if it is a poll
  pub sends : (machine : Machine) (command : Command) → Known machine
      → ((n : ℕ) → poll_in (command_octets command) ≡ Some n → n ≡ number_of first machine.round)
      → P machine → P (after_sending machine command)
  -- the module receives a frame
  pub receives : (machine : Machine) (place : ℕ) (frame : SentFrame) → Known machine
      → machine.last_to_module ≤ place + 1 → slice_get machine.to_module place ≡ Some frame
      → P machine → P (after_delivery_to_module settings machine (place + 1) (Some frame))
  -- the CPU hears a frame and takes nothing
  pub passes : (machine : Machine) (index : ℕ) → Known machine → machine.last_to_cpu ≤ index
      → P machine → P (record machine { last_to_cpu = index })
  -- the CPU takes the block of its round
  pub takes : (machine : Machine) (place : ℕ) (answer : Block) → Known machine
      → HasBlock machine.to_cpu place answer machine.round → P machine → P (after_taken machine place answer)

module _ (settings : Settings) (first : ℕ) where
  -- the CPU's own poll has its number
  own_poll : (machine : Machine) (n : ℕ) → poll_in (command_octets (commands.Poll (number_of first machine.round))) ≡ Some n
      → n ≡ number_of first machine.round
  own_poll machine n is =
      let number = number_of first machine.round in
      let fits : number < 2 ^ 8 = omega (arith, number_of-fits first machine.round) in
      same_Some _ _ (sym is ∙ poll_back number fits)

  module _ (Known P : Machine → Type 0) (always : (machine : Machine) → Known machine → InOrder first machine)
      (k : IsKeptByEvents settings first Known P) where
    -- so each event that is not refused and restarts nothing keeps it
    pub once : (machine : Machine) → Known machine → P machine
        → (event : Event) → IsNotRestart event → refusal machine event ≡ None → P (after settings first machine event)
    once machine i p (events.Scan raw) none fine = k.scans machine raw i p
    once machine i p events.LineSync none fine = k.syncs machine i p
    once machine i p (events.Raise mask) none fine = k.raises machine mask i p
    once machine i p events.Restart none fine = absurd none
    once machine i p events.Poll none fine =
        k.sends machine (commands.Poll (number_of first machine.round)) i (own_poll machine) p
    once machine i p (events.Send command) none fine =
        k.sends machine command i (λ n is. absurd (cc (no_poll_in command fine, is))) p
    once machine i p (events.ToModule index) none fine =
        after_delivery (λ n found. P (after_delivery_to_module settings machine n found))
        machine.to_module machine.last_to_module index fine (λ place frame le at. k.receives machine place frame i le at p)
    once machine i p (events.ToCpu index) none fine =
        after_delivery (λ n found. P (after_delivery_to_cpu first machine n found))
        machine.to_cpu machine.last_to_cpu index fine
        (λ place frame le at. after_heard first machine (always machine i) P place frame le at
        (k.passes machine (place + 1) i le p) (λ answer has. k.takes machine place answer i has p))

    -- and so do all events of a run, if each keeps what is known
    pub along : ((machine : Machine) → Known machine → (event : Event) → IsNotRestart event → refusal machine event ≡ None
        → Known (after settings first machine event))
        → (events : List Event) (machine last : Machine) → HaveNoRestart events → Leads settings first machine events last
        → Known machine → P machine → P last
    along next [] machine last none leads i p = subst P (sym leads) p
    along next (event ∷ events) machine last none leads i p =
        along next events (after settings first machine event) last none.1 leads.1
        (next machine i event none.0 leads.0) (once machine i p event none.0 leads.0)
