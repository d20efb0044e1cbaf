-- Calls of the exports follow the link machine, event by event.
use Rattle.fio_ends.proofs.Names.{AreInRange, Block, Bool, Command, Event, Item, Leads, LineSync, List, Machine, None, Option, Raise, Restart, Scan, Send, SentFrame, Settings, Some, ToCpu, ToModule, [], after, after_delivered_block, after_delivery_to_cpu, after_delivery_to_module, answer_frames, ap, append-nil, ap₂, arith, block_in, command_in, delivery_refusal, if◌then◌else◌, item_numbered, items_of_block, length, length-map, map, map-append, nat_tests, number_of, number_of-next, option_map, refl, refusal, reply_to, runs_are_sound, same_Some, start, subst, sym, true, ℕ, ◌%◌, ◌++◌, ◌+◌, ◌∙◌, ◌∷◌, ◌≡◌, ◌≤◌, Received, new_items, next_number, Reached, are_flat_limits, events_reached, errors_of, with_errors, flat_settings, FlatLimits, flat_record_item, CallerState, caller_at_start, HasReceived, HasHeard, IsFoundAnd, IsCalledFor, AreCalled, Call, For, ChangeErrors, CallsAreRuns, link_events, frames_written}
use Rattle.std.proofs.Common.{◌==◌}
use Rattle.fio_module.specs.Life as lives
use Rattle.fio_link.specs.declared.event.Event.TheVariants.{Poll}
use Rattle.fio_ends.proofs.CallEvents.{Follows, block_of, errors_say, follows_errors, follows_event, follows_poll, follows_sent, frames_none, frames_written_say, items_written, numbered_block, numbered_octets, numbered_said, octets_of}

module _ (settings : Settings) (first : ℕ) (machine : Machine) (held : CallerState) (f : Follows settings first machine held)
    (index : ℕ) where
  abbrev number : ℕ
  number = number_of first machine.round

  -- a machine to which a frame was delivered
  abbrev delivered : Machine
  delivered = record machine { last_to_cpu = index }

  -- what the caller has then
  abbrev hearing : ℕ → List Item → CallerState
  hearing next new = record held { number = next; last_to_cpu = index; items = held.items ++ map flat_record_item new }

  heard_nothing_new : Follows settings first delivered (hearing number [])
  heard_nothing_new = record {
    history = f.history;
    device = f.device;
    same_history = f.same_history;
    number = refl;
    to_module = f.to_module;
    to_cpu = f.to_cpu;
    last_to_module = f.last_to_module;
    last_to_cpu = refl;
    items = append-nil held.items ∙ f.items;
  }

  heard_if : (taken : Bool) (block : Block)
      → Follows settings first
      (if taken then record delivered { round = machine.round + 1; items = machine.items ++ items_of_block block } else delivered)
      (hearing (if taken then (number + 1) % 256 else number) (if taken then items_of_block block else []))
  heard_if taken block = grind (arith, heard_nothing_new, map-append, number_of-next)

  heard_found : (found : Option Block)
      → Follows settings first (after_delivered_block first delivered found) (hearing (next_number number found) (new_items number found))
  heard_found None = heard_nothing_new
  heard_found (Some block) = heard_if (block.number == number) block

  follows_heard : (next : CallerState) (octets : Option (List ℕ)) (found : Option SentFrame)
      → option_map block_in octets ≡ option_map block_of found
      → IsFoundAnd octets (λ frame. HasHeard index frame held next)
      → Follows settings first (after_delivery_to_cpu first machine index found) next
  follows_heard next None found same is = absurd is
  follows_heard next (Some octets) None same h = absurd (cc same)
  follows_heard next (Some octets) (Some frame) same h =
      let new = items_written held.number h.number octets h.before h.after h.heard h.hears h.room in
      let has : next ≡ hearing (next_number number (block_in octets)) (new_items number (block_in octets)) =
      h.rest
      ∙ ap₂ (λ n l. record held { number = n; last_to_cpu = index; items = held.items ++ l }) new.0 new.1
      ∙ ap (λ n. hearing (next_number n (block_in octets)) (new_items n (block_in octets))) f.number in
      subst (Follows settings first (after_delivery_to_cpu first machine index (Some frame))) (sym has)
      (subst (λ found. Follows settings first (after_delivered_block first delivered found)
      (hearing (next_number number (block_in octets)) (new_items number (block_in octets))))
      (same_Some _ _ same) (heard_found (block_in octets)))

  -- what was written of the reply, where the frame spells a command or not
  reply_says : (next : CallerState) (frame : SentFrame) (h : HasReceived index frame.octets held next) (command : Option Command)
      → command_in frame.octets ≡ command
      → map block_in (frames_written h.count h.after)
      ≡ map block_of (answer_frames (reply_to settings (events_reached f.history) frame.octets) frame.round)
  reply_says next frame h None none =
      rw none (ap (map block_in) (frames_none h.count h.after (h.no_command none)))
  reply_says next frame h (Some command) some =
      let reply = reply_to settings (events_reached f.history) frame.octets in
      frames_written_say (with_errors (errors_of f.history) reply) h.before h.after h.count (h.reply command some settings f.history f.device)
      ∙ errors_say (errors_of f.history) reply frame.round

  follows_received : (next : CallerState) (found : Option SentFrame)
      → IsFoundAnd (option_map octets_of found) (λ octets. HasReceived index octets held next)
      → Follows settings first (after_delivery_to_module settings machine index found) next
  follows_received next None is = absurd is
  follows_received next (Some frame) h =
      let device = h.had settings f.history f.device in
      let reply = reply_to settings (events_reached f.history) frame.octets in
      let wrote : map block_in (frames_written h.count h.after) ≡ map block_of (answer_frames reply frame.round) =
      reply_says next frame h (command_in frame.octets) refl in
      let frames : map block_in (held.to_cpu ++ frames_written h.count h.after)
      ≡ map block_of (machine.to_cpu ++ answer_frames reply frame.round) =
      map-append block_in held.to_cpu (frames_written h.count h.after)
      ∙ ap₂ (λ a b. a ++ b) f.to_cpu wrote
      ∙ sym (map-append block_of machine.to_cpu (answer_frames reply frame.round)) in
      subst (Follows settings first (after_delivery_to_module settings machine index (Some frame))) (sym h.rest) (record {
        history = Reached (Received frame.octets) ∷ f.history;
        device = device;
        same_history = ap (λ older. Received frame.octets ∷ older) f.same_history;
        number = f.number;
        to_module = f.to_module;
        to_cpu =
            frames
            ∙ ap (λ older. map block_of (machine.to_cpu ++ answer_frames (reply_to settings older frame.octets) frame.round))
            f.same_history;
        last_to_module = refl;
        last_to_cpu = f.last_to_cpu;
        items = f.items;
      })

-- ---- a run

-- a delivery that the caller may make, the machine may make
may_deliver : (sent count last other index : ℕ) → sent ≡ count → last ≡ other
    → delivery_refusal sent last index ≡ None → delivery_refusal count other index ≡ None
may_deliver sent count last other index same ends fine =
    ap₂ (λ n l. delivery_refusal n l index) (sym same) (sym ends) ∙ fine

-- one call for an event is that event
follows : (settings : Settings) (first : ℕ) (machine : Machine) (held next : CallerState) (event : Event)
    → Follows settings first machine held → IsCalledFor event held next
    → (refusal machine event ≡ None) × Follows settings first (after settings first machine event) next
follows settings first machine held next (Scan raw) f is = (refl, follows_event settings first machine held next f (lives.Scan raw) is)
follows settings first machine held next LineSync f is = (refl, follows_event settings first machine held next f lives.LineSync is)
follows settings first machine held next (Raise mask) f is = (refl, follows_event settings first machine held next f (lives.Raise mask) is)
follows settings first machine held next Restart f is = (refl, follows_event settings first machine held next f lives.Restart is)
follows settings first machine held next Poll f is = (refl, follows_poll settings first machine held next f is)
follows settings first machine held next (Send command) f is = (is.0, follows_sent settings first machine held next f command is.1)
follows settings first machine held next (ToModule index) f is =
    let octets = ap (λ frames. item_numbered frames index) f.to_module ∙ numbered_octets machine.to_module index in
    let count : length held.to_module ≡ length machine.to_module = ap length f.to_module ∙ length-map machine.to_module octets_of in (
      may_deliver (length held.to_module) (length machine.to_module) held.last_to_module machine.last_to_module index count f.last_to_module is.0,
      follows_received settings first machine held f index next (item_numbered machine.to_module index)
          (subst (λ found. IsFoundAnd found (λ octets. HasReceived index octets held next)) octets is.1),
    )
follows settings first machine held next (ToCpu index) f is =
    let said = sym (numbered_said held.to_cpu index) ∙ ap (λ frames. item_numbered frames index) f.to_cpu ∙ numbered_block machine.to_cpu index in
    let count : length held.to_cpu ≡ length machine.to_cpu =
    sym (length-map held.to_cpu block_in) ∙ ap length f.to_cpu ∙ length-map machine.to_cpu block_of in (
      may_deliver (length held.to_cpu) (length machine.to_cpu) held.last_to_cpu machine.last_to_cpu index count f.last_to_cpu is.0,
      follows_heard settings first machine held f index next (item_numbered held.to_cpu index) (item_numbered machine.to_cpu index) said is.1,
    )

-- calls have events that lead to a machine
follow_all : (settings : Settings) (first : ℕ) (calls : List Call) (machine : Machine) (held last : CallerState)
    → Follows settings first machine held → AreCalled calls held last
    → (end : Machine) × Leads settings first machine (link_events calls) end × Follows settings first end last
follow_all settings first [] machine held last f called =
    (machine, refl, subst (Follows settings first machine) (sym called) f)
follow_all settings first (For event ∷ calls) machine held last f called =
    let one = follows settings first machine held called.0 event f called.1 in
    let rest = follow_all settings first calls (after settings first machine event) called.0 last one.1 called.2 in
    (rest.0, (one.0, rest.1), rest.2)
follow_all settings first (ChangeErrors change ∷ calls) machine held last f called =
    follow_all settings first calls machine called.0 last
    (follows_errors settings first machine held called.0 f change called.1) called.2

some_entries : (limits : FlatLimits) → are_flat_limits limits ≡ true → 1 ≤ limits.per_block
some_entries limits are = grind (arith, nat_tests)

pub calls_are_runs : CallsAreRuns
calls_are_runs id first limits device ring calls last id_low first_low few are started called =
    let settings = flat_settings id limits in
    let begin : Follows settings first start (caller_at_start device ring first) = record {
      history = [];
      device = started;
      same_history = refl;
      number = omega arith;
      to_module = refl;
      to_cpu = refl;
      last_to_module = refl;
      last_to_cpu = refl;
      items = refl;
    } in
    let range : AreInRange settings = record {
      id_fits = omega arith;
      some_per_block = some_entries limits are;
      few_per_block = omega arith;
    } in
    let run = follow_all settings first calls start (caller_at_start device ring first) last begin called in
    record {
      machine = run.0;
      sound = runs_are_sound settings first (link_events calls) run.0 range run.1;
      items = run.2.items;
    }
