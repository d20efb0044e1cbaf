-- A world shows the machine after each event.
use Rattle.fio_world.proofs.Names.{◌≡◌, ℕ, zero, suc, ◌+◌, ◌-◌, ◌%◌, ◌==◌, Bool, true, false, List, [], ◌∷◌, ◌++◌, length, map, Option, Some, None, Result, Ok, Err, slice_get, add-one, refl, ap, sym, subst, ◌∙◌, arith, if◌then◌else◌, unwrap_or, length-map, map-append, length_push, Command, decoded_answer, block_in, Settings, Event, WorldError, Machine, SentFrame, Refusal, start, number_of, item_numbered, delivery_refusal, refusal, sending_refusal, answer_frames, after_delivery_to_module, after_delivered_block, after_delivery_to_cpu, after, Leads, polling_of, Ends, octets_sent, ShowsMachine, AddsFrom, TakesMemory, IsFault, IsDone, Happens, IsWorldAfter, events_done, sent_after, replied_after, received_outcome, heard_outcome}
use Rattle.std.specs.Option.{option_map}
use Rattle.std.specs.Prelude.{IfOk, IfErr, OnOk}
use Rattle.std.specs.Result.{OnErr}
use Rattle.std.proofs.lemmas.Option.{slice_get-map}
use Rattle.arrayvec.specs.ArrayVec.{ArrayVec}
use Rattle.fio_message.specs.declared.answers.Answer.{Answer}
use Rattle.fio_message.specs.Answers.{answer_octets}
use Rattle.fio_message.specs.Commands.{command_octets}
use Rattle.fio_message.specs.Blocks.{Block}
use Rattle.fio_module.specs.Life.{Received}
use Rattle.fio_module.specs.Replies.{reply_to, Encodes}
use Rattle.fio_cpu.specs.Poller.{Polling}
use Rattle.fio_cpu.specs.declared.record.Item.{Item}
use Rattle.fio_cpu.specs.Record.{items_of_block}
use Rattle.fio_cpu.specs.Hearing.{heard_as, after_hearing, AddsItems}
use Rattle.fio_world.specs.declared.outcome.Outcome.{Outcome}
use Rattle.fio_world.specs.declared.world.effect.Effect.{Effect}
use Rattle.fio_world.specs.Effects.{octets_numbered, outcome_of_effect, result_in}
use Rattle.fio_module.proofs.ListParts.{get_last}
use Rattle.fio_module.specs.Module as modules
use Rattle.fio_link.specs.declared.event.Event.TheVariants as events
use Rattle.fio_world.specs.declared.outcome.Outcome.TheVariants as outcomes
use Rattle.fio_world.specs.declared.outcome.WorldError.TheVariants as errors

-- the frame with a number, and its octets in the list of the octets of all frames
item_numbered-map : (frames : List SentFrame) (index : ℕ) → item_numbered (map octets_sent frames) index ≡ option_map octets_sent (item_numbered frames index)
item_numbered-map frames zero = refl
item_numbered-map frames (suc place) = slice_get-map octets_sent frames place

-- the octets with a number, by their place
pub item_numbered-place : (frames : List (List ℕ)) (index : ℕ) → (index ≡ 0 → ⊥) → slice_get frames (index - 1) ≡ item_numbered frames index
item_numbered-place frames zero h = absurd (h refl)
item_numbered-place frames (suc place) h = let same : suc place - 1 ≡ place = omega arith in ap (slice_get frames) same

-- an option whose value is mapped to a value has one
from_mapped : (found : Option SentFrame) (octets : List ℕ) → option_map octets_sent found ≡ Some octets → (frame : SentFrame) × (found ≡ Some frame) × (frame.octets ≡ octets)
from_mapped (Some frame) octets e = (frame, refl, cc)
from_mapped None octets e = absurd cc

-- the CPU after a block, as the machine has it
polling-next : (first : ℕ) (machine : Machine) (last : ℕ) (found : Option Block) → after_hearing (polling_of first machine) found ≡ polling_of first (after_delivered_block first (record machine { last_to_cpu = last }) found)
polling-next first machine last None = refl
polling-next first machine last (Some block) = by_test (block.number == number_of first machine.round)
  where
    next : (number_of first machine.round + 1) % 256 ≡ number_of first (machine.round + 1)
    next = omega arith

    by_test : (same : Bool) →
        (if same then record { number = (number_of first machine.round + 1) % 256; items = machine.items ++ items_of_block block } else polling_of first machine)
        ≡ polling_of first (if same then record machine { last_to_cpu = last; round = machine.round + 1; items = machine.items ++ items_of_block block } else record machine { last_to_cpu = last })
    by_test true = ap (λ n. record { number = n; items = machine.items ++ items_of_block block }) next
    by_test false = refl

-- the octets of a reply, if there is one
abbrev pub reply_octets : Option Answer → List (List ℕ)
reply_octets None = []
reply_octets (Some answer) = answer_octets answer ∷ []

-- the octets of a reply are those of the frame that it is sent in
octets-answered : (reply : Option Answer) (round : ℕ) → reply_octets reply ≡ map octets_sent (answer_frames reply round)
octets-answered None round = refl
octets-answered (Some answer) round = refl

-- no frame encodes no reply
pub silent : (reply : Option Answer) (found : Option (ArrayVec ℕ)) → Encodes reply found → found ≡ None → reply ≡ None
silent None found e is = refl
silent (Some answer) None e is = absurd e
silent (Some answer) (Some frame) e is = absurd cc

-- a frame encodes the octets of the reply
pub encoded : (reply : Option Answer) (found : Option (ArrayVec ℕ)) (frame : ArrayVec ℕ) → Encodes reply found → found ≡ Some frame → reply_octets reply ≡ frame.items ∷ []
encoded None found frame e is = absurd cc
encoded (Some answer) None frame e is = absurd e
encoded (Some answer) (Some other) frame e is =
    let same : other ≡ frame = cc in
    ap (λ os. os ∷ []) (sym e.spelled ∙ ap (λ (f : ArrayVec ℕ). f.items) same)

-- the outcome of a reply whose octets a frame has
pub encoded_outcome : (count : ℕ) (reply : Option Answer) (frame : ArrayVec ℕ) → reply_octets reply ≡ frame.items ∷ [] → replied_after count reply ≡ outcomes.Sent (count + 1) frame
encoded_outcome count None frame e = absurd cc
encoded_outcome count (Some answer) frame e =
    let same : answer_octets answer ≡ frame.items = cc in
    ap (λ (os : List ℕ). sent_after count os) same

-- the frame that was added last, as an outcome
pub newest : (frames old : List (List ℕ)) (frame : List ℕ) (count : ℕ) → frames ≡ old ++ frame ∷ [] → count ≡ length frames
    → outcomes.Sent count (record { items = octets_numbered frames count }) ≡ outcomes.Sent (length old + 1) (record { items = frame })
newest frames old frame count added last =
    let next : count ≡ suc (length old) = last ∙ ap length added ∙ length_push old frame ∙ add-one (length old) in
    let octets : octets_numbered frames (suc (length old)) ≡ frame = ap (λ fs. octets_numbered fs (suc (length old))) added ∙ ap (λ found. unwrap_or found []) (get_last old frame) in
    rw (next, octets, add-one) refl

-- a refusal is the same fault whether the event takes memory or not
with_takes : (why : Option Refusal) (takes : Type 0) (fault : WorldError) → IsFault why ⊥ fault → IsFault why takes fault
with_takes None takes fault r = absurd r.1
with_takes (Some why) takes fault r = r

module _ (settings : Settings) (first : ℕ) (machine : Machine) (world : Ends) (s : ShowsMachine settings first machine world) where
  -- the refusal of a delivery is the machine's
  pub refusal-to_module : (index : ℕ) → delivery_refusal (length world.to_module) world.last_to_module index ≡ refusal machine (events.ToModule index)
  refusal-to_module index =
      ap (λ n. delivery_refusal n world.last_to_module index) (ap length s.frames_to_module ∙ length-map machine.to_module octets_sent)
      ∙ ap (λ n. delivery_refusal (length machine.to_module) n index) s.last_to_module

  pub refusal-to_cpu : (index : ℕ) → delivery_refusal (length world.to_cpu) world.last_to_cpu index ≡ refusal machine (events.ToCpu index)
  refusal-to_cpu index =
      ap (λ n. delivery_refusal n world.last_to_cpu index) (ap length s.frames_to_cpu ∙ length-map machine.to_cpu octets_sent)
      ∙ ap (λ n. delivery_refusal (length machine.to_cpu) n index) s.last_to_cpu

  -- the octets with a number that the world shows are those of the machine's frame with it
  found_to_module : (index : ℕ) (octets : List ℕ) → item_numbered world.to_module index ≡ Some octets → (frame : SentFrame) × (item_numbered machine.to_module index ≡ Some frame) × (frame.octets ≡ octets)
  found_to_module index octets at = from_mapped (item_numbered machine.to_module index) octets (sym (item_numbered-map machine.to_module index) ∙ ap (λ fs. item_numbered fs index) (sym s.frames_to_module) ∙ at)

  found_to_cpu : (index : ℕ) (octets : List ℕ) → item_numbered world.to_cpu index ≡ Some octets → (frame : SentFrame) × (item_numbered machine.to_cpu index ≡ Some frame) × (frame.octets ≡ octets)
  found_to_cpu index octets at = from_mapped (item_numbered machine.to_cpu index) octets (sym (item_numbered-map machine.to_cpu index) ∙ ap (λ fs. item_numbered fs index) (sym s.frames_to_cpu) ∙ at)

  -- the CPU sent the octets of a command that is no poll, or there was no memory for them
  pub sent_octets : (command : Command) (octets : List ℕ) (result : Result Effect WorldError) (new : Ends)
      → sending_refusal command ≡ None → octets ≡ command_octets command
      → IfOk result (λ effect. outcome_of_effect new effect ≡ outcomes.Sent (length world.to_module + 1) (record { items = octets }))
      → OnOk result (new ≡ record world { to_module = world.to_module ++ octets ∷ [] })
      → IfErr result (λ fault. fault ≡ errors.Memory)
      → Happens settings first machine (events.Send command) (result_in new result) new
  sent_octets command octets (Ok effect) new allowed spelled outcome added fault = record {
    fine = allowed;
    outcome =
        outcome ∙ ap (λ count. sent_after count octets) (ap length s.frames_to_module ∙ length-map machine.to_module octets_sent)
        ∙ ap (sent_after (length machine.to_module)) spelled;
    shown = rw added (record {
      history = s.history;
      polling = s.polling;
      frames_to_module =
          ap (λ frames. frames ++ octets ∷ []) s.frames_to_module
          ∙ ap (λ os. map octets_sent machine.to_module ++ os ∷ []) spelled
          ∙ sym (map-append octets_sent machine.to_module (record { octets = command_octets command; round = machine.round } ∷ []));
      frames_to_cpu = s.frames_to_cpu;
      last_to_module = s.last_to_module;
      last_to_cpu = s.last_to_cpu;
    });
  }
  sent_octets command octets (Err fault) new allowed spelled outcome added is = rw allowed (is, tt)

  -- the module received the frame with this number
  pub done_received : (index : ℕ) (octets : List ℕ) (new : Ends)
      → delivery_refusal (length world.to_module) world.last_to_module index ≡ None
      → item_numbered world.to_module index ≡ Some octets
      → modules.IsModuleAfter settings new.module_end (Received octets ∷ machine.history)
      → new.poller_end ≡ world.poller_end
      → new.to_module ≡ world.to_module
      → new.to_cpu ≡ world.to_cpu ++ reply_octets (reply_to settings machine.history octets)
      → new.last_to_module ≡ index
      → new.last_to_cpu ≡ world.last_to_cpu
      → IsDone settings first machine (events.ToModule index) (replied_after (length world.to_cpu) (reply_to settings machine.history octets)) new
  done_received index octets new fine at stands poller to_module to_cpu last_to_module last_to_cpu =
      let d = found_to_module index octets at in
      let frame = d.0 in
      let reply = reply_to settings machine.history frame.octets in
      let same : octets ≡ frame.octets = sym d.2 in
      let replies : reply_octets (reply_to settings machine.history octets) ≡ map octets_sent (answer_frames reply frame.round) = ap (λ o. reply_octets (reply_to settings machine.history o)) same ∙ octets-answered reply frame.round in
      record {
        fine = sym (refusal-to_module index) ∙ fine;
        outcome =
            ap (λ n. replied_after n (reply_to settings machine.history octets)) (ap length s.frames_to_cpu ∙ length-map machine.to_cpu octets_sent)
            ∙ ap (λ o. replied_after (length machine.to_cpu) (reply_to settings machine.history o)) same
            ∙ ap (received_outcome settings machine) (sym d.1);
        shown = subst (λ found. ShowsMachine settings first (after_delivery_to_module settings machine index found) new) (sym d.1) (record {
          history = subst (λ o. modules.IsModuleAfter settings new.module_end (Received o ∷ machine.history)) same stands;
          polling = poller ∙ s.polling;
          frames_to_module = to_module ∙ s.frames_to_module;
          frames_to_cpu =
              to_cpu ∙ ap (λ fs. fs ++ reply_octets (reply_to settings machine.history octets)) s.frames_to_cpu
              ∙ ap (λ fs. map octets_sent machine.to_cpu ++ fs) replies
              ∙ sym (map-append octets_sent machine.to_cpu (answer_frames reply frame.round));
          last_to_module = last_to_module;
          last_to_cpu = last_to_cpu ∙ s.last_to_cpu;
        });
      }

  -- the CPU heard a frame that is this block, or none
  shown_block : (index : ℕ) (found : Option Block) (new : Ends)
      → new.module_end ≡ world.module_end → new.poller_end ≡ after_hearing world.poller_end found
      → new.to_module ≡ world.to_module → new.to_cpu ≡ world.to_cpu
      → new.last_to_module ≡ world.last_to_module → new.last_to_cpu ≡ index
      → ShowsMachine settings first (after_delivered_block first (record machine { last_to_cpu = index }) found) new
  shown_block index found new module_end poller to_module to_cpu last_to_module last_to_cpu =
      by_case found (poller ∙ ap (λ p. after_hearing p found) s.polling ∙ polling-next first machine index found)
    where
      shown : (round : ℕ) (items : List Item) → new.poller_end ≡ record { number = number_of first round; items = items }
          → ShowsMachine settings first (record machine { last_to_cpu = index; round = round; items = items }) new
      shown round items polling = record {
        history = subst (λ m. modules.IsModuleAfter settings m machine.history) (sym module_end) s.history;
        polling = polling;
        frames_to_module = to_module ∙ s.frames_to_module;
        frames_to_cpu = to_cpu ∙ s.frames_to_cpu;
        last_to_module = last_to_module ∙ s.last_to_module;
        last_to_cpu = last_to_cpu;
      }

      by_test : (block : Block) (same : Bool)
          → new.poller_end ≡ polling_of first (if same then record machine { last_to_cpu = index; round = machine.round + 1; items = machine.items ++ items_of_block block } else record machine { last_to_cpu = index })
          → ShowsMachine settings first (if same then record machine { last_to_cpu = index; round = machine.round + 1; items = machine.items ++ items_of_block block } else record machine { last_to_cpu = index }) new
      by_test block true polling = shown (machine.round + 1) (machine.items ++ items_of_block block) polling
      by_test block false polling = shown machine.round machine.items polling

      by_case : (o : Option Block)
          → new.poller_end ≡ polling_of first (after_delivered_block first (record machine { last_to_cpu = index }) o)
          → ShowsMachine settings first (after_delivered_block first (record machine { last_to_cpu = index }) o) new
      by_case None polling = shown machine.round machine.items polling
      by_case (Some block) polling = by_test block (block.number == number_of first machine.round) polling

  -- the CPU heard the frame with this number
  pub done_heard : (index : ℕ) (octets : List ℕ) (new : Ends)
      → delivery_refusal (length world.to_cpu) world.last_to_cpu index ≡ None
      → item_numbered world.to_cpu index ≡ Some octets
      → new.module_end ≡ world.module_end
      → new.poller_end ≡ after_hearing world.poller_end (block_in octets)
      → new.to_module ≡ world.to_module → new.to_cpu ≡ world.to_cpu
      → new.last_to_module ≡ world.last_to_module → new.last_to_cpu ≡ index
      → IsDone settings first machine (events.ToCpu index) (outcomes.Heard (heard_as world.poller_end.number (decoded_answer octets))) new
  done_heard index octets new fine at module_end poller to_module to_cpu last_to_module last_to_cpu =
      let d = found_to_cpu index octets at in
      let same : octets ≡ d.0.octets = sym d.2 in
      let number : world.poller_end.number ≡ number_of first machine.round = ap (λ (p : Polling). p.number) s.polling in
      record {
        fine = sym (refusal-to_cpu index) ∙ fine;
        outcome =
            ap (λ n. outcomes.Heard (heard_as n (decoded_answer octets))) number
            ∙ ap (λ o. outcomes.Heard (heard_as (number_of first machine.round) (decoded_answer o))) same
            ∙ ap (heard_outcome (number_of first machine.round)) (sym d.1);
        shown = subst (λ found. ShowsMachine settings first (after_delivery_to_cpu first machine index found) new) (sym d.1)
            (shown_block index (block_in d.0.octets) new module_end (poller ∙ ap (λ o. after_hearing world.poller_end (block_in o)) same) to_module to_cpu last_to_module last_to_cpu);
      }

  -- the CPU ran out of memory for the frame with this number
  pub fault_heard : (index : ℕ) (octets : List ℕ)
      → delivery_refusal (length world.to_cpu) world.last_to_cpu index ≡ None
      → item_numbered world.to_cpu index ≡ Some octets
      → AddsItems world.poller_end (block_in octets)
      → IsFault (refusal machine (events.ToCpu index)) (TakesMemory first machine (events.ToCpu index)) errors.Memory
  fault_heard index octets fine at adds =
      let d = found_to_cpu index octets at in
      let adds' : AddsFrom (polling_of first machine) (Some d.0) = subst (λ o. AddsItems (polling_of first machine) (block_in o)) (sym d.2) (subst (λ p. AddsItems p (block_in octets)) s.polling adds) in
      let takes : AddsFrom (polling_of first machine) (item_numbered machine.to_cpu index) = subst (AddsFrom (polling_of first machine)) (sym d.1) adds' in
      let fine' : refusal machine (events.ToCpu index) ≡ None = sym (refusal-to_cpu index) ∙ fine in
      subst (λ r. IsFault r (TakesMemory first machine (events.ToCpu index)) errors.Memory) (sym fine') (refl, takes)

  -- a delivery that is refused is refused as the machine refuses it
  pub fault_to_module : (index : ℕ) (fault : WorldError) → IsFault (delivery_refusal (length world.to_module) world.last_to_module index) ⊥ fault
      → IsFault (refusal machine (events.ToModule index)) (TakesMemory first machine (events.ToModule index)) fault
  fault_to_module index fault r = with_takes (refusal machine (events.ToModule index)) (TakesMemory first machine (events.ToModule index)) fault (subst (λ o. IsFault o ⊥ fault) (refusal-to_module index) r)

  pub fault_to_cpu : (index : ℕ) (fault : WorldError) → IsFault (delivery_refusal (length world.to_cpu) world.last_to_cpu index) ⊥ fault
      → IsFault (refusal machine (events.ToCpu index)) (TakesMemory first machine (events.ToCpu index)) fault
  fault_to_cpu index fault r = with_takes (refusal machine (events.ToCpu index)) (TakesMemory first machine (events.ToCpu index)) fault (subst (λ o. IsFault o ⊥ fault) (refusal-to_cpu index) r)

-- a run and one event more
leads-push : (settings : Settings) (first : ℕ) (from to : Machine) (done : List Event) (event : Event) → Leads settings first from done to → refusal to event ≡ None → Leads settings first from (done ++ event ∷ []) (after settings first to event)
leads-push settings first from to [] event is fine = subst (λ m. Leads settings first m (event ∷ []) (after settings first to event)) is (fine, refl)
leads-push settings first from to (e ∷ done) event is fine = (is.0, leads-push settings first (after settings first from e) to done event is.1 fine)

-- if a world has been through some events, then after one more it has been through these and that one, or only through these
-- if it was refused
pub stands_on : (settings : Settings) (first : ℕ) (done : List Event) (event : Event) (result : Result Outcome WorldError) (old new : Ends)
    → IsWorldAfter settings first done old
    → ((machine : Machine) → ShowsMachine settings first machine old → Happens settings first machine event result new)
    → OnErr result (new ≡ old)
    → IsWorldAfter settings first (events_done done event result) new
stands_on settings first done event (Ok outcome) old new s steps err =
    let row = steps s.machine s.shown in
    record { in_range = s.in_range; machine = after settings first s.machine event; is_run = leads-push settings first start s.machine done event s.is_run row.fine; shown = row.shown }
stands_on settings first done event (Err fault) old new s steps err =
    record { in_range = s.in_range; machine = s.machine; is_run = s.is_run; shown = subst (ShowsMachine settings first s.machine) (sym err) s.shown }
