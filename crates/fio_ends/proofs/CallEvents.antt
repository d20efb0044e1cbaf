-- Each call follows an event of the link machine, up to the frames to the CPU.
use Rattle.fio_ends.proofs.Names.{Answer, Block, Command, List, Machine, None, Option, SentFrame, Settings, Some, [], after, after_module_event, after_sending, answer_frames, ap, arith, block_in, cases_lt, command_octets, item_numbered, length, length-map, map, map-append, number_of, option_map, refl, slice_get-map, subst, suc, sym, take, zero, ℕ, ◌++◌, ◌<◌, ◌∙◌, ◌∷◌, ◌≡◌, ◌≢◌, ◌≤◌, take-append_seam, new_items, next_number, no_block_in, FlatHeard, RecordItem, DeviceHistory, Reached, ErrorsChanged, ErrorChange, IsDeviceAfter, WritesReply, events_reached, with_errors, ErrorCounts, Writes, Hears, flat_record_item, flat_heard, with_block, CallerState, HasHappened, HasPolled, frames_written}
use Rattle.std.proofs.lemmas.List.{length-append}
use Rattle.fio_message.specs.declared.answers.Answer.TheVariants as answers
use Rattle.fio_message.specs.declared.commands.Command.TheVariants as commands
use Rattle.fio_module.specs.Life as lives
use Rattle.fio_cpu.specs.declared.poller.Heard.{Heard}
use Rattle.fio_flat.specs.Module as module_events

-- the octets of a frame
abbrev pub octets_of : SentFrame → List ℕ
octets_of frame = frame.octets

-- the block that a frame spells
abbrev pub block_of : SentFrame → Option Block
block_of frame = block_in frame.octets

-- What a caller has is what the machine has; of the frames to the CPU, the blocks that they spell, since
-- others may have error counts.
pub record Follows (settings : Settings) (first : ℕ) (machine : Machine) (held : CallerState) : Type 0 where
  pub history : DeviceHistory
  pub device : IsDeviceAfter settings held.device held.ring history
  pub same_history : events_reached history ≡ machine.history
  pub number : held.number ≡ number_of first machine.round
  pub to_module : held.to_module ≡ map octets_of machine.to_module
  pub to_cpu : map block_in held.to_cpu ≡ map block_of machine.to_cpu
  pub last_to_module : held.last_to_module ≡ machine.last_to_module
  pub last_to_cpu : held.last_to_cpu ≡ machine.last_to_cpu
  pub items : held.items ≡ map flat_record_item machine.items

-- ---- what a call wrote to the front of a buffer

-- the octets that were written, where there was room for them
written_front : (octets before after : List ℕ) (count : ℕ) → Writes octets before after count → count ≤ length before
    → take count after ≡ octets
written_front octets before after count wrote room = grind (arith, take-append_seam)

-- ---- each event

module _ (settings : Settings) (first : ℕ) (machine : Machine) (held next : CallerState) (f : Follows settings first machine held) where
  -- the module has had one event more, after which this has reached it
  follows_happened : (event : module_events.DeviceEvent) (history : lives.History) → HasHappened event held next
      → events_reached (event ∷ f.history) ≡ history → Follows settings first (record machine { history = history }) next
  follows_happened event history h same =
      subst (Follows settings first (record machine { history = history })) (sym h.rest) (record {
        history = event ∷ f.history;
        device = h.had settings f.history f.device;
        same_history = same;
        number = f.number;
        to_module = f.to_module;
        to_cpu = f.to_cpu;
        last_to_module = f.last_to_module;
        last_to_cpu = f.last_to_cpu;
        items = f.items;
      })

  pub follows_event : (event : lives.Event) → HasHappened (Reached event) held next
      → Follows settings first (after_module_event machine event) next
  follows_event event h =
      follows_happened (Reached event) (event ∷ machine.history) h (ap (λ older. event ∷ older) f.same_history)

  -- error counts change nothing that the machine has
  pub follows_errors : (change : ErrorChange) → HasHappened (ErrorsChanged change) held next → Follows settings first machine next
  follows_errors change h = follows_happened (ErrorsChanged change) machine.history h f.same_history

  pub follows_sent : (command : Command) → next ≡ record held { to_module = held.to_module ++ command_octets command ∷ [] }
      → Follows settings first (after_sending machine command) next
  follows_sent command rest = grind (arith, map-append)

  pub follows_poll : HasPolled held next → Follows settings first (after_sending machine (commands.Poll (number_of first machine.round))) next
  follows_poll h =
      let wrote : take h.count h.after ≡ command_octets (commands.Poll held.number) =
      written_front (command_octets (commands.Poll held.number)) h.before h.after h.count h.wrote h.room in
      follows_sent (commands.Poll (number_of first machine.round))
      (h.rest
      ∙ ap (λ octets. record held { to_module = held.to_module ++ octets ∷ [] })
      (wrote ∙ ap (λ n. command_octets (commands.Poll n)) f.number))

-- ---- frames to the CPU

frames_some : (count : ℕ) (buffer : List ℕ) → 0 < count → count ≤ length buffer → frames_written count buffer ≡ take count buffer ∷ []
frames_some count buffer some room = grind arith

pub frames_none : (count : ℕ) (buffer : List ℕ) → length buffer < count → frames_written count buffer ≡ []
frames_none count buffer long = grind arith

-- the answer that was written spells the block that the answer spells which the machine sends
pub frames_written_say : (reply : Option Answer) (before after : List ℕ) (count : ℕ) → WritesReply reply before after count
    → map block_in (frames_written count after) ≡ map block_of (answer_frames reply 0)
frames_written_say reply before after count wrote = grind (arith, frames_some, length-append, take-append_seam)

-- an answer with error counts spells a block only where it does without
pub errors_say : (errors : ErrorCounts) (reply : Option Answer) (round : ℕ)
    → map block_of (answer_frames (with_errors errors reply) 0) ≡ map block_of (answer_frames reply round)
errors_say errors None round = refl
errors_say errors (Some (answers.Status flags receive transmit stamp)) round =
    ap (λ found. found ∷ [])
    (no_block_in (answers.Status flags errors.receive errors.transmit stamp) refl
    ∙ sym (no_block_in (answers.Status flags receive transmit stamp) refl))
errors_say errors (Some other) round = refl

-- the frame with a number, by its octets
pub numbered_octets : (frames : List SentFrame) (index : ℕ)
    → item_numbered (map octets_of frames) index ≡ option_map octets_of (item_numbered frames index)
numbered_octets frames zero = refl
numbered_octets frames (suc place) = slice_get-map octets_of frames place

-- the frame with a number, by the block that it spells
pub numbered_said : (frames : List (List ℕ)) (index : ℕ)
    → item_numbered (map block_in frames) index ≡ option_map block_in (item_numbered frames index)
numbered_said frames zero = refl
numbered_said frames (suc place) = slice_get-map block_in frames place

pub numbered_block : (frames : List SentFrame) (index : ℕ)
    → item_numbered (map block_of frames) index ≡ option_map block_of (item_numbered frames index)
numbered_block frames zero = refl
numbered_block frames (suc place) = slice_get-map block_of frames place

-- ---- what is heard

-- how many items are written to the front of the places, where there is room
count_written : (count : ℕ) (what : Heard) → (flat_heard count what).items ≡ count
count_written count what = grind arith

-- what is said of a block leaves the kind and the items
kind_kept : (found : Option Block) (heard : FlatHeard) → (with_block found heard).kind ≡ heard.kind
kind_kept None heard = refl
kind_kept (Some block) heard = refl

items_kept : (found : Option Block) (heard : FlatHeard) → (with_block found heard).items ≡ heard.items
items_kept None heard = refl
items_kept (Some block) heard = refl

-- the items that were written, where there was room
pub items_written : (number next : ℕ) (octets : List ℕ) (before after : List RecordItem) (heard : FlatHeard)
    → Hears number octets before after next heard → heard.kind ≢ 4
    → (next ≡ next_number number (block_in octets))
    × (take heard.items after ≡ map flat_record_item (new_items number (block_in octets)))
items_written number next octets before after heard hears room = grind (arith, cases_lt, count_written, items_kept, kind_kept, length-map, take-append_seam)
