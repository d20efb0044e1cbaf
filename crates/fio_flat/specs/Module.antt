-- The history that a module has been through whose entries wait in an array of the caller.
use Rattle.std.specs.Prelude.{◌≡◌, ℕ, ◌+◌, ◌&&◌, min, nat_le, Bool, List, [], ◌∷◌, ◌++◌, length, take, drop, replicate, Option, Some, None}
use Rattle.circular_buffer.specs.Buffer.{Buffer}
use Rattle.fio_message.specs.declared.answers.Answer.{Answer}
use Rattle.fio_message.specs.declared.answers.Answer.TheVariants as answers
use Rattle.fio_message.specs.Answers.{answer_octets}
use Rattle.fio_module.specs.Settings.{Settings}
use Rattle.fio_module.specs.Life as lives
use Rattle.fio_module.specs.Life.{Restart}
use Rattle.fio_module.specs.declared.limits.TheConstants.{MOST_WAITING}
use Rattle.fio_module.specs.Rings.{empty_place, ring_in}
use Rattle.fio_module.specs.Replies.{reply_to}
use Rattle.fio_module.specs.State.{IsAfterHistory, state_at_start}
use Rattle.fio_flat.specs.declared.module.ErrorCounts.{ErrorCounts}
use Rattle.fio_flat.specs.declared.module.FlatLimits.{FlatLimits}
use Rattle.fio_flat.specs.declared.module.SizedModule.{SizedModule}

-- what the firmware does to the error counts: it sets them, or counts one more
pub data ErrorChange : Type 0 where
  Set : (receive transmit : ℕ) → ErrorChange
  OneMoreInReceiving : ErrorChange
  OneMoreInTransmitting : ErrorChange

-- what happens to a module in C: something reaches it, or its firmware changes the error counts
pub data DeviceEvent : Type 0 where
  Reached : (event : lives.Event) → DeviceEvent
  ErrorsChanged : (change : ErrorChange) → DeviceEvent

-- all that has happened to it since it was started, newest first
abbrev pub DeviceHistory : Type 0
DeviceHistory = List DeviceEvent

-- the events that have reached it
abbrev pub events_reached : DeviceHistory → lives.History
events_reached [] = []
events_reached (Reached event ∷ history) = event ∷ events_reached history
events_reached (ErrorsChanged change ∷ history) = events_reached history

-- one more error: 255 stays 255 (own profile)
abbrev pub one_error_more : ℕ → ℕ
one_error_more count = min (count + 1) 255

-- error counts after a change
abbrev pub changed : ErrorChange → ErrorCounts → ErrorCounts
changed (Set receive transmit) errors = record { receive = receive; transmit = transmit }
changed OneMoreInReceiving errors = record errors { receive = one_error_more errors.receive }
changed OneMoreInTransmitting errors = record errors { transmit = one_error_more errors.transmit }

-- the error counts: 0 at the start and after a restart
abbrev pub errors_of : DeviceHistory → ErrorCounts
errors_of [] = record { receive = 0; transmit = 0 }
errors_of (ErrorsChanged change ∷ history) = changed change (errors_of history)
errors_of (Reached Restart ∷ history) = record { receive = 0; transmit = 0 }
errors_of (Reached other ∷ history) = errors_of history

-- an answer 177 with these error counts, or any other answer unchanged
abbrev pub with_errors : ErrorCounts → Option Answer → Option Answer
with_errors errors (Some (answers.Status flags receive transmit stamp)) =
    Some (answers.Status flags errors.receive errors.transmit stamp)
with_errors errors other = other

-- the reply to octets after a history: the module's own, with these error counts
abbrev pub reply_after : Settings → DeviceHistory → List ℕ → Option Answer
reply_after settings history octets =
    with_errors (errors_of history) (reply_to settings (events_reached history) octets)

-- 1 to 8,192 entries may wait, and a block takes at most 1 to 255, the largest octet
abbrev pub are_flat_limits : FlatLimits → Bool
are_flat_limits limits =
    nat_le 1 limits.waiting && (nat_le limits.waiting MOST_WAITING && nat_le 1 limits.per_block)

-- the settings that a module is made with
abbrev pub flat_settings : ℕ → FlatLimits → Settings
flat_settings id limits = record { id = id; per_block = limits.per_block; waiting = limits.waiting }

-- a module as it is started, with each of its octets given
abbrev pub module_at_start : ℕ → FlatLimits → SizedModule
module_at_start id limits = record {
  state = state_at_start id limits.per_block;
  place = empty_place;
  errors = errors_of [];
  waiting = limits.waiting;
  reserved = replicate 16 0;
}

-- the ring of a module: the front of its array, with one slot for each entry that may wait
abbrev pub ring_of : SizedModule → List (List ℕ) → Buffer (List ℕ)
ring_of value slots = ring_in value.place (take value.waiting slots)

-- The module was started with these settings, and has since been through this history with this array, which has room for
-- all entries that may wait.
pub record IsDeviceAfter (settings : Settings) (value : SizedModule) (slots : List (List ℕ))
    (history : DeviceHistory) : Type 0 where
  pub state : IsAfterHistory settings value.state (ring_of value slots) (events_reached history)
  pub errors : value.errors ≡ errors_of history
  pub limit : value.waiting ≡ settings.waiting

-- the call adds one event to the history of the module with its array, whatever it has been through
abbrev pub AddsEvent : DeviceEvent → SizedModule → List (List ℕ) → SizedModule → List (List ℕ) → Type 0
AddsEvent event old old_slots new new_slots = (settings : Settings) (history : DeviceHistory)
    → IsDeviceAfter settings old old_slots history
    → IsDeviceAfter settings new new_slots (event ∷ history)

-- the same for a call that leaves the array unchanged, whichever array it is
abbrev pub AddsEventAlone : DeviceEvent → SizedModule → SizedModule → Type 0
AddsEventAlone event old new = (slots : List (List ℕ)) → AddsEvent event old slots new slots

-- the octets of the answer are written to the front of the buffer, and `count` is how many they are; if there is no answer,
-- nothing is written and `count` is 0
abbrev pub WritesReply : Option Answer → List ℕ → List ℕ → ℕ → Type 0
WritesReply None before after count = (count ≡ 0) × (after ≡ before)
WritesReply (Some answer) before after count =
    (count ≡ length (answer_octets answer))
    × (after ≡ answer_octets answer ++ drop (length (answer_octets answer)) before)

-- the reply to a frame is written, whatever the module has been through
abbrev pub Replies : List ℕ → SizedModule → List (List ℕ) → List ℕ → List ℕ → ℕ → Type 0
Replies octets old slots before after count = (settings : Settings) (history : DeviceHistory)
    → IsDeviceAfter settings old slots history
    → WritesReply (reply_after settings history octets) before after count
