-- Both ends and two lines of octets between them: what a line may bring, and what the ends do.
use Rattle.std.specs.Prelude.{◌≡◌, ◌≢◌, ℕ, ◌≤◌, ◌==◌, true, List, [], ◌∷◌, ◌++◌, Option, Some, None, option_map, if◌then◌else◌}
use Rattle.fio_message.specs.declared.answers.Answer.{Answer}
use Rattle.fio_message.specs.declared.commands.Command.TheVariants as commands
use Rattle.fio_message.specs.Answers.{answer_octets}
use Rattle.fio_message.specs.Commands.{IsCommand, command_octets}
use Rattle.fio_message.specs.Decoding.{block_in}
use Rattle.fio_message.specs.Octets.{IsOctet}
use Rattle.fio_module.specs.Settings.{Settings}
use Rattle.fio_module.specs.Life.{History}
use Rattle.fio_module.specs.Life as lives
use Rattle.fio_module.specs.Replies.{reply_to}
use Rattle.fio_cpu.specs.Poller.{Polling}
use Rattle.fio_cpu.specs.Hearing.{after_hearing}
use Rattle.fio_link.specs.declared.event.Event.{Event}
use Rattle.fio_link.specs.declared.event.Event.TheVariants.{Scan, LineSync, Raise, Poll, Send, ToModule, ToCpu, Restart}
use Rattle.fio_link.specs.Link.{item_numbered, sending_refusal}
use Rattle.fio_wire.specs.declared.heard.WireHeard.{WireHeard}
use Rattle.fio_wire.specs.declared.heard.WireHeard.TheVariants.{Message}
use Rattle.fio_wire.specs.declared.limits.TheConstants.{FLAG}
use Rattle.fio_wire.specs.Frames.{wire_heard, is_own, message_of_frame}
use Rattle.fio_wire.specs.Frames as frames
use Rattle.fio_wire.specs.Laws.{Arrival, Loss, Octet, after_arrival, arrival_says}
use Rattle.fio_wire.specs.Octets.{Reading, held_frame, said_in, sent}
use Rattle.fio_wire.specs.Octets as octets

-- ---- The ends and the lines

-- the address and the control octet of each frame, and the frames that the decoders take for their own
pub record Framing : Type 0 where
  pub address : ℕ
  pub control : ℕ
  pub own : frames.WireSettings

-- both are octets, and a frame with them is the decoders' own
pub record IsFraming (framing : Framing) : Type 0 where
  pub address : IsOctet framing.address
  pub control : IsOctet framing.control
  pub own : is_own framing.own (framing.address ∷ framing.control ∷ []) ≡ true

-- one of the two lines, from its sender to its receiver
pub record WireLine : Type 0 where
  -- what the sender has written, frame by frame with its flags, oldest first
  pub written : List (List ℕ)
  -- the number of the frame that came whole last, 0 for none
  pub last : ℕ
  -- the octets since the latest flag; None before the first flag, and if one of them was lost
  pub part : Option (List ℕ)
  -- what the receiver's decoder has read
  pub reading : Reading

-- both ends, and the lines between them
pub record WiredEnds : Type 0 where
  -- what has reached the module, newest first
  pub history : History
  -- the CPU's number and record
  pub polling : Polling
  pub to_module : WireLine
  pub to_cpu : WireLine

-- a line before its first octet
abbrev pub silent_line : WireLine
silent_line = record { written = []; last = 0; part = None; reading = octets.start }

-- both ends at their start, for a CPU whose first number is this one
abbrev pub ends_at_start : ℕ → WiredEnds
ends_at_start first = record {
  history = [];
  polling = record { number = first; items = [] };
  to_module = silent_line;
  to_cpu = silent_line;
}

-- ---- What happens

-- what a line brings: an octet or the report that one was lost; or the flag that ends the frame with this number, which has
-- come whole
pub data Brought : Type 0 where
  Arrives : (arrival : Arrival) → Brought
  EndOf : (number : ℕ) → Brought

-- what the receiver gets of what a line brings
abbrev pub arrival_of : Brought → Arrival
arrival_of (Arrives arrival) = arrival
arrival_of (EndOf number) = Octet FLAG

-- a line brings something to the module or to the CPU, or something happens at the ends: an event of the link other than the
-- delivery of a frame
pub data WireEvent : Type 0 where
  Happens : (event : Event) → WireEvent
  AtModule : (brought : Brought) → WireEvent
  AtCpu : (brought : Brought) → WireEvent

-- the events of the link: a frame that comes whole is delivered, and whatever else a line brings is nothing
abbrev pub events_on_wire : List WireEvent → List Event
events_on_wire [] = []
events_on_wire (Happens event ∷ events) = event ∷ events_on_wire events
events_on_wire (AtModule (EndOf number) ∷ events) = ToModule number ∷ events_on_wire events
events_on_wire (AtCpu (EndOf number) ∷ events) = ToCpu number ∷ events_on_wire events
events_on_wire (other ∷ events) = events_on_wire events

-- ---- What a line may bring

-- octets between two flags that are not a frame of the decoder's own: no octets, octets with a wrong check, or another's frame
abbrev pub IsNoise : frames.WireSettings → List ℕ → Type 0
IsNoise own part = wire_heard own (said_in part) ≢ Message

-- octets between two flags that are the frame with this number, as it was written, before any later frame
pub record ComesWhole (line : WireLine) (number : ℕ) : Type 0 where
  pub part : List ℕ
  pub is_part : line.part ≡ Some part
  pub is_written : item_numbered line.written number ≡ Some (FLAG ∷ part ++ FLAG ∷ [])
  pub in_order : line.last ≤ number

-- What a line may bring: any octets, if between two flags they are a frame, whole and in order, or noise, as a struck frame is. A
-- frame that does not come is lost.
abbrev pub MayBring : frames.WireSettings → WireLine → Brought → Type 0
MayBring own line (Arrives (Octet octet)) =
    octet ≡ FLAG → (part : List ℕ) → line.part ≡ Some part → IsNoise own part
MayBring own line (Arrives Loss) = Unit {0}
MayBring own line (EndOf number) = ComesWhole line number

-- What may happen at the ends: a command that is sent is within its ranges, as every value of its type is, and is not a poll,
-- which is an event of its own.
abbrev pub MayHappen : Event → Type 0
MayHappen (Send command) = (sending_refusal command ≡ None) × IsCommand command
MayHappen (ToModule number) = ⊥
MayHappen (ToCpu number) = ⊥
MayHappen other = Unit {0}

-- what may come: what the lines may bring, and what may happen at the ends
abbrev pub MayCome : Framing → WiredEnds → WireEvent → Type 0
MayCome framing ends (Happens event) = MayHappen event
MayCome framing ends (AtModule brought) = MayBring framing.own ends.to_module brought
MayCome framing ends (AtCpu brought) = MayBring framing.own ends.to_cpu brought

-- ---- What the ends do

-- the octets since the latest flag after one octet more, or after a loss
abbrev pub part_after : Option (List ℕ) → Arrival → Option (List ℕ)
part_after part (Octet octet) =
    if octet == FLAG then Some [] else option_map (λ before. before ++ octet ∷ []) part
part_after part Loss = None

-- the number of the frame that has come whole last
abbrev pub last_after : ℕ → Brought → ℕ
last_after last (Arrives arrival) = last
last_after last (EndOf number) = number

-- a line after it has brought something
abbrev pub line_after : WireLine → Brought → WireLine
line_after line brought =
    record line {
      last = last_after line.last brought;
      part = part_after line.part (arrival_of brought);
      reading = after_arrival line.reading (arrival_of brought);
    }

-- the message that the decoder holds, if it has heard one of its own
abbrev pub message_if : WireHeard → Reading → Option (List ℕ)
message_if Message reading = Some (message_of_frame (held_frame reading))
message_if _ reading = None

-- the message that the receiver hears at what arrives
abbrev pub message_heard : frames.WireSettings → Reading → Arrival → Option (List ℕ)
message_heard own reading arrival =
    message_if (wire_heard own (arrival_says reading arrival)) (after_arrival reading arrival)

-- a line to which a message is written
abbrev pub with_written : Framing → WireLine → List ℕ → WireLine
with_written framing line message =
    record line { written = line.written ++ sent framing.address framing.control message ∷ [] }

-- a line to which an answer is written, if there is one
abbrev pub with_answer_written : Framing → WireLine → Option Answer → WireLine
with_answer_written framing line None = line
with_answer_written framing line (Some answer) = with_written framing line (answer_octets answer)

-- the ends after the module has received a message, if it has received one: it writes its reply
abbrev pub after_receipt : Settings → Framing → WiredEnds → Option (List ℕ) → WiredEnds
after_receipt settings framing ends None = ends
after_receipt settings framing ends (Some message) =
    record ends {
      history = lives.Received message ∷ ends.history;
      to_cpu = with_answer_written framing ends.to_cpu (reply_to settings ends.history message);
    }

-- the ends after the CPU has heard a message, if it has heard one
abbrev pub after_message : WiredEnds → Option (List ℕ) → WiredEnds
after_message ends None = ends
after_message ends (Some message) = record ends { polling = after_hearing ends.polling (block_in message) }

-- the ends after an event: the decoder of a module that restarts begins anew
abbrev pub after_happening : Framing → WiredEnds → Event → WiredEnds
after_happening framing ends (Scan raw) = record ends { history = lives.Scan raw ∷ ends.history }
after_happening framing ends LineSync = record ends { history = lives.LineSync ∷ ends.history }
after_happening framing ends (Raise mask) = record ends { history = lives.Raise mask ∷ ends.history }
after_happening framing ends Restart =
    record ends {
      history = lives.Restart ∷ ends.history;
      to_module = record ends.to_module { part = None; reading = octets.start };
    }
after_happening framing ends Poll =
    record ends {
      to_module = with_written framing ends.to_module (command_octets (commands.Poll ends.polling.number));
    }
after_happening framing ends (Send command) =
    record ends { to_module = with_written framing ends.to_module (command_octets command) }
after_happening framing ends other = ends

-- the ends after the lines have brought something, or something has happened
abbrev pub after_line_event : Settings → Framing → WiredEnds → WireEvent → WiredEnds
after_line_event settings framing ends (Happens event) = after_happening framing ends event
after_line_event settings framing ends (AtModule brought) =
    after_receipt settings framing
    (record ends { to_module = line_after ends.to_module brought })
    (message_heard framing.own ends.to_module.reading (arrival_of brought))
after_line_event settings framing ends (AtCpu brought) =
    after_message
    (record ends { to_cpu = line_after ends.to_cpu brought })
    (message_heard framing.own ends.to_cpu.reading (arrival_of brought))
