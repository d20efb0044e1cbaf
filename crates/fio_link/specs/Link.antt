-- The link machine: the two ends and the bus between them, changed by one event after another.
use Rattle.std.specs.Prelude.{◌≡◌, ℕ, zero, suc, ◌+◌, ◌%◌, ◌==◌, ◌||◌, nat_lt, List, [], ◌∷◌, ◌++◌, length, slice_get, Option, Some, None, if◌then◌else◌}
use Rattle.fio_message.specs.declared.commands.Command.{Command}
use Rattle.fio_message.specs.declared.commands.Command.TheVariants as commands
use Rattle.fio_message.specs.declared.answers.Answer.{Answer}
use Rattle.fio_message.specs.Commands.{command_octets}
use Rattle.fio_message.specs.Answers.{answer_octets}
use Rattle.fio_message.specs.Blocks.{Block}
use Rattle.fio_message.specs.Decoding.{poll_in, block_in}
use Rattle.fio_module.specs.Settings.{Settings}
use Rattle.fio_module.specs.Life.{Received, History}
use Rattle.fio_module.specs.Life as module_events
use Rattle.fio_module.specs.Replies.{reply_to}
use Rattle.fio_cpu.specs.declared.record.Item.{Item}
use Rattle.fio_cpu.specs.Poller.{Polling}
use Rattle.fio_cpu.specs.Record.{items_of_block}
use Rattle.fio_link.specs.declared.event.Event.{Event}
use Rattle.fio_link.specs.declared.event.Event.TheVariants.{Scan, LineSync, Raise, Poll, Send, ToModule, ToCpu, Restart}

-- why an event is refused: no frame with this number was sent, a later frame was delivered already, or the command to send
-- is a poll, which only the machine itself sends
pub data Refusal : Type 0 where
  NotSent : (index : ℕ) → Refusal
  OutOfOrder : (index last : ℕ) → Refusal
  PollIsOurs : Refusal

-- a frame with its round: how many blocks the CPU had taken when the frame, or the command that it
-- answers, was sent
pub record SentFrame : Type 0 where
  pub octets : List ℕ
  pub round : ℕ

-- the state of the link after some events
pub record Machine : Type 0 where
  -- what has reached the module, newest first
  pub history : History
  -- all frames ever sent in each direction, oldest first
  pub to_module : List SentFrame
  pub to_cpu : List SentFrame
  -- the number delivered last in each direction, 0 for none
  pub last_to_module : ℕ
  pub last_to_cpu : ℕ
  -- how many blocks the CPU has taken
  pub round : ℕ
  -- the record
  pub items : List Item
  -- the rounds of the polls that the module has received, newest first
  pub polls : List ℕ

-- before the first event
abbrev pub start : Machine
start =
    record {
      history = [];
      to_module = [];
      to_cpu = [];
      last_to_module = 0;
      last_to_cpu = 0;
      round = 0;
      items = [];
      polls = [];
    }

-- the block number of a round, for a CPU whose first number is this one
abbrev pub number_of : ℕ → ℕ → ℕ
number_of first round = (first + round) % 256

-- the CPU's end of the machine
abbrev pub polling_of : ℕ → Machine → Polling
polling_of first machine = record { number = number_of first machine.round; items = machine.items }

-- the item with this number: the first has number 1, and no item has number 0
abbrev pub item_numbered : {A : Type 0} → List A → ℕ → Option A
item_numbered items zero = None
item_numbered items (suc place) = slice_get items place

-- why a frame is not delivered, given how many were sent and which number was delivered last
abbrev pub delivery_refusal : ℕ → ℕ → ℕ → Option Refusal
delivery_refusal sent last index =
    if index == 0 || nat_lt sent index
    then Some (NotSent index)
    else (if nat_lt index last then Some (OutOfOrder index last) else None)

-- why a command is not sent: only the machine itself sends polls
abbrev pub sending_refusal : Command → Option Refusal
sending_refusal (commands.Poll number) = Some PollIsOurs
sending_refusal other = None

-- why an event is refused, if it is refused
abbrev pub refusal : Machine → Event → Option Refusal
refusal machine (ToModule index) =
    delivery_refusal (length machine.to_module) machine.last_to_module index
refusal machine (ToCpu index) = delivery_refusal (length machine.to_cpu) machine.last_to_cpu index
refusal machine (Send command) = sending_refusal command
refusal machine other = None

-- the machine after an event that reaches the module other than as a frame
abbrev pub after_module_event : Machine → module_events.Event → Machine
after_module_event machine event = record machine { history = event ∷ machine.history }

-- the machine after the CPU has sent a command
abbrev pub after_sending : Machine → Command → Machine
after_sending machine command =
    let frame : SentFrame = record { octets = command_octets command; round = machine.round } in
    record machine { to_module = machine.to_module ++ frame ∷ [] }

-- the frame in which an answer is sent, if there is an answer
abbrev pub answer_frames : Option Answer → ℕ → List SentFrame
answer_frames None round = []
answer_frames (Some answer) round = record { octets = answer_octets answer; round = round } ∷ []

-- the rounds of the polls received, newest first, after a frame: its round is added if it is a poll
abbrev pub polls_with : Option ℕ → ℕ → List ℕ → List ℕ
polls_with None round polls = polls
polls_with (Some number) round polls = round ∷ polls

-- the machine after the module has received the frame with this number: the reply, if any, is sent
abbrev pub after_delivery_to_module : Settings → Machine → ℕ → Option SentFrame → Machine
after_delivery_to_module settings machine index None = machine
after_delivery_to_module settings machine index (Some frame) =
    record machine {
      last_to_module = index;
      history = Received frame.octets ∷ machine.history;
      to_cpu =
          machine.to_cpu
          ++ answer_frames (reply_to settings machine.history frame.octets) frame.round;
      polls = polls_with (poll_in frame.octets) frame.round machine.polls;
    }

-- The machine after a block answer: if it has the CPU's number, its block is taken, that is, recorded, and the round goes up
-- by one. Otherwise nothing changes.
abbrev pub after_delivered_block : ℕ → Machine → Option Block → Machine
after_delivered_block first machine None = machine
after_delivered_block first machine (Some block) =
    if block.number == number_of first machine.round
    then record machine { round = machine.round + 1; items = machine.items ++ items_of_block block }
    else machine

-- the machine after the CPU has heard the frame with this number
abbrev pub after_delivery_to_cpu : ℕ → Machine → ℕ → Option SentFrame → Machine
after_delivery_to_cpu first machine index None = machine
after_delivery_to_cpu first machine index (Some frame) =
    after_delivered_block first (record machine { last_to_cpu = index }) (block_in frame.octets)

-- the machine after an event that is not refused, for a CPU whose first number is this one
abbrev pub after : Settings → ℕ → Machine → Event → Machine
after settings first machine (Scan raw) = after_module_event machine (module_events.Scan raw)
after settings first machine LineSync = after_module_event machine module_events.LineSync
after settings first machine (Raise mask) = after_module_event machine (module_events.Raise mask)
after settings first machine Restart = after_module_event machine module_events.Restart
after settings first machine Poll = after_sending machine (commands.Poll (number_of first machine.round))
after settings first machine (Send command) = after_sending machine command
after settings first machine (ToModule index) =
    after_delivery_to_module settings machine index (item_numbered machine.to_module index)
after settings first machine (ToCpu index) =
    after_delivery_to_cpu first machine index (item_numbered machine.to_cpu index)

-- these events, none of them refused, lead from one machine to another
abbrev pub Leads : Settings → ℕ → Machine → List Event → Machine → Type 0
Leads settings first machine [] last = last ≡ machine
Leads settings first machine (event ∷ events) last =
    (refusal machine event ≡ None)
    × Leads settings first (after settings first machine event) events last

-- these events, none of them refused, lead from the start to this machine
abbrev pub IsRun : Settings → ℕ → List Event → Machine → Type 0
IsRun settings first events machine = Leads settings first start events machine
