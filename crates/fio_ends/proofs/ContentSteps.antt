-- What is to be shown of an invariant, event by event, so that a rule on content never accuses.
use Rattle.fio_ends.proofs.Names.{◌≡◌, ◌+◌, ◌<◌, ◌≤◌, ℕ, true, false, List, ◌∷◌, length, Some, None, is_some, fold, slice_get, Answer, Command, Block, IsCommand, answer_in, command_in, says_again, Settings, Life, life_of, MadeBlock, newest_poll, is_new, ContentFacts, content_with, no_content, Heard, Sent, events_of_block, names_absent, ContentRule, Event, SentFrame, Machine, number_of, sending_refusal, after, after_sending, after_delivery_to_module, HasBlock, blocks_in, after_taken, IsKept, CarriesBlock, KeepsRule, item_for, items_sent, arith, flags_cleared}
use Rattle.fio_message.specs.declared.commands.Command.TheVariants as commands
use Rattle.fio_link.specs.declared.event.Event.TheVariants as events
use Rattle.fio_ends.proofs.ContentLines.{EventsKeep}
use Rattle.fio_ends.proofs.FirstPolls.{KnowsPolls}
use Rattle.fio_ends.proofs.Following.{GoesOn, IsSentLast, IsSince}
use Rattle.fio_ends.proofs.Heard.{IsHeardAs}

-- an event that reaches the module past the bus, and is no restart
abbrev pub IsPastBus : Event → Type 0
IsPastBus (events.Scan raw) = Unit {0}
IsPastBus events.LineSync = Unit {0}
IsPastBus (events.Raise mask) = Unit {0}
IsPastBus other = ⊥

-- what is shown of each of them
pub past_cases : (P : Event → Type 0) → ((raw : ℕ) → P (events.Scan raw)) → P events.LineSync → ((mask : ℕ) → P (events.Raise mask)) → (event : Event) → IsPastBus event → P event
past_cases P scan sync raise event past = grind arith

-- an event sends this command, as the CPU's end may
abbrev pub IsSending : ℕ → Machine → Event → Command → Type 0
IsSending first machine events.Poll command = command ≡ commands.Poll (number_of first machine.round)
IsSending first machine (events.Send sent) command = (command ≡ sent) × (sending_refusal sent ≡ None)
IsSending first machine other command = ⊥

-- what is known of content is known of this command, which awaits its answer
pub record Awaits (facts : ContentFacts) (command : Command) : Type 0 where
  pub clearing : facts.clearing ≡ flags_cleared command
  pub absent_named : facts.absent_named ≡ names_absent command
  pub named : (input : ℕ) → (facts.inputs input).named ≡ is_some (item_for input (items_sent command))

-- what is known of each machine of a log that begins at one, where any answer that is still to be heard is to a command
-- that the module receives after a life that goes on from `from`
pub record IsKnown (settings : Settings) (first : ℕ) (begin : Machine) (from : Life) (machine : Machine) : Type 0 where
  pub is_kept : IsKept settings first machine
  pub begun : GoesOn (life_of begin.history) from
  pub rounds : begin.round ≤ machine.round
  pub now : GoesOn from (life_of machine.history)

-- the module has received the command sent last, and the CPU hears its answer, which is no block
pub record HearsAnswer (settings : Settings) (from : Life) (machine : Machine) (facts : ContentFacts) (place : ℕ) (command : Command) (answer : Answer) : Type 0 where
  pub sent_last : IsSentLast machine.to_module command
  pub received : machine.last_to_module ≡ length machine.to_module
  pub life : Life
  pub goes_on : GoesOn from life
  pub since : IsSince command life (life_of machine.history)
  pub awaits : Awaits facts command
  pub frame : SentFrame
  pub at_place : slice_get machine.to_cpu place ≡ Some frame
  pub spells : answer_in frame.octets ≡ Some answer
  pub heard_as : IsHeardAs settings life command frame.octets

-- the CPU takes a block of the module, which has received the poll sent last: this answer carries it
pub record Takes (settings : Settings) (first : ℕ) (from : Life) (machine : Machine) (place number : ℕ) (answer : Block) (block : MadeBlock) : Type 0 where
  pub sent_last : IsSentLast machine.to_module (commands.Poll number)
  pub received : machine.last_to_module ≡ length machine.to_module
  pub life : Life
  pub goes_on : GoesOn from life
  pub since : IsSince (commands.Poll number) life (life_of machine.history)
  pub fresh : says_again answer.status ≡ false → is_new (newest_poll life) number ≡ true
  pub heard : HasBlock machine.to_cpu place answer machine.round
  pub made : slice_get (blocks_in settings machine) machine.round ≡ Some block
  pub carried : CarriesBlock answer block
  pub after_is : after settings first machine (events.ToCpu (place + 1)) ≡ after_taken machine place answer

-- what is known of content says this of the polls of a machine's round
abbrev pub PollsKnown : Settings → Machine → ContentFacts → Type 0
PollsKnown settings machine facts =
    KnowsPolls settings machine.to_module machine.polls machine.last_to_module machine.round (life_of machine.history) facts.clear facts.polled facts.since_poll

-- an invariant of machines and what is known of content above, in a log that begins at a machine, with what a rule reads of
-- the events above: it holds along each prompt run from any command on where `Holds` does, and by it each event keeps the rule
pub record IsInvariant (settings : Settings) (first : ℕ) (begin : Machine) (rule : ContentRule) (S : Type 0) (initial : S) (next : S → Machine → Event → S)
    (Holds : S → Machine → List Event → Type 0) (P : S → Life → Machine → ContentFacts → Type 0) : Type 0 where
  -- what holds of a log holds of its rest
  pub goes_on : (state : S) (machine : Machine) (event : Event) (rest : List Event) → Holds state machine (event ∷ rest)
      → Holds (next state machine event) (after settings first machine event) rest
  -- the log begins
  pub begins : IsKnown settings first begin (life_of begin.history) begin → P initial (life_of begin.history) begin no_content
  -- a scan, a line sync or raised flags
  pub happens : (state : S) (from : Life) (machine : Machine) (facts : ContentFacts) (event : Event) (rest : List Event) → IsKnown settings first begin from machine
      → IsPastBus event → Holds state machine (event ∷ rest) → P state from machine facts
      → P (next state machine event) from (after settings first machine event) facts
  -- a command is sent
  pub sends : (state : S) (from : Life) (machine : Machine) (facts : ContentFacts) (event : Event) (command : Command) → IsKnown settings first begin from machine
      → IsSending first machine event command → IsCommand command → P state from machine facts
      → P (next state machine event) (life_of machine.history) (after_sending machine command) (content_with facts (Sent command))
  -- the module receives a frame
  pub receives : (state : S) (from : Life) (machine : Machine) (facts : ContentFacts) (place : ℕ) (frame : SentFrame) → IsKnown settings first begin from machine
      → machine.last_to_module < place + 1 → slice_get machine.to_module place ≡ Some frame
      → (place + 1 ≡ length machine.to_module → (command : Command) × (command_in frame.octets ≡ Some command)) → P state from machine facts
      → P (next state machine (events.ToModule (place + 1))) from (after_delivery_to_module settings machine (place + 1) (Some frame)) facts
  -- the CPU hears an answer that is no block
  pub hears : (state : S) (from : Life) (machine : Machine) (facts : ContentFacts) (place : ℕ) (rest : List Event) (command : Command) (answer : Answer)
      → IsKnown settings first begin from machine
      → HearsAnswer settings from machine facts place command answer → Holds state machine (events.ToCpu (place + 1) ∷ rest) → P state from machine facts
      → KeepsRule rule facts (Heard answer)
      × P (next state machine (events.ToCpu (place + 1))) (life_of machine.history) (record machine { last_to_cpu = place + 1 }) (content_with facts (Heard answer))
  -- the CPU takes a block
  pub takes : (state : S) (from : Life) (machine : Machine) (facts : ContentFacts) (place : ℕ) (rest : List Event) (number : ℕ) (answer : Block) (block : MadeBlock)
      → IsKnown settings first begin from machine
      → Takes settings first from machine place number answer block → PollsKnown settings machine facts → Holds state machine (events.ToCpu (place + 1) ∷ rest) → P state from machine facts
      → EventsKeep rule facts (events_of_block answer)
      × P (next state machine (events.ToCpu (place + 1))) (life_of machine.history) (after_taken machine place answer) (fold content_with facts (events_of_block answer))
