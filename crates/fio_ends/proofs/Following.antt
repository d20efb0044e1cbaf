-- What a prompt run keeps of its transcript and its machine.
use Rattle.fio_ends.proofs.Names.{◌≡◌, ◌∙◌, ◌+◌, ◌<◌, ◌≤◌, ◌⊎◌, inl, inr, ℕ, Bool, true, false, List, [], ◌∷◌, ◌++◌, length, Some, ap, sym, subst, arith, append_assoc, slice_get, AllByRecursion, Command, block_in, command_in, says_again, Settings, Life, Occurrence, Commanded, Event, life_of, newest_poll, is_new, MadeBlock, blocks_of, facts_with, no_facts, number_due, answer_type_to, names_absent, Facts, RuleLimits, SentFrame, Machine, start, number_of, HasPoll, next_round, CpuFrame, SuitModule, History}
use Rattle.fio_message.specs.declared.commands.Command.TheVariants as commands
use Rattle.fio_message.specs.Blocks.{Block as BlockOf}
use Rattle.fio_link.specs.declared.event.Event.TheVariants as events
use Rattle.fio_ends.proofs.GoodLines.{KeepRules, said_by}
use Rattle.fio_ends.proofs.Heard.{IsHeardAs}

-- the polls sent below a place, and all polls received, are of rounds before this one
pub record AreBefore (frames : List SentFrame) (polls : List ℕ) (round below : ℕ) : Type 0 where
  pub sent : (place n r : ℕ) → place < below → HasPoll frames place n r → r < round
  pub received : next_round polls ≤ round

-- what the rules know of the command sent last, where that is the latest line
pub record IsAsked (first : ℕ) (facts : Facts) (round : ℕ) (command : Command) : Type 0 where
  pub awaited : facts.awaited ≡ Some (answer_type_to command)
  pub named : facts.absent_named ≡ names_absent command
  pub polled : (number : ℕ) → command ≡ commands.Poll number
      → (facts.polled ≡ Some number) × (number ≡ number_of first round)

-- the command sent last, the latest line, is under way
pub record IsUnderWay (first : ℕ) (facts : Facts) (frames : List SentFrame) (last : ℕ) (polls : List ℕ)
    (round due : ℕ) (command : Command) : Type 0 where
  pub asked : IsAsked first facts round command
  pub place : ℕ
  pub frame : SentFrame
  pub sent_last : length frames ≡ place + 1
  pub at_place : slice_get frames place ≡ Some frame
  pub spells : command_in frame.octets ≡ Some command
  pub passed : last ≤ place
  pub none_due : due ≡ 0
  pub before : (number : ℕ) → command ≡ commands.Poll number → facts.advanced ≡ true
      → AreBefore frames polls round place

-- the frame sent last spells this command
pub record IsSentLast (frames : List SentFrame) (command : Command) : Type 0 where
  pub place : ℕ
  pub frame : SentFrame
  pub last : length frames ≡ place + 1
  pub at_place : slice_get frames place ≡ Some frame
  pub spells : command_in frame.octets ≡ Some command

-- of what happens to the module: it is no command
abbrev pub IsNoCommand : Occurrence → Type 0
IsNoCommand (Commanded command) = ⊥
IsNoCommand other = Unit {0}

-- a life goes on from another
pub record GoesOn (before now : Life) : Type 0 where
  pub more : List Occurrence
  pub is : now ≡ more ++ before

-- after a life the module received a command, and no other since
pub record IsSince (command : Command) (before now : Life) : Type 0 where
  pub more : List Occurrence
  pub is : now ≡ more ++ (Commanded command ∷ before)
  pub none : AllByRecursion IsNoCommand more

-- octets spell the block answer to a poll with this number, which the module received after this life
pub record IsBlockFor (facts : Facts) (life : Life) (number : ℕ) (octets : List ℕ) : Type 0 where
  pub block : BlockOf
  pub spells : block_in octets ≡ Some block
  pub numbered : block.number ≡ number
  pub again : facts.advanced ≡ true → says_again block.status ≡ false
  pub fresh : says_again block.status ≡ false → is_new (newest_poll life) number ≡ true

-- octets spell the answer to a command that the module received after this life
abbrev pub Answers : Settings → Facts → Life → Command → List ℕ → Type 0
Answers settings facts life (commands.Poll number) octets = IsBlockFor facts life number octets
Answers settings facts life other octets = IsHeardAs settings life other octets

-- the module has received the command sent last, the latest line, and after a life that goes on from this one; its answer
-- is due, if there is one
pub record IsReceived (settings : Settings) (first : ℕ) (from now : Life) (facts : Facts) (frames answers : List SentFrame)
    (last round due : ℕ) (command : Command) : Type 0 where
  pub asked : IsAsked first facts round command
  pub sent_last : IsSentLast frames command
  pub all : last ≡ length frames
  pub place : ℕ
  pub due_is : due ≡ place + 1
  pub life : Life
  pub goes_on : GoesOn from life
  pub since : IsSince command life now
  pub answer : (frame : SentFrame) → slice_get answers place ≡ Some frame → Answers settings facts life command frame.octets

-- nothing is under way, and no answer is due
pub record IsQuiet (frames : List SentFrame) (last last_to_cpu due : ℕ) : Type 0 where
  pub all : last ≡ length frames
  pub past : due ≤ last_to_cpu

-- one of the three
abbrev pub Stage : Settings → ℕ → Life → Facts → Machine → ℕ → Type 0
Stage settings first from facts machine due =
    IsQuiet machine.to_module machine.last_to_module machine.last_to_cpu due
    ⊎ (((command : Command)
    × IsUnderWay first facts machine.to_module machine.last_to_module machine.polls machine.round due command)
    ⊎ ((command : Command)
    × IsReceived settings first from (life_of machine.history) facts machine.to_module machine.to_cpu machine.last_to_module machine.round due command))

-- the block taken last has C or not
pub record TookBlock (blocks : List MadeBlock) (round : ℕ) (more : Bool) : Type 0 where
  pub earlier : ℕ
  pub block : MadeBlock
  pub next : round ≡ earlier + 1
  pub at_place : slice_get blocks earlier ≡ Some block
  pub same : block.more ≡ more

-- after an event, the life from which the module goes on until it receives a command whose answer is still to be heard
abbrev pub from_after : Machine → Life → Event → Life
from_after machine from events.Poll = life_of machine.history
from_after machine from (events.Send command) = life_of machine.history
from_after machine from (events.ToCpu index) = life_of machine.history
from_after machine from other = from

-- what a prompt run keeps of the facts of its transcript, its machine and the answer that is due
pub record Follows (settings : Settings) (first : ℕ) (from : Life) (machine : Machine) (due : ℕ) (facts : Facts) : Type 0 where
  pub number : (n : ℕ) → number_due facts ≡ Some n → n ≡ number_of first machine.round
  pub answered : facts.answered ≡ true
      → AreBefore machine.to_module machine.polls machine.round (length machine.to_module)
  pub more : (m : Bool) → facts.more ≡ Some m
      → TookBlock (blocks_of settings (life_of machine.history)) machine.round m
  pub now : GoesOn from (life_of machine.history)
  pub stage : Stage settings first from facts machine due

-- at the start
pub follows-start : (settings : Settings) (first : ℕ) → Follows settings first [] start 0 no_facts
follows-start settings first = grind arith

-- the facts below frames
abbrev pub facts_below : Facts → List CpuFrame → Facts
facts_below facts [] = facts
facts_below facts (frame ∷ frames) = facts_below (facts_with facts (said_by frame)) frames

-- what an event keeps: the lines that it adds break no rule with limits that suit the module, and all is kept below them
pub record Keeps (settings : Settings) (first : ℕ) (from : Life) (facts : Facts) (frames : List CpuFrame) (machine : Machine) (due : ℕ) : Type 0 where
  pub rules : (limits : RuleLimits) → SuitModule settings limits → KeepRules limits facts frames
  pub follows : Follows settings first from machine due (facts_below facts frames)

-- each life goes on from itself
pub goes_on-same : (before now : Life) → now ≡ before → GoesOn before now
goes_on-same before now is = record { more = []; is = is }

pub goes_on-both : (first middle last : Life) → GoesOn first middle → GoesOn middle last → GoesOn first last
goes_on-both first middle last early late =
    record { more = late.more ++ early.more; is = late.is ∙ ap (λ life. late.more ++ life) early.is ∙ sym (append_assoc late.more early.more first) }

-- what stays so where something happens that is no command
pub goes_on-more : (before now : Life) (occurrence : Occurrence) → GoesOn before now → GoesOn before (occurrence ∷ now)
goes_on-more before now occurrence g = record { more = occurrence ∷ g.more; is = ap (λ life. occurrence ∷ life) g.is }

stage-history : (settings : Settings) (first : ℕ) (from : Life) (machine : Machine) (due : ℕ) (facts : Facts) (history : History) (occurrence : Occurrence)
    → IsNoCommand occurrence → life_of history ≡ occurrence ∷ life_of machine.history
    → Stage settings first from facts machine due → Stage settings first from facts (record machine { history = history }) due
stage-history settings first from machine due facts history occurrence none is (inl quiet) = inl quiet
stage-history settings first from machine due facts history occurrence none is (inr (inl under_way)) = inr (inl under_way)
stage-history settings first from machine due facts history occurrence none is (inr (inr (command, r))) =
    inr (inr (
      command,
      record {
        asked = r.asked;
        sent_last = r.sent_last;
        all = r.all;
        place = r.place;
        due_is = r.due_is;
        life = r.life;
        goes_on = r.goes_on;
        since =
            record {
              more = occurrence ∷ r.since.more;
              is = is ∙ ap (λ life. occurrence ∷ life) r.since.is;
              none = (none, r.since.none);
            };
        answer = r.answer;
      },
    ))

-- an event after which only the history of the module is another, by what is no command
pub follows-history : (settings : Settings) (first : ℕ) (from : Life) (machine : Machine) (due : ℕ) (facts : Facts) (history : History) (occurrence : Occurrence)
    → IsNoCommand occurrence → life_of history ≡ occurrence ∷ life_of machine.history
    → blocks_of settings (life_of history) ≡ blocks_of settings (life_of machine.history)
    → Follows settings first from machine due facts
    → Follows settings first from (record machine { history = history }) due facts
follows-history settings first from machine due facts history occurrence none is same f =
    record {
      number = f.number;
      answered = f.answered;
      more = λ m is. subst (λ blocks. TookBlock blocks machine.round m) (sym same) (f.more m is);
      now = subst (GoesOn from) (sym is) (goes_on-more from (life_of machine.history) occurrence f.now);
      stage = stage-history settings first from machine due facts history occurrence none is f.stage;
    }

-- the frame delivered to the module last is one that was sent
pub last_is_sent : (settings : Settings) (first : ℕ) (from : Life) (facts : Facts) (machine : Machine) (due : ℕ) → Stage settings first from facts machine due
    → machine.last_to_module ≤ length machine.to_module
last_is_sent settings first from facts machine due is = grind arith

-- what a command that is sent needs of it
pub record MaySend (settings : Settings) (first : ℕ) (machine : Machine) (facts : Facts) : Type 0 where
  pub number : (n : ℕ) → number_due facts ≡ Some n → n ≡ number_of first machine.round
  pub answered : facts.answered ≡ true
      → AreBefore machine.to_module machine.polls machine.round (length machine.to_module)
  pub more : (m : Bool) → facts.more ≡ Some m
      → TookBlock (blocks_of settings (life_of machine.history)) machine.round m
  pub sent : machine.last_to_module ≤ length machine.to_module

pub may_send : (settings : Settings) (first : ℕ) (from : Life) (machine : Machine) (due : ℕ) (facts : Facts) → Follows settings first from machine due facts
    → MaySend settings first machine facts
may_send settings first from machine due facts f =
    record { number = f.number; answered = f.answered; more = f.more; sent = last_is_sent settings first from facts machine due f.stage }

-- where nothing is known of the lines above, as at a command with which a log begins
pub may_begin : (settings : Settings) (first : ℕ) (from : Life) (machine : Machine) (due : ℕ) (facts : Facts) → Follows settings first from machine due facts
    → MaySend settings first machine no_facts
may_begin settings first from machine due facts f = grind (arith, last_is_sent)
