-- What is kept of content along a prompt run, frame by frame.
use Rattle.fio_ends.proofs.Names.{◌≡◌, ◌∙◌, ◌+◌, ◌%◌, ℕ, List, [], ◌∷◌, Option, Some, None, refl, ap, sym, subst, arith, ◌==◌, fold, same_Some, Answer, Command, answered_block, ContentFacts, content_with, ContentKept, kept_at_start, false, ContentEvent, Sent, events_in, content_events, events_of_block, number_after, facts_with, no_facts, ContentRule, Alternate, Apart, Fresh, Ignored, Order, State, Facts, Observation, Machine, number_of, sending_refusal, CpuFrame, SentFrame, length, ◌++◌, length-append, slice_get, get_last, command_in, Bool, Settings, KeepsRule, Seen, breaks_answer, broken_state, item_for, item_parts, items_sent, number_with_command, number_below, first_differing}
use Rattle.fio_message.specs.declared.answers.Answer.TheVariants as answers
use Rattle.fio_message.specs.Blocks.{Block as BlockOf}
use Rattle.fio_ends.proofs.GoodLines.{said_by}
use Rattle.fio_ends.proofs.Following.{IsSentLast, facts_below}
use Rattle.fio_ends.proofs.ContentSteps.{Awaits, PollsKnown}
use Rattle.fio_ends.proofs.ContentLines.{EventsKeep, FramesKeep, content_below, none_comes}

-- ---- what else is kept

-- what is known of content is known of this machine: its number is the machine's, if a poll was sent, and the command that
-- awaits its answer is the one sent last
pub record Agrees (settings : Settings) (first : ℕ) (machine : Machine) (facts : Facts) (kept : ContentKept) : Type 0 where
  pub number : (polled : ℕ) → facts.polled ≡ Some polled → kept.number ≡ Some (number_of first machine.round)
  pub unpolled : facts.polled ≡ None → kept.number ≡ None
  pub awaits : (code : ℕ) (command : Command) → facts.awaited ≡ Some code → IsSentLast machine.to_module command → Awaits kept.facts command
  pub polls : PollsKnown settings machine kept.facts

pub agrees-start : (settings : Settings) (begun : Bool) (first : ℕ) (machine : Machine) → PollsKnown settings machine (kept_at_start begun).facts
    → Agrees settings first machine no_facts (kept_at_start begun)
agrees-start settings begun first machine polls = grind arith

-- where the number is another or none, and the facts say the same, all else that is kept may be another
pub agrees-below : (settings : Settings) (first : ℕ) (machine later : Machine) (facts : Facts) (kept : ContentKept) → later.round ≡ machine.round
    → later.to_module ≡ machine.to_module → PollsKnown settings later kept.facts → Agrees settings first machine facts kept → Agrees settings first later facts kept
agrees-below settings first machine later facts kept round frames polls a =
    record {
      number = λ polled is. a.number polled is ∙ ap (λ r. Some (number_of first r)) (sym round);
      unpolled = a.unpolled;
      awaits = λ code command is sent. a.awaits code command is (subst (λ sent. IsSentLast sent command) frames sent);
      polls = polls;
    }

-- what an event keeps: the entries of its frames keep the rule, and below them the invariant holds
pub record KeepsContent (settings : Settings) (rule : ContentRule) (P : Machine → ContentFacts → Type 0) (first : ℕ) (facts : Facts) (kept : ContentKept)
    (frames : List CpuFrame) (machine : Machine) : Type 0 where
  pub keep : FramesKeep rule kept frames
  pub holds : P machine (content_below kept frames).facts
  pub agrees : Agrees settings first machine (facts_below facts frames) (content_below kept frames)

-- a frame with these events
pub one_frame : (settings : Settings) (rule : ContentRule) (P : Machine → ContentFacts → Type 0) (first : ℕ) (facts : Facts) (kept : ContentKept)
    (frame : CpuFrame) (machine : Machine) (said : Observation) (number : Option ℕ) (events : List ContentEvent)
    → said_by frame ≡ said → number_below kept.number frame.from_cpu frame.octets ≡ number
    → events_in kept.number frame.from_cpu frame.octets ≡ events
    → EventsKeep rule kept.facts events → P machine (fold content_with kept.facts events)
    → Agrees settings first machine (facts_with facts said) (record { number = number; facts = fold content_with kept.facts events })
    → KeepsContent settings rule P first facts kept (frame ∷ []) machine
one_frame settings rule P first facts kept frame machine said number events says below are keep holds agrees = grind (arith, content_below)

-- ---- a command is sent

-- the frame that was pushed is the one sent last
pub last_of : (frames : List SentFrame) (f : SentFrame) (command : Command) → IsSentLast (frames ++ f ∷ []) command → command_in f.octets ≡ Some command
last_of frames f command s =
    let long : length (frames ++ f ∷ []) ≡ length frames + 1 = length-append frames (f ∷ []) in
    let last : length (frames ++ f ∷ []) ≡ s.place + 1 = s.last in
    let here : s.place ≡ length frames = omega arith in
    let is : s.frame ≡ f = same_Some _ _ (sym s.at_place ∙ ap (slice_get (frames ++ f ∷ [])) here ∙ get_last frames f) in
    ap (λ (g : SentFrame). command_in g.octets) (sym is) ∙ s.spells

-- the command that is sent awaits its answer
pub awaits_sent : (facts : ContentFacts) (frames : List SentFrame) (f : SentFrame) (sent command : Command) → command_in f.octets ≡ Some sent
    → IsSentLast (frames ++ f ∷ []) command → Awaits (content_with facts (Sent sent)) command
awaits_sent facts frames f sent command spells last =
    let is : sent ≡ command = same_Some _ _ (sym spells ∙ last_of frames f command last) in
    subst (Awaits (content_with facts (Sent sent))) is
    (record { clearing = refl; absent_named = refl; named = λ input. (item_parts (facts.inputs input) (item_for input (items_sent sent))).named })

state-kept : (facts : ContentFacts) (command : Command) (seen : Option Seen) → broken_state facts (Sent command) seen ≡ None
state-kept facts command None = refl
state-kept facts command (Some seen) = none_comes (facts.excuses == 0) (first_differing facts seen)

-- a command keeps each rule
pub sent_keeps : (rule : ContentRule) (facts : ContentFacts) (command : Command) → KeepsRule rule facts (Sent command)
sent_keeps State facts command = state-kept facts command facts.seen
sent_keeps other facts command = tt

-- the number below a command that is no poll
pub number_stays : (number : Option ℕ) (command : Command) → sending_refusal command ≡ None → number_with_command number command ≡ number
number_stays number other fine = grind arith

-- ---- an answer is heard

-- an answer keeps the rules on entries
pub record KeepsEntryRules (facts : ContentFacts) (answer : Answer) : Type 0 where
  pub order : breaks_answer facts answer Order ≡ false
  pub fresh : breaks_answer facts answer Fresh ≡ false
  pub alternate : breaks_answer facts answer Alternate ≡ false
  pub apart : breaks_answer facts answer Apart ≡ false
  pub ignored : breaks_answer facts answer Ignored ≡ false

pub heard_keeps : (facts : ContentFacts) (answer : Answer) → KeepsEntryRules facts answer
heard_keeps facts (answers.LoadCounter status) = record { order = refl; fresh = refl; alternate = refl; apart = refl; ignored = refl }
heard_keeps facts other = record { order = refl; fresh = refl; alternate = refl; apart = refl; ignored = refl }

-- a block answer with the number
pub block_events : (number : ℕ) (answer : Option Answer) (block : BlockOf) → answered_block answer ≡ Some block → block.number ≡ number
    → (content_events (Some number) None answer ≡ events_of_block block) × (number_after (Some number) None answer ≡ Some ((number + 1) % 256))
block_events number answer block is same = grind arith
