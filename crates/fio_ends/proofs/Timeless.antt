-- The events that keep the rules on time, and those that a load of the counter excuses: below an excused event nothing is known
-- of times till the next clear block.
use Rattle.fio_ends.proofs.Names.{is_some_and, ◌≡◌, ◌∙◌, ◌&&◌, ℕ, Bool, true, false, not, List, [], ◌∷◌, Option, Some, None, refl, ap, sym, subst, fold, ◌==◌, Answer, Item, Entry, Gap, ContentFacts, content_with, ContentEvent, Ended, Recorded, Apart, Clock, Fresh, Order, State, KeepsRule, Seen, breaks_answer, broken_state, content_step, forgetting, is_before, stamp_of, without_excuse, arith, breaks_time}
use Rattle.fio_message.specs.declared.answers.Answer.TheVariants as answers
use Rattle.fio_ends.proofs.ContentFrame.{heard_keeps}
use Rattle.fio_check.specs.ContentRules.{is_excused}
use Rattle.fio_ends.proofs.ContentLines.{EachKeeps}

-- an event keeps the rules on time
pub record KeepsTimeRules (facts : ContentFacts) (event : ContentEvent) : Type 0 where
  pub order : KeepsRule Order facts event
  pub fresh : KeepsRule Fresh facts event
  pub apart : KeepsRule Apart facts event
  pub clock : KeepsRule Clock facts event
  pub state : KeepsRule State facts event

-- and would keep them if no load excused anything
abbrev pub WouldKeep : ContentFacts → ContentEvent → Type 0
WouldKeep facts event = KeepsTimeRules (without_excuse facts) event

-- ---- one event

-- one that would keep them is not excused
breaks_none : (facts : ContentFacts) (event : ContentEvent) → WouldKeep facts event → breaks_time (without_excuse facts) event ≡ false
breaks_none facts event k = grind arith

pub not_excused : (facts : ContentFacts) (event : ContentEvent) → WouldKeep facts event → is_excused facts event ≡ false
unfolding is_excused
not_excused facts event k = ap (λ b. b && not (facts.excuses == 0)) (breaks_none facts event k)

-- the rule `clock`, by whether it is judged
clock_any : (facts : ContentFacts) (answer : Answer)
    → breaks_answer facts answer Clock ≡ ((facts.excuses == 0) && is_some_and (stamp_of answer) (λ stamp. is_some_and facts.clock (is_before stamp)))
clock_any facts (answers.Status flags receive transmit stamp) = refl
clock_any facts other = refl

-- where a load excuses what it breaks it breaks nothing
module _ (facts : ContentFacts) (excuses : (facts.excuses == 0) ≡ false) where
  states-kept : (event : ContentEvent) (seen : Option Seen) → broken_state facts event seen ≡ None
  states-kept event None = refl
  states-kept event (Some seen) = rw excuses refl

  pub excuses_all : (event : ContentEvent) → KeepsTimeRules facts event
  excuses_all event = grind (arith, clock_any, heard_keeps, states-kept)

-- one that would keep them keeps them
module _ (facts : ContentFacts) where
  states-judged : (judged : Bool) → (facts.excuses == 0) ≡ judged → (event : ContentEvent) (seen : Option Seen) → broken_state (without_excuse facts) event seen ≡ None → broken_state facts event seen ≡ None
  states-judged judged is event seen k = grind arith

  would-keep : (event : ContentEvent) → (facts.excuses == 0) ≡ true → WouldKeep facts event → KeepsTimeRules facts event
  would-keep event is k = grind (arith, clock_any, heard_keeps, states-judged)

  pub keeps : (event : ContentEvent) → WouldKeep facts event → KeepsTimeRules facts event
  keeps event k = grind (arith, excuses_all, would-keep)

-- ---- events that would keep them

-- what two claims say of each of these events both say
pub both_keep : (one other : ContentFacts → ContentEvent → Type 0) (facts : ContentFacts) (events : List ContentEvent) → EachKeeps one content_step facts events → EachKeeps other content_step facts events
    → EachKeeps (λ facts event. one facts event × other facts event) content_step facts events
both_keep one other facts [] first second = tt
both_keep one other facts (event ∷ events) first second = ((first.0, second.0), both_keep one other (content_step facts event) events first.1 second.1)

-- what a claim says of each, another says that follows from it
pub all_keep : (one other : ContentFacts → ContentEvent → Type 0) (step : ContentFacts → ContentEvent → ContentFacts) → ((facts : ContentFacts) (event : ContentEvent) → one facts event → other facts event)
    → (facts : ContentFacts) (events : List ContentEvent) → EachKeeps one step facts events → EachKeeps other step facts events
all_keep one other step follows facts [] each = tt
all_keep one other step follows facts (event ∷ events) each = (follows facts event each.0, all_keep one other step follows (step facts event) events each.1)

-- none of them is excused
pub none_excused : (facts : ContentFacts) (events : List ContentEvent) → EachKeeps WouldKeep content_step facts events
    → EachKeeps KeepsTimeRules content_with facts events × (fold content_with facts events ≡ fold content_step facts events)
none_excused facts [] each = (tt, refl)
none_excused facts (event ∷ events) each =
    let same : content_with facts event ≡ content_step facts event = ap (λ b. forgetting b (content_step facts event)) (not_excused facts event each.0) in
    let rest = none_excused (content_step facts event) events each.1 in (
      (keeps facts event each.0, subst (λ f. EachKeeps KeepsTimeRules content_with f events) (sym same) rest.0),
      ap (λ f. fold content_with f events) same ∙ rest.1,
    )

-- ---- below an excused event

-- nothing is known of times
pub record IsTimeless (facts : ContentFacts) : Type 0 where
  pub clock : facts.clock ≡ None
  pub heard : facts.block_heard ≡ false
  pub timely : facts.timely ≡ false
  pub seen : facts.seen ≡ None
  pub timed : (input : ℕ) → (facts.inputs input).timed ≡ None
  pub shown : (input : ℕ) → (facts.inputs input).shown ≡ None
  pub unlogged : (input : ℕ) → (facts.inputs input).unlogged ≡ false

pub timeless_forgetting : (facts : ContentFacts) → IsTimeless (forgetting true facts)
timeless_forgetting facts = record { clock = refl; heard = refl; timely = refl; seen = refl; timed = λ input. refl; shown = λ input. refl; unlogged = λ input. refl }

-- so it stays till the end of the block
module _ (facts : ContentFacts) (t : IsTimeless facts) where
  none_seen : (event : ContentEvent) → broken_state (without_excuse facts) event facts.seen ≡ None
  none_seen event = ap (broken_state (without_excuse facts) event) t.seen

  gap_timeless : IsTimeless (content_step facts (Recorded Gap))
  gap_timeless = record { clock = t.clock; heard = t.heard; timely = t.timely; seen = refl; timed = t.timed; shown = λ input. refl; unlogged = t.unlogged }

  entry_timeless : (input low wide : ℕ) (level : Bool) → IsTimeless (content_step facts (Recorded (Entry input level low wide)))
  entry_timeless recorded low wide level = grind arith

  pub item_timeless : (item : Item) → WouldKeep facts (Recorded item) × IsTimeless (content_step facts (Recorded item))
  item_timeless item = grind (arith, entry_timeless, gap_timeless, none_seen)

  pub ended_timeless : (status stamp : ℕ) → WouldKeep facts (Ended status stamp) × IsTimeless (content_step facts (Ended status stamp))
  ended_timeless status stamp = grind (arith, none_seen)
