-- What holds while the CPU does not poll: it takes one block at most.
use Rattle.std.proofs.lemmas.Bool.Decides.{nat_tests}
use Rattle.fio_link.proofs.Names.{◌≡◌, ℕ, ◌+◌, ◌≤◌, ◌⊎◌, List, [], ◌∷◌, ◌++◌, Option, Some, None, slice_get, refl, ap, sym, subst, ◌∙◌, arith, inl, inr, AllByRecursion, Command, command_octets, Block, poll_in, Settings, AreInRange, items_of_block, Event, SentFrame, Machine, refusal, polls_with, after_delivery_to_module, after_delivery_to_cpu, after, Leads, HasPoll, HasBlock, next_round}
use Rattle.fio_link.specs.declared.event.Event.TheVariants as events
use Rattle.fio_link.specs.Delivery.{IsWithinRound, TakesOne}
use Rattle.fio_link.proofs.Places.{get_before_push}
use Rattle.fio_link.proofs.SentMessages.{each_more}
use Rattle.fio_link.proofs.Spelled.{no_poll_in}
use Rattle.fio_link.proofs.Kept.{HasInvariant}
use Rattle.fio_link.proofs.HeardRows.{after_taken, after_heard, in_order}
use Rattle.fio_link.proofs.Events.{after_delivery}
use Rattle.fio_link.proofs.Rows.{keeps}

-- frames that were sent stay where they are
pub record HasMore (machine last : Machine) : Type 0 where
  pub to_module : (place : ℕ) (frame : SentFrame) → slice_get machine.to_module place ≡ Some frame → slice_get last.to_module place ≡ Some frame
  pub to_cpu : (place : ℕ) (frame : SentFrame) → slice_get machine.to_cpu place ≡ Some frame → slice_get last.to_cpu place ≡ Some frame

-- one block answer was taken since a machine, to a poll of its round, or none
abbrev pub IsTaken : Machine → Machine → Type 0
IsTaken base machine = (machine.round ≡ base.round) × (machine.items ≡ base.items) ⊎ TakesOne base machine

-- What holds while the CPU does not poll, since it was in a round: it has sent no poll of a later one, and has
-- taken one block at most.
pub record IsInRound (base machine : Machine) : Type 0 where
  pub sent : (place n r : ℕ) → HasPoll machine.to_module place n r → r ≤ base.round
  pub received : next_round machine.polls ≤ base.round + 1
  pub taken : IsTaken base machine
  pub more : HasMore base machine

-- what was taken stays so while frames are added
pub taken-more : (base machine last : Machine) → last.round ≡ machine.round → last.items ≡ machine.items → HasMore machine last
    → IsTaken base machine → IsTaken base last
taken-more base machine last round items more (inl none) = inl (round ∙ none.0, items ∙ none.1)
taken-more base machine last round items more (inr one) =
    let has = one.answered in
    inr (record {
      answer = one.answer;
      place = one.place;
      answered = record { frame = has.frame; at_place = more.to_cpu one.place has.frame has.at_place; spells = has.spells; of_round = has.of_round };
      round = round ∙ one.round;
      items = items ∙ one.items;
    })

pub more-then : (base machine last : Machine) → HasMore base machine → HasMore machine last → HasMore base last
more-then base machine last m n = grind (arith, nat_tests)

pub more-none : (machine : Machine) → HasMore machine machine
more-none machine = record { to_module = λ place frame at. at; to_cpu = λ place frame at. at }

module _ (settings : Settings) (range : AreInRange settings) (first : ℕ) (base machine : Machine)
    (i : HasInvariant settings first machine) (o : IsInRound base machine) where
  -- the module receives a frame
  round_received : (place : ℕ) (frame : SentFrame) → machine.last_to_module ≤ place + 1
      → slice_get machine.to_module place ≡ Some frame
      → IsInRound base (after_delivery_to_module settings machine (place + 1) (Some frame))
  round_received place frame le at =
      let later = after_delivery_to_module settings machine (place + 1) (Some frame) in
      let here : HasMore machine later = record {
        to_module = λ p f old. old;
        to_cpu = λ p f old. get_before_push machine.to_cpu _ p f old;
      } in
      record {
        sent = o.sent;
        received = of_poll (poll_in frame.octets) refl;
        taken = taken-more base machine later refl refl here o.taken;
        more = more-then base machine later o.more here;
      }
    where
      of_poll : (found : Option ℕ) → poll_in frame.octets ≡ found → next_round (polls_with found frame.round machine.polls) ≤ base.round + 1
      of_poll None spells = o.received
      of_poll (Some n) spells =
          let low = o.sent place n frame.round (record { frame = frame; at_place = at; spells = spells; of_round = refl }) in
          omega arith

  -- the CPU hears a frame and takes nothing
  round_passed : (index : ℕ) → IsInRound base (record machine { last_to_cpu = index })
  round_passed index =
      let later = record machine { last_to_cpu = index } in
      let here : HasMore machine later = record { to_module = λ p f old. old; to_cpu = λ p f old. old } in
      record { sent = o.sent; received = o.received; taken = taken-more base machine later refl refl here o.taken; more = more-then base machine later o.more here }

  -- the CPU takes the block of its round
  round_taken : (place : ℕ) (answer : Block) → HasBlock machine.to_cpu place answer machine.round
      → IsInRound base (after_taken machine place answer)
  round_taken place answer block =
      let later = after_taken machine place answer in
      let here : HasMore machine later = record { to_module = λ p f old. old; to_cpu = λ p f old. old } in
      record { sent = o.sent; received = o.received; taken = inr (one o.taken); more = more-then base machine later o.more here }
    where
      one : IsTaken base machine → TakesOne base (after_taken machine place answer)
      one (inl none) =
          record {
            answer = answer;
            place = place;
            answered = subst (HasBlock machine.to_cpu place answer) none.0 block;
            round = ap (λ n. n + 1) none.0;
            items = ap (λ its. its ++ items_of_block answer) none.1;
          }
      one (inr done) =
          let again = i.answers.answered place answer machine.round block in
          absurd (omega (arith, o.received, done.round))

  -- the CPU hears a frame
  round_heard : (place : ℕ) (frame : SentFrame) → machine.last_to_cpu ≤ place + 1
      → slice_get machine.to_cpu place ≡ Some frame
      → IsInRound base (after_delivery_to_cpu first machine (place + 1) (Some frame))
  round_heard place frame le at =
      after_heard first machine (in_order settings first machine i) (IsInRound base) place frame le at (round_passed (place + 1)) (round_taken place)

  -- the CPU sends a command that is no poll
  round_sent : (command : Command) → poll_in (command_octets command) ≡ None → IsInRound base (after settings first machine (events.Send command))
  round_sent command none =
      let later = after settings first machine (events.Send command) in
      let f : SentFrame = record { octets = command_octets command; round = machine.round } in
      let here : HasMore machine later = record {
        to_module = λ p g old. get_before_push machine.to_module (f ∷ []) p g old;
        to_cpu = λ p g old. old;
      } in
      record {
        sent = each_more poll_in machine.to_module f (λ p n r. r ≤ base.round) o.sent (λ n spells. absurd (cc (none, spells)));
        received = o.received;
        taken = taken-more base machine later refl refl here o.taken;
        more = more-then base machine later o.more here;
      }

  -- each event within a round keeps it
  pub round_once : (event : Event) → IsWithinRound event → refusal machine event ≡ None
      → IsInRound base (after settings first machine event)
  round_once events.Poll within fine = absurd within
  round_once events.Restart within fine = absurd within
  round_once (events.Send command) within fine = round_sent command (no_poll_in command fine)
  round_once (events.ToModule index) within fine =
      after_delivery (λ n found. IsInRound base (after_delivery_to_module settings machine n found))
      machine.to_module machine.last_to_module index fine round_received
  round_once (events.ToCpu index) within fine =
      after_delivery (λ n found. IsInRound base (after_delivery_to_cpu first machine n found))
      machine.to_cpu machine.last_to_cpu index fine round_heard
  round_once event within fine =
      let later = after settings first machine event in
      let here : HasMore machine later = record { to_module = λ p f old. old; to_cpu = λ p f old. old } in
      record { sent = o.sent; received = o.received; taken = taken-more base machine later refl refl here o.taken; more = more-then base machine later o.more here }

-- events within a round keep it
pub round_all : (settings : Settings) → AreInRange settings → (first : ℕ) (base : Machine) (events : List Event) (machine last : Machine)
    → AllByRecursion IsWithinRound events → Leads settings first machine events last
    → HasInvariant settings first machine → IsInRound base machine → IsInRound base last
round_all settings range first base [] machine last within leads i o = subst (IsInRound base) (sym leads) o
round_all settings range first base (event ∷ events) machine last within leads i o =
    round_all settings range first base events (after settings first machine event) last within.1 leads.1
    (keeps settings range first machine i event leads.0)
    (round_once settings range first base machine i o event within.0 leads.0)

-- before the next event
pub in_round_start : (settings : Settings) (first : ℕ) (machine : Machine) → HasInvariant settings first machine → IsInRound machine machine
in_round_start settings first machine i =
    record { sent = λ place n r has. i.polls.sent place n r has; received = i.at_most; taken = inl (refl, refl); more = more-none machine }
