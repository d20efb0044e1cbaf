-- The order of rounds of a CPU that has begun anew: it stays, whatever had come to the module before.
use Rattle.fio_link.proofs.Names.{◌≡◌, ℕ, ◌+◌, ◌≤◌, Bool, true, false, List, [], ◌∷◌, ◌++◌, Option, Some, None, slice_get, refl, ap, sym, subst, ◌∙◌, arith, append-nil, option_map, Answer, Command, command_octets, answer_octets, Block, command_in, poll_in, polled_number, block_in, Settings, AreInRange, History, Life, life_of, MadeBlock, newest_poll, is_new, blocks_of, next_block, Sending, answer_of_sending, first_sending, repeat_of, answer_if, Event, SentFrame, Machine, number_of, refusal, answer_frames, after_sending, after_delivery_to_module, after, HasPoll, HasBlock, IsNotRestart, next_round, CarriesBlock}
use Rattle.std.specs.Prelude.{not}
use Rattle.fio_message.specs.declared.commands.Command.TheVariants as commands
use Rattle.fio_link.specs.CpuRestarts.{with_new_cpu}
use Rattle.fio_link.proofs.SentMessages.{each_more, none_more}
use Rattle.fio_link.proofs.RoundNumbers.{number_of-fits}
use Rattle.fio_link.proofs.Spelled.{said}
use Rattle.fio_link.proofs.MadeBlocks.{next_fits}
use Rattle.fio_link.proofs.Received.{no_block_reply, same_number, first_carries, again_carries, carried_back, carried_says, latest_sent, newest_fits}
use Rattle.fio_link.proofs.PollOrder.{polls-none, polls-sent, polls-passed, polls-received, polls-taken}
use Rattle.fio_link.proofs.AnswerOrder.{answers-none, answers-other, answers-more, answers-passed, answers-taken}
use Rattle.fio_link.proofs.Kept.{after_frame, after_other, after_poll, blocks_if, sending_if}
use Rattle.fio_link.proofs.HeardRows.{after_taken, InOrder}
use Rattle.fio_link.proofs.Events.{IsKeptByEvents, once}

-- The answer to a poll: it carries the newest block after the poll, which is one more if the poll is new, and otherwise the
-- same block again.
pub record IsAnswered (settings : Settings) (life : Life) (number : ℕ) (new : Bool) : Type 0 where
  pub sending : Sending
  pub is_sent : sending_if settings life number new ≡ Some sending
  pub named : sending.number ≡ number
  pub again : sending.again ≡ not new
  pub earlier : List MadeBlock
  pub block : MadeBlock
  pub made : blocks_if settings life new ≡ earlier ++ block ∷ []
  pub since : new ≡ true → earlier ≡ blocks_of settings life
  pub reads : block_in (answer_octets (answer_of_sending sending)) ≡ Some (said sending)
  pub carried : CarriesBlock (said sending) block

is_answered : (settings : Settings) → AreInRange settings → (life : Life) (number : ℕ) → number ≤ 255 → (new : Bool)
    → is_new (newest_poll life) number ≡ new → IsAnswered settings life number new
is_answered settings range life number fits true is =
    let sending = first_sending settings life number in
    let carried = first_carries settings life number in
    record {
      sending = sending;
      is_sent = refl;
      named = refl;
      again = refl;
      earlier = blocks_of settings life;
      block = next_block settings life;
      made = refl;
      since = λ is. refl;
      reads = carried_back settings.per_block sending (next_block settings life) range.few_per_block fits (next_fits settings life) carried;
      carried = carried_says sending (next_block settings life) carried;
    }
is_answered settings range life number fits false is =
    let found = latest_sent settings life number (same_number (newest_poll life) number is) in
    let l = found.1 in
    let again = repeat_of found.0 in
    let sent_number : again.number ≡ number = l.number in
    let carried = again_carries found.0 l.block l.carried in
    record {
      sending = again;
      is_sent = ap (option_map repeat_of) l.is;
      named = sent_number;
      again = refl;
      earlier = l.earlier;
      block = l.block;
      made = l.made;
      since = λ never. absurd (cc never);
      reads = carried_back settings.per_block again l.block range.few_per_block (omega arith) (newest_fits settings life l.earlier l.block l.made) carried;
      carried = carried_says again l.block carried;
    }

module _ (first : ℕ) (machine : Machine) (o : InOrder first machine) where
  -- the order of rounds stays: something reaches the module that is no frame
  order_moved : (history : History) → InOrder first (record machine { history = history })
  order_moved history = record { polls = o.polls; answers = o.answers; at_most = o.at_most; numbers = o.numbers }

  order_sent : (command : Command)
      → ((n : ℕ) → poll_in (command_octets command) ≡ Some n → n ≡ number_of first machine.round)
      → InOrder first (after_sending machine command)
  order_sent command number =
      record {
        polls =
            polls-sent first machine.to_module machine.last_to_module machine.round (next_round machine.polls) o.polls
            (record { octets = command_octets command; round = machine.round }) refl o.at_most number;
        answers = o.answers;
        at_most = o.at_most;
        numbers = o.numbers;
      }

  order_passed : (index : ℕ) → machine.last_to_cpu ≤ index → InOrder first (record machine { last_to_cpu = index })
  order_passed index le =
      record {
        polls = o.polls;
        answers = answers-passed machine.to_cpu machine.last_to_cpu machine.round (next_round machine.polls) o.answers index le;
        at_most = o.at_most;
        numbers = o.numbers;
      }

  order_taken : (place : ℕ) (answer : Block) → HasBlock machine.to_cpu place answer machine.round
      → InOrder first (after_taken machine place answer)
  order_taken place answer has =
      record {
        polls = polls-taken first machine.to_module machine.last_to_module machine.round (next_round machine.polls) o.polls;
        answers = answers-taken machine.to_cpu machine.last_to_cpu machine.round (next_round machine.polls) o.answers place answer has;
        at_most = omega (arith, o.at_most);
        numbers = o.numbers;
      }

  module _ (place : ℕ) (frame : SentFrame) (le : machine.last_to_module ≤ place + 1) where
    order_other : (reply : Option Answer)
        → ((answer : Answer) → reply ≡ Some answer → block_in (answer_octets answer) ≡ None)
        → InOrder first (after_other machine place frame (answer_frames reply frame.round))
    order_other None other =
        subst (λ frames. InOrder first (after_other (record machine { to_cpu = [] }) place frame frames)) (sym (append-nil machine.to_cpu))
        (record {
          polls = polls-passed first machine.to_module machine.last_to_module machine.round (next_round machine.polls) o.polls (place + 1) le;
          answers = o.answers;
          at_most = o.at_most;
          numbers = o.numbers;
        })
    order_other (Some answer) other =
        let f : SentFrame = record { octets = answer_octets answer; round = frame.round } in
        let none = other answer refl in
        record {
          polls = polls-passed first machine.to_module machine.last_to_module machine.round (next_round machine.polls) o.polls (place + 1) le;
          answers = answers-other machine.to_cpu machine.last_to_cpu machine.round (next_round machine.polls) o.answers f none;
          at_most = o.at_most;
          numbers = λ p a r has. o.numbers p a r (none_more block_in machine.to_cpu f none p a r has);
        }

    order_poll : (number : ℕ) (octets : List ℕ) (answer : Block) → HasPoll machine.to_module place number frame.round
        → block_in octets ≡ Some answer → answer.number ≡ number
        → InOrder first (after_poll machine place frame (record { octets = octets; round = frame.round } ∷ []))
    order_poll number octets answer poll reads named =
        let f : SentFrame = record { octets = octets; round = frame.round } in
        let next = next_round machine.polls in
        let high : next ≤ frame.round + 1 = o.polls.ahead place number frame.round le poll in
        record {
          polls = polls-received first machine.to_module machine.last_to_module machine.round next o.polls place number frame.round poll;
          answers = answers-more machine.to_cpu machine.last_to_cpu machine.round next o.answers f frame.round refl high;
          at_most = omega (arith, o.polls.sent place number frame.round poll);
          numbers = each_more block_in machine.to_cpu f (λ p a r. a.number ≡ number_of first r) o.numbers
              (λ a spells.
              let same : answer ≡ a = cc (reads, spells) in
              subst (λ (x : Block). x.number ≡ number_of first frame.round) same (named ∙ o.polls.numbers place number frame.round poll));
        }

module _ (settings : Settings) (range : AreInRange settings) (first : ℕ) where
  module _ (machine : Machine) (o : InOrder first machine) (place : ℕ) (frame : SentFrame)
      (le : machine.last_to_module ≤ place + 1) (at : slice_get machine.to_module place ≡ Some frame) where
    abbrev life : Life
    life = life_of machine.history

    -- the frame is a poll with this number, if it is read as one
    pub is_poll : (number : ℕ) → command_in frame.octets ≡ Some (commands.Poll number) → HasPoll machine.to_module place number frame.round
    is_poll number spells = record { frame = frame; at_place = at; spells = ap polled_number spells; of_round = refl }

    pub answered : (number : ℕ) → command_in frame.octets ≡ Some (commands.Poll number)
        → IsAnswered settings life number (is_new (newest_poll life) number)
    answered number spells =
        let named : number ≡ number_of first frame.round = o.polls.numbers place number frame.round (is_poll number spells) in
        is_answered settings range life number (omega (arith, number_of-fits first frame.round)) (is_new (newest_poll life) number) refl

    order_frame : (command : Option Command) → command_in frame.octets ≡ command
        → InOrder first (after_frame settings machine place frame command)
    order_frame (Some (commands.Poll number)) spells =
        let a = answered number spells in
        subst (λ (sent : Option Sending). InOrder first (after_poll machine place frame (answer_frames (option_map answer_of_sending sent) frame.round)))
        (sym a.is_sent) (order_poll first machine o place frame le number (answer_octets (answer_of_sending a.sending)) (said a.sending)
        (is_poll number spells) a.reads a.named)
    order_frame command spells =
        order_other first machine o place frame le (answer_if settings life command) (no_block_reply settings life command refl)

    order_received : InOrder first (after_delivery_to_module settings machine (place + 1) (Some frame))
    order_received = order_frame (command_in frame.octets) refl

  -- each event but a restart keeps it
  pub order_rows : IsKeptByEvents settings first (InOrder first) (InOrder first)
  order_rows =
      record {
        scans = λ machine raw i o. order_moved first machine o _;
        syncs = λ machine i o. order_moved first machine o _;
        raises = λ machine mask i o. order_moved first machine o _;
        sends = λ machine command i number o. order_sent first machine o command number;
        receives = λ machine place frame i le at o. order_received machine o place frame le at;
        passes = λ machine index i le o. order_passed first machine o index le;
        takes = λ machine place answer i has o. order_taken first machine o place answer has;
      }

  pub order_next : (machine : Machine) → InOrder first machine → (event : Event) → IsNotRestart event → refusal machine event ≡ None
      → InOrder first (after settings first machine event)
  order_next machine o event none fine =
      once settings first (InOrder first) (InOrder first) (λ machine o. o) order_rows machine o o event none fine

  pub order_begun : (machine : Machine) → InOrder first (with_new_cpu machine)
  order_begun machine =
      record {
        polls = polls-none first 0 0;
        answers = answers-none 0;
        at_most = omega arith;
        numbers = λ p a r has. absurd (cc (has.at_place));
      }
