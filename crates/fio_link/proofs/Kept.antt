-- What every run keeps, whatever restarts.
use Rattle.fio_link.proofs.Names.{◌≡◌, ℕ, ◌+◌, ◌≤◌, Bool, true, false, List, [], ◌∷◌, ◌++◌, map, Option, Some, None, refl, ap, sym, subst, ◌∙◌, arith, append-nil, if◌then◌else◌, option_map, same_Some, nat_tests, Answer, Command, answer_octets, Block, block_in, polled_number, Settings, History, Received, Life, life_of, Transition, whole_log, MadeBlock, newest_poll, is_new, blocks_of, next_block, Sending, is_out_of_sequence, first_sending, repeat_of, latest_sending, answer_if, SentFrame, Machine, number_of, answer_frames, polls_with, HasPoll, received_numbers, PollsAreInOrder, next_round, PollsOf, BlockAnswersOf}
use Rattle.fio_link.proofs.RoundNumbers.{number_of-next, rounds_from_numbers}
use Rattle.fio_link.proofs.AllLives.{all_blocks, reached}
use Rattle.fio_link.proofs.PollOrder.{polls-passed, polls-received}
use Rattle.fio_link.proofs.AnswerOrder.{answers-other, answers-more}
use Rattle.fio_link.proofs.Makers.{makers_of, MakersAreInOrder, NewestIsMaker, CarriesMadeOf, AnswersCarryMade, carry-other, carry-more}
use Rattle.fio_link.proofs.RisingPieces.{RecordRises}

-- What every run keeps of the polls received, whose rounds these are, newest first: their numbers, the
-- latest of the present life, and the rounds of those that made the blocks.
pub record ReceivedPolls (first : ℕ) (blocks : List MadeBlock) (latest : Option ℕ)
    (numbers makers polls : List ℕ) : Type 0 where
  pub numbered : map (number_of first) polls ≡ numbers
  pub newest : (n : ℕ) → latest ≡ Some n → (older : List ℕ) × (numbers ≡ n ∷ older)
  pub makers_in_order : MakersAreInOrder makers (next_round polls) blocks
  pub maker : (n : ℕ) → latest ≡ Some n → NewestIsMaker makers (next_round polls)

-- What every run keeps of a machine, for the joined log of its module, its blocks, the place from
-- which the next may take, the latest poll of its present life, the numbers of all polls received,
-- and the rounds of those that made the blocks.
pub record Invariant (first : ℕ) (log : List Transition) (blocks : List MadeBlock) (limit : ℕ)
    (latest : Option ℕ) (numbers makers : List ℕ) (machine : Machine) : Type 0 where
  pub polls : PollsOf first machine
  pub answers : BlockAnswersOf machine
  pub at_most : next_round machine.polls ≤ machine.round + 1
  pub received : ReceivedPolls first blocks latest numbers makers machine.polls
  pub carry : AnswersCarryMade first blocks makers machine.to_cpu
  pub rising : RecordRises log blocks makers limit machine.round machine.items

-- the same for a machine, about what has reached its module
abbrev pub HasInvariant : Settings → ℕ → Machine → Type 0
HasInvariant settings first machine =
    Invariant first (whole_log machine.history) (all_blocks settings machine.history) (reached settings machine.history)
    (newest_poll (life_of machine.history)) (received_numbers machine.history)
    (makers_of machine.history machine.polls) machine

-- what a poll of a round is to a module whose polls have these rounds, and this latest number in
-- the present life: a new one is in sequence, and another is of the newest round
abbrev pub Meets : Bool → ℕ → Option ℕ → ℕ → ℕ → Type 0
Meets true round latest number next = is_out_of_sequence latest number ≡ false
Meets false round latest number next = round + 1 ≡ next

-- if a poll was received before
meets_some : (first round number before : ℕ) (polls older : List ℕ) (new : Bool)
    → map (number_of first) polls ≡ before ∷ older
    → number ≡ number_of first round → round ≤ next_round polls → next_round polls ≤ round + 1
    → is_new (Some before) number ≡ new → Meets new round (Some before) number (next_round polls)
meets_some first round number before [] older new known numbered low high is = absurd (cc known)
meets_some first round number before (s ∷ ss) older true known numbered low high is = grind (arith, nat_tests, number_of-next)
meets_some first round number before (s ∷ ss) older false known numbered low high is = grind (arith, nat_tests, rounds_from_numbers)

-- a poll that is received is one or the other
pub meets : (first round number : ℕ) (latest : Option ℕ) (polls numbers : List ℕ) (new : Bool)
    → map (number_of first) polls ≡ numbers
    → ((n : ℕ) → latest ≡ Some n → (older : List ℕ) × (numbers ≡ n ∷ older))
    → number ≡ number_of first round → round ≤ next_round polls → next_round polls ≤ round + 1
    → is_new latest number ≡ new → Meets new round latest number (next_round polls)
meets first round number None polls numbers true known newest numbered low high is = refl
meets first round number None polls numbers false known newest numbered low high is = absurd (cc is)
meets first round number (Some before) polls numbers new known newest numbered low high is = grind (arith, nat_tests, meets_some)

-- it also holds of a machine whose module has another history, if the record rises through its log, and the latest poll of
-- its present life, if any, is the same
pub keeps_history : (first : ℕ) (log log' : List Transition) (blocks : List MadeBlock) (limit limit' : ℕ)
    (latest latest' : Option ℕ) (numbers makers : List ℕ) (machine : Machine) (history : History)
    → Invariant first log blocks limit latest numbers makers machine
    → ((n : ℕ) → latest' ≡ Some n → latest ≡ Some n)
    → RecordRises log' blocks makers limit' machine.round machine.items
    → Invariant first log' blocks limit' latest' numbers makers (record machine { history = history })
keeps_history first log log' blocks limit limit' latest latest' numbers makers machine history i same rises = grind (arith, nat_tests)

-- the machine after its module has received a frame at this place that is no poll, and these
-- answers were sent
abbrev pub after_other : Machine → ℕ → SentFrame → List SentFrame → Machine
after_other machine place frame answers =
    record machine {
      last_to_module = place + 1;
      history = Received frame.octets ∷ machine.history;
      to_cpu = machine.to_cpu ++ answers;
    }

-- the same for a frame that is a poll
abbrev pub after_poll : Machine → ℕ → SentFrame → List SentFrame → Machine
after_poll machine place frame answers =
    record (after_other machine place frame answers) { polls = frame.round ∷ machine.polls }

-- the machine after its module has received a frame at this place that is read as this command, or as none
abbrev pub after_frame : Settings → Machine → ℕ → SentFrame → Option Command → Machine
after_frame settings machine place frame command =
    record (after_other machine place frame (answer_frames (answer_if settings (life_of machine.history) command) frame.round)) {
      polls = polls_with (polled_number command) frame.round machine.polls;
    }

-- the blocks of a life, the sending and the makers after a poll that is new or not
abbrev pub blocks_if : Settings → Life → Bool → List MadeBlock
blocks_if settings life new =
    if new then blocks_of settings life ++ next_block settings life ∷ [] else blocks_of settings life

abbrev pub sending_if : Settings → Life → ℕ → Bool → Option Sending
sending_if settings life number new =
    if new then Some (first_sending settings life number) else option_map repeat_of (latest_sending settings life)

abbrev pub makers_if : List ℕ → ℕ → Bool → List ℕ
makers_if makers round new = if new then makers ++ round ∷ [] else makers

module _ (first : ℕ) (log : List Transition) (blocks : List MadeBlock) (limit : ℕ)
    (latest : Option ℕ) (numbers makers : List ℕ) (machine : Machine)
    (i : Invariant first log blocks limit latest numbers makers machine)
    (place : ℕ) (frame : SentFrame) (in_order : machine.last_to_module ≤ place + 1) where
  -- the polls sent are in order after the delivery of any frame
  passed : PollsAreInOrder first machine.to_module (place + 1) machine.round (next_round machine.polls)
  passed =
      polls-passed first machine.to_module machine.last_to_module machine.round
      (next_round machine.polls) i.polls (place + 1) in_order

  -- a frame that is no poll is received, and what it gets is no block answer
  pub keeps_other : (reply : Option Answer)
      → ((answer : Answer) → reply ≡ Some answer → block_in (answer_octets answer) ≡ None)
      → Invariant first log blocks limit latest numbers makers (after_other machine place frame (answer_frames reply frame.round))
  keeps_other None other =
      subst (λ frames. Invariant first log blocks limit latest numbers makers (record machine {
        last_to_module = place + 1;
        history = Received frame.octets ∷ machine.history;
        to_cpu = frames;
      })) (sym (append-nil machine.to_cpu)) (record {
        polls = passed;
        answers = i.answers;
        at_most = i.at_most;
        received = i.received;
        carry = i.carry;
        rising = i.rising;
      })
  keeps_other (Some answer) other =
      let f : SentFrame = record { octets = answer_octets answer; round = frame.round } in
      let none : block_in (answer_octets answer) ≡ None = other answer refl in
      record {
        polls = passed;
        answers = answers-other machine.to_cpu machine.last_to_cpu machine.round (next_round machine.polls) i.answers f none;
        at_most = i.at_most;
        received = i.received;
        carry = carry-other first blocks makers machine.to_cpu f none i.carry;
        rising = i.rising;
      }

  -- a poll is received, and a block answer is sent
  pub keeps_poll : (number limit' : ℕ) (blocks' : List MadeBlock) (makers' : List ℕ) (answer : Block) (octets : List ℕ)
      → HasPoll machine.to_module place number frame.round → block_in octets ≡ Some answer
      → MakersAreInOrder makers' (frame.round + 1) blocks' → NewestIsMaker makers' (frame.round + 1)
      → AnswersCarryMade first blocks' makers' machine.to_cpu
      → CarriesMadeOf first blocks' makers' answer frame.round
      → RecordRises log blocks' makers' limit' machine.round machine.items
      → Invariant first log blocks' limit' (Some number) (number ∷ numbers) makers'
      (after_poll machine place frame (record { octets = octets; round = frame.round } ∷ []))
  keeps_poll number limit' blocks' makers' answer octets poll reads in_order' maker carry carries rises =
      let f : SentFrame = record { octets = octets; round = frame.round } in
      let next = next_round machine.polls in
      let high : next ≤ frame.round + 1 = i.polls.ahead place number frame.round in_order poll in
      let named : number ≡ number_of first frame.round = i.polls.numbers place number frame.round poll in
      record {
        polls =
            polls-received first machine.to_module machine.last_to_module machine.round next i.polls
            place number frame.round poll;
        answers = answers-more machine.to_cpu machine.last_to_cpu machine.round next i.answers f frame.round refl high;
        at_most = omega (arith, i.polls.sent place number frame.round poll);
        received = record {
          numbered =
              ap (λ n. n ∷ map (number_of first) machine.polls) (sym named) ∙ ap (λ ns. number ∷ ns) i.received.numbered;
          newest = λ n is. (numbers, ap (λ (k : ℕ). k ∷ numbers) (same_Some _ _ is));
          makers_in_order = in_order';
          maker = λ n is. maker;
        };
        carry = carry-more first blocks' makers' machine.to_cpu f answer reads carries carry;
        rising = rises;
      }
