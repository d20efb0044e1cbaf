-- The order of rounds, on which the promises rest.
use Rattle.std.specs.Prelude.{◌≡◌, ℕ, ◌+◌, ◌<◌, ◌≤◌, false, List, [], ◌∷◌, map, length, slice_get, Some}
use Rattle.fio_message.specs.Blocks.{Block}
use Rattle.fio_message.specs.Status.{says_more, says_lost, says_out_of_sequence}
use Rattle.fio_module.specs.Settings.{Settings}
use Rattle.fio_module.specs.Log.{entry_of}
use Rattle.fio_module.specs.Blocks.{MadeBlock}
use Rattle.fio_link.specs.Link.{SentFrame, Machine, number_of}
use Rattle.fio_link.specs.Frames.{HasPoll, HasBlock, received_numbers}
use Rattle.fio_link.specs.Claims.{blocks_in}

-- the round after that of the newest of these polls, which are given newest first, or 0 if there are none
abbrev pub next_round : List ℕ → ℕ
next_round [] = 0
next_round (round ∷ older) = round + 1

-- The polls among the frames sent to the module are in order. The frame with number `last` was delivered last, the CPU is in
-- round `round`, and `next` is the round after that of the newest poll received.
pub record PollsAreInOrder (first : ℕ) (frames : List SentFrame) (last round next : ℕ) : Type 0 where
  -- the polls have the numbers of their rounds, and the rounds never fall and are at most the CPU's
  pub numbers : (place n r : ℕ) → HasPoll frames place n r → n ≡ number_of first r
  pub rise :
      (p q m n r s : ℕ) → p ≤ q → HasPoll frames p m r → HasPoll frames q n s → r ≤ s
  pub sent : (place n r : ℕ) → HasPoll frames place n r → r ≤ round
  -- from the last delivered frame on, the rounds are at least that of the newest poll received
  pub ahead : (place n r : ℕ) → last ≤ place + 1 → HasPoll frames place n r → next ≤ r + 1

-- the polls of a machine are in order
abbrev pub PollsOf : ℕ → Machine → Type 0
PollsOf first machine =
    PollsAreInOrder first machine.to_module machine.last_to_module
    machine.round (next_round machine.polls)

-- The block answers among the frames sent to the CPU are in order. `last`, `round` and `next` are as for polls.
pub record BlockAnswersAreInOrder (frames : List SentFrame) (last round next : ℕ) : Type 0 where
  -- their rounds never fall, and are rounds of polls received
  pub rise :
      (p q : ℕ) (a b : Block) (r s : ℕ) → p ≤ q
      → HasBlock frames p a r → HasBlock frames q b s → r ≤ s
  pub answered : (place : ℕ) (a : Block) (r : ℕ) → HasBlock frames place a r → r < next
  -- from the last delivered frame on, the rounds are at least the one before the CPU's
  pub ahead :
      (place : ℕ) (a : Block) (r : ℕ) → last ≤ place + 1 → HasBlock frames place a r → round ≤ r + 1
  -- the CPU has only taken answers to polls that were received
  pub behind : round ≤ next

-- the block answers of a machine are in order
abbrev pub BlockAnswersOf : Machine → Type 0
BlockAnswersOf machine =
    BlockAnswersAreInOrder machine.to_cpu machine.last_to_cpu
    machine.round (next_round machine.polls)

-- The polls received have the numbers of their rounds, and the round of the newest is at most the CPU's.
pub record PollsReceivedHaveRounds (first : ℕ) (machine : Machine) : Type 0 where
  pub numbers : map (number_of first) machine.polls ≡ received_numbers machine.history
  pub at_most : next_round machine.polls ≤ machine.round + 1

-- The newest poll received has the round of the newest block.
abbrev pub NewestPollMadeNewestBlock : Settings → Machine → Type 0
NewestPollMadeNewestBlock settings machine =
    next_round machine.polls ≡ length (blocks_in settings machine)

-- what a block answer says agrees with the block
pub record CarriesBlock (answer : Block) (block : MadeBlock) : Type 0 where
  pub entries : answer.entries ≡ map entry_of block.transitions
  pub more : says_more answer.status ≡ block.more
  pub lost : says_lost answer.status ≡ block.lost
  pub stamp : answer.stamp ≡ block.stamp

-- a block answer has the number of its round, is in sequence, and carries the block of that round, counted from 0
pub record CarriesBlockOf (first : ℕ) (blocks : List MadeBlock) (answer : Block) (round : ℕ)
    : Type 0 where
  pub number : answer.number ≡ number_of first round
  pub in_sequence : says_out_of_sequence answer.status ≡ false
  pub block : MadeBlock
  pub is_made : slice_get blocks round ≡ Some block
  pub carried : CarriesBlock answer block

-- Each block answer carries the block of its round.
abbrev pub AnswersCarryBlocks : Settings → ℕ → Machine → Type 0
AnswersCarryBlocks settings first machine = (place : ℕ) (answer : Block) (round : ℕ) →
    HasBlock machine.to_cpu place answer round →
    CarriesBlockOf first (blocks_in settings machine) answer round
