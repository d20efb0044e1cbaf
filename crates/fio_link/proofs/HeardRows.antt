-- A frame that the CPU hears keeps what every run keeps.
use Rattle.fio_link.proofs.Names.{◌≡◌, ℕ, ◌+◌, ◌<◌, ◌≤◌, ◌==◌, Bool, true, false, ◌++◌, Option, Some, None, slice_get, refl, sym, subst, ◌∙◌, arith, inl, inr, if◌then◌else◌, cases_lt, nat_tests, Block, block_in, Settings, AreInRange, whole_log, items_of_block, SentFrame, Machine, number_of, after_delivered_block, after_delivery_to_cpu, HasBlock, PollsOf, BlockAnswersOf, next_round}
use Rattle.fio_link.proofs.RoundNumbers.{rounds_from_numbers}
use Rattle.fio_link.proofs.MadeBlocks.{each-at}
use Rattle.fio_link.proofs.AllLives.{all_blocks, reached, blocks_apart, apart_within, apart_order, StandsIn, blocks_stand}
use Rattle.fio_link.proofs.PollOrder.{polls-taken}
use Rattle.fio_link.proofs.AnswerOrder.{answers-passed, answers-taken}
use Rattle.fio_link.proofs.RisingPieces.{rise_taken}
use Rattle.fio_link.proofs.Kept.{HasInvariant}

-- the machine after its CPU has taken the block of a frame at this place
abbrev pub after_taken : Machine → ℕ → Block → Machine
after_taken machine place block =
    record machine { last_to_cpu = place + 1; round = machine.round + 1; items = machine.items ++ items_of_block block }

-- What the order of rounds keeps, whatever the module has come to: block answers have the numbers of their rounds.
pub record InOrder (first : ℕ) (machine : Machine) : Type 0 where
  pub polls : PollsOf first machine
  pub answers : BlockAnswersOf machine
  pub at_most : next_round machine.polls ≤ machine.round + 1
  pub numbers :
      (place : ℕ) (answer : Block) (round : ℕ) → HasBlock machine.to_cpu place answer round
      → answer.number ≡ number_of first round

pub in_order : (settings : Settings) (first : ℕ) (machine : Machine) → HasInvariant settings first machine → InOrder first machine
in_order settings first machine i =
    record {
      polls = i.polls;
      answers = i.answers;
      at_most = i.at_most;
      numbers = λ place answer round has. (i.carry place answer round has).number;
    }

module _ (first : ℕ) (machine : Machine) (i : InOrder first machine) where
  -- a block answer with the CPU's number is of the CPU's round
  pub same_round : (place : ℕ) (answer : Block) (round : ℕ) → machine.last_to_cpu ≤ place + 1
      → HasBlock machine.to_cpu place answer round
      → answer.number ≡ number_of first machine.round → round ≡ machine.round
  same_round place answer round le block alike =
      let named : answer.number ≡ number_of first round = i.numbers place answer round block in
      let below : round < next_round machine.polls = i.answers.answered place answer round block in
      let near : machine.round ≤ round + 1 = i.answers.ahead place answer round le block in
      let high : next_round machine.polls ≤ machine.round + 1 = i.at_most in
      rounds_from_numbers first round machine.round (omega arith) near (sym named ∙ alike)

  -- the CPU hears a frame: what holds of the machine if it takes nothing, and what holds if it takes the block of its round,
  -- holds of the machine after it
  pub after_heard : (P : Machine → Type 0) (place : ℕ) (frame : SentFrame) → machine.last_to_cpu ≤ place + 1
      → slice_get machine.to_cpu place ≡ Some frame
      → P (record machine { last_to_cpu = place + 1 })
      → ((answer : Block) → HasBlock machine.to_cpu place answer machine.round → P (after_taken machine place answer))
      → P (after_delivery_to_cpu first machine (place + 1) (Some frame))
  after_heard P place frame le at passed taken = of_block (block_in frame.octets) refl
    where
      of_number : (answer : Block) → HasBlock machine.to_cpu place answer frame.round
          → (same : Bool) → (answer.number == number_of first machine.round) ≡ same
          → P (if same then after_taken machine place answer else record machine { last_to_cpu = place + 1 })
      of_number answer block false is = passed
      of_number answer block true is =
          let alike : answer.number ≡ number_of first machine.round = grind (arith, nat_tests) in
          let same = same_round place answer frame.round le block alike in
          taken answer (subst (HasBlock machine.to_cpu place answer) same block)

      of_block : (found : Option Block) → block_in frame.octets ≡ found
          → P (after_delivered_block first (record machine { last_to_cpu = place + 1 }) found)
      of_block None spells = passed
      of_block (Some answer) spells =
          of_number answer (record { frame = frame; at_place = at; spells = spells; of_round = refl })
          (answer.number == number_of first machine.round) refl

module _ (settings : Settings) (range : AreInRange settings) (first : ℕ) (machine : Machine)
    (i : HasInvariant settings first machine) where
  -- the CPU hears a frame and takes nothing
  pub keeps_passed : (index : ℕ) → machine.last_to_cpu ≤ index → HasInvariant settings first (record machine { last_to_cpu = index })
  keeps_passed index le =
      record {
        polls = i.polls;
        answers = answers-passed machine.to_cpu machine.last_to_cpu machine.round (next_round machine.polls) i.answers index le;
        at_most = i.at_most;
        received = i.received;
        carry = i.carry;
        rising = i.rising;
      }

  -- the CPU takes a block
  pub keeps_taken : (place : ℕ) (answer : Block) → HasBlock machine.to_cpu place answer machine.round
      → HasInvariant settings first (after_taken machine place answer)
  keeps_taken place answer block =
      let h = machine.history in
      let all = all_blocks settings h in
      let log = whole_log h in
      let b = i.carry place answer machine.round block in
      let s = i.rising in
      let apart = blocks_apart settings h in
      let within = apart_within 0 (reached settings h) all b.place b.block apart b.is_made in
      let low : s.to ≤ b.block.start = s.ahead b.place b.block machine.round b.is_made b.made_by (omega arith) in
      let stands = each-at (StandsIn log) all b.place b.block (blocks_stand settings h) b.is_made in
      let high : next_round machine.polls ≤ machine.round + 1 = i.at_most in
      record {
        polls = polls-taken first machine.to_module machine.last_to_module machine.round (next_round machine.polls) i.polls;
        answers = answers-taken machine.to_cpu machine.last_to_cpu machine.round (next_round machine.polls) i.answers place answer block;
        at_most = omega arith;
        received = i.received;
        carry = i.carry;
        rising = record {
          to = b.block.end;
          rises = rise_taken log s.to machine.items answer b.block s.rises low stands b.carried;
          limited = within.2;
          ahead = λ k c r p q far.
              let later : b.place < k = elim (cases_lt b.place k) as (λ _. b.place < k) [
                | inl less ↦ less
                | inr not_less ↦ absurd (omega (arith, i.received.makers_in_order.rise k b.place r machine.round not_less q b.made_by))
              ] in
              apart_order 0 (reached settings h) all b.place k b.block c apart later b.is_made p;
        };
      }
