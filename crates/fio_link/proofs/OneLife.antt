-- What runs without restarts keep besides.
use Rattle.fio_link.proofs.Names.{◌≡◌, ℕ, ◌+◌, ◌≤◌, Bool, true, false, List, [], ◌∷◌, ◌++◌, length, take, map, Option, Some, None, slice_get, refl, ap, sym, ◌∙◌, arith, length-append, append-nil, if◌then◌else◌, flat_map, flat_map-append, take-append-le, nat_tests, Answer, answer_octets, Block, says_again, block_in, poll_in, Settings, History, life_of, Transition, entry_of, MadeBlock, is_new, blocks_of, Item, item_of, items_of_block, SentFrame, Machine, number_of, answer_frames, HasPoll, next_round, CarriesBlock, newest_number}
use Rattle.fio_cpu.specs.declared.record.Item.TheVariants as items
use Rattle.fio_link.specs.Frames.{is_repeated, repeats, answer_before, block_answers}
use Rattle.fio_link.proofs.Places.{get_after_push, take_one_more}
use Rattle.fio_link.proofs.RoundNumbers.{number_of-fits, rounds_from_numbers}
use Rattle.fio_link.proofs.AllLives.{past_log, behind, past_blocks, all_blocks}
use Rattle.fio_link.proofs.Kept.{after_other, after_poll}
use Rattle.fio_link.proofs.HeardRows.{InOrder}

-- a block in the record, with its wide times
abbrev pub recorded_of : MadeBlock → List Item
recorded_of block =
    (if block.lost then items.Gap ∷ [] else []) ++ map (item_of block.stamp) (map entry_of block.transitions)

-- the first m blocks in the record
abbrev pub record_of : ℕ → List MadeBlock → List Item
record_of m blocks = flat_map recorded_of (take m blocks)

-- What runs without restarts keep besides, for the log and the blocks of the lives before, the blocks of the one life, its
-- latest poll, the rounds that made the blocks and those of the polls, the CPU's round and record, and the frames sent
-- to it: there is no life before, the newest poll received made the newest block, each block was made by a poll of its
-- round, the record is what the taken blocks are, and block answers say which polls were repeated.
pub record OneLife (first : ℕ) (log : List Transition) (past blocks : List MadeBlock) (latest : Option ℕ)
    (makers polls : List ℕ) (round : ℕ) (items : List Item) (to_cpu : List SentFrame) : Type 0 where
  pub no_log : log ≡ []
  pub no_blocks : past ≡ []
  pub made : next_round polls ≡ length blocks
  pub own : (k r : ℕ) → slice_get makers k ≡ Some r → r ≡ k
  pub polled : latest ≡ newest_number first polls
  pub kept : items ≡ record_of round blocks
  pub again : block_answers to_cpu ≡ repeats polls

-- the same for a machine
abbrev pub InOneLife : ℕ → List Transition → List MadeBlock → List MadeBlock → Option ℕ → List ℕ → Machine → Type 0
InOneLife first log past blocks latest makers machine =
    OneLife first log past blocks latest makers machine.polls machine.round machine.items machine.to_cpu

-- blocks moved by nothing are where they were
behind_nothing : (blocks : List MadeBlock) → map (behind 0) blocks ≡ blocks
behind_nothing [] = refl
behind_nothing (block ∷ blocks) =
    let before : 0 + block.before ≡ block.before = omega arith in
    let start : 0 + block.start ≡ block.start = omega arith in
    let end : 0 + block.end ≡ block.end = omega arith in
    ap (λ n. record block { before = n; start = 0 + block.start; end = 0 + block.end } ∷ map (behind 0) blocks) before
    ∙ ap (λ n. record block { before = block.before; start = n; end = 0 + block.end } ∷ map (behind 0) blocks) start
    ∙ ap (λ n. record block { before = block.before; start = block.start; end = n } ∷ map (behind 0) blocks) end
    ∙ ap (λ bs. block ∷ bs) (behind_nothing blocks)

-- then the blocks of all lives are those of the present one
pub all_in_life : (settings : Settings) (history : History) → past_log history ≡ [] → past_blocks settings history ≡ []
    → all_blocks settings history ≡ blocks_of settings (life_of history)
all_in_life settings history no_log no_blocks = grind (arith, nat_tests, behind, behind_nothing)

-- what a poll of a round is to a module whose polls, all in one life, have these rounds: a new poll is of the next round,
-- and any other repeats the newest
abbrev pub Continues : Bool → ℕ → List ℕ → Type 0
Continues true round polls = (round ≡ next_round polls) × (is_repeated round polls ≡ false)
Continues false round polls = (round + 1 ≡ next_round polls) × (is_repeated round polls ≡ true)

-- a poll that is received is one or the other
pub continues : (first round number : ℕ) (polls : List ℕ) (new : Bool) → number ≡ number_of first round
    → round ≤ next_round polls → next_round polls ≤ round + 1
    → is_new (newest_number first polls) number ≡ new
    → Continues new round polls
continues first round number [] true numbered low high is = (omega arith, refl)
continues first round number [] false numbered low high is = absurd (cc is)
continues first round number (s ∷ ss) true numbered low high is = grind (arith, nat_tests)
continues first round number (s ∷ ss) false numbered low high is = grind (arith, nat_tests, rounds_from_numbers)

-- what is known of a poll that is received after these, if the latest of the present life is the newest of them
pub record ContinuesPolls (first : ℕ) (polls : List ℕ) (latest : Option ℕ) (number round : ℕ) : Type 0 where
  pub named : number ≡ number_of first round
  pub fits : number ≤ 255
  pub met : Continues (is_new latest number) round polls

-- it is known of a poll that the module receives
pub poll_continues : (first : ℕ) (machine : Machine) → InOrder first machine
    → (latest : Option ℕ) → latest ≡ newest_number first machine.polls
    → (place number : ℕ) (frame : SentFrame) → machine.last_to_module ≤ place + 1
    → slice_get machine.to_module place ≡ Some frame → poll_in frame.octets ≡ Some number
    → ContinuesPolls first machine.polls latest number frame.round
poll_continues first machine i latest polled place number frame le at spells =
    let round = frame.round in
    let poll : HasPoll machine.to_module place number round =
    record { frame = frame; at_place = at; spells = spells; of_round = refl } in
    let low : round ≤ machine.round = i.polls.sent place number round poll in
    let high : next_round machine.polls ≤ round + 1 = i.polls.ahead place number round le poll in
    let upto : machine.round ≤ next_round machine.polls = i.answers.behind in
    let named : number ≡ number_of first round = i.polls.numbers place number round poll in
    record {
      named = named;
      fits = omega (arith, number_of-fits first round);
      met =
          continues first round number machine.polls (is_new latest number) named (omega arith) high
          (ap (λ newest. is_new newest number) (sym polled));
    }

-- the block answers among frames and one more
pub block_answers-push : (frames : List SentFrame) (f : SentFrame)
    → block_answers (frames ++ f ∷ []) ≡ block_answers frames ++ answer_before (block_in f.octets) f.round []
block_answers-push [] f = refl
block_answers-push (g ∷ frames) f =
    ap (answer_before (block_in g.octets) g.round) (block_answers-push frames f)
    ∙ before_more (block_in g.octets) g.round (block_answers frames) (answer_before (block_in f.octets) f.round [])
  where
    before_more : (found : Option Block) (round : ℕ) (xs ys : List (ℕ × Bool))
        → answer_before found round (xs ++ ys) ≡ answer_before found round xs ++ ys
    before_more None round xs ys = refl
    before_more (Some block) round xs ys = refl

-- an answer that carries a block is recorded as the block is
pub items_of_block-carried : (answer : Block) (block : MadeBlock) → CarriesBlock answer block
    → items_of_block answer ≡ recorded_of block
items_of_block-carried answer block b = grind (arith, nat_tests)

-- the record with one more block
pub record_of-next : (blocks : List MadeBlock) (m : ℕ) (taken : List Item) (answer : Block) (block : MadeBlock)
    → slice_get blocks m ≡ Some block → CarriesBlock answer block → taken ≡ record_of m blocks
    → taken ++ items_of_block answer ≡ record_of (m + 1) blocks
record_of-next blocks m taken answer block found carries kept =
    ap (λ xs. xs ++ items_of_block answer) kept
    ∙ ap (λ xs. record_of m blocks ++ xs) (items_of_block-carried answer block carries ∙ sym (append-nil (recorded_of block)))
    ∙ sym (flat_map-append recorded_of (take m blocks) (block ∷ []))
    ∙ ap (flat_map recorded_of) (sym (take_one_more blocks m block found))

module _ (first : ℕ) (log : List Transition) (past blocks : List MadeBlock) (latest : Option ℕ) (makers : List ℕ)
    (machine : Machine) (o : InOneLife first log past blocks latest makers machine) (place : ℕ) (frame : SentFrame) where
  -- a frame that is no poll is received, and what it gets is no block answer
  pub life-other : (reply : Option Answer)
      → ((answer : Answer) → reply ≡ Some answer → block_in (answer_octets answer) ≡ None)
      → InOneLife first log past blocks latest makers (after_other machine place frame (answer_frames reply frame.round))
  life-other None other = grind (arith, nat_tests, append-nil)
  life-other (Some answer) other =
      let f : SentFrame = record { octets = answer_octets answer; round = frame.round } in
      record {
        no_log = o.no_log;
        no_blocks = o.no_blocks;
        made = o.made;
        own = o.own;
        polled = o.polled;
        kept = o.kept;
        again =
            block_answers-push machine.to_cpu f
            ∙ ap (λ found. block_answers machine.to_cpu ++ answer_before found frame.round []) (other answer refl)
            ∙ append-nil (block_answers machine.to_cpu) ∙ o.again;
      }

  -- a block answer joins those that were sent
  answers-again : (octets : List ℕ) (answer : Block) → block_in octets ≡ Some answer
      → says_again answer.status ≡ is_repeated frame.round machine.polls
      → block_answers (machine.to_cpu ++ record { octets = octets; round = frame.round } ∷ []) ≡ repeats (frame.round ∷ machine.polls)
  answers-again octets answer reads says =
      block_answers-push machine.to_cpu (record { octets = octets; round = frame.round })
      ∙ ap (λ found. block_answers machine.to_cpu ++ answer_before found frame.round []) reads
      ∙ ap (λ again. block_answers machine.to_cpu ++ (frame.round, again) ∷ []) says
      ∙ ap (λ xs. xs ++ (frame.round, is_repeated frame.round machine.polls) ∷ []) o.again

  -- a new poll is received
  pub life-new : (number : ℕ) (block : MadeBlock) (octets : List ℕ) (answer : Block)
      → number ≡ number_of first frame.round
      → Continues true frame.round machine.polls → length makers ≡ length blocks
      → machine.round ≤ length blocks
      → block_in octets ≡ Some answer → says_again answer.status ≡ false
      → InOneLife first log past (blocks ++ block ∷ []) (Some number) (makers ++ frame.round ∷ [])
      (after_poll machine place frame (record { octets = octets; round = frame.round } ∷ []))
  life-new number block octets answer numbered met count upto reads says = grind (arith, nat_tests, length-append, get_after_push, take-append-le, answers-again)

  -- the newest poll is received again
  pub life-repeated : (number : ℕ) (octets : List ℕ) (answer : Block) → number ≡ number_of first frame.round
      → Continues false frame.round machine.polls → block_in octets ≡ Some answer
      → says_again answer.status ≡ true
      → InOneLife first log past blocks (Some number) makers
      (after_poll machine place frame (record { octets = octets; round = frame.round } ∷ []))
  life-repeated number octets answer numbered met reads says = grind (arith, nat_tests, answers-again)
