-- The polls that made the blocks, and the blocks that answers carry.
use Rattle.std.proofs.lemmas.Bool.Decides.{nat_tests}
use Rattle.fio_link.proofs.Names.{◌≡◌, ℕ, ◌+◌, ◌<◌, ◌≤◌, false, List, [], ◌∷◌, ◌++◌, length, Option, Some, None, slice_get, subst, arith, length-append, if◌then◌else◌, slice_get_within, Block, says_out_of_sequence, poll_in, block_in, Received, History, life_of, MadeBlock, newest_poll, is_new, SentFrame, number_of, HasBlock, CarriesBlock}
use Rattle.fio_link.proofs.Places.{get_before_push, get_after_push}
use Rattle.fio_link.proofs.SentMessages.{each_more, none_more}

-- the rounds of the polls that made blocks, after one more poll or none
abbrev pub makers_after : Option ℕ → Option ℕ → (List ℕ → List ℕ) → List ℕ → List ℕ
makers_after None latest makers polls = makers polls
makers_after (Some number) latest makers [] = makers []
makers_after (Some number) latest makers (round ∷ older) =
    if is_new latest number then makers older ++ round ∷ [] else makers older

-- the rounds of the polls that made the blocks of all lives, oldest first, given the rounds of the polls received, newest
-- first
abbrev pub makers_of : History → List ℕ → List ℕ
makers_of [] polls = []
makers_of (Received octets ∷ history) polls =
    makers_after (poll_in octets) (newest_poll (life_of history)) (makers_of history) polls
makers_of (other ∷ history) polls = makers_of history polls

-- the rounds of the polls that made the blocks never fall, and are of polls received
pub record MakersAreInOrder (makers : List ℕ) (next : ℕ) (blocks : List MadeBlock) : Type 0 where
  pub count : length makers ≡ length blocks
  pub rise : (j k r s : ℕ) → j ≤ k → slice_get makers j ≡ Some r → slice_get makers k ≡ Some s → r ≤ s
  pub below : (j r : ℕ) → slice_get makers j ≡ Some r → r < next

-- the newest block was made by a poll of the newest round received
pub record NewestIsMaker (makers : List ℕ) (next : ℕ) : Type 0 where
  pub place : ℕ
  pub round : ℕ
  pub last : length makers ≡ place + 1
  pub made_by : slice_get makers place ≡ Some round
  pub newest : next ≡ round + 1

-- a block answer has the number of its round, in sequence, and carries a block that a poll of that
-- round made
pub record CarriesMadeOf (first : ℕ) (blocks : List MadeBlock) (makers : List ℕ) (answer : Block) (round : ℕ) : Type 0 where
  pub number : answer.number ≡ number_of first round
  pub in_sequence : says_out_of_sequence answer.status ≡ false
  pub place : ℕ
  pub block : MadeBlock
  pub is_made : slice_get blocks place ≡ Some block
  pub made_by : slice_get makers place ≡ Some round
  pub carried : CarriesBlock answer block

-- each block answer among these frames does
abbrev pub AnswersCarryMade : ℕ → List MadeBlock → List ℕ → List SentFrame → Type 0
AnswersCarryMade first blocks makers frames = (place : ℕ) (answer : Block) (round : ℕ) →
    HasBlock frames place answer round → CarriesMadeOf first blocks makers answer round

-- a poll of the newest round received makes nothing
pub makers-repeated : (makers : List ℕ) (next later : ℕ) (blocks : List MadeBlock) → next ≤ later
    → MakersAreInOrder makers next blocks → MakersAreInOrder makers later blocks
makers-repeated makers next later blocks le o = grind (arith, nat_tests)

-- a poll of a round not below it makes a block
pub makers-new : (makers : List ℕ) (next round : ℕ) (blocks : List MadeBlock) (block : MadeBlock)
    → next ≤ round + 1
    → MakersAreInOrder makers next blocks
    → MakersAreInOrder (makers ++ round ∷ []) (round + 1) (blocks ++ block ∷ [])
makers-new makers next round blocks block high o = grind (arith, nat_tests, length-append, get_after_push, slice_get_within)

-- a frame is sent that is no block answer
pub carry-other : (first : ℕ) (blocks : List MadeBlock) (makers : List ℕ) (frames : List SentFrame) (f : SentFrame)
    → block_in f.octets ≡ None
    → AnswersCarryMade first blocks makers frames → AnswersCarryMade first blocks makers (frames ++ f ∷ [])
carry-other first blocks makers frames f none carry p a r h = carry p a r (none_more block_in frames f none p a r h)

-- a block answer is sent that carries a block
pub carry-more : (first : ℕ) (blocks : List MadeBlock) (makers : List ℕ) (frames : List SentFrame) (f : SentFrame) (answer : Block)
    → block_in f.octets ≡ Some answer → CarriesMadeOf first blocks makers answer f.round
    → AnswersCarryMade first blocks makers frames → AnswersCarryMade first blocks makers (frames ++ f ∷ [])
carry-more first blocks makers frames f answer spells carries carry =
    each_more block_in frames f (λ p a r. CarriesMadeOf first blocks makers a r) carry
    (λ a reads. subst (λ x. CarriesMadeOf first blocks makers x f.round) (cc (spells, reads)) carries)

-- one more block is made
pub carry-new : (first : ℕ) (blocks : List MadeBlock) (makers : List ℕ) (frames : List SentFrame) (block : MadeBlock) (round : ℕ)
    → AnswersCarryMade first blocks makers frames
    → AnswersCarryMade first (blocks ++ block ∷ []) (makers ++ round ∷ []) frames
carry-new first blocks makers frames block round carry p a r h =
    let b = carry p a r h in
    record {
      number = b.number;
      in_sequence = b.in_sequence;
      place = b.place;
      block = b.block;
      is_made = get_before_push blocks (block ∷ []) b.place b.block b.is_made;
      made_by = get_before_push makers (round ∷ []) b.place r b.made_by;
      carried = b.carried;
    }
