-- Polls and block answers among the frames of one direction.
use Rattle.std.specs.Prelude.{◌≡◌, ℕ, ◌==◌, Bool, false, List, [], ◌∷◌, ◌++◌, slice_get, Option, Some, None}
use Rattle.fio_message.specs.Blocks.{Block}
use Rattle.fio_message.specs.Decoding.{poll_in, block_in}
use Rattle.fio_message.specs.Status.{says_again}
use Rattle.fio_module.specs.Life.{Received, History}
use Rattle.fio_link.specs.Link.{SentFrame}

-- the frame at this index decodes to this message, and has this round
pub record HasMessage {A : Type 0} (decoded : List ℕ → Option A) (frames : List SentFrame) (place : ℕ)
    (message : A) (round : ℕ) : Type 0 where
  pub frame : SentFrame
  pub at_place : slice_get frames place ≡ Some frame
  pub spells : decoded frame.octets ≡ Some message
  pub of_round : frame.round ≡ round

-- the frame at this index spells a poll with this number, and has this round
abbrev pub HasPoll : List SentFrame → ℕ → ℕ → ℕ → Type 0
HasPoll frames place number round = HasMessage poll_in frames place number round

-- the frame at this index spells a block answer with this block, to a poll of this round
abbrev pub HasBlock : List SentFrame → ℕ → Block → ℕ → Type 0
HasBlock frames place block round = HasMessage block_in frames place block round

-- the numbers of polls, newest first, after a frame: its number is added if it is a poll
abbrev pub with_poll_number : Option ℕ → List ℕ → List ℕ
with_poll_number None numbers = numbers
with_poll_number (Some number) numbers = number ∷ numbers

-- the numbers of the polls that a module has received, in all its lives, newest first
abbrev pub received_numbers : History → List ℕ
received_numbers [] = []
received_numbers (Received octets ∷ history) =
    with_poll_number (poll_in octets) (received_numbers history)
received_numbers (other ∷ history) = received_numbers history

-- whether a poll of this round has the same round as the newest of these
abbrev pub is_repeated : ℕ → List ℕ → Bool
is_repeated round [] = false
is_repeated round (newest ∷ older) = round == newest

-- for each poll received, in order, its round and whether the poll received before it had the same round; the rounds are
-- given newest first
abbrev pub repeats : List ℕ → List (ℕ × Bool)
repeats [] = []
repeats (round ∷ older) = repeats older ++ (round, is_repeated round older) ∷ []

-- the same list, with a frame put in front if it is a block answer: its round, and whether it says that its number was
-- requested again
abbrev pub answer_before : Option Block → ℕ → List (ℕ × Bool) → List (ℕ × Bool)
answer_before None round answers = answers
answer_before (Some block) round answers = (round, says_again block.status) ∷ answers

-- for each block answer among the frames, in order, its round and whether it says that its number was requested again
abbrev pub block_answers : List SentFrame → List (ℕ × Bool)
block_answers [] = []
block_answers (frame ∷ frames) =
    answer_before (block_in frame.octets) frame.round (block_answers frames)
