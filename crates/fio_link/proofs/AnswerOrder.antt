-- The block answers sent stay in order.
use Rattle.std.proofs.lemmas.Bool.Decides.{nat_tests}
use Rattle.fio_link.proofs.Names.{◌≡◌, ℕ, ◌+◌, ◌<◌, ◌≤◌, List, [], ◌∷◌, ◌++◌, None, arith, Block, block_in, SentFrame, HasBlock}
use Rattle.fio_link.specs.Rounds.{BlockAnswersAreInOrder}
use Rattle.fio_link.proofs.SentMessages.{each_more, none_more, rise_more}

-- if no frame was sent
pub answers-none : (next : ℕ) → BlockAnswersAreInOrder [] 0 0 next
answers-none next = grind (arith, nat_tests)

module _ (frames : List SentFrame) (last round next : ℕ) (o : BlockAnswersAreInOrder frames last round next) where
  -- one more frame is sent, which is no block answer
  pub answers-other : (f : SentFrame) → block_in f.octets ≡ None
      → BlockAnswersAreInOrder (frames ++ f ∷ []) last round next
  answers-other f none =
      record {
        rise = λ p q a b r s le h k.
            o.rise p q a b r s le (none_more block_in frames f none p a r h) (none_more block_in frames f none q b s k);
        answered = λ p a r h. o.answered p a r (none_more block_in frames f none p a r h);
        ahead = λ p a r far h. o.ahead p a r far (none_more block_in frames f none p a r h);
        behind = o.behind;
      }

  -- one more block answer is sent, to a poll that has just been received, whose round is not below that of the newest
  pub answers-more : (f : SentFrame) (r : ℕ) → f.round ≡ r → next ≤ r + 1
      → BlockAnswersAreInOrder (frames ++ f ∷ []) last round (r + 1)
  answers-more f r is high =
      let behind : round ≤ next = o.behind in
      record {
        rise = rise_more block_in frames f o.rise (λ p a s old. omega (arith, o.answered p a s old));
        answered =
            each_more block_in frames f (λ p a s. s < r + 1) (λ p a s old. omega (arith, o.answered p a s old))
            (λ a spells. omega arith);
        ahead = λ p a s far h.
            each_more block_in frames f (λ p a s. last ≤ p + 1 → round ≤ s + 1) (λ p a s old le. o.ahead p a s le old)
            (λ a spells le. omega arith) p a s h far;
        behind = omega arith;
      }

  -- a frame is delivered and no block taken
  pub answers-passed : (index : ℕ) → last ≤ index → BlockAnswersAreInOrder frames index round next
  answers-passed index le =
      record { rise = o.rise; answered = o.answered; ahead = λ p a r far h. o.ahead p a r (omega arith) h; behind = o.behind }

  -- a block answer of the CPU's round is taken
  pub answers-taken : (place : ℕ) (a : Block) → HasBlock frames place a round
      → BlockAnswersAreInOrder frames (place + 1) (round + 1) next
  answers-taken place a block =
      record {
        rise = o.rise;
        answered = o.answered;
        ahead = λ p b s far h. omega (arith, o.rise place p a b round s (omega arith) block h);
        behind = omega (arith, o.answered place a round block);
      }
