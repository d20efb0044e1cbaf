-- The polls sent stay in order.
use Rattle.std.proofs.lemmas.Bool.Decides.{nat_tests}
use Rattle.fio_link.proofs.Names.{◌≡◌, ℕ, ◌+◌, ◌≤◌, List, [], ◌∷◌, ◌++◌, Some, ap, sym, ◌∙◌, arith, poll_in, SentFrame, number_of, HasPoll, PollsAreInOrder}
use Rattle.fio_link.proofs.SentMessages.{each_more, rise_more}

-- if no frame was sent
pub polls-none : (first round next : ℕ) → PollsAreInOrder first [] 0 round next
polls-none first round next = grind (arith, nat_tests)

module _ (first : ℕ) (frames : List SentFrame) (last round next : ℕ) (o : PollsAreInOrder first frames last round next) where
  -- one more frame is sent: if it is a poll, with the CPU's number
  pub polls-sent : (f : SentFrame) → f.round ≡ round → next ≤ round + 1
      → ((n : ℕ) → poll_in f.octets ≡ Some n → n ≡ number_of first round)
      → PollsAreInOrder first (frames ++ f ∷ []) last round next
  polls-sent f is at_most number =
      record {
        numbers =
            each_more poll_in frames f (λ p n r. n ≡ number_of first r) o.numbers
            (λ n spells. number n spells ∙ ap (number_of first) (sym is));
        rise = rise_more poll_in frames f o.rise (λ p n r old. omega (arith, o.sent p n r old));
        sent = each_more poll_in frames f (λ p n r. r ≤ round) o.sent (λ n spells. omega arith);
        ahead = λ p n r far h.
            each_more poll_in frames f (λ p n r. last ≤ p + 1 → next ≤ r + 1) (λ p n r old le. o.ahead p n r le old)
            (λ n spells le. omega arith) p n r h far;
      }

  -- a frame is delivered that is no poll
  pub polls-passed : (index : ℕ) → last ≤ index → PollsAreInOrder first frames index round next
  polls-passed index le =
      record { numbers = o.numbers; rise = o.rise; sent = o.sent; ahead = λ p n r far h. o.ahead p n r (omega arith) h }

  -- a poll is delivered
  pub polls-received : (place n r : ℕ) → HasPoll frames place n r
      → PollsAreInOrder first frames (place + 1) round (r + 1)
  polls-received place n r poll =
      record {
        numbers = o.numbers;
        rise = o.rise;
        sent = o.sent;
        ahead = λ p m s far h. omega (arith, o.rise place p n m r s (omega arith) poll h);
      }

  -- the CPU takes a block
  pub polls-taken : PollsAreInOrder first frames last (round + 1) next
  polls-taken =
      record { numbers = o.numbers; rise = o.rise; sent = λ p n r h. omega (arith, o.sent p n r h); ahead = o.ahead }
