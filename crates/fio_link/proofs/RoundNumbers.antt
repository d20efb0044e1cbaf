-- Block numbers of rounds.
use Rattle.fio_link.proofs.Names.{◌≡◌, ℕ, ◌+◌, ◌%◌, ◌≤◌, arith, number_of}

-- a number of a round fits an octet
pub number_of-fits : (first round : ℕ) → number_of first round ≤ 255
number_of-fits first round = omega arith

-- the number of the next round is the next number
pub number_of-next : (first round : ℕ) → number_of first (round + 1) ≡ (number_of first round + 1) % 256
number_of-next first round = omega arith

-- of two rounds at most one apart, the numbers are equal only if the rounds are
pub rounds_from_numbers : (first r m : ℕ) → r ≤ m → m ≤ r + 1 → number_of first r ≡ number_of first m
    → r ≡ m
rounds_from_numbers first r m low high same = omega arith
