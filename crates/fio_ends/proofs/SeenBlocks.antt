-- A block of the present life that is in the log, and the newest block.
use Rattle.fio_module.proofs.Names.{◌≡◌, ◌⊎◌, ℕ, ◌+◌, ◌%◌, ◌<◌, ◌≤◌, ◌==◌, true, false, not, List, ◌∷◌, ◌++◌, Option, refl, ap, subst, arith, inl, inr, nat_tests, Poll, Settings, Life, Commanded, MadeBlock, newest_poll, is_new, newest_end, next_block, Sending, first_sending, repeat_of, is_out_of_sequence, Transition, log_of, latest_sending}
use Rattle.fio_ends.proofs.NewestBlocks.{IsNewest, made, repeated, stays}

-- two sendings of one block
pub record IsAlike (a b : Sending) : Type 0 where
  pub number : a.number ≡ b.number
  pub entries : a.entries ≡ b.entries
  pub more : a.more ≡ b.more
  pub lost : a.lost ≡ b.lost
  pub stamp : a.stamp ≡ b.stamp

-- The block of a poll of round `from`, sent as `above`, ended at this place of the whole log, of which the life begins at `begin`.
pub record IsBelow (settings : Settings) (life : Life) (begin : ℕ) (above : Sending) (from place round : ℕ) (block : MadeBlock) (sending : Sending)
    : Type 0 where
  pub newest : IsNewest settings life round block sending
  pub numbered : above.number ≡ from % 256
  pub rises : from ≤ round
  pub alike : from ≡ round → IsAlike above sending
  pub same : from ≡ round → place ≡ begin + block.end
  pub next : round ≡ from + 1 → place ≡ begin + block.before
  pub jumps : round ≡ from + 2 → sending.out_of_sequence ≡ true → place ≡ begin + block.before
  pub later : from < round → round < from + 256 → place ≤ begin + block.before
  pub in_order : round ≡ from + 1 → sending.out_of_sequence ≡ false

-- below, or the same
pub same_or_less : (a b : ℕ) → a ≤ b → (a ≡ b) ⊎ (a + 1 ≤ b)
same_or_less a b le = grind arith

mod_differs : (r m : ℕ) → r ≤ m → m < r + 256 → r % 256 ≡ m % 256 → r ≡ m
mod_differs r m le lt same = omega arith

-- numbers that differ
differ_from : (round later : ℕ) → not (round % 256 == later % 256) ≡ true → round % 256 ≡ later % 256 → ⊥
differ_from round later differs same = absurd (grind (arith, nat_tests))

next_in_sequence : (round later : ℕ) → later ≡ round + 1 → not (later % 256 == (round % 256 + 1) % 256) ≡ false
next_in_sequence round later next =
    let same : later % 256 ≡ (round % 256 + 1) % 256 = omega arith in
    grind (arith, nat_tests)

-- the number after a number is not out of sequence
in_sequence : (round later : ℕ) → later ≡ round + 1 → not (later % 256 == (round % 256 + 1) % 256) ≡ true → ⊥
in_sequence round later next jump =
    let same : later % 256 ≡ (round % 256 + 1) % 256 = omega arith in
    absurd (grind (arith, nat_tests))

module _ (settings : Settings) (few : settings.per_block ≤ 255) (life : Life) (begin : ℕ) (above : Sending) (from place round : ℕ) (block : MadeBlock) (sending : Sending)
    (below : IsBelow settings life begin above from place round block sending) where
  abbrev polled : ℕ → Life
  polled later = Commanded (Poll (later % 256)) ∷ life

  -- a poll that makes a block
  module _ (later : ℕ) (rises : round ≤ later) (new : is_new (newest_poll life) (later % 256) ≡ true) where
    differs : round ≡ later → ⊥
    differs same = differ_from round later (subst (λ (p : Option ℕ). is_new p (later % 256) ≡ true) below.newest.polled new) (ap (λ (r : ℕ). r % 256) same)

    -- the block of the poll that is in the log is the newest
    is_newest : from ≡ round → place ≡ begin + newest_end settings life
    is_newest same = omega (arith, below.same same, below.newest.ends)

    follows : later ≡ from + 1 → place ≡ begin + newest_end settings life
    follows next = elim (same_or_less from round below.rises) [
      | inl same ↦ is_newest same
      | inr less ↦ absurd (differs (omega (arith, less)))
    ]

    jumped : later ≡ from + 2 → is_out_of_sequence (newest_poll life) (later % 256) ≡ true → place ≡ begin + newest_end settings life
    jumped next jump = elim (same_or_less from round below.rises) [
      | inl same ↦ is_newest same
      | inr less ↦ elim (same_or_less (from + 1) round less) [
        | inl one ↦ absurd (in_sequence round later (omega (arith, one)) (subst (λ (p : Option ℕ). is_out_of_sequence p (later % 256) ≡ true) below.newest.polled jump))
        | inr more ↦ absurd (differs (omega (arith, more)))
      ]
    ]

    ordered : later ≡ from + 1 → is_out_of_sequence (newest_poll life) (later % 256) ≡ false
    ordered next = elim (same_or_less from round below.rises) [
      | inl same ↦ rw below.newest.polled (next_in_sequence round later (omega (arith, same)))
      | inr less ↦ absurd (differs (omega (arith, less)))
    ]

    goes_later : from < later → later < from + 256 → place ≤ begin + newest_end settings life
    goes_later less near = elim (same_or_less from round below.rises) [
      | inl same ↦ omega (arith, is_newest same)
      | inr more ↦ omega (arith, below.later (omega arith) (omega arith), below.newest.part.forward, below.newest.part.ends, below.newest.ends)
    ]

    pub below-made : IsBelow settings (polled later) begin above from place later (next_block settings life) (first_sending settings life (later % 256))
    below-made = record {
      newest = made settings few life later new;
      numbered = below.numbered;
      rises = omega (arith, below.rises);
      alike = λ same. absurd (differs (omega (arith, below.rises)));
      same = λ same. absurd (differs (omega (arith, below.rises)));
      next = follows;
      jumps = jumped;
      later = goes_later;
      in_order = ordered;
    }

  -- a poll that makes none
  module _ (later : ℕ) (rises : round ≤ later) (again : round % 256 ≡ later % 256) where
    stays_round : later < from + 256 → round ≡ later
    stays_round near = mod_differs round later rises (omega (arith, below.rises)) again

    pub below-repeated : IsBelow settings (polled later) begin above from place later block (repeat_of sending)
    below-repeated = record {
      newest = repeated settings few life round later block sending below.newest again;
      numbered = below.numbered;
      rises = omega (arith, below.rises);
      alike = λ same.
          (let is = below.alike (omega (arith, below.rises)) in
          record { number = is.number; entries = is.entries; more = is.more; lost = is.lost; stamp = is.stamp });
      same = λ same. below.same (omega (arith, below.rises));
      next = λ next. below.next (omega (arith, stays_round (omega arith)));
      jumps = λ next jump. absurd (cc jump);
      later = λ less near. (let is = stays_round near in below.later (omega arith) (omega arith));
      in_order = λ next. refl;
    }

  -- anything else
  pub below-stays : (longer : Life) (more : List Transition) → newest_poll longer ≡ newest_poll life
      → latest_sending settings longer ≡ latest_sending settings life
      → newest_end settings longer ≡ newest_end settings life → log_of longer ≡ log_of life ++ more
      → IsBelow settings longer begin above from place round block sending
  below-stays longer more polled sent ends log = record {
    newest = stays settings few life longer more round block sending below.newest polled sent ends log;
    numbered = below.numbered;
    rises = below.rises;
    alike = below.alike;
    same = below.same;
    next = below.next;
    jumps = below.jumps;
    later = below.later;
    in_order = below.in_order;
  }

-- a block below itself
pub below-itself : (settings : Settings) (life : Life) (begin round : ℕ) (block : MadeBlock) (sending : Sending)
    → IsNewest settings life round block sending
    → IsBelow settings life begin sending round (begin + block.end) round block sending
below-itself settings life begin round block sending newest = record {
  newest = newest;
  numbered = newest.number;
  rises = omega arith;
  alike = λ same. record { number = refl; entries = refl; more = refl; lost = refl; stamp = refl };
  same = λ same. refl;
  next = λ next. absurd (omega arith);
  jumps = λ next jump. absurd (omega arith);
  later = λ less near. absurd (omega arith);
  in_order = λ next. absurd (omega arith);
}
