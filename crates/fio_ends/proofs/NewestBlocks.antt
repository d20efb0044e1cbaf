-- The newest block of a life.
use Rattle.fio_module.proofs.Names.{◌≡◌, ℕ, ◌%◌, ◌≤◌, true, false, List, ◌∷◌, ◌++◌, Some, None, refl, ◌∙◌, arith, take, drop, nat_tests, length-append, length-drop, take-append-le, drop-append-le, Poll, Settings, Life, Commanded, MadeBlock, newest_poll, is_new, blocks_of, newest_end, next_block, Sending, latest_sending, first_sending, repeat_of, Carries, IsPartOf, log_of, Transition, IsAnswer, answer_of_sending, start_after, count_from, entry_of, length-map, length-take}
use Rattle.fio_message.proofs.StatusBits.{block_status-fits}
use Rattle.fio_module.proofs.EntryRanges.{part-fits}
use Rattle.fio_module.proofs.Ends.{last_end-append}
use Rattle.fio_module.proofs.BlockLaws.{next_is_part}

-- the newest block of a life, and its sending, for a poll of this round
pub record IsNewest (settings : Settings) (life : Life) (round : ℕ) (block : MadeBlock) (sending : Sending) : Type 0 where
  pub polled : newest_poll life ≡ Some (round % 256)
  pub sent : latest_sending settings life ≡ Some sending
  pub number : sending.number ≡ round % 256
  pub carries : Carries sending block
  pub ends : newest_end settings life ≡ block.end
  pub part : IsPartOf (log_of life) settings.per_block block
  pub within : IsAnswer (answer_of_sending sending)

-- no poll came yet
pub record HasNone (settings : Settings) (life : Life) : Type 0 where
  pub polled : newest_poll life ≡ None
  pub sent : latest_sending settings life ≡ None
  pub ends : newest_end settings life ≡ 0

-- a part of a log is a part of a longer one
part-longer : (log more : List Transition) (per_block : ℕ) (block : MadeBlock)
    → IsPartOf log per_block block → IsPartOf (log ++ more) per_block block
part-longer log more per_block block part = grind (arith, nat_tests, length-drop, length-append, take-append-le, drop-append-le)

-- a block that is sent again is within its ranges
again_within : (sending : Sending) → IsAnswer (answer_of_sending sending) → IsAnswer (answer_of_sending (repeat_of sending))
again_within sending within = (within.0, within.1, within.2, block_status-fits sending.more sending.lost true false, within.4)

module _ (settings : Settings) (few : settings.per_block ≤ 255) (life : Life) where
  -- so is the next one as it is first sent
  first_within : (round : ℕ) → IsAnswer (answer_of_sending (first_sending settings life (round % 256)))
  first_within round =
      let sending = first_sending settings life (round % 256) in
      let log = log_of life in
      let start = start_after settings log (newest_end settings life) in
      let count = count_from settings log start in
      let taken = take count (drop start log) in (
        omega arith,
        omega (arith, few, length-map taken entry_of, length-take count (drop start log)),
        part-fits life count start,
        block_status-fits sending.more sending.lost false sending.out_of_sequence,
        omega arith,
      )

  -- a poll that makes a block
  pub made : (round : ℕ) → is_new (newest_poll life) (round % 256) ≡ true
      → IsNewest settings (Commanded (Poll (round % 256)) ∷ life) round (next_block settings life) (first_sending settings life (round % 256))
  made round new = record {
    polled = refl;
    sent = rw new refl;
    number = refl;
    carries = record { entries = refl; more = refl; lost = refl; stamp = refl };
    ends = rw new (last_end-append 0 (blocks_of settings life) (next_block settings life));
    part = next_is_part settings life;
    within = first_within round;
  }

  -- a poll that makes none
  pub repeated : (before round : ℕ) (block : MadeBlock) (sending : Sending) → IsNewest settings life before block sending
      → before % 256 ≡ round % 256
      → IsNewest settings (Commanded (Poll (round % 256)) ∷ life) round block (repeat_of sending)
  repeated before round block sending newest same =
      let old : is_new (newest_poll life) (round % 256) ≡ false = rw newest.polled (grind (arith, nat_tests)) in
      record {
        polled = refl;
        sent = rw (old, newest.sent) refl;
        number = newest.number ∙ same;
        carries = record { entries = newest.carries.entries; more = newest.carries.more; lost = newest.carries.lost; stamp = newest.carries.stamp };
        ends = rw old newest.ends;
        part = newest.part;
        within = again_within sending newest.within;
      }

  -- anything that is no poll adds to the log at most
  pub stays : (longer : Life) (more : List Transition) (round : ℕ) (block : MadeBlock) (sending : Sending) → IsNewest settings life round block sending
      → newest_poll longer ≡ newest_poll life → latest_sending settings longer ≡ latest_sending settings life
      → newest_end settings longer ≡ newest_end settings life → log_of longer ≡ log_of life ++ more
      → IsNewest settings longer round block sending
  stays longer more round block sending newest polled sent ends log = record {
    polled = polled ∙ newest.polled;
    sent = sent ∙ newest.sent;
    number = newest.number;
    carries = newest.carries;
    ends = ends ∙ newest.ends;
    part = rw log (part-longer (log_of life) more settings.per_block block newest.part);
    within = newest.within;
  }
