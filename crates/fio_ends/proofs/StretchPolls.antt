-- A poll comes: the newest block below it, and the stretches below its answer if that is in the log.
use Rattle.fio_module.proofs.Names.{◌≡◌, ℕ, ◌+◌, ◌-◌, ◌%◌, ◌<◌, ◌≤◌, ◌==◌, Bool, true, false, not, List, [], ◌∷◌, ◌++◌, length, Option, Some, None, refl, ap, sym, subst, ◌∙◌, arith, inl, inr, nat_tests, Life, Commanded, Poll, life_of, Settings, MadeBlock, Sending, newest_poll, is_new}
use Rattle.fio_module.specs.Life.{History}
use Rattle.fio_message.specs.Decoding.{command_in}
use Rattle.fio_check.specs.Stretches.{cause_of_step, does_go_back, block_kept, is_same_block, seam_above, seam_of, stretches_with}
use Rattle.fio_ends.specs.StretchLogs.{LatestBlock, PiecesRise, ShowsRestart, Stretch, entries_added, stretches_with_seam, stretches_with_entries}
use Rattle.fio_check.specs.declared.stretches.Seam.{Seam}
use Rattle.fio_check.specs.declared.stretches.LogStretches.{LogStretches}
use Rattle.fio_ends.proofs.KeptBlocks.{Keeps, adds, adds_none, first_cause, goes_on_above, next_cause, ends_or_goes, follows_step, restart_falls, is_same, keeps_block, keeps_same, no_cause, other_first, other_number, other_stamp}
use Rattle.fio_ends.proofs.NewestBlocks.{IsNewest, made, repeated}
use Rattle.fio_ends.proofs.RisingPieces.{front_of, rise_higher}
use Rattle.fio_ends.proofs.SeenBlocks.{IsBelow, below-itself, below-made, below-repeated, same_or_less}
use Rattle.fio_ends.proofs.StretchSteps.{ends_rise, EndsAt, IsCurrent, IsOld, NewestOf, begins_with, goes_on_with}
use Rattle.fio_ends.proofs.ToldSendings.{bits, octets_of, told_of}

-- ---- the newest block

-- a poll with the number of the poll before it is not new
same_number : (round later : ℕ) → not (round % 256 == later % 256) ≡ false → round % 256 ≡ later % 256
same_number round later old = grind (arith, nat_tests)

module _ (settings : Settings) (few : settings.per_block ≤ 255) (life : Life) (later : ℕ) where
  abbrev polled : Life
  polled = Commanded (Poll (later % 256)) ∷ life

  -- below a poll there is a newest block
  pub known_below : (newest : Option ℕ) → NewestOf settings life newest → NewestOf settings polled (Some later)
  known_below None none =
      (_, _, made settings few life later (ap (λ (p : Option ℕ). is_new p (later % 256)) none.polled))
  known_below (Some round) known = by (is_new (newest_poll life) (later % 256)) refl
    where
      newest : IsNewest settings life round known.0 known.1
      newest = known.2

      by : (new : Bool) → is_new (newest_poll life) (later % 256) ≡ new → NewestOf settings polled (Some later)
      by true is = (_, _, made settings few life later is)
      by false is = (
        _,
        _,
        repeated settings few life round later known.0 known.1 newest
            (same_number round later (ap (λ (p : Option ℕ). is_new p (later % 256)) (sym newest.polled) ∙ is)),
      )

  module _ (begin : ℕ) (above : Sending) (from place round : ℕ) (block : MadeBlock) (sending : Sending)
      (below : IsBelow settings life begin above from place round block sending) (rises : round ≤ later) where
    -- and it is below the block of the log as before; for a poll of that one's round it is sent again
    pub below_poll : (next : MadeBlock) × (sent : Sending) × IsBelow settings polled begin above from place later next sent
        × (from ≡ later → sent.again ≡ true)
    below_poll = by (is_new (newest_poll life) (later % 256)) refl
      where
        by : (new : Bool) → is_new (newest_poll life) (later % 256) ≡ new
            → (next : MadeBlock) × (sent : Sending) × IsBelow settings polled begin above from place later next sent
            × (from ≡ later → sent.again ≡ true)
        by true is = (
          _,
          _,
          below-made settings few life begin above from place round block sending below later rises is,
          λ same. absurd (new_differs same is),
        )
          where
            new_differs : from ≡ later → is_new (newest_poll life) (later % 256) ≡ true → ⊥
            new_differs same new =
                let equal : round ≡ later = omega (arith, below.rises) in
                let told : not (round % 256 == later % 256) ≡ true = ap (λ (p : Option ℕ). is_new p (later % 256)) (sym below.newest.polled) ∙ new in
                absurd (grind (arith, nat_tests))
        by false is = (
          _,
          _,
          below-repeated settings few life begin above from place round block sending below later rises
              (same_number round later (ap (λ (p : Option ℕ). is_new p (later % 256)) (sym below.newest.polled) ∙ is)),
          λ same. refl,
        )

-- ---- the stretches below an answer in the log

-- how far a number is above another one
step_between : (from round : ℕ) → from + 1 ≤ round → round < from + 256 → (round % 256 + 256 - from % 256) % 256 ≡ round - from
step_between from round less near = omega arith

number_differs : (from round : ℕ) → from + 1 ≤ round → round < from + 256 → from % 256 ≡ round % 256 → ⊥
number_differs from round less near same = absurd (omega arith)

module _ (settings : Settings) (history : History) (kept : LogStretches) (stretches : List Stretch) (time : Option ℕ) (is_believed : Bool)
    (round : ℕ) where
  -- what is kept below it, and the stretches
  abbrev kept_with : Sending → LogStretches
  kept_with sending = stretches_with kept time (octets_of sending) is_believed

  abbrev stretches_below : Sending → List Stretch
  stretches_below sending = stretches_with_entries (seam_of kept (octets_of sending) is_believed)
      (entries_added kept (octets_of sending) (command_in (octets_of sending))) stretches

  abbrev latest_of : Sending → LatestBlock
  latest_of sending = record { round = round; stamp = sending.stamp; is_restarted = false }

  -- the block is the latest one
  abbrev IsThere : Sending → Type 0
  IsThere sending = IsCurrent settings history (Some round) (kept_with sending) (stretches_below sending) (latest_of sending)

  module _ (block : MadeBlock) (sending : Sending) (newest : IsNewest settings (life_of history) round block sending) where
    abbrev begin : ℕ
    begin = length (front_of history)

    is_there : (stretch : Stretch) (rest : List Stretch) → Keeps (kept_with sending) sending → stretches_below sending ≡ stretch ∷ rest
        → EndsAt history stretch rest (begin + block.end) → IsThere sending
    is_there stretch rest keeps are ends = record {
      above = sending;
      keeps = keeps;
      stamp = refl;
      place = begin + block.end;
      round = round;
      block = block;
      sending = sending;
      is_round = refl;
      below = below-itself settings (life_of history) begin round block sending newest;
      stretch = stretch;
      rest = rest;
      are = are;
      ends = ends;
    }

    -- it begins another stretch
    begins_there : (other : is_same_block kept (told_of sending) (octets_of sending) ≡ false) → PiecesRise history (begin + block.before) stretches
        → (stretches_below sending ≡ record { is_lost = sending.lost; entries = sending.entries } ∷ stretches) → IsThere sending
    begins_there other rises are =
        is_there (record { is_lost = sending.lost; entries = sending.entries }) stretches (keeps_block kept time is_believed sending newest.within other) are
        (begins_with settings history round block sending newest stretches rises)

    added : (other : is_same_block kept (told_of sending) (octets_of sending) ≡ false) → (seam : Option Seam)
        → seam_of kept (octets_of sending) is_believed ≡ seam → stretches_below sending ≡ stretches_with_seam seam sending.entries stretches
    added other seam is = rw (is, adds kept sending newest.within is_believed other) refl

    -- the first block of the log
    pub first_there : kept.has_block ≡ 0 → stretches ≡ [] → IsThere sending
    first_there none empty =
        let other = other_first kept sending newest.within none in
        elim (ends_or_goes kept sending newest.within is_believed other) [
          | inl ends ↦ begins_there other (rw empty tt) (added other (Some (seam_above kept (told_of sending) is_believed)) ends.0
              ∙ ap (λ (lost : Bool). record { is_lost = lost; entries = sending.entries } ∷ stretches) ends.1)
          | inr goes ↦ begins_there other (rw empty tt) (added other None goes.0
              ∙ rw (empty, goes.1) refl)
        ]

    -- the first one of a life
    pub old_there : (latest : LatestBlock) → IsOld history kept stretches latest → ShowsRestart latest.stamp sending.stamp → IsThere sending
    old_there latest old shows =
        let falls : ShowsRestart old.above.stamp sending.stamp = subst (λ (s : ℕ). ShowsRestart s sending.stamp) old.stamp shows in
        let other = other_stamp kept sending newest.within old.above old.keeps (restart_falls old.above.stamp sending.stamp falls) in
        let rises = rise_higher history begin (begin + block.before) stretches (omega arith) old.rises in
        elim (ends_or_goes kept sending newest.within is_believed other) [
          | inl ends ↦ begins_there other rises (added other (Some (seam_above kept (told_of sending) is_believed)) ends.0
              ∙ ap (λ (lost : Bool). record { is_lost = lost; entries = sending.entries } ∷ stretches) ends.1)
          | inr goes ↦
              let back : does_go_back (block_kept kept) (told_of sending) ≡ true =
              subst (λ (s : ℕ). ShowsRestart s sending.stamp) (sym old.keeps.stamp) falls in
              absurd (cc (back, (no_cause kept sending newest.within is_believed other old.keeps.has goes.2).0))
        ]

    -- the first block of a log begins one stretch
    pub first_is_one : kept.has_block ≡ 0 → stretches ≡ [] → sending.lost ≡ false → is_believed ≡ true → length (stretches_below sending) ≡ 1
    first_is_one none empty whole believed =
        let other = other_first kept sending newest.within none in
        let goes : seam_of kept (octets_of sending) is_believed ≡ None =
        rw believed (goes_on_above kept sending newest.within other whole (first_cause kept sending newest.within none)) in
        rw (added other None goes, empty) refl

  module _ (above : Sending) (from place : ℕ) (block : MadeBlock) (sending : Sending) (keeps : Keeps kept above)
      (below : IsBelow settings (life_of history) (length (front_of history)) above from place round block sending)
      (stretch : Stretch) (rest : List Stretch) (are : stretches ≡ stretch ∷ rest) (ends : EndsAt history stretch rest place) where
    -- the latest block is sent again
    again_there : from ≡ round → sending.again ≡ true → IsThere sending
    again_there same again =
        let alike = below.alike same in
        let within = below.newest.within in
        let is = is_same kept sending within above keeps alike again in
        let none : entries_added kept (octets_of sending) (command_in (octets_of sending)) ≡ None = adds_none kept sending within is in
        let stays : stretches_below sending ≡ stretches = rw none refl in
        record {
          above = above;
          keeps = subst (λ (k : LogStretches). Keeps k above) (sym (keeps_same kept time is_believed sending within is)) keeps;
          stamp = sym alike.stamp;
          place = place;
          round = round;
          block = block;
          sending = sending;
          is_round = refl;
          below = subst (λ (r : ℕ). IsBelow settings (life_of history) (length (front_of history)) above r place round block sending) same below;
          stretch = stretch;
          rest = rest;
          are = stays ∙ are;
          ends = ends;
        }

    -- nothing is between, so the block follows
    follows_there : from + 1 ≤ round → round < from + 256
        → cause_of_step ((sending.number + 256 - kept.number) % 256) (told_of sending).status ≡ None
        → place ≡ length (front_of history) + block.before
    follows_there less near none =
        let is : (sending.number + 256 - kept.number) % 256 ≡ round - from =
        rw (below.newest.number, keeps.number ∙ below.numbered) (step_between from round less near) in
        elim (follows_step (round - from) (told_of sending).status (subst (λ (n : ℕ). cause_of_step n (told_of sending).status ≡ None) is none)) [
          | inl one ↦ below.next (omega (arith, one))
          | inr two ↦ below.jumps (omega (arith, two.0)) (sym (bits sending).3 ∙ two.1)
        ]

    -- another block
    another_there : from + 1 ≤ round → round < from + 256 → IsThere sending
    another_there less near =
        let begin = length (front_of history) in
        let other = other_number kept sending below.newest.within above keeps
        (λ same. number_differs from round less near (sym below.numbered ∙ same ∙ below.newest.number)) in
        let rises : PiecesRise history (begin + block.before) stretches =
        rw are (ends_rise history stretch rest place (begin + block.before) ends (below.later (omega arith) near)) in
        elim (ends_or_goes kept sending below.newest.within is_believed other) [
          | inl seam ↦ begins_there block sending below.newest other rises
              (added block sending below.newest other (Some (seam_above kept (told_of sending) is_believed)) seam.0
              ∙ ap (λ (lost : Bool). record { is_lost = lost; entries = sending.entries } ∷ stretches) seam.1)
          | inr goes ↦
              let none = (no_cause kept sending below.newest.within is_believed other keeps.has goes.2).1 in
              is_there block sending below.newest (record stretch { entries = stretch.entries ++ sending.entries }) rest
              (keeps_block kept time is_believed sending below.newest.within other)
              (added block sending below.newest other None goes.0 ∙ rw are refl)
              (goes_on_with settings history round block sending below.newest stretch rest place ends goes.1 (follows_there less near none))
        ]

    -- either
    pub current_there : round < from + 256 → (from ≡ round → sending.again ≡ true) → IsThere sending
    current_there near again = elim (same_or_less from round below.rises) [
      | inl same ↦ again_there same (again same)
      | inr less ↦ another_there less near
    ]

    -- a block with the next number, or the latest one again, ends no stretch
    pub stays_one : sending.lost ≡ false → round ≤ from + 1 → (from ≡ round → sending.again ≡ true) → (ShowsRestart above.stamp sending.stamp → ⊥)
        → is_believed ≡ true → length (stretches_below sending) ≡ length stretches
    stays_one whole near again shows believed = elim (same_or_less from round below.rises) [
      | inl same ↦
          let is = is_same kept sending below.newest.within above keeps (below.alike same) (again same) in
          rw (adds_none kept sending below.newest.within is) refl
      | inr less ↦
          let other = other_number kept sending below.newest.within above keeps
          (λ same. number_differs from round less (omega arith) (sym below.numbered ∙ same ∙ below.newest.number)) in
          let far : (sending.number + 256 - kept.number) % 256 ≡ round - from =
          rw (below.newest.number, keeps.number ∙ below.numbered) (step_between from round less (omega arith)) in
          let step : (sending.number + 256 - kept.number) % 256 ≡ 1 = omega (arith, far) in
          let none = next_cause kept sending below.newest.within keeps.has step (below.in_order (omega arith))
          (λ s. shows (subst (λ (stamp : ℕ). ShowsRestart stamp sending.stamp) keeps.stamp s)) in
          let goes : seam_of kept (octets_of sending) is_believed ≡ None =
          rw believed (goes_on_above kept sending below.newest.within other whole none) in
          rw (added block sending below.newest other None goes, are) refl
    ]
