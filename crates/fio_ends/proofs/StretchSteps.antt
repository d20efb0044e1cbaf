-- What holds of a log of a module and of its stretches at each step.
use Rattle.fio_module.proofs.Names.{◌≡◌, ℕ, ◌+◌, ◌-◌, ◌≤◌, Bool, true, false, List, [], ◌∷◌, ◌++◌, length, map, Option, Some, None, refl, ap, ap₂, sym, ◌∙◌, arith, nat_lt, nat_tests, bit_of, Life, life_of, log_of, whole_log, entry_of, Settings, MadeBlock, Sending}
use Rattle.fio_module.specs.Life.{History}
use Rattle.fio_message.specs.declared.fields.Entry.{Entry}
use Rattle.fio_ends.specs.StretchLogs.{LatestBlock, PiecesRise, Stretch}
use Rattle.fio_check.specs.declared.stretches.LogStretches.{LogStretches}
use Rattle.fio_ends.proofs.KeptBlocks.{Keeps}
use Rattle.fio_ends.proofs.NewestBlocks.{HasNone, IsNewest}
use Rattle.fio_ends.proofs.PartsOfLogs.{part_join, part_of, part_of_last}
use Rattle.fio_ends.proofs.RisingPieces.{front_of, piece_now, rise_higher, whole_is, whole_length}
use Rattle.fio_ends.proofs.SeenBlocks.{IsBelow}

-- the newest block of the present life, if there is one
abbrev pub NewestOf : Settings → Life → Option ℕ → Type 0
NewestOf settings life None = HasNone settings life
NewestOf settings life (Some round) = (block : MadeBlock) × (sending : Sending) × IsNewest settings life round block sending

-- the newest stretch is a piece of the present life up to this place, and the others are before it
pub record EndsAt (history : History) (stretch : Stretch) (rest : List Stretch) (place : ℕ) : Type 0 where
  pub start : ℕ
  pub begins : length (front_of history) ≤ start
  pub in_order : start ≤ place
  pub within : place ≤ length (whole_log history)
  pub room : bit_of stretch.is_lost ≤ start
  pub entries : stretch.entries ≡ part_of (whole_log history) start place
  pub rises : PiecesRise history (start - bit_of stretch.is_lost) rest

-- the latest block of the log is of the present life
pub record IsCurrent (settings : Settings) (history : History) (newest : Option ℕ) (kept : LogStretches) (stretches : List Stretch) (latest : LatestBlock) : Type 0 where
  pub above : Sending
  pub keeps : Keeps kept above
  pub stamp : latest.stamp ≡ above.stamp
  pub place : ℕ
  pub round : ℕ
  pub block : MadeBlock
  pub sending : Sending
  pub is_round : newest ≡ Some round
  pub below : IsBelow settings (life_of history) (length (front_of history)) above latest.round place round block sending
  pub stretch : Stretch
  pub rest : List Stretch
  pub are : stretches ≡ stretch ∷ rest
  pub ends : EndsAt history stretch rest place

-- it is of an earlier life
pub record IsOld (history : History) (kept : LogStretches) (stretches : List Stretch) (latest : LatestBlock) : Type 0 where
  pub above : Sending
  pub keeps : Keeps kept above
  pub stamp : latest.stamp ≡ above.stamp
  pub rises : PiecesRise history (length (front_of history)) stretches

-- either, by whether the module was restarted since
abbrev pub StandsBelow : Bool → Settings → History → Option ℕ → LogStretches → List Stretch → LatestBlock → Type 0
StandsBelow true settings history newest kept stretches latest = IsOld history kept stretches latest
StandsBelow false settings history newest kept stretches latest = IsCurrent settings history newest kept stretches latest

-- the stretches stand there, by the latest block
abbrev pub Stands : Settings → History → Option ℕ → LogStretches → List Stretch → Option LatestBlock → Type 0
Stands settings history newest kept stretches None = (kept.has_block ≡ 0) × (stretches ≡ [])
Stands settings history newest kept stretches (Some latest) = StandsBelow latest.is_restarted settings history newest kept stretches latest

-- all of it
pub record Holds (settings : Settings) (history : History) (newest : Option ℕ) (kept : LogStretches) (stretches : List Stretch) (latest : Option LatestBlock)
    : Type 0 where
  pub known : NewestOf settings (life_of history) newest
  pub stands : Stands settings history newest kept stretches latest

-- ---- the stretches are pieces

pub ends_rise : (history : History) (stretch : Stretch) (rest : List Stretch) (place higher : ℕ) → EndsAt history stretch rest place
    → place ≤ higher → PiecesRise history higher (stretch ∷ rest)
ends_rise history stretch rest place higher ends le = (
  ends.start,
  place,
  le,
  ends.room,
  piece_now history stretch ends.start place ends.begins ends.in_order ends.within ends.entries,
  ends.rises,
)

pub below_rises : (is_restarted : Bool) (settings : Settings) (history : History) (newest : Option ℕ) (kept : LogStretches) (stretches : List Stretch) (latest : LatestBlock)
    → StandsBelow is_restarted settings history newest kept stretches latest → PiecesRise history (length (whole_log history)) stretches
below_rises true settings history newest kept stretches latest old =
    rise_higher history (length (front_of history)) (length (whole_log history)) stretches (omega (arith, whole_length history)) old.rises
below_rises false settings history newest kept stretches latest current =
    rw current.are (ends_rise history current.stretch current.rest current.place (length (whole_log history)) current.ends current.ends.within)

pub stands_rises : (settings : Settings) (history : History) (newest : Option ℕ) (kept : LogStretches) (stretches : List Stretch) (latest : Option LatestBlock)
    → Stands settings history newest kept stretches latest → PiecesRise history (length (whole_log history)) stretches
stands_rises settings history newest kept stretches None stands = rw stands.1 tt
stands_rises settings history newest kept stretches (Some latest) stands = below_rises latest.is_restarted settings history newest kept stretches latest stands

-- ---- a block

module _ (settings : Settings) (history : History) (round : ℕ) (block : MadeBlock) (sending : Sending)
    (newest : IsNewest settings (life_of history) round block sending) where
  abbrev begin : ℕ
  begin = length (front_of history)

  -- its entries are those of the transitions from its start to its end
  block_part : sending.entries ≡ part_of (whole_log history) (begin + block.start) (begin + block.end)
  block_part =
      newest.carries.entries ∙ ap (map entry_of) newest.part.transitions
      ∙ sym (rw (whole_is history) (part_of_last (front_of history) (log_of (life_of history)) begin block.start block.end refl))

  block_within : begin + block.end ≤ length (whole_log history)
  block_within = omega (arith, newest.part.within, whole_length history)

  -- F says that transitions are lost above it
  lost_room : bit_of sending.lost ≤ block.start - block.before
  lost_room = rw (newest.carries.lost ∙ newest.part.lost) (grind (arith, nat_tests))

  -- another stretch begins with it
  pub begins_with : (stretches : List Stretch) → PiecesRise history (begin + block.before) stretches
      → EndsAt history (record { is_lost = sending.lost; entries = sending.entries }) stretches (begin + block.end)
  begins_with stretches rises =
      let room = lost_room in
      let forward = newest.part.forward in
      record {
        start = begin + block.start;
        begins = omega arith;
        in_order = omega (arith, newest.part.ends);
        within = block_within;
        room = omega arith;
        entries = block_part;
        rises = rise_higher history (begin + block.before) ((begin + block.start) - bit_of sending.lost) stretches (omega arith) rises;
      }

  -- it begins where the one before ended, if it does not say F
  follows_on : sending.lost ≡ false → block.start ≡ block.before
  follows_on whole =
      let forward = newest.part.forward in
      let said : nat_lt block.before block.start ≡ false = sym newest.part.lost ∙ sym newest.carries.lost ∙ whole in
      grind (arith, nat_tests)

  -- the newest stretch goes on with it
  pub goes_on_with : (stretch : Stretch) (rest : List Stretch) (place : ℕ) → EndsAt history stretch rest place → sending.lost ≡ false
      → place ≡ begin + block.before
      → EndsAt history (record stretch { entries = stretch.entries ++ sending.entries }) rest (begin + block.end)
  goes_on_with stretch rest place ends whole same =
      let here : begin + block.start ≡ place = omega (arith, follows_on whole) in
      record {
        start = ends.start;
        begins = ends.begins;
        in_order = omega (arith, ends.in_order, newest.part.ends);
        within = block_within;
        room = ends.room;
        entries =
            ap₂ (λ (a b : List Entry). a ++ b) ends.entries (block_part ∙ ap (λ (p : ℕ). part_of (whole_log history) p (begin + block.end)) here)
            ∙ part_join (whole_log history) ends.start place (begin + block.end) ends.in_order (omega (arith, newest.part.ends));
        rises = ends.rises;
      }
