-- From the raw sample to the record: how late an input's new level can be recorded.
use Rattle.std.specs.Prelude.{◌≡◌, ℕ, ◌+◌, ◌<◌, ◌≤◌, Bool, ◌++◌, map, length, slice_get, Some}
use Rattle.fio_input.specs.Delivery.{scans_in}
use Rattle.fio_module.specs.Life.{Life, life_of, filter_events}
use Rattle.fio_module.specs.Log.{Transition, entry_of}
use Rattle.fio_module.specs.NewLevels.{HasNewLevelAfter, IsLoggedAt}
use Rattle.fio_link.specs.Link.{Machine}
use Rattle.fio_link.specs.Pieces.{EntryPiece, piece_of}
use Rattle.fio_link.specs.Settled.{timed_item}

-- since a machine, the record has gained this transition, and with its time if it is in time
pub record HasGained (machine now : Machine) (transition : Transition) (in_time : Type 0)
    : Type 0 where
  pub place : ℕ
  pub since : length machine.items ≤ place
  pub there : slice_get (map piece_of now.items) place ≡ Some (EntryPiece (entry_of transition))
  pub timed : in_time → slice_get now.items place ≡ Some (timed_item transition)

-- the log has a transition of this input to this level, at one of these samples, which came after `life`; and the record has
-- gained it
pub record IsRecorded (input : ℕ) (level : Bool) (life samples : Life) (machine now : Machine)
    (in_time : Type 0) : Type 0 where
  pub place : ℕ
  pub transition : Transition
  pub logged : IsLoggedAt input level life samples place transition
  pub gained : HasGained machine now transition in_time

-- New levels since a machine are recorded: if an open input keeps a new level for a run of samples as long as its filter
-- requires, the change is in the record as soon as more than `late` - 2 scans came after the last of these samples, and with
-- its time if `in_time` holds.
abbrev pub RecordsNewLevels : ℕ → Machine → Machine → Type 0 → Type 0
RecordsNewLevels late machine now in_time =
    (input : ℕ) (level : Bool) (before samples after : Life) →
    let life = before ++ life_of machine.history in
    life_of now.history ≡ after ++ (samples ++ life) →
    HasNewLevelAfter input level life samples →
    late < scans_in (filter_events after) + 2 →
    IsRecorded input level life samples machine now in_time
