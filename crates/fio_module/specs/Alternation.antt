-- Successive transitions of an input: their states alternate, and its filters keep them apart. Also the order of the log.
use Rattle.std.specs.Prelude.{◌≡◌, ◌≢◌, ℕ, ◌+◌, ◌<◌, ◌≤◌, not, ◌++◌, length, slice_get, Some}
use Rattle.fio_input.specs.FilterHistory.{input_setting}
use Rattle.fio_input.specs.Delivery.{filter_to, NoneIsApplied}
use Rattle.fio_module.specs.Life.{Life, filter_events}
use Rattle.fio_module.specs.Log.{Transition, log_of}

-- At two places of the log are transitions of an input, with none of that input between them. Both were logged after the end
-- of `life`.
pub record AreSuccessive (input : ℕ) (life later : Life) (place next : ℕ) (older newer : Transition)
    : Type 0 where
  pub since : length (log_of life) ≤ place
  pub in_order : place < next
  pub older_at : slice_get (log_of (later ++ life)) place ≡ Some older
  pub newer_at : slice_get (log_of (later ++ life)) next ≡ Some newer
  pub older_of : older.input ≡ input
  pub newer_of : newer.input ≡ input
  pub none_between : (k : ℕ) (between : Transition) → place < k → k < next
      → slice_get (log_of (later ++ life)) k ≡ Some between → between.input ≢ input

-- The newer one has the other state, and comes later by at least the filter in force for its change, in scans.
pub record Alternates (input : ℕ) (life : Life) (older newer : Transition) : Type 0 where
  pub state : newer.level ≡ not older.level
  pub apart :
      older.scans + filter_to (input_setting input (filter_events life)) newer.level ≤ newer.scans

-- Transitions alternate: so do successive ones of an input, if no configuration was applied since the end of `life`.
abbrev pub TransitionsAlternate : Type 0
TransitionsAlternate =
    (input place next : ℕ) (life later : Life) (older newer : Transition) →
    NoneIsApplied (filter_events later) →
    AreSuccessive input life later place next older newer → Alternates input life older newer

-- The log is in order: scan numbers never fall along it.
abbrev pub LogIsInOrder : Type 0
LogIsInOrder =
    (life : Life) (place next : ℕ) (older newer : Transition) → place ≤ next →
    slice_get (log_of life) place ≡ Some older → slice_get (log_of life) next ≡ Some newer →
    older.scans ≤ newer.scans
