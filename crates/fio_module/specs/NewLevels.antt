-- An input that keeps a new level for as long as its filter requires: the log has its transition.
use Rattle.std.specs.Prelude.{◌≡◌, ℕ, ◌<◌, ◌≤◌, Bool, ◌++◌, length, slice_get, Some}
use Rattle.fio_input.specs.NewLevels.{HasNewLevel}
use Rattle.fio_module.specs.Life.{Life, scans_of, filter_events}
use Rattle.fio_module.specs.Log.{Transition, log_of}

-- An open input has a new level after `life`: it has the level at a run of samples as long as its filter requires.
abbrev pub HasNewLevelAfter : ℕ → Bool → Life → Life → Type 0
HasNewLevelAfter input level life later =
    HasNewLevel input level (filter_events later) (filter_events life)

-- at this place of the log is a transition of this input to this level, and its scan is among those that came after `life`
pub record IsLoggedAt (input : ℕ) (level : Bool) (life later : Life) (place : ℕ)
    (transition : Transition) : Type 0 where
  pub at : slice_get (log_of (later ++ life)) place ≡ Some transition
  pub of_input : transition.input ≡ input
  pub to_level : transition.level ≡ level
  pub since : length (log_of life) ≤ place
  pub after : scans_of life < transition.scans
  pub upto : transition.scans ≤ scans_of (later ++ life)

-- New levels are logged: at the latest by the last sample of such a run.
abbrev pub NewLevelsAreLogged : Type 0
NewLevelsAreLogged =
    (input : ℕ) (level : Bool) (life later : Life) → HasNewLevelAfter input level life later →
    (place : ℕ) × (transition : Transition) × IsLoggedAt input level life later place transition
