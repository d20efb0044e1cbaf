-- An input that keeps a new level for as long as its filter requires: its change is reported. Events are listed the newest
-- first.
use Rattle.std.specs.Prelude.{◌≡◌, ℕ, ◌<◌, Bool, true, false, not, List, ◌∷◌, ◌++◌}
use Rattle.std.specs.List.{AllByRecursion}
use Rattle.fio_message.specs.Bits.{is_set}
use Rattle.fio_message.specs.declared.limits.TheConstants.{INPUTS}
use Rattle.fio_input.specs.FilterHistory.{FilterEvent, Configure, Scan, applies_to, input_setting, input_state, is_reported}
use Rattle.fio_input.specs.Delivery.{scans_in, filter_to}

-- an event that is a scan at which the input has this level, or a configuration that does not apply to the input
abbrev pub HasLevel : ℕ → Bool → FilterEvent → Type 0
HasLevel input level (Scan raw) = is_set raw input ≡ level
HasLevel input level (Configure items) = applies_to input items ≡ false

-- An open input has a new level: after a history its filtered state is the other one, and in the events since then it has
-- the level at a run of samples as long as the filter for that change.
pub record HasNewLevel (input : ℕ) (level : Bool) (events history : List FilterEvent) : Type 0 where
  pub present : input < INPUTS
  pub not_ignored : (input_setting input history).ignore ≡ false
  pub new : input_state input history ≡ not level
  pub in_a_row : AllByRecursion (HasLevel input level) events
  pub long : scans_in events ≡ filter_to (input_setting input history) level

-- one of these events, which come after a history, is a scan that reports a change of the input to
-- this level
pub record IsReportedIn (input : ℕ) (level : Bool) (events history : List FilterEvent)
    : Type 0 where
  pub later : List FilterEvent
  pub raw : ℕ
  pub before : List FilterEvent
  pub at : events ≡ later ++ Scan raw ∷ before
  pub reported : is_reported input raw (before ++ history) ≡ true
  pub state : input_state input (Scan raw ∷ (before ++ history)) ≡ level

-- New levels are reported: at the latest by the last sample of such a run.
abbrev pub NewLevelsAreReported : Type 0
NewLevelsAreReported =
    (input : ℕ) (level : Bool) (events history : List FilterEvent) →
    HasNewLevel input level events history → IsReportedIn input level events history
