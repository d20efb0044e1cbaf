-- The filters of all inputs after a history.
use Rattle.std.specs.Prelude.{ℕ, ◌≡◌, ◌-◌, ◌^◌, ◌<◌, ◌≤◌, ◌⊎◌, min, Bool, slice_index, List, replicate}
use Rattle.fio_message.specs.Bits.{is_set}
use Rattle.fio_message.specs.declared.limits.TheConstants.{INPUTS}
use Rattle.fio_input.specs.declared.filters.Filters.{Filters}
use Rattle.fio_input.specs.declared.filters.TheConstants.{DEFAULT_FILTER}
use Rattle.fio_input.specs.FilterRule.{Setting}
use Rattle.fio_input.specs.Runs.{run_length}
use Rattle.fio_input.specs.FilterHistory.{FilterEvent, input_setting, input_samples, input_state, raw_levels}

-- what the filters keep of one input: the length of its latest run, but only if the run is of a level other than the state
pub record KeepsInput (filters : Filters) (input : ℕ)
    (setting : Setting) (samples : List Bool) (state : Bool) : Type 0 where
  pub run_length : (is_set filters.raw input ≡ state)
      ⊎ (slice_index filters.run_lengths input ≡ min (run_length samples) 255)
  pub leading : slice_index filters.leading input ≡ setting.leading
  pub trailing : slice_index filters.trailing input ≡ setting.trailing
  pub leading_fits : setting.leading ≤ 255
  pub trailing_fits : setting.trailing ≤ 255
  pub ignored : is_set filters.ignored input ≡ setting.ignore
  pub filtered : is_set filters.filtered input ≡ state

-- filters before any scan, with each of their octets given: no run is counted, all inputs are ignored, and all levels and
-- states are 1
abbrev pub filters_at_start : Filters
filters_at_start = record {
  run_lengths = replicate INPUTS 0;
  leading = replicate INPUTS DEFAULT_FILTER;
  trailing = replicate INPUTS DEFAULT_FILTER;
  ignored = 2 ^ 64 - 1;
  filtered = 2 ^ 64 - 1;
  raw = 2 ^ 64 - 1;
}

-- the filters have been through this history
pub record AreFiltersAfter (filters : Filters) (history : List FilterEvent) : Type 0 where
  pub raw : filters.raw ≡ raw_levels history
  pub inputs : (input : ℕ) → input < INPUTS
      → KeepsInput filters input (input_setting input history) (input_samples input history) (input_state input history)

-- the same filters, but with these inputs ignored
abbrev pub with_ignored : Filters → ℕ → Filters
with_ignored filters ignored = record filters { ignored = ignored }
