-- The rule of a filter: the filtered state of one input, from its samples. They are listed the newest first.
use Rattle.std.specs.Prelude.{ℕ, zero, suc, max, Bool, true, false, ◌&&◌, ◌||◌, if◌then◌else◌, List, [], ◌∷◌}
use Rattle.std.specs.Bool.{beq}

-- what an item of a configuration sets for an input: whether its transitions are ignored; its leading filter, for the change
-- from 1 to 0; and its trailing filter, for the change from 0 to 1; both in samples
pub record Setting : Type 0 where
  pub ignore : Bool
  pub leading : ℕ
  pub trailing : ℕ

-- the filter in force: a filter of 0 acts as 1
abbrev pub filter_in_force : ℕ → ℕ
filter_in_force filter = max filter 1

-- there are at least n samples, and the latest n are all of this level
abbrev pub latest_are : ℕ → Bool → List Bool → Bool
latest_are zero level samples = true
latest_are (suc n) level [] = false
latest_are (suc n) level (sample ∷ older) = beq sample level && latest_are n level older

-- the latest sample ends a run of zeros that is as long as the leading filter, or of ones that is as long as the trailing
-- filter
abbrev pub ends_run : Setting → List Bool → Bool
ends_run setting samples =
    latest_are (filter_in_force setting.leading) false samples
    || latest_are (filter_in_force setting.trailing) true samples

-- the level of the latest sample that ends such a run, or `base` if none does
abbrev pub filtered_state : Setting → Bool → List Bool → Bool
filtered_state setting base [] = base
filtered_state setting base (sample ∷ older) =
    if ends_run setting (sample ∷ older) then sample else filtered_state setting base older
