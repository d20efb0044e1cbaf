-- The bound on an outage is sharp: with one scan more, an entry is pushed out.
use Rattle.std.specs.Prelude.{◌≡◌, ℕ, ◌+◌, ◌<◌, ◌≤◌, [], ◌++◌, length}
use Rattle.fio_input.specs.Delivery.{scans_in, open_inputs, OpenHaveFiltersOf, NoneIsApplied}
use Rattle.fio_module.specs.Settings.{Settings, standard_settings}
use Rattle.fio_module.specs.Life.{Life, filter_events}
use Rattle.fio_module.specs.Log.{log_of}
use Rattle.fio_module.specs.Blocks.{newest_end, waiting_of}

-- An outage that is too long: nothing waits when it begins, no configuration is applied, no block is made, and an entry is
-- pushed out.
pub record IsTooLong (settings : Settings) (filter scans : ℕ) (life later : Life) : Type 0 where
  pub nothing_waits : waiting_of settings life ≡ []
  -- the filters of the open inputs are at least this
  pub some : 1 ≤ filter
  pub filters : OpenHaveFiltersOf (filter_events life) filter
  pub not_applied : NoneIsApplied (filter_events later)
  pub long : scans_in (filter_events later) ≡ scans
  pub pushed_out : newest_end settings (later ++ life) + settings.waiting < length (log_of (later ++ life))

-- Under the standard limits, with 64 open inputs and filters of 5, an outage of `scans` scans can be too long.
abbrev pub StandardOutageIsTooLong : ℕ → Type 0
StandardOutageIsTooLong scans =
    (life : Life) × (later : Life)
    × (open_inputs (filter_events life) ≡ 64)
    × IsTooLong (standard_settings 0) 5 scans life later
