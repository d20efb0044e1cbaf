-- Links that are kept up with after pauses although the filters of the open inputs differ, by a plan of which inputs may be
-- open.
use Rattle.std.specs.Prelude.{◌≡◌, ℕ, ◌+◌, ◌≤◌, List, ◌++◌, length}
use Rattle.fio_input.specs.FiltersThatDiffer.{Plan, StaysAsPlanned, most_reports}
use Rattle.fio_module.specs.Settings.{Settings}
use Rattle.fio_module.specs.Life.{Life, life_of, loads_of, filter_events}
use Rattle.fio_module.specs.Blocks.{waiting_of}
use Rattle.fio_module.specs.FiltersThatDiffer.{FewChangeEach}
use Rattle.fio_link.specs.Link.{Machine}
use Rattle.fio_link.specs.Settled.{HasTakenAll, IsWithin, LeadsInTime, HasGainedAll, HaveTheirTimes}
use Rattle.fio_link.specs.NewLevels.{RecordsNewLevels}
use Rattle.fio_link.specs.KeptUp.{Pause, RoundsAfter, AreInTime, LacksOnlyYoung}

-- Polled in time, by the plan, from a settled point on: the pauses are of at most n scans, at most u of them after a time
-- whose blocks the CPU had all taken; a block takes all that the open inputs can report in n scans, while they stay as
-- planned; and all that they can report in n + u scans may wait.
pub record IsPolledInTimeForEach (settings : Settings) (plan : Plan) (first scans untaken : ℕ)
    (machine : Machine) (pauses : List Pause) (receipt last : Machine) (later : Life) : Type 0 where
  pub some_wait : 1 ≤ settings.waiting
  pub room : most_reports plan (scans + untaken) ≤ settings.waiting
  pub few_untaken : untaken ≤ scans
  pub in_time : AreInTime scans untaken pauses
  pub all_taken : HasTakenAll first machine
  pub rounds : RoundsAfter settings first machine pauses receipt last
  pub since : life_of last.history ≡ later ++ life_of machine.history
  pub few_change : FewChangeEach settings plan scans (life_of machine.history) later
  pub heard_in_time : IsWithin scans receipt last

-- What holds up to n scans after the newest poll was received: the record lacks nothing older than n + u - 1 scans, and no
-- more entries wait than the open inputs can report in n + u scans.
pub record IsLateForEach (settings : Settings) (plan : Plan) (scans untaken : ℕ) (machine last now : Machine) (later : Life)
    : Type 0 where
  pub late : LacksOnlyYoung (scans + untaken) 1 settings now
  pub levels :
      RecordsNewLevels (scans + untaken + 1) machine now
      ((loads_of (life_of last.history) ≡ loads_of (life_of machine.history)) × (scans + untaken + 1 ≤ 65537))
  pub few_wait :
      (stretch : Life)
      → life_of now.history ≡ stretch ++ (later ++ life_of machine.history)
      → StaysAsPlanned plan (filter_events (stretch ++ later)) (filter_events (life_of machine.history))
      → length (waiting_of settings (life_of now.history)) ≤ most_reports plan (scans + untaken)

-- then everything arrives in time
pub record ArrivesForEach (settings : Settings) (plan : Plan) (first scans untaken : ℕ) (machine receipt last : Machine) (later : Life)
    : Type 0 where
  pub whole : HasGainedAll settings machine last
  pub times : HaveTheirTimes settings 1 (scans + untaken) machine last
  pub at :
      (now : Machine) → LeadsInTime settings first scans receipt last now
      → IsLateForEach settings plan scans untaken machine last now later

-- if a link is polled in time by a plan, everything arrives in time
abbrev pub AllArrivesForEach : Settings → ℕ → Machine → Type 0
AllArrivesForEach settings first machine =
    (plan : Plan) (scans untaken : ℕ) (pauses : List Pause) (receipt last : Machine) (later : Life) →
    IsPolledInTimeForEach settings plan first scans untaken machine pauses receipt last later →
    ArrivesForEach settings plan first scans untaken machine receipt last later
