-- The premises can be met, so the laws say something: there is a link whose module has restarted and that is kept up with.
use Rattle.std.specs.Prelude.{◌≡◌, ℕ, ◌+◌, List, length}
use Rattle.fio_input.specs.FiltersThatDiffer.{Plan}
use Rattle.fio_module.specs.Settings.{Settings}
use Rattle.fio_module.specs.Life.{Life}
use Rattle.fio_link.specs.declared.event.Event.{Event}
use Rattle.fio_link.specs.Link.{Machine, IsRun}
use Rattle.fio_link.specs.Restarts.{past_lives}
use Rattle.fio_link.specs.Settled.{IsSettled, transitions_arrived}
use Rattle.fio_link.specs.KeptUp.{Pause, IsKeptUpWith, IsPolledInTime}
use Rattle.fio_link.specs.ForEach.{IsPolledInTimeForEach}

-- the plan with one group: `opened` inputs may be open, with filters of at least `filter` samples
abbrev pub one_group : ℕ → ℕ → Plan
one_group opened filter =
    record { group_of = λ input setting. 0; groups = 1; most_open = λ group. opened; filter_of = λ group. filter }

-- After `restarts` restarts of the module, from a settled point on, a link is kept up with for `rounds` rounds, in time, and
-- in time by a plan of one group; and its record gains `gained` transitions.
pub record IsKeptUpAfterRestarts (settings : Settings) (opened filter scans untaken restarts rounds gained : ℕ) : Type 0 where
  pub first : ℕ
  pub events : List Event
  pub machine : Machine
  pub pauses : List Pause
  pub receipt : Machine
  pub last : Machine
  pub later : Life
  pub is_run : IsRun settings first events machine
  pub restarted : length (past_lives machine.history) ≡ restarts
  pub settled : IsSettled settings first machine
  pub kept_up_with :
      IsKeptUpWith settings first opened filter scans (scans + untaken) machine pauses receipt last later
  pub in_time : IsPolledInTime settings first opened filter scans untaken machine pauses receipt last later
  pub for_each :
      IsPolledInTimeForEach settings (one_group opened filter) first scans untaken machine pauses receipt last later
  pub counted : length pauses ≡ rounds
  pub arrived : length (transitions_arrived settings machine last) ≡ gained
