-- The bounds are sharp: there are links that are as late as the bounds say, and one that is polled one scan too seldom and
-- loses transitions.
use Rattle.std.specs.Prelude.{◌≡◌, ℕ, ◌+◌, ◌-◌, ◌*◌, ◌≤◌, List, [], ◌∷◌, ◌++◌, drop, slice_get, Some}
use Rattle.fio_input.specs.Delivery.{open_inputs, OpenHaveFiltersOf, NoneIsApplied}
use Rattle.fio_module.specs.Settings.{Settings, AreInRange, HasRoom, standard_settings}
use Rattle.fio_module.specs.Life.{Life, life_of, scans_of, filter_events}
use Rattle.fio_module.specs.Log.{Transition, log_of}
use Rattle.fio_cpu.specs.declared.record.Item.TheVariants as items
use Rattle.fio_link.specs.declared.event.Event.{Event}
use Rattle.fio_link.specs.Link.{Machine, IsRun}
use Rattle.fio_link.specs.Headline.{HaveNoRestart}
use Rattle.fio_link.specs.Delivery.{HasNothingBetween}
use Rattle.fio_link.specs.Settled.{IsSettled, end_recorded, IsWithin, LeadsInTime, LeadsOn}
use Rattle.fio_link.specs.KeptUp.{Pause, scans_of_pause, RoundsAfter, AreInTime}
use Rattle.fio_link.specs.StandardLinks.{IsStandardLink}
use Rattle.fio_link.specs.declared.line.TimedLine.{TimedLine}
use Rattle.fio_link.specs.Pace.{IsPace, clean_pace, most_behind, most_late, round_scans, traffic_of}
use Rattle.fio_link.specs.Rate.{IsPolledAtAPace}

-- nothing comes between the steps of any of these clean rounds
abbrev pub HaveNothingBetween : (settings : Settings) (first : ℕ) (machine : Machine) (pauses : List Pause)
    (receipt last : Machine) → RoundsAfter settings first machine pauses receipt last → Type 0
HaveNothingBetween settings first machine [] receipt last rounds = Unit {0}
HaveNothingBetween settings first machine (pause ∷ pauses) receipt last rounds =
    HasNothingBetween settings first rounds.3.begin receipt last rounds.3.round
    × HaveNothingBetween settings first machine pauses rounds.0 rounds.1 rounds.2

-- A standard link without restarts, with pauses of at most `scans` scans, that lacks a transition which is `late` scans old.
pub record StandardLinkIsAsLate (scans untaken late : ℕ) : Type 0 where
  pub id : ℕ
  pub first : ℕ
  pub events : List Event
  pub pauses : List Pause
  pub machine : Machine
  pub receipt : Machine
  pub last : Machine
  pub now : Machine
  pub later : Life
  pub next : Pause
  pub link : IsStandardLink id first events machine pauses receipt last later
  pub no_restart : HaveNoRestart events
  pub in_time : AreInTime scans untaken (next ∷ pauses)
  pub until : LeadsInTime (standard_settings id) first (scans_of_pause next) receipt last now
  -- no configuration is applied
  pub not_applied : NoneIsApplied (filter_events later)
  pub nothing_between :
      HaveNothingBetween (standard_settings id) first machine pauses receipt last link.rounds
  -- the oldest one that the record lacks
  pub transition : Transition
  pub lacking :
      slice_get (drop (end_recorded (standard_settings id) now) (log_of (life_of now.history))) 0
      ≡ Some transition
  pub old : scans_of (life_of now.history) ≡ transition.scans + late

-- A link that is polled one scan too seldom from a settled point on. Since then the module has received the poll of a clean
-- round at least every n + 1 scans, although n would be often enough, no answer was lost, and no configuration was applied.
-- Yet the record has a gap mark.
pub record LosesWhereAScanLater (settings : Settings) (filter scans : ℕ) : Type 0 where
  pub in_range : AreInRange settings
  pub room : HasRoom settings
  pub first : ℕ
  pub events : List Event
  pub pauses : List Pause
  pub machine : Machine
  pub receipt : Machine
  pub last : Machine
  pub later : Life
  pub no_restart : HaveNoRestart events
  pub is_run : IsRun settings first events machine
  pub settled : IsSettled settings first machine
  -- the filters of the open inputs are at least this
  pub some : 1 ≤ filter
  pub filters : OpenHaveFiltersOf (filter_events (life_of machine.history)) filter
  pub enough :
      open_inputs (filter_events (life_of machine.history)) * scans
      ≤ settings.per_block * filter
  pub in_time : AreInTime (scans + 1) 0 pauses
  pub rounds : RoundsAfter settings first machine pauses receipt last
  pub nothing_between : HaveNothingBetween settings first machine pauses receipt last rounds
  pub since : life_of last.history ≡ later ++ life_of machine.history
  pub not_applied : NoneIsApplied (filter_events later)
  pub place : ℕ
  pub gap : slice_get last.items place ≡ Some items.Gap

-- A link without restarts that is polled at a pace of its line, at its edge: a round takes the whole pace. Before the next
-- clean round ends it lacks a transition that is as old as the bound says.
pub record IsAsLateAtARate (line : TimedLine) (opened filter pace late : ℕ) : Type 0 where
  pub id : ℕ
  pub first : ℕ
  pub events : List Event
  pub losses : List ℕ
  pub machine : Machine
  pub begin : Machine
  pub receipt : Machine
  pub last : Machine
  pub now : Machine
  pub later : Life
  pub is_run : IsRun (standard_settings id) first events machine
  pub is_pace : IsPace line (traffic_of (standard_settings id) opened filter) pace
  pub edge : round_scans line (traffic_of (standard_settings id) opened filter) pace ≡ pace
  pub polled :
      IsPolledAtAPace (standard_settings id) first line opened filter pace machine losses begin receipt last later
  pub leads_on : LeadsOn (standard_settings id) first last now
  pub within : IsWithin (clean_pace line pace + pace) begin now
  pub bound : most_late line (traffic_of (standard_settings id) opened filter) pace ≡ late
  pub transition : Transition
  pub lacking :
      slice_get (drop (end_recorded (standard_settings id) now) (log_of (life_of now.history))) 0
      ≡ Some transition
  pub old : scans_of (life_of now.history) ≡ transition.scans + late

-- A link whose rounds take one scan more than its pace, at which all else is as for a pace. Its record has a gap mark.
pub record LosesWhereARoundIsLonger (settings : Settings) (line : TimedLine) (opened filter pace : ℕ) : Type 0 where
  pub in_range : AreInRange settings
  pub first : ℕ
  pub events : List Event
  pub losses : List ℕ
  pub machine : Machine
  pub begin : Machine
  pub receipt : Machine
  pub last : Machine
  pub later : Life
  pub is_run : IsRun settings first events machine
  pub longer : round_scans line (traffic_of settings opened filter) pace ≡ pace + 1
  pub enough : opened * clean_pace line pace ≤ settings.per_block * filter
  pub room : opened * (most_behind line pace + (filter - 1)) ≤ settings.waiting * filter
  pub polled : IsPolledAtAPace settings first line opened filter pace machine losses begin receipt last later
  pub place : ℕ
  pub gap : slice_get last.items place ≡ Some items.Gap
