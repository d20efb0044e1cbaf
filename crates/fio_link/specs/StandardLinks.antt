-- Standard links: the standard limits, and filters of 5 or more.
use Rattle.std.specs.Prelude.{◌≡◌, ℕ, ◌+◌, ◌≤◌, List, ◌∷◌, ◌++◌, drop}
use Rattle.std.specs.List.{AllByRecursion}
use Rattle.fio_input.specs.Delivery.{OpenKeepFiltersOf}
use Rattle.fio_module.specs.Settings.{standard_settings}
use Rattle.fio_module.specs.Life.{Life, life_of, scans_of, loads_of, filter_events}
use Rattle.fio_module.specs.Log.{log_of}
use Rattle.fio_link.specs.declared.event.Event.{Event}
use Rattle.fio_link.specs.Link.{Machine, IsRun}
use Rattle.fio_link.specs.Settled.{IsSettled, end_recorded, LeadsInTime, HasGainedAll}
use Rattle.fio_link.specs.NewLevels.{RecordsNewLevels}
use Rattle.fio_link.specs.KeptUp.{Pause, scans_of_pause, RoundsAfter}

-- A standard link: it has the standard limits, and any run, restarts included, has ended at a settled point. Since then
-- clean rounds have come after pauses, and the filters of the open inputs stay at least 5, whatever configurations come.
pub record IsStandardLink (id first : ℕ) (events : List Event) (machine : Machine) (pauses : List Pause)
    (receipt last : Machine) (later : Life) : Type 0 where
  pub id_fits : id ≤ 255
  pub is_run : IsRun (standard_settings id) first events machine
  pub settled : IsSettled (standard_settings id) first machine
  pub rounds : RoundsAfter (standard_settings id) first machine pauses receipt last
  pub since : life_of last.history ≡ later ++ life_of machine.history
  pub filters :
      OpenKeepFiltersOf 5 (filter_events later) (filter_events (life_of machine.history))

-- what holds of each standard link with such pauses, of which the newest is still going on
abbrev pub HoldsOfStandardLinks : (List Pause → Type 0)
    → ((id : ℕ) (machine last now : Machine) → Type 0) → Type 0
HoldsOfStandardLinks AreSuch Holds =
    (id first : ℕ) (events : List Event) (pauses : List Pause) (machine receipt last now : Machine)
    (later : Life) (next : Pause) →
    IsStandardLink id first events machine pauses receipt last later →
    AreSuch (next ∷ pauses) →
    LeadsInTime (standard_settings id) first (scans_of_pause next) receipt last now →
    Holds id machine last now

-- Such a link loses nothing, and is never later than this: at any time what the record lacks is at most `late` scans old.
abbrev pub StandardLinkIsNeverLater : (List Pause → Type 0) → ℕ → Type 0
StandardLinkIsNeverLater AreSuch late =
    HoldsOfStandardLinks AreSuch (λ id machine last now.
    HasGainedAll (standard_settings id) machine last
    × AllByRecursion
    (λ transition. scans_of (life_of now.history) ≤ transition.scans + late)
    (drop (end_recorded (standard_settings id) now) (log_of (life_of now.history))))

-- Such a link has recorded a new level, with its time, as soon as more than `late` scans came after the last of its samples.
-- With a filter of f samples, that is f - 1 scans more after the first of them.
abbrev pub StandardLinkRecordsNewLevels : (List Pause → Type 0) → ℕ → Type 0
StandardLinkRecordsNewLevels AreSuch late =
    HoldsOfStandardLinks AreSuch (λ id machine last now.
    RecordsNewLevels (late + 2) machine now
    (loads_of (life_of last.history) ≡ loads_of (life_of machine.history)))
