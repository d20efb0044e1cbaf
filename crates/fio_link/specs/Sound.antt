-- All that is promised of a run.
use Rattle.std.specs.Prelude.{◌≡◌, ℕ, List}
use Rattle.fio_module.specs.Settings.{Settings, AreInRange}
use Rattle.fio_module.specs.Life.{life_of}
use Rattle.fio_link.specs.declared.event.Event.{Event}
use Rattle.fio_link.specs.Link.{Machine, IsRun}
use Rattle.fio_link.specs.Headline.{RecordIsLog, HaveNoRestart}
use Rattle.fio_link.specs.Claims.{StandsAtTaken, RestIsLostOrWaits, TakesPresentRound, IsInSequence, SaysAgainWhereRepeated, HasTimes}
use Rattle.fio_link.specs.Rising.{IsRising}
use Rattle.fio_link.specs.Restarts.{TakesStretchOfEachLife}
use Rattle.fio_link.specs.Delivery.{CleanRoundTakesBlock, EachCleanRoundTakesOne, IsWholeUnlessFull, GapsNameTimes}
use Rattle.fio_link.specs.Settled.{StandsWithoutRestart, CleanRoundTakesAll, RoundsMakeBlocks, CleanRoundsCatchUp}
use Rattle.fio_link.specs.KeptUp.{AllArrivesWhereKeptUpWith}

-- everything that is promised of what arrives, whatever restarts
pub record Delivers (settings : Settings) (first : ℕ) (machine : Machine) : Type 0 where
  pub takes_block : CleanRoundTakesBlock settings first machine
  pub takes_one : EachCleanRoundTakesOne settings first machine
  pub takes_all : CleanRoundTakesAll settings first machine
  pub makes_blocks : RoundsMakeBlocks settings first machine
  pub catches_up : CleanRoundsCatchUp settings first machine
  pub kept_up_with : AllArrivesWhereKeptUpWith settings first machine

-- what holds of a machine after events without restarts
pub record IsSound (settings : Settings) (first : ℕ) (machine : Machine) : Type 0 where
  -- the headline
  pub headline : RecordIsLog settings machine
  pub stands : StandsAtTaken settings machine
  pub rest : RestIsLostOrWaits settings (life_of machine.history)
  pub again : SaysAgainWhereRepeated machine
  pub times : HasTimes settings machine
  pub unless_full : IsWholeUnlessFull settings machine
  pub gaps : GapsNameTimes settings machine
  pub settles : StandsWithoutRestart settings first machine

-- what holds of the machine to which these events lead
pub record IsSoundRun (settings : Settings) (first : ℕ) (events : List Event) (machine : Machine)
    : Type 0 where
  pub is_run : IsRun settings first events machine
  -- whatever restarts
  pub rising : IsRising machine
  pub lives : TakesStretchOfEachLife settings machine
  pub takes : TakesPresentRound settings first machine
  pub in_sequence : IsInSequence machine
  pub delivers : Delivers settings first machine
  -- without restarts
  pub sound : HaveNoRestart events → IsSound settings first machine

-- a promise for every run: with settings in their ranges, any first number and any events
abbrev pub HoldsOfRuns : (Settings → ℕ → List Event → Machine → Type 0) → Type 0
HoldsOfRuns Holds = (settings : Settings) (first : ℕ) (events : List Event) (machine : Machine) →
    AreInRange settings → IsRun settings first events machine → Holds settings first events machine

-- a promise for every run, about the machine alone
abbrev pub HoldsWhateverRestarts : (Settings → ℕ → Machine → Type 0) → Type 0
HoldsWhateverRestarts Holds = HoldsOfRuns (λ settings first events machine. Holds settings first machine)

-- a promise for every run without restarts, about the machine alone
abbrev pub HoldsWithoutRestart : (Settings → ℕ → Machine → Type 0) → Type 0
HoldsWithoutRestart Holds =
    HoldsOfRuns (λ settings first events machine.
    HaveNoRestart events → Holds settings first machine)

-- events lead to at most one machine
abbrev pub LeadToOneMachine : Type 0
LeadToOneMachine =
    (settings : Settings) (first : ℕ) (events : List Event) (machine other : Machine) →
    IsRun settings first events machine → IsRun settings first events other → machine ≡ other
