-- Links that are kept up with: clean rounds after pauses of any length, whatever is lost between.
use Rattle.std.specs.Prelude.{◌≡◌, ℕ, ◌+◌, ◌-◌, ◌*◌, ◌/◌, ◌≤◌, max, List, [], ◌∷◌, ◌++◌, length, drop, slice_get, Some}
use Rattle.std.specs.List.{AllByRecursion}
use Rattle.fio_message.specs.declared.limits.TheConstants.{INPUTS}
use Rattle.fio_input.specs.Delivery.{FewStayOpen}
use Rattle.fio_module.specs.Settings.{Settings, standard_settings}
use Rattle.fio_module.specs.Life.{Life, life_of, scans_of, loads_of, filter_events}
use Rattle.fio_module.specs.Log.{log_of}
use Rattle.fio_module.specs.Delivery.{FewChange}
use Rattle.fio_module.specs.KeepingUp.{IsKeptUp, IsYoung}
use Rattle.fio_link.specs.declared.event.Event.TheVariants as events
use Rattle.fio_link.specs.Link.{Machine, after, Leads}
use Rattle.fio_link.specs.Rounds.{next_round}
use Rattle.fio_link.specs.Delivery.{clean_round, IsCleanRound, HasNothingBetween}
use Rattle.fio_link.specs.Settled.{HasTakenAll, end_recorded, IsWithin, LeadsOn, LeadsInTime, HasGainedAll, HaveTheirTimes}
use Rattle.fio_link.specs.NewLevels.{RecordsNewLevels}

-- The scans from the module's receipt of the poll of one clean round to its receipt of that of the next: `settled` scans up
-- to a time whose blocks the CPU had all taken when it sent this poll, and `untaken` scans after that.
pub record Pause : Type 0 where
  pub settled : ℕ
  pub untaken : ℕ

-- all scans of a pause
abbrev pub scans_of_pause : Pause → ℕ
scans_of_pause pause = pause.settled + pause.untaken

-- A clean round after such a pause, counted from an earlier machine.
pub record IsRoundAfter (settings : Settings) (first : ℕ) (pause : Pause)
    (earlier done receipt last : Machine) : Type 0 where
  pub begin : Machine
  pub leads_on : LeadsOn settings first done begin
  pub round : IsCleanRound settings first begin receipt last
  pub between : Machine
  pub settled : LeadsInTime settings first pause.settled earlier done between
  pub all_taken : next_round between.polls ≤ begin.round
  pub untaken : LeadsInTime settings first pause.untaken between between receipt

-- Clean rounds after such pauses, which are given newest first, lead from one machine to another. The module receives the
-- newest poll at `receipt`.
abbrev pub RoundsAfter : Settings → ℕ → Machine → List Pause → Machine → Machine → Type 0
RoundsAfter settings first machine [] receipt last = (receipt ≡ machine) × (last ≡ machine)
RoundsAfter settings first machine (pause ∷ pauses) receipt last =
    (earlier : Machine) × (done : Machine) × RoundsAfter settings first machine pauses earlier done
    × IsRoundAfter settings first pause earlier done receipt last

-- the machines at which the module receives their polls, newest first
abbrev pub receipts_of : (settings : Settings) (first : ℕ) (machine : Machine) (pauses : List Pause)
    (receipt last : Machine) → RoundsAfter settings first machine pauses receipt last → List Machine
receipts_of settings first machine [] receipt last rounds = []
receipts_of settings first machine (pause ∷ pauses) receipt last rounds =
    receipt ∷ receipts_of settings first machine pauses rounds.0 rounds.1 rounds.2

-- a pause of at most `scans` scans, at most `untaken` of them after the time whose blocks the CPU had all taken
pub record IsPauseOf (scans untaken : ℕ) (pause : Pause) : Type 0 where
  pub few : scans_of_pause pause ≤ scans
  pub few_untaken : pause.untaken ≤ untaken

-- in time: each of these pauses is of at most this many scans
abbrev pub AreInTime : ℕ → ℕ → List Pause → Type 0
AreInTime scans untaken pauses = AllByRecursion (IsPauseOf scans untaken) pauses

-- Suppose that the module receives the poll of a clean round at most `scans` scans after an earlier machine, and at most
-- `untaken` scans after a time whose blocks the CPU had all taken when it sent the poll: the end of the round before or, if
-- no answer is lost, the receipt itself. Then the round comes after a pause of at most these scans.
abbrev pub RoundIsInTime : Settings → ℕ → Machine → Type 0
RoundIsInTime settings first machine =
    (scans untaken : ℕ) (earlier between begin receipt last : Machine) →
    LeadsOn settings first machine begin → IsCleanRound settings first begin receipt last →
    LeadsOn settings first machine between → LeadsOn settings first between receipt →
    next_round between.polls ≤ begin.round → IsWithin 0 between earlier →
    IsWithin scans earlier receipt → IsWithin untaken between receipt →
    (pause : Pause) × IsPauseOf scans untaken pause
    × IsRoundAfter settings first pause earlier machine receipt last

-- A clean round with nothing between its steps comes after the pause before it, and ends as soon as its poll has been
-- received.
abbrev pub RoundWithNothingBetweenIsAfter : Settings → ℕ → Machine → Type 0
RoundWithNothingBetweenIsAfter settings first machine = (pause : Pause) (earlier between begin last : Machine) →
    LeadsInTime settings first pause.settled earlier machine between →
    LeadsInTime settings first pause.untaken between between begin →
    next_round between.polls ≤ begin.round →
    Leads settings first begin (clean_round begin) last →
    let receipt = after settings first begin events.Poll in
    (round : IsRoundAfter settings first pause earlier machine receipt last)
    × HasNothingBetween settings first round.begin receipt last round.round
    × IsWithin 0 receipt last

-- How many scans the blocks are behind, at most, when the newest of these polls has been received, if each round makes up
-- for `scans` scans: what was left before, plus the pause, less `scans`; but at least the untaken scans of the pause, since
-- the block taken may be that old.
abbrev pub left_behind : ℕ → List Pause → ℕ
left_behind scans [] = 0
left_behind scans (pause ∷ pauses) =
    max (left_behind scans pauses + scans_of_pause pause - scans) pause.untaken

-- when each of these polls is received, the blocks are at most `most` scans behind
abbrev pub BeginNear : ℕ → ℕ → List Pause → Type 0
BeginNear scans most [] = Unit {0}
BeginNear scans most (pause ∷ pauses) =
    (left_behind scans pauses + scans_of_pause pause ≤ most) × BeginNear scans most pauses

-- Clean rounds since a settled point, after which few change.
pub record HasRounds (settings : Settings) (first opened filter scans : ℕ)
    (machine : Machine) (pauses : List Pause) (receipt last : Machine) (later : Life) : Type 0 where
  pub all_taken : HasTakenAll first machine
  pub rounds : RoundsAfter settings first machine pauses receipt last
  -- what has happened to the module since then
  pub since : life_of last.history ≡ later ++ life_of machine.history
  pub few_change : FewChange settings opened filter scans (life_of machine.history) later

-- Kept up with: each round makes up for `scans` scans, and the blocks are never more than `most` scans behind, for which the
-- buffer has room.
pub record IsKeptUpWith (settings : Settings) (first opened filter scans most : ℕ)
    (machine : Machine) (pauses : List Pause) (receipt last : Machine) (later : Life) : Type 0 where
  pub some_wait : 1 ≤ settings.waiting
  pub room : opened * (most + (filter - 1)) ≤ settings.waiting * filter
  pub near : BeginNear scans most pauses
  pub from : HasRounds settings first opened filter scans machine pauses receipt last later
  -- nor are they further behind when the CPU hears the answer to the newest poll
  pub heard_near : IsWithin (most - left_behind scans pauses) receipt last

-- the record lacks only transitions of the latest scans: at most b + f - 2 scans came after that of each, where b is
-- `behind` and f `filter`
abbrev pub LacksOnlyYoung : ℕ → ℕ → Settings → Machine → Type 0
LacksOnlyYoung behind filter settings machine =
    AllByRecursion (IsYoung behind filter (life_of machine.history))
    (drop (end_recorded settings machine) (log_of (life_of machine.history)))

-- Like `LacksOnlyYoung`, with blocks counted whole. Take k open inputs, filters of f, blocks of b entries that each make up
-- for s scans, and m scans behind: for some number j of blocks, nothing that the record lacks is more than j s + m - 1 - f
-- (j b / k) scans old.
pub record LacksOnlyYoungExactly (settings : Settings) (opened filter scans behind : ℕ) (machine : Machine)
    : Type 0 where
  pub blocks : ℕ
  pub young :
      AllByRecursion
      (λ transition. scans_of (life_of machine.history) + 1
      + filter * (settings.per_block * blocks / opened)
      ≤ transition.scans + (scans * blocks + behind))
      (drop (end_recorded settings machine) (log_of (life_of machine.history)))

-- What holds at any time after the newest round, if the blocks are at most `behind` scans behind.
pub record IsLateBy (settings : Settings) (opened filter scans most behind : ℕ) (machine last now : Machine)
    (later : Life) : Type 0 where
  pub late : LacksOnlyYoung behind filter settings now
  pub exactly : LacksOnlyYoungExactly settings opened filter scans behind now
  -- a new level is recorded at most b + f - 2 scans after the last of its samples, where b is `behind` and f `filter`
  pub levels :
      RecordsNewLevels (behind + filter) machine now
      ((loads_of (life_of last.history) ≡ loads_of (life_of machine.history)) × (most + filter ≤ 65537))
  -- or, with blocks counted whole, at most j s + b - 1 - f (j `per_block` / k), for the same j
  pub levels_exactly :
      RecordsNewLevels
      (scans * exactly.blocks + behind + 1 - filter * (settings.per_block * exactly.blocks / opened)) machine now
      ((loads_of (life_of last.history) ≡ loads_of (life_of machine.history)) × (most + filter ≤ 65537))
  -- and the module is kept up with, as long as it is no further behind and few inputs stay open
  pub keeps_up :
      (stretch : Life) → behind ≤ most → life_of now.history ≡ stretch ++ (later ++ life_of machine.history)
      → FewStayOpen opened filter (filter_events (stretch ++ later)) (filter_events (life_of machine.history))
      → IsKeptUp settings opened filter scans most (life_of machine.history) (stretch ++ later)

-- What has arrived at the end of clean rounds. When the poll `rounds` rounds earlier was received, the blocks were at most
-- `behind rounds` scans behind.
pub record Arrives (settings : Settings) (first opened filter scans most : ℕ) (behind : ℕ → ℕ)
    (machine : Machine) (receipts : List Machine) (receipt last : Machine) (later : Life) : Type 0 where
  pub whole : HasGainedAll settings machine last
  pub times : HaveTheirTimes settings filter most machine last
  -- the record goes through all that had been logged when the module received the poll of the clean round `rounds` rounds
  -- earlier, if that many blocks take what may have been left then
  pub through :
      (rounds : ℕ) (earlier : Machine)
      → opened * (behind rounds + (filter - 1)) ≤ rounds * (settings.per_block * filter)
      → slice_get receipts rounds ≡ Some earlier
      → length (log_of (life_of earlier.history)) ≤ end_recorded settings last
  -- and what holds at any time at most `between` scans after the newest poll was received
  pub at :
      (between : ℕ) (now : Machine) → LeadsInTime settings first between receipt last now
      → IsLateBy settings opened filter scans most (between + behind 0) machine last now later

-- If a link is kept up with, everything arrives: whole, and no later than the blocks are behind.
abbrev pub AllArrivesWhereKeptUpWith : Settings → ℕ → Machine → Type 0
AllArrivesWhereKeptUpWith settings first machine =
    (opened filter scans most : ℕ) (pauses : List Pause) (receipt last : Machine) (later : Life)
    (kept : IsKeptUpWith settings first opened filter scans most machine pauses receipt last later) →
    Arrives settings first opened filter scans most (λ rounds. left_behind scans (drop rounds pauses))
    machine (receipts_of settings first machine pauses receipt last kept.from.rounds) receipt last later

-- Polled in time: the pauses are of at most as many scans as a round makes up for, at most `untaken` of them after a time
-- whose blocks the CPU had all taken; and the buffer has room for what the open inputs can report in `scans` + `untaken`
-- scans. If no answer is lost, `untaken` is 0.
pub record IsPolledInTime (settings : Settings) (first opened filter scans untaken : ℕ)
    (machine : Machine) (pauses : List Pause) (receipt last : Machine) (later : Life) : Type 0 where
  pub some_wait : 1 ≤ settings.waiting
  pub room : opened * (scans + untaken + (filter - 1)) ≤ settings.waiting * filter
  pub in_time : AreInTime scans untaken pauses
  pub from : HasRounds settings first opened filter scans machine pauses receipt last later
  pub heard_in_time : IsWithin scans receipt last

-- If a link is polled in time, everything arrives in time.
abbrev pub AllArrivesInTime : Settings → ℕ → Machine → Type 0
AllArrivesInTime settings first machine =
    (opened filter scans untaken : ℕ) (pauses : List Pause) (receipt last : Machine) (later : Life)
    (polled : IsPolledInTime settings first opened filter scans untaken machine pauses receipt last later) →
    Arrives settings first opened filter scans (scans + untaken) (λ rounds. untaken)
    machine (receipts_of settings first machine pauses receipt last polled.from.rounds) receipt last later

-- An outage is possible: one pause may be longer than the others, which are of no more scans than a round makes up for. It
-- may have as many scans as the blocks may be behind, less those for which a lost answer can hold up a block.
abbrev pub OutagesArePossible : Type 0
OutagesArePossible =
    (scans untaken most : ℕ) (later : List Pause) (outage : Pause) (earlier : List Pause) →
    AreInTime scans untaken earlier → IsPauseOf (most - untaken) (most - scans) outage →
    AreInTime scans untaken later → scans + untaken ≤ most →
    BeginNear scans most (later ++ outage ∷ earlier)

-- Rounds catch up: if pauses are of no more scans than a round makes up for, each round makes up for the difference, until
-- the blocks are no further behind than a lost answer can keep them.
abbrev pub RoundsCatchUp : Type 0
RoundsCatchUp =
    (scans pace untaken : ℕ) (later earlier : List Pause) → pace ≤ scans →
    AreInTime pace untaken later →
    left_behind scans (later ++ earlier)
    ≤ max (left_behind scans earlier - length later * (scans - pace)) untaken

-- At the standard limits, with filters of 5, a round makes up for `scans` scans, and the buffer has room for blocks that are
-- `most` scans behind. This holds for 19 and 76.
abbrev pub StandardLimitsHaveRoom : ℕ → ℕ → Type 0
StandardLimitsHaveRoom scans most =
    (id opened : ℕ) → opened ≤ INPUTS →
    (opened * scans ≤ (standard_settings id).per_block * 5)
    × (opened * (most + (5 - 1)) ≤ (standard_settings id).waiting * 5)
