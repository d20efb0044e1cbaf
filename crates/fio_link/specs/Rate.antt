-- Links over a line that takes its time: the CPU polls at a pace, and what it sends and hears is on the line as long as its
-- bits.
use Rattle.std.specs.Prelude.{◌≡◌, ℕ, ◌+◌, ◌*◌, ◌≤◌, max, List, [], ◌∷◌, ◌++◌, drop, length, Option, Some, None}
use Rattle.std.specs.List.{AllByRecursion}
use Rattle.fio_input.specs.Delivery.{FewStayOpen}
use Rattle.fio_module.specs.Settings.{Settings}
use Rattle.fio_module.specs.Life.{Life, life_of, scans_of, filter_events}
use Rattle.fio_module.specs.Log.{log_of}
use Rattle.fio_link.specs.declared.event.Event.TheVariants.{ToModule}
use Rattle.fio_link.specs.declared.line.TimedLine.{TimedLine}
use Rattle.fio_link.specs.Link.{SentFrame, Machine, after, item_numbered}
use Rattle.fio_link.specs.Rounds.{next_round}
use Rattle.fio_link.specs.Delivery.{IsCleanRound}
use Rattle.fio_link.specs.Settled.{IsSettled, end_recorded, IsWithin, LeadsOn, HasGainedAll, HaveTheirTimes}
use Rattle.fio_link.specs.Pace.{IsPace, traffic_of, poll_scans, answer_scans, clean_pace, most_apart, most_behind, most_late, round_scans}

-- how many octets this frame has
abbrev pub frame_length : Option SentFrame → ℕ
frame_length None = 0
frame_length (Some frame) = length frame.octets

-- how many octets the answer has that the module gives when it receives the frame with this number
abbrev pub octets_answered : Settings → ℕ → Machine → ℕ → ℕ
octets_answered settings first receipt index =
    frame_length (item_numbered (after settings first receipt (ToModule index)).to_cpu (length receipt.to_cpu + 1))

-- A clean round on a line: the poll arrives as soon as its bits and those of other traffic have been on the line, and so
-- does the answer, which the module begins in time.
pub record IsRoundOnLine (settings : Settings) (first : ℕ) (line : TimedLine) (begin receipt last : Machine) : Type 0 where
  pub round : IsCleanRound settings first begin receipt last
  pub poll : IsWithin (poll_scans line) begin receipt
  pub answer :
      IsWithin (answer_scans line (octets_answered settings first receipt (length begin.to_module + 1))) begin last

-- The next clean round, after one that began at `earlier` and ended at `done`. `lost` rounds between them are lost.
pub record IsNextRound (settings : Settings) (first : ℕ) (line : TimedLine) (pace lost : ℕ)
    (earlier done begin receipt last : Machine) : Type 0 where
  -- the CPU polls again as many scans after the poll before as may come at its pace, or as soon as it has heard the answer, if that
  -- is later; until then the module receives no other poll
  pub again : Machine
  pub leads_on : LeadsOn settings first done again
  pub all_taken : next_round again.polls ≤ begin.round
  pub paced :
      scans_of (life_of again.history)
      ≤ max (scans_of (life_of earlier.history) + most_apart line pace) (scans_of (life_of done.history))
  -- rounds that are lost begin as far apart
  pub repeats : LeadsOn settings first again begin
  pub lost_paced : IsWithin (lost * most_apart line pace) again begin
  pub round : IsRoundOnLine settings first line begin receipt last

-- Clean rounds on a line since a machine, given newest first by how many rounds were lost before each. The newest began at
-- `begin`, the module received its poll at `receipt`, and it ended at `last`.
abbrev pub RoundsOnLine : Settings → ℕ → TimedLine → ℕ → Machine → List ℕ → Machine → Machine → Machine → Type 0
RoundsOnLine settings first line pace machine [] begin receipt last =
    (begin ≡ machine) × (receipt ≡ machine) × (last ≡ machine)
RoundsOnLine settings first line pace machine (lost ∷ losses) begin receipt last =
    (earlier : Machine) × (reached : Machine) × (done : Machine)
    × RoundsOnLine settings first line pace machine losses earlier reached done
    × IsNextRound settings first line pace lost earlier done begin receipt last

-- Polled at a pace over a line, from a settled point on: no more rounds in a row are lost than the line may lose, and few
-- inputs stay open.
pub record IsPolledAtAPace (settings : Settings) (first : ℕ) (line : TimedLine) (opened filter pace : ℕ)
    (machine : Machine) (losses : List ℕ) (begin receipt last : Machine) (later : Life) : Type 0 where
  pub some_wait : 1 ≤ settings.waiting
  pub some : 1 ≤ filter
  pub some_open : 1 ≤ opened
  pub settled : IsSettled settings first machine
  pub rounds : RoundsOnLine settings first line pace machine losses begin receipt last
  pub few_lost : AllByRecursion (λ lost. lost ≤ line.lost) losses
  pub since : life_of last.history ≡ later ++ life_of machine.history
  pub few_open : FewStayOpen opened filter (filter_events later) (filter_events (life_of machine.history))

-- what the record lacks is at most `late` scans old
abbrev pub IsNoLater : Settings → ℕ → Machine → Type 0
IsNoLater settings late now =
    AllByRecursion (λ transition. scans_of (life_of now.history) ≤ transition.scans + late)
    (drop (end_recorded settings now) (log_of (life_of now.history)))

-- What arrives at a rate: the round ends before the next one, nothing is lost, and no transition is late.
pub record ArrivesAtRate (settings : Settings) (first : ℕ) (line : TimedLine) (opened filter pace : ℕ)
    (machine begin last : Machine) : Type 0 where
  pub ends : IsWithin (round_scans line (traffic_of settings opened filter) pace) begin last
  pub whole : HasGainedAll settings machine last
  pub times : HaveTheirTimes settings filter (most_behind line pace) machine last
  -- until the next clean round ends
  pub late :
      (now : Machine) → LeadsOn settings first last now
      → IsWithin (clean_pace line pace + round_scans line (traffic_of settings opened filter) pace) begin now
      → IsNoLater settings (most_late line (traffic_of settings opened filter) pace) now

-- polled at a pace of its line, a link loses nothing and is never late
abbrev pub ArrivesInTimeAtARate : Settings → ℕ → Machine → Type 0
ArrivesInTimeAtARate settings first machine =
    (line : TimedLine) (opened filter pace : ℕ) (losses : List ℕ) (begin receipt last : Machine) (later : Life) →
    IsPace line (traffic_of settings opened filter) pace →
    IsPolledAtAPace settings first line opened filter pace machine losses begin receipt last later →
    ArrivesAtRate settings first line opened filter pace machine begin last
