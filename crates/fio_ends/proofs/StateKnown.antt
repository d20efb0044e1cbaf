-- What is kept along a log of the states that were asked for.
use Rattle.fio_ends.proofs.Names.{◌≡◌, ◌<◌, ◌≤◌, ℕ, true, false, List, length, Option, Some, Settings, Life, life_of, log_of, scans_of, blocks_of, ContentFacts, Event, Machine, SentFrame, Seen, scans_asked, scans_seen, steady_state}
use Rattle.fio_ends.proofs.SteadyKept.{WatchHolds}
use Rattle.fio_ends.proofs.Answered.{states_of}
use Rattle.fio_ends.proofs.BlockPlaces.{end_at}
use Rattle.fio_ends.proofs.Clocks.{clock, offset_of}
use Rattle.fio_ends.proofs.Following.{GoesOn}
use Rattle.fio_ends.proofs.Fulls.{KeepsFull}
use Rattle.fio_ends.proofs.SeenStates.{WatchAt}
use Rattle.fio_ends.proofs.Shown.{KeepsShown, TellsFrom}
use Rattle.fio_ends.proofs.Watching.{state_of}

-- ---- what is kept

-- what the rule reads of the events above: the scans at which the command sent last was received, and
-- those of the latest states, till the record comes to them
pub record StateState : Type 0 where
  pub asked : ℕ
  pub seen : Option ℕ

abbrev pub state_after : Settings → StateState → Machine → Event → StateState
state_after settings state machine event = record {
  asked = scans_asked machine state.asked event;
  seen = scans_seen settings machine state.asked state.seen event;
}

-- the states were those of a life since the log began, and the record has not come to them
pub record IsSeen (begin from : Life) (left : Option ℕ) (upto : ℕ) (facts : ContentFacts) (seen : Seen) : Type 0 where
  pub life : Life
  pub begun : GoesOn begin life
  pub goes_on : GoesOn life from
  pub stamp : seen.stamp ≡ clock (offset_of begin) (scans_of life)
  pub levels : seen.levels ≡ states_of life
  pub left_is : left ≡ Some (scans_of life)
  pub watch : (input : ℕ) → input < 64 → WatchAt life upto input facts.clear (facts.inputs input).hidden (steady_state (facts.inputs input).watched)

-- the record has nothing later than the states, and they tell of each input of which no item was sent since
pub record IsPending (now : Life) (frames : List SentFrame) (last upto : ℕ) (facts : ContentFacts) (life : Life) : Type 0 where
  pub inside : upto ≤ length (log_of life)
  pub goes_on : GoesOn life now
  pub tells : (input : ℕ) → input < 64 → (facts.inputs input).touched ≡ false → TellsFrom now frames last (length (log_of life)) input (state_of input life)

-- what is known of what states tell of each input
abbrev pub ShownHolds : Settings → Machine → ℕ → ContentFacts → Type 0
ShownHolds settings machine upto facts =
    (input : ℕ) → input < 64 → KeepsShown (life_of machine.history) machine.to_module machine.last_to_module upto input (facts.inputs input)

pub record KeepsState (settings : Settings) (begin : Machine) (above : Option ℕ) (state : StateState) (from : Life) (machine : Machine) (facts : ContentFacts) : Type 0 where
  pub full : KeepsFull settings begin above machine facts
  pub seen_timely : (states : Seen) → facts.seen ≡ Some states → facts.timely ≡ true
  pub below : facts.timely ≡ true
      → (length (log_of (life_of begin.history)) ≤ end_at settings (life_of machine.history) machine.round)
      × (length (blocks_of settings (life_of begin.history)) ≤ machine.round)
  pub watch : WatchHolds settings machine facts
  pub recorded : end_at settings (life_of machine.history) machine.round ≤ length (log_of from)
  pub seen : (states : Seen) → facts.seen ≡ Some states
      → IsSeen (life_of begin.history) from state.seen (end_at settings (life_of machine.history) machine.round) facts states
  pub pending : (states : Seen) (is : facts.seen ≡ Some states)
      → IsPending (life_of machine.history) machine.to_module machine.last_to_module (end_at settings (life_of machine.history) machine.round) facts (seen states is).life
  pub shown : ShownHolds settings machine (end_at settings (life_of machine.history) machine.round) facts
