-- What is known of times in a log, and how far lives go on.
use Rattle.fio_ends.proofs.Names.{log_of, ◌≡◌, ◌+◌, ◌≤◌, ℕ, Bool, List, length, Option, Some, None, arith, Command, Settings, Life, life_of, life_after_command, loads_of, Commanded, ContentFacts, Event, Machine, after, History, LoadsAreSent, StampsAreNear, StatesAreNear, loads_sent, nat_tests}
use Rattle.fio_ends.proofs.AlwaysKept.{Always}
use Rattle.fio_ends.proofs.ApartTimes.{AreNearByInput, KeepsApart}
use Rattle.fio_ends.proofs.BlockPlaces.{end_at}
use Rattle.fio_ends.proofs.ClockKept.{clock_above}
use Rattle.fio_ends.proofs.ContentSteps.{IsPastBus, past_cases}
use Rattle.fio_ends.proofs.Floors.{KeepsFloor}
use Rattle.fio_ends.proofs.Following.{GoesOn, goes_on-more, goes_on-same}
use Rattle.fio_ends.proofs.Stamps.{ClockState, IsAsked, KeepsClock, clock_after}
use Rattle.fio_ends.proofs.StateKept.{state_above}
use Rattle.fio_ends.proofs.StateKnown.{KeepsState, StateState, state_after}
use Rattle.fio_ends.proofs.Steady.{IsSteady}
use Rattle.fio_ends.proofs.Taken.{Asks}
use Rattle.fio_ends.proofs.Timeless.{IsTimeless}
use Rattle.fio_ends.proofs.JumpedBlocks.{HasExcuses}

-- what the rules read of the events above, and how many loads of the counter were sent in the log
pub record TimeState : Type 0 where
  pub clock : ClockState
  pub state : StateState
  pub sent : ℕ

abbrev pub time_after : Settings → TimeState → Machine → Event → TimeState
time_after settings s machine event = record {
  clock = clock_after s.clock machine event;
  state = state_after settings s.state machine event;
  sent = s.sent + loads_sent event;
}

abbrev pub time_above : Bool → TimeState
time_above begun = record { clock = clock_above begun; state = state_above; sent = 0 }

-- what is asked of the rest of a log
pub record AsksTimes (settings : Settings) (first : ℕ) (begin : Machine) (above : Option ℕ) (s : TimeState) (machine : Machine) (later : List Event) : Type 0 where
  pub taken : Asks settings first begin (AreNearByInput above) machine later
  pub stamps : StampsAreNear settings first machine s.clock.asked s.clock.before later
  pub states : StatesAreNear settings first machine s.state.asked s.state.seen later
  pub loads : LoadsAreSent settings first (loads_of (life_of begin.history) + s.sent) machine later

-- what is known of times, where no load took effect since a machine
pub record Timed (settings : Settings) (base : Machine) (above : Option ℕ) (s : TimeState) (from : Life) (machine : Machine) (facts : ContentFacts) : Type 0 where
  pub clock : KeepsClock (life_of base.history) s.clock from machine facts
  pub floor : KeepsFloor settings base above machine facts
  pub apart : KeepsApart settings base above machine facts
  pub state : KeepsState settings base above s.state from machine facts

-- the machine at which a log begins, with the life of another
abbrev pub at_life : Machine → History → Machine
at_life begin history = record begin { history = history }

-- what is kept: times are known from a life on, at which they were forgotten last, if no load took effect since; and no more
-- excuses were used than loads had taken effect then
pub record KeepsTimed (settings : Settings) (begin : Machine) (above : Option ℕ) (s : TimeState) (from : Life) (machine : Machine) (facts : ContentFacts) : Type 0 where
  pub always : Always settings machine facts
  pub asked_clock : IsAsked s.clock.asked from machine
  pub asked_state : IsAsked s.state.asked from machine
  pub recorded : end_at settings (life_of machine.history) machine.round ≤ length (log_of from)
  pub base : History
  pub since : GoesOn (life_of begin.history) (life_of base)
  pub upto : GoesOn (life_of base) from
  pub has : HasExcuses (loads_of (life_of begin.history) + s.sent) (loads_of (life_of base)) facts.excuses
  pub timed : IsSteady (life_of base) (life_of machine.history) → Timed settings (at_life begin base) above s from machine facts

-- where nothing is known of times, that is so from any life on
pub timeless_timed : (settings : Settings) (base : Machine) (above : Option ℕ) (s : TimeState) (from : Life) (machine : Machine) (facts : ContentFacts) → IsTimeless facts
    → Always settings machine facts → end_at settings (life_of machine.history) machine.round ≤ length (log_of from) → Timed settings base above s from machine facts
timeless_timed settings base above s from machine facts t always recorded = grind (arith, nat_tests)

pub goes_on-command : (before now : Life) (command : Option Command) → GoesOn before now → GoesOn before (life_after_command command now)
goes_on-command before now None g = g
goes_on-command before now (Some command) g = goes_on-more before now (Commanded command) g

-- a machine after an event past the bus
pub past_life : (settings : Settings) (first : ℕ) (machine : Machine) (event : Event) → IsPastBus event → GoesOn (life_of machine.history) (life_of (after settings first machine event).history)
past_life settings first machine event past = grind (arith, nat_tests, past_cases, life_of, after, goes_on-more, goes_on-same)

pub no_loads_past : (event : Event) → IsPastBus event → loads_sent event ≡ 0
no_loads_past event past = grind arith
