-- The transition log: all transitions of a life, oldest first.
use Rattle.std.specs.Prelude.{ℕ, zero, suc, ◌%◌, ◌^◌, Bool, List, [], ◌∷◌, ◌++◌, if◌then◌else◌}
use Rattle.fio_message.specs.declared.fields.Entry.{Entry}
use Rattle.fio_input.specs.FilterHistory.{is_reported, input_state}
use Rattle.fio_module.specs.Life.{Scan, History, Scanned, Life, life_of, counter_of, scans_of, loads_of, filter_events}
use Rattle.fio_message.specs.declared.limits.TheConstants.{INPUTS}

-- a change of an input's filtered state: the state after it; the counter at its scan, already stepped; and the numbers of
-- scans, including this one, and of loads of the counter up to then
pub record Transition : Type 0 where
  pub input : ℕ
  pub level : Bool
  pub counter : ℕ
  pub scans : ℕ
  pub loads : ℕ

-- a transition as a block carries it
abbrev pub entry_of : Transition → Entry
entry_of transition =
    record {
      input = transition.input;
      level = transition.level;
      stamp = transition.counter % 2 ^ 16;
    }

-- the transition of an input at a scan that ends this life
abbrev pub transition_at : Life → ℕ → Transition
transition_at life input =
    record {
      input = input;
      level = input_state input (filter_events life);
      counter = counter_of life;
      scans = scans_of life;
      loads = loads_of life;
    }

-- the transitions of a scan after a life, those of the inputs below a number, in ascending order
unfoldable pub transitions_below : ℕ → ℕ → Life → List Transition
transitions_below zero raw life = []
transitions_below (suc input) raw life =
    transitions_below input raw life
    ++ (if is_reported input raw (filter_events life)
    then transition_at (Scanned raw ∷ life) input ∷ []
    else [])

-- the transition log of a life
abbrev pub log_of : Life → List Transition
log_of [] = []
log_of (Scanned raw ∷ life) = log_of life ++ transitions_below INPUTS raw life
log_of (other ∷ life) = log_of life

-- the transition logs of all lives of a history, joined
abbrev pub whole_log : History → List Transition
whole_log [] = []
whole_log (Scan raw ∷ history) = whole_log history ++ transitions_below INPUTS raw (life_of history)
whole_log (other ∷ history) = whole_log history
