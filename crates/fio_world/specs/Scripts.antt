-- Scripts: the first line is a header, and each further line that has content is an event.
use Rattle.std.specs.Prelude.{◌≡◌, ◌≢◌, ℕ, Bool, List, [], ◌∷◌, ◌++◌, map, take, drop, Option, Some, None, Result, Ok, Err}
use Rattle.fio_module.specs.Limits.{Limits}
use Rattle.fio_module.specs.Settings.{Settings, settings_with}
use Rattle.fio_link.specs.declared.event.Event.{Event}
use Rattle.fio_world.specs.declared.script.Script.{Script}
use Rattle.fio_world.specs.declared.script.ScriptError.{ScriptError}
use Rattle.fio_world.specs.declared.script.ScriptError.TheVariants.{BadHeader}
use Rattle.fio_text.specs.FirstFaults.{values_or_fault}
use Rattle.fio_world.specs.EventLines.{event_at, too_many_at}
use Rattle.fio_world.specs.Headers.{header_of}
use Rattle.fio_world.specs.declared.script.header.Header.{Header}
use Rattle.fio_text.specs.Lines.{lines_of, numbered}
use Rattle.fio_world.specs.declared.script.events.TheConstants.{MAX_EVENTS}

-- what a module and a CPU are made with, and what happens then
pub record Scenario : Type 0 where
  pub settings : Settings
  pub first : ℕ
  pub events : List Event

-- how each of these numbered lines reads, if at most `most` may be events
abbrev pub readings : ℕ → Bool → List (ℕ × List ℕ) → List (Result Event ScriptError)
readings most restarts lines =
    map (event_at restarts) (take most lines) ++ map too_many_at (drop most lines)

-- the events of the lines after a header, 10,000 at most, or the fault of the first faulty line
abbrev pub script_events : Bool → List (List ℕ) → Result (List Event) ScriptError
script_events restarts lines = values_or_fault (readings MAX_EVENTS restarts (numbered 2 lines))

-- the scenario of a module with this identification and these limits, a CPU with this first number, and these events
abbrev pub scenario_with : ℕ → ℕ → Limits → List Event → Scenario
scenario_with id first limits events = record {
  settings = settings_with id limits;
  first = first;
  events = events;
}

-- the scenario of a header and the events after it
abbrev pub scenario_below : Header → List Event → Scenario
scenario_below header events = scenario_with header.id header.first header.limits events

-- the script with this header and these events, or the fault of the first faulty line of events
abbrev pub with_events : Header → Result (List Event) ScriptError → Result Scenario ScriptError
with_events header (Ok events) = Ok (scenario_below header events)
with_events header (Err fault) = Err fault

-- the script of this header and the lines after it, if they are one
abbrev pub below : Option Header → List (List ℕ) → Result Scenario ScriptError
below None lines = Err BadHeader
below (Some header) lines = with_events header (script_events header.restarts lines)

-- the script of lines: a header, and events after it
abbrev pub scenario_in : List (List ℕ) → Result Scenario ScriptError
scenario_in [] = Err BadHeader
scenario_in (header ∷ lines) = below (header_of header) lines

-- the script of a text, or the fault of its first faulty line
abbrev pub script_in : List ℕ → Result Scenario ScriptError
script_in text = scenario_in (lines_of text)

-- The first of these lines, up to some event, are a script: memory can run out only after such lines.
abbrev pub HasGoodFront : List (List ℕ) → Type 0
HasGoodFront lines =
    (count : ℕ) × (scenario : Scenario) × (scenario_in (take count lines) ≡ Ok scenario)
    × (scenario.events ≢ [])

-- the first of these lines, after a header, up to some event are events
abbrev pub HaveGoodFront : Bool → List (List ℕ) → Type 0
HaveGoodFront restarts lines =
    (count : ℕ) × (events : List Event) × (script_events restarts (take count lines) ≡ Ok events)
    × (events ≢ [])

-- the scenario of a script, wherever its events lie in memory
abbrev pub scenario_of : Script → Scenario
scenario_of script = scenario_with script.id script.first script.limits script.events.items

-- a text is a script
abbrev pub IsScript : List ℕ → Type 0
IsScript text = (scenario : Scenario) × (script_in text ≡ Ok scenario)
