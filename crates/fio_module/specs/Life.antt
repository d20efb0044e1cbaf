-- What has happened to a module. Histories and lives are newest first.
use Rattle.std.specs.Prelude.{ℕ, List, [], ◌∷◌, Option, Some, None}
use Rattle.fio_message.specs.declared.commands.Command.{Command}
use Rattle.fio_message.specs.declared.commands.Command.TheVariants.{LoadCounter, ConfigureInputs}
use Rattle.fio_message.specs.Decoding.{command_in}
use Rattle.fio_input.specs.Counter as counting
use Rattle.fio_input.specs.FilterHistory as filtering

-- what reaches a module from outside: a scan with the raw levels of all inputs, a line sync (LINESYNC goes from 0 to 1),
-- status flags that are raised, the octets of a frame, a restart
pub data Event : Type 0 where
  Scan : (raw : ℕ) → Event
  LineSync : Event
  Raise : (mask : ℕ) → Event
  Received : (octets : List ℕ) → Event
  Restart : Event

-- all that has reached a module since it was made, newest first
abbrev pub History : Type 0
History = List Event

-- what happened to it: here a frame appears as the command that it encodes
pub data Occurrence : Type 0 where
  Scanned : (raw : ℕ) → Occurrence
  LineSynced : Occurrence
  Raised : (mask : ℕ) → Occurrence
  Commanded : (command : Command) → Occurrence

-- what has happened since the module's latest start
abbrev pub Life : Type 0
Life = List Occurrence

-- the life after a command, if there is one: octets that encode no command change nothing
abbrev pub life_after_command : Option Command → Life → Life
life_after_command None life = life
life_after_command (Some command) life = Commanded command ∷ life

-- the present life in a history: a restart begins a new one
abbrev pub life_of : History → Life
life_of [] = []
life_of (Scan raw ∷ history) = Scanned raw ∷ life_of history
life_of (LineSync ∷ history) = LineSynced ∷ life_of history
life_of (Raise mask ∷ history) = Raised mask ∷ life_of history
life_of (Received octets ∷ history) = life_after_command (command_in octets) (life_of history)
life_of (Restart ∷ history) = []

-- the events of a life that concern the counter: each scan ticks it
abbrev pub counter_events : Life → List counting.CounterEvent
counter_events [] = []
counter_events (Scanned raw ∷ life) = counting.Tick ∷ counter_events life
counter_events (LineSynced ∷ life) = counting.LineSync ∷ counter_events life
counter_events (Commanded (LoadCounter load) ∷ life) = counting.AskLoad load ∷ counter_events life
counter_events (other ∷ life) = counter_events life

-- the counter after a life
abbrev pub counter_of : Life → ℕ
counter_of life = counting.counter (counter_events life)

-- how many scans a life has
abbrev pub scans_of : Life → ℕ
scans_of life = counting.ticks_in (counter_events life)

-- how many line syncs in a life loaded the counter
abbrev pub loads_of : Life → ℕ
loads_of life = counting.loads_in (counter_events life)

-- the events of a life that concern the filters
abbrev pub filter_events : Life → List filtering.FilterEvent
filter_events [] = []
filter_events (Scanned raw ∷ life) = filtering.Scan raw ∷ filter_events life
filter_events (Commanded (ConfigureInputs items) ∷ life) =
    filtering.Configure items.items ∷ filter_events life
filter_events (other ∷ life) = filter_events life
