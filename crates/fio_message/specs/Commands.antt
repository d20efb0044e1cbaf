-- What each command spells: its octets are its type, 49 to 60, and its fields in order (TEES 2009; the lengths are own
-- profile: this project's choice for 64 inputs and outputs).
use Rattle.std.specs.Prelude.{◌≡◌, ℕ, ◌+◌, ◌*◌, ◌<◌, ◌≤◌, ◌^◌, List, [], ◌∷◌, ◌++◌, length, Option, Some, None, if◌then◌else◌, ◌==◌, slice_index_or}
use Rattle.std.specs.List.{AllByRecursion, flat_map}
use Rattle.std.specs.Int.{w32, to_be_bytes}
use Rattle.fio_message.specs.Octets.{IsOctet, IsOctets, IsEight, IsItem, item_octets}
use Rattle.fio_message.specs.declared.commands.Command.{Command}
use Rattle.fio_message.specs.declared.commands.Command.TheVariants.{Status, LoadCounter, ConfigureInputs, RawInputs, FilteredInputs, Poll, SetOutputs, Watchdog, Identify, Other}
use Rattle.fio_message.specs.declared.commands.OtherCommand.{OtherCommand}
use Rattle.fio_message.specs.declared.commands.OtherCommand.TheVariants.{TrackInputs, ComplexOutputs, ControllerId}
use Rattle.fio_message.specs.declared.types.TheConstants.{STATUS, LOAD_COUNTER, CONFIGURE_INPUTS, RAW_INPUTS, FILTERED_INPUTS, POLL, SET_OUTPUTS, TRACK_INPUTS, COMPLEX_OUTPUTS, WATCHDOG, CONTROLLER_ID, IDENTIFY}
use Rattle.fio_message.specs.declared.limits.TheConstants.{BODY_OCTETS, CONFIGURATION_ITEMS}

-- the type of a command that has only a body
abbrev pub other_command_code : OtherCommand → ℕ
other_command_code TrackInputs = TRACK_INPUTS
other_command_code ComplexOutputs = COMPLEX_OUTPUTS
other_command_code ControllerId = CONTROLLER_ID

-- which command with only a body has this type, if any
abbrev pub other_command_of : ℕ → Option OtherCommand
other_command_of code =
    if code == TRACK_INPUTS then Some TrackInputs
    else (if code == COMPLEX_OUTPUTS then Some ComplexOutputs
    else (if code == CONTROLLER_ID then Some ControllerId else None))

-- the type of a command, its first octet
abbrev pub command_code : Command → ℕ
command_code (Status _) = STATUS
command_code (LoadCounter _) = LOAD_COUNTER
command_code (ConfigureInputs _) = CONFIGURE_INPUTS
command_code RawInputs = RAW_INPUTS
command_code FilteredInputs = FILTERED_INPUTS
command_code (Poll _) = POLL
command_code (SetOutputs _ _) = SET_OUTPUTS
command_code (Watchdog _) = WATCHDOG
command_code Identify = IDENTIFY
command_code (Other kind _) = other_command_code kind

-- The octets after the type: a number most significant octet first, a count before its items, the data octets of the outputs
-- before the control octets, a body as it is. The flags to clear have the bit positions of the flags of an answer: from bit
-- 7 down P, E, K, R, T, M, L and W (own profile).
abbrev pub command_fields : Command → List ℕ
command_fields (Status clear) = clear ∷ []
command_fields (LoadCounter load) = to_be_bytes w32 load
command_fields (ConfigureInputs items) = length items.items ∷ flat_map item_octets items.items
command_fields RawInputs = []
command_fields FilteredInputs = []
command_fields (Poll block) = block ∷ []
command_fields (SetOutputs levels controls) = levels ++ controls
command_fields (Watchdog timeout) = timeout ∷ []
command_fields Identify = []
command_fields (Other _ body) = body.items

-- all octets of a command
abbrev pub command_octets : Command → List ℕ
command_octets command = command_code command ∷ command_fields command

-- The numbers and lists of a command are within the ranges of their types: an octet is below 256, a number to load is below
-- 2^32, there are at most 255 items, and a body has at most 772 octets.
abbrev pub IsCommand : Command → Type 0
IsCommand (Status clear) = IsOctet clear
IsCommand (LoadCounter load) = load < 2 ^ 32
IsCommand (ConfigureInputs items) = (length items.items ≤ CONFIGURATION_ITEMS) × AllByRecursion IsItem items.items
IsCommand RawInputs = Unit {0}
IsCommand FilteredInputs = Unit {0}
IsCommand (Poll block) = IsOctet block
IsCommand (SetOutputs levels controls) = IsEight levels × IsEight controls
IsCommand (Watchdog timeout) = IsOctet timeout
IsCommand Identify = Unit {0}
IsCommand (Other _ body) = (length body.items ≤ BODY_OCTETS) × IsOctets body.items

-- The command spells the octets: it is within its ranges, and they are its type and its fields.
pub record SpellsCommand (command : Command) (octets : List ℕ) : Type 0 where
  pub within : IsCommand command
  pub spelled : octets ≡ command_octets command

-- how many octets a command with this first octet and this count has, or None if no command has this type. If the octet of
-- the count is missing, the count is taken as 0. A command that has only a body may have any length.
abbrev pub command_length : List ℕ → Option ℕ
command_length [] = None
command_length (code ∷ fields) =
    if code == STATUS then Some 2
    else (if code == LOAD_COUNTER then Some 5
    else (if code == CONFIGURE_INPUTS then Some (2 + 3 * slice_index_or fields 0 0)
    else (if code == RAW_INPUTS then Some 1
    else (if code == FILTERED_INPUTS then Some 1
    else (if code == POLL then Some 2
    else (if code == SET_OUTPUTS then Some 17
    else (if code == TRACK_INPUTS then Some (1 + length fields)
    else (if code == COMPLEX_OUTPUTS then Some (1 + length fields)
    else (if code == WATCHDOG then Some 2
    else (if code == CONTROLLER_ID then Some (1 + length fields)
    else (if code == IDENTIFY then Some 1 else None)))))))))))
