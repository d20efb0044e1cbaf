-- The lines of a script after the first: one event each.
use Rattle.std.specs.Prelude.{◌≡◌, ◌≢◌, ℕ, Bool, List, Option, Some, None, Result, Ok, Err, option_map, option_and_then, codes, refl}
use Rattle.std.specs.Bool.{then_some}
use Rattle.std.specs.Option.{option_map_or, ok_or}
use Rattle.fio_message.specs.Decoding.{command_in, decoded_command}
use Rattle.fio_message.specs.declared.commands.Command.{Command}
use Rattle.fio_message.specs.declared.faults.DecodeError.{DecodeError}
use Rattle.fio_link.specs.declared.event.Event.{Event}
use Rattle.fio_link.specs.declared.event.Event.TheVariants.{Scan, LineSync, Raise, Poll, Send, ToModule, ToCpu, Restart}
use Rattle.fio_world.specs.declared.script.ScriptError.{ScriptError}
use Rattle.fio_world.specs.declared.script.ScriptError.TheVariants.{TooManyEvents, BadLine, BadFrame}
use Rattle.fio_world.specs.Forms.{exactly, begins}
use Rattle.fio_text.specs.Hexadecimal.{octets_in, octet_of, inputs_of}
use Rattle.fio_text.specs.Words.{after_prefix, number_in}

-- the event of a line that delivers a frame
abbrev pub delivery_in : List ℕ → Option Event
delivery_in line =
    begins (codes "to-module ") (λ word. option_map ToModule (number_in word)) line
    (begins (codes "to-cpu ") (λ word. option_map ToCpu (number_in word)) line None)

-- the event of a line that has a value after its first word, and sends no command
abbrev pub event_with_value : List ℕ → Option Event
event_with_value line =
    begins (codes "scan ") (λ word. option_map Scan (inputs_of word)) line
    (begins (codes "raise ") (λ word. option_map Raise (octet_of word)) line
    (delivery_in line))

-- the event of a line that sends no command; whether the module may restart is given
abbrev pub plain_event : Bool → List ℕ → Option Event
plain_event restarts line =
    exactly (codes "sync") (Some LineSync) line
    (exactly (codes "poll") (Some Poll) line
    (exactly (codes "restart") (then_some restarts Restart) line
    (event_with_value line)))

-- the command that the word after `send` denotes, if its octets encode one
abbrev pub command_named : List ℕ → Option Command
command_named word = option_and_then command_in (octets_in word)

-- the command of an option that is not None
abbrev pub command_found : (found : Option Command) → found ≢ None → Command
command_found None is_one = absurd (is_one refl)
command_found (Some command) is_one = command

-- the event that sends this command, or the fault of its frame
abbrev pub sending_at : ℕ → Result Command DecodeError → Result Event ScriptError
sending_at number (Ok command) = Ok (Send command)
sending_at number (Err fault) = Err (BadFrame number fault)

-- the event that sends the frame of these octets; a word that denotes no octets makes a bad line
abbrev pub frame_at : ℕ → Option (List ℕ) → Result Event ScriptError
frame_at number None = Err (BadLine number)
frame_at number (Some octets) = sending_at number (decoded_command octets)

-- the event of the line with this number, or its fault
abbrev pub event_at : Bool → ℕ × List ℕ → Result Event ScriptError
event_at restarts line =
    option_map_or (λ word. frame_at line.0 (octets_in word)) (after_prefix (codes "send ") line.1)
    (ok_or (plain_event restarts line.1) (BadLine line.0))

-- a line is read as this event, whatever its number
abbrev pub IsReadAs : Bool → List ℕ → Event → Type 0
IsReadAs restarts line event = (number : ℕ) → event_at restarts (number, line) ≡ Ok event

-- the fault of a line that comes after the most events that a script may have
abbrev pub too_many_at : ℕ × List ℕ → Result Event ScriptError
too_many_at line = Err (TooManyEvents line.0)
