-- Steps of a script, and the events that they represent.
use Rattle.std.specs.Prelude.{Result, Ok, Err}
use Rattle.fio_message.specs.declared.commands.Command.{Command}
use Rattle.fio_link.specs.declared.event.Event.{Event}
use Rattle.fio_link.specs.declared.event.Event.TheVariants as events
use Rattle.fio_world.specs.declared.script.ScriptError.{ScriptError}
use Rattle.fio_world.specs.EventLines.{command_found, command_named}
use Rattle.fio_world.specs.declared.script.command_word.CommandWord.{CommandWord}
use Rattle.fio_world.specs.declared.script.steps.ScriptStep.{ScriptStep}
use Rattle.fio_world.specs.declared.script.steps.ScriptStep.TheVariants as steps

-- the command that a word denotes
abbrev pub command_in_word : CommandWord → Command
command_in_word word = command_found (command_named word.word.now) word.is_command

-- the event that a step represents
abbrev pub event_of : ScriptStep → Event
event_of (steps.Scan raw) = events.Scan raw
event_of steps.LineSync = events.LineSync
event_of (steps.Raise mask) = events.Raise mask
event_of steps.Poll = events.Poll
event_of (steps.Send word) = events.Send (command_in_word word)
event_of (steps.ToModule index) = events.ToModule index
event_of (steps.ToCpu index) = events.ToCpu index
event_of steps.Restart = events.Restart

-- the event of the step that a line is read as, or the fault of the line
abbrev pub event_read : Result ScriptStep ScriptError → Result Event ScriptError
event_read (Ok step) = Ok (event_of step)
event_read (Err fault) = Err fault
