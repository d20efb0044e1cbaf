-- The message that a view shows. Its items, entries and body stay in the octets that the view borrows.
use Rattle.std.specs.Prelude.{ℕ, List, Result, Ok, Err}
use Rattle.fio_message.specs.declared.fields.InputItem.{InputItem}
use Rattle.fio_message.specs.declared.fields.Entry.{Entry}
use Rattle.fio_message.specs.declared.limits.TheConstants.{BLOCK_ENTRIES, CONFIGURATION_ITEMS}
use Rattle.fio_message.specs.declared.parts.PartsView.{PartsView}
use Rattle.fio_message.specs.declared.body.BodyView.{BodyView}
use Rattle.fio_message.specs.declared.commands.Command.{Command}
use Rattle.fio_message.specs.declared.commands.Command.TheVariants as commands
use Rattle.fio_message.specs.declared.command_view.CommandView.{CommandView}
use Rattle.fio_message.specs.declared.command_view.CommandView.TheVariants as command_views
use Rattle.fio_message.specs.declared.answers.Answer.{Answer}
use Rattle.fio_message.specs.declared.answers.Answer.TheVariants as answers
use Rattle.fio_message.specs.declared.answer_view.AnswerView.{AnswerView}
use Rattle.fio_message.specs.declared.answer_view.AnswerView.TheVariants as answer_views
use Rattle.fio_message.specs.declared.faults.DecodeError.{DecodeError}
use Rattle.fio_message.specs.Blocks.{entries_in}
use Rattle.fio_message.specs.Reading.{items_in}

-- the view of the items of a configuration
abbrev pub ItemsView : Type 0
ItemsView = PartsView InputItem CONFIGURATION_ITEMS

-- the view of the entries of a block answer
abbrev pub EntriesView : Type 0
EntriesView = PartsView Entry BLOCK_ENTRIES

-- the items of a configuration, in order
abbrev pub items_of : ItemsView → List InputItem
items_of view = items_in view.octets.now

-- the entries of a block answer, in order
abbrev pub entries_of : EntriesView → List Entry
entries_of view = entries_in view.octets.now

-- the octets after the type of a message of which only the body is read
abbrev pub body_of : BodyView → List ℕ
body_of view = view.octets.now

-- the command that a view shows
abbrev pub command_of : CommandView → Command
command_of (command_views.Status clear) = commands.Status clear
command_of (command_views.LoadCounter load) = commands.LoadCounter load
command_of (command_views.ConfigureInputs items) =
    commands.ConfigureInputs (record { items = items_of items })
command_of command_views.RawInputs = commands.RawInputs
command_of command_views.FilteredInputs = commands.FilteredInputs
command_of (command_views.Poll block) = commands.Poll block
command_of (command_views.SetOutputs levels controls) =
    commands.SetOutputs levels.now controls.now
command_of (command_views.Watchdog timeout) = commands.Watchdog timeout
command_of command_views.Identify = commands.Identify
command_of (command_views.Other kind body) =
    commands.Other kind (record { items = body_of body })

-- the answer that a view shows
abbrev pub answer_of : AnswerView → Answer
answer_of (answer_views.Status flags receive_errors transmit_errors stamp) =
    answers.Status flags receive_errors transmit_errors stamp
answer_of (answer_views.LoadCounter status) = answers.LoadCounter status
answer_of (answer_views.ConfigureInputs status) = answers.ConfigureInputs status
answer_of (answer_views.RawInputs inputs stamp) = answers.RawInputs inputs stamp
answer_of (answer_views.FilteredInputs inputs stamp) = answers.FilteredInputs inputs stamp
answer_of (answer_views.Block block entries status stamp) =
    answers.Block block (record { items = entries_of entries }) status stamp
answer_of (answer_views.Watchdog status) = answers.Watchdog status
answer_of (answer_views.Other kind body) = answers.Other kind (record { items = body_of body })

-- what a reader of commands returns: the command that its view shows, or the fault
abbrev pub command_read : Result CommandView DecodeError → Result Command DecodeError
command_read (Ok view) = Ok (command_of view)
command_read (Err fault) = Err fault

-- what a reader of answers returns: the answer that its view shows, or the fault
abbrev pub answer_read : Result AnswerView DecodeError → Result Answer DecodeError
answer_read (Ok view) = Ok (answer_of view)
answer_read (Err fault) = Err fault
