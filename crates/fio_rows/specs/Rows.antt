-- What lines say together: a state, and what one line does to it.
use Rattle.std.specs.Prelude.{ℕ, ◌&&◌, ◌||◌, nat_le, not, Bool, true, false, if◌then◌else◌, List, length, Option}
use Rattle.fio_form.specs.Bare.{is_cut_short}
use Rattle.fio_form.specs.Reading.{octets_between}
use Rattle.fio_form.specs.Wholes.{held_of, whole_of}
use Rattle.fio_form.specs.declared.form.LineForm.{LineForm}
use Rattle.fio_form.specs.declared.octets.TheConstants.{OCTETS}
use Rattle.fio_form.specs.declared.reading.Whole.{Whole}
use Rattle.fio_form.specs.declared.reading.Whole.TheVariants as wholes
use Rattle.fio_rows.specs.GoingOn.{is_full, may_go_on}
use Rattle.fio_rows.specs.declared.saying.Open.{Open}
use Rattle.fio_rows.specs.declared.saying.Open.TheVariants.{Nothing, Begun}
use Rattle.fio_rows.specs.declared.saying.Open.TheVariants as opens
use Rattle.fio_rows.specs.declared.rows.Reading.{Reading}
use Rattle.fio_rows.specs.declared.said.Said.{Said}
use Rattle.fio_rows.specs.declared.said.Said.TheVariants.{Frame, Part, Idle, Damaged, Other}
use Rattle.fio_rows.specs.declared.said.Said.TheVariants as said

-- what is known after a line
pub record Rows : Type 0 where
  -- what the line says
  pub said : Said
  -- whether a message is open, and its form, by its index
  pub pending : Open
  pub form : ℕ
  -- the offset of the row that goes on with it
  pub next : Option ℕ
  -- the octets of its rows; those of the line, if none is open
  pub octets : List ℕ
  -- the message that was said last
  pub message : List ℕ

-- what a reader knows after a line
abbrev pub rows_of : Said → Reading → Rows
rows_of said reading = record { said = said; pending = reading.pending; form = reading.form; next = reading.next; octets = reading.octets.items; message = reading.message.items }

-- what a reader knows before a line
abbrev pub state_of : Reading → Rows
state_of reading = rows_of Other reading

-- ---- What the octets of some rows say

-- what octets are, before a tail: damaged if the logger left some out, or they are too many
unfoldable pub whole_before : LineForm → List ℕ → List ℕ → Whole
whole_before form octets tail = if nat_le OCTETS (length octets) || is_cut_short tail then wholes.Damaged else whole_of form octets

-- the octets that have the message: those that a frame of the wire holds, or those of the form
unfoldable pub octets_with : LineForm → List ℕ → List ℕ
octets_with form octets = held_of form octets

-- what a line says with which octets are a whole, of which `row` are in it
abbrev pub said_by_whole : LineForm → ℕ → List ℕ → Whole → Said
said_by_whole form row tail (wholes.Message start end) = Frame
said_by_whole form row tail (wholes.Any start end) = if is_full form row tail then Part else Frame
said_by_whole form row tail wholes.Lacking = if may_go_on form row tail then Part else Damaged
said_by_whole form row tail wholes.Idle = if not form.is_framed && may_go_on form row tail then Part else Idle
said_by_whole form row tail wholes.Damaged = Damaged

-- what is open if a message goes on
abbrev pub open_by : Whole → Open
open_by (wholes.Any start end) = opens.Whole
open_by _ = Begun

-- whether a line says octets of a message that may go on
abbrev pub says_part : Said → Bool
says_part Part = true
says_part _ = false

-- what is open after a line
abbrev pub open_after : Said → Whole → Open
open_after line whole = if says_part line then open_by whole else Nothing

-- the message that octets have; the one above, if they have none
abbrev pub message_by : Whole → List ℕ → List ℕ → List ℕ
message_by (wholes.Message start end) octets above = octets_between start end octets
message_by (wholes.Any start end) octets above = octets_between start end octets
message_by _ octets above = above

-- what is said of the octets down to a row, by what they are
abbrev pub say_whole : LineForm → ℕ → List ℕ → Rows → Whole → Rows
say_whole form row tail state whole = record state {
  said = said_by_whole form row tail whole;
  pending = open_after (said_by_whole form row tail whole) whole;
  message = message_by whole (octets_with form state.octets) state.message;
}

-- a line with which the octets are there that are there now, of which `row` are in it
unfoldable pub say : LineForm → ℕ → List ℕ → Rows → Rows
say form row tail state = say_whole form row tail state (whole_before form state.octets tail)

-- a line that says no message, after which none is open
abbrev pub say_none : Said → Rows → Rows
say_none line state = record state { said = line; pending = Nothing }
