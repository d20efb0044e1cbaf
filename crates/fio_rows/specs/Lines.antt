-- What one line does to what is known.
use Rattle.std.specs.Prelude.{ℕ, ◌+◌, ◌^◌, ◌==◌, ◌&&◌, ◌||◌, nat_lt, nat_le, not, Bool, true, false, if◌then◌else◌, List, [], ◌∷◌, ◌++◌, length, drop, take, Option, Some, None, option_and_then, unwrap_or, slice_get}
use Rattle.fio_form.specs.Messages.{size_of}
use Rattle.fio_form.specs.Fronts.{front_digits, number_of_digits}
use Rattle.fio_form.specs.Bare.{bare_octets}
use Rattle.fio_form.specs.Reading.{front_text, octets_found, swapped}
use Rattle.fio_form.specs.declared.form.LineForm.{LineForm}
use Rattle.fio_form.specs.declared.form.LineRows.{LineRows}
use Rattle.fio_form.specs.declared.form.LineRows.TheVariants as rows
use Rattle.fio_form.specs.declared.message.Size.{Size}
use Rattle.fio_form.specs.declared.message.Size.TheVariants as sizes
use Rattle.fio_form.specs.declared.octets.TheConstants.{OCTETS}
use Rattle.fio_rows.specs.Rows.{Rows, say, say_none}
use Rattle.fio_rows.specs.declared.saying.Open.{Open}
use Rattle.fio_rows.specs.declared.saying.Open.TheVariants.{Nothing, Begun}
use Rattle.fio_rows.specs.declared.saying.Open.TheVariants as opens
use Rattle.fio_rows.specs.declared.said.Said.{Said}
use Rattle.fio_rows.specs.declared.said.Said.TheVariants.{Frame, Stray, Damaged, Other}
use Rattle.fio_rows.specs.declared.said.Said.TheVariants as said

-- ---- A line that begins

-- whether there are no octets
abbrev pub are_none : List ℕ → Bool
are_none [] = true
are_none (octet ∷ octets) = false

-- whether a form has a line
unfoldable pub has : LineForm → List ℕ → Bool
has form line = not (are_none (octets_found form line))

-- the octets that a form has in a line, in their order; those that there is no room for are left out
unfoldable pub row_of : LineForm → List ℕ → List ℕ
row_of form line = swapped form.is_swapped (take OCTETS (octets_found form line))

-- the text of a line from the front on
unfoldable pub text_from_front : LineForm → List ℕ → List ℕ
text_from_front form line = front_text form line

-- the offset of a row, if its form has one, by the text of the line from the front on
abbrev pub offset_in : LineRows → LineForm → List ℕ → Option ℕ
offset_in (rows.Offset number base width begins_at_zero) form text =
    option_and_then (number_of_digits base) (front_digits form.values.items form.front.items number text)
offset_in _ form text = None

-- the offset of a row
unfoldable pub offset_of : LineForm → List ℕ → Option ℕ
offset_of form line = offset_in form.rows form (text_from_front form line)

-- the offset after this many octets, if it has 64 bits
abbrev pub offset_after : Option ℕ → ℕ → Option ℕ
offset_after None count = None
offset_after (Some offset) count = if nat_lt (offset + count) (2 ^ 64) then Some (offset + count) else None

-- whether a row of a dump that begins at 0 has another offset
abbrev pub is_stray : LineRows → ℕ → Bool
is_stray (rows.Offset number base width begins_at_zero) offset = begins_at_zero && not (offset == 0)
is_stray _ offset = false

-- whether the octets of all lines are one stream
abbrev pub is_stream : LineRows → Bool
is_stream rows.Stream = true
is_stream rows.Flags = true
is_stream _ = false

-- a line of a form whose octets are there, with this offset
abbrev pub begun_with : LineForm → ℕ → List ℕ → Rows → Rows
begun_with form offset tail state =
    if is_stream form.rows then say_none (if nat_le OCTETS (length state.octets) then Damaged else said.Stream) state
    else (if is_stray form.rows offset then say_none Stray state
    else say form (length state.octets) tail state)

-- a line of a form that begins
unfoldable pub begun_line : ℕ → LineForm → List ℕ → List ℕ → Rows → Rows
begun_line at form line tail state = begun_with form (unwrap_or (offset_of form line) 0) tail (record state {
  form = at;
  next = offset_after (Some (unwrap_or (offset_of form line) 0)) (length (row_of form line));
  octets = row_of form line;
})

-- a line that begins, by the first form that has it, of those from an index on
unfoldable pub first_line_in : ℕ → List LineForm → List ℕ → List ℕ → Rows → Rows
first_line_in at [] line tail state = say_none Other state
first_line_in at (form ∷ forms) line tail state =
    if has form line then begun_line at form line tail state else first_line_in (at + 1) forms line tail state

-- a line as if the log began there
abbrev pub first : List LineForm → List ℕ → List ℕ → Rows → Rows
first forms line tail state = first_line_in 0 forms line tail (record state { octets = [] })

-- ---- A line that goes on

-- whether each row but the first is nothing but octets
abbrev pub has_bare_rows : LineRows → Bool
has_bare_rows rows.Bare = true
has_bare_rows _ = false

-- whether each row has an offset
abbrev pub has_offset : LineRows → Bool
has_offset (rows.Offset number base width begins_at_zero) = true
has_offset _ = false

-- the octets of a row that goes on, as they are written
abbrev pub next_octets : LineForm → List ℕ → List ℕ
next_octets form line = if has_bare_rows form.rows then bare_octets form line else octets_found form line

-- whether a line has octets of a row that goes on
unfoldable pub has_next : LineForm → List ℕ → Bool
has_next form line = not (are_none (next_octets form line))

-- the octets of a row that goes on, in their order; those that there is no room for are left out
unfoldable pub next_row : LineForm → List ℕ → List ℕ
next_row form line = swapped form.is_swapped (take OCTETS (next_octets form line))

-- whether an offset is the one that is next
abbrev pub is_next : Option ℕ → Option ℕ → Bool
is_next None offset = false
is_next (Some next) None = false
is_next (Some next) (Some offset) = offset == next

-- whether a line may be a row that goes on with an open message
unfoldable pub is_row : LineForm → Option ℕ → List ℕ → Bool
is_row form next line =
    has_next form line && (not (has_offset form.rows) || is_next next (offset_of form line))

-- whether a size is known
abbrev pub is_known : Size → Bool
is_known (sizes.Known size) = true
is_known sizes.Unknown = false
is_known sizes.Any = false
is_known sizes.None = false

-- whether the octets of a row are the size of a message that they begin
abbrev pub is_size : Size → ℕ → Bool
is_size (sizes.Known size) count = size == count
is_size _ count = false

-- whether a row that goes on may be a message by itself
abbrev pub is_own_message : LineForm → List ℕ → Bool
is_own_message form row = not (has_offset form.rows) && nat_lt 1 (length row) && is_size (size_of row) (length row)

-- whether the octets above a row say how long the message is: by themselves, or since a frame of the wire has a check
abbrev pub says_length : LineForm → List ℕ → Bool
says_length form above = form.is_framed || nat_lt form.before (length above) && is_known (size_of (drop form.before above))

-- whether a row below octets may be a message by itself: those that say where the message ends win
abbrev pub is_own_row : LineForm → List ℕ → List ℕ → Bool
is_own_row form above row = not (says_length form above) && is_own_message form row

-- what a row says that ends a message: if it may be one by itself, it is not known whether it does
abbrev pub said_unless : Bool → Said → Said
said_unless own Frame = if own then Damaged else Frame
said_unless own other = other

-- what is known after a row that goes on: it is damaged if it may be a message by itself
abbrev pub unless_own : Bool → Rows → Rows
unless_own own state = record state { said = said_unless own state.said }

-- a row that is added to the octets
unfoldable pub added : LineForm → List ℕ → List ℕ → Rows → Rows
added form row tail state =
    if nat_lt OCTETS (length state.octets + length row)
    then say_none Damaged (record state { next = offset_after state.next (length row) })
    else unless_own (is_own_row form state.octets row) (say form (length row) tail (record state {
      next = offset_after state.next (length row);
      octets = state.octets ++ row;
    }))

-- whether a line says a message
abbrev pub says_message : Said → Bool
says_message Frame = true
says_message _ = false

-- a line that says a message of a known length; nothing says what any other is that may go on with the message above
abbrev pub unless_known : Rows → Rows
unless_known state = if says_message state.said && is_known (size_of state.message) then state else say_none Damaged state

-- whether octets are open that are no message yet
abbrev pub is_message_begun : Open → Bool
is_message_begun Begun = true
is_message_begun _ = false

-- whether octets are open that are a message
abbrev pub is_message_whole : Open → Bool
is_message_whole opens.Whole = true
is_message_whole _ = false

-- whether it is known that a row goes on: the octets are no message yet, or an offset says it
abbrev pub is_sure : LineForm → Open → Bool
is_sure form pending = is_message_begun pending || has_offset form.rows

-- whether a form has a line as one that begins
unfoldable pub has_any : List LineForm → List ℕ → Bool
has_any [] line = false
has_any (form ∷ forms) line = has form line || has_any forms line

-- whether a row can only go on: that is known, or it is bare and no form has it as a line that begins
abbrev pub is_certain : LineForm → List LineForm → List ℕ → Open → Bool
is_certain form forms line pending = is_sure form pending || (has_bare_rows form.rows && not (has_any forms line))

-- a row that may go on with an open message: it does if it can only go on; else it is damaged, unless it says a message of a
-- known length as a line that begins
abbrev pub next_line_in : LineForm → List LineForm → List ℕ → List ℕ → Rows → Rows
next_line_in form forms line tail state =
    if is_certain form forms line state.pending then added form (next_row form line) tail state
    else (if has_bare_rows form.rows then say_none Damaged state else unless_known (first forms line tail state))

-- whether a message is open
abbrev pub is_message_open : Open → Bool
is_message_open Nothing = false
is_message_open _ = true

-- the form of the open message
unfoldable pub open_form : List LineForm → Rows → Option LineForm
open_form forms state = slice_get forms state.form

-- a line below an open message of a form
unfoldable pub open_in : Option LineForm → List LineForm → List ℕ → List ℕ → Rows → Rows
open_in None forms line tail state = first forms line tail state
open_in (Some form) forms line tail state =
    if is_row form state.next line then next_line_in form forms line tail state else first forms line tail state

-- a line, by forms; a line below no open message is read as if the log began there
unfoldable pub read_in : List LineForm → List ℕ → List ℕ → Rows → Rows
read_in forms line tail state =
    if is_message_open state.pending then open_in (open_form forms state) forms line tail state else first forms line tail state

-- ---- The open message above a line

-- whether a line goes on with an open message of a form
abbrev pub goes_on_with : Option LineForm → List ℕ → Rows → Bool
goes_on_with None line state = false
goes_on_with (Some form) line state =
    is_row form state.next line && (is_sure form state.pending || has_bare_rows form.rows)

-- whether an open message of a form, that is one as it is, ends above a line
abbrev pub ends_above : Option LineForm → List ℕ → Rows → Bool
ends_above None line state = is_message_whole state.pending
ends_above (Some form) line state = is_message_whole state.pending && not (is_row form state.next line)

-- whether an open message of a form is broken by a line: it is none as it is, and its octets are not those before and after one; or
-- nothing says whether it goes on in the line
abbrev pub is_broken_by : Option LineForm → List ℕ → Rows → Bool
is_broken_by None line state = is_message_begun state.pending && not (length state.octets == 0)
is_broken_by (Some form) line state =
    if is_row form state.next line
    then not (is_sure form state.pending || has_bare_rows form.rows)
    else is_message_begun state.pending && not (length state.octets == form.before + form.after)

-- whether a line goes on with the open message
unfoldable pub line_goes_on : List LineForm → List ℕ → Rows → Bool
line_goes_on forms line state = is_message_open state.pending && goes_on_with (open_form forms state) line state

-- whether a message of any length ended with the line above
unfoldable pub is_ended : List LineForm → List ℕ → Rows → Bool
is_ended forms line state = is_message_open state.pending && ends_above (open_form forms state) line state

-- whether the open message was begun, and does not go on in the line
unfoldable pub is_message_broken : List LineForm → List ℕ → Rows → Bool
is_message_broken forms line state = is_message_open state.pending && is_broken_by (open_form forms state) line state
