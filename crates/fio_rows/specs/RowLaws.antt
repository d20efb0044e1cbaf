-- What a logger writes of a message in rows, and what is read of it.
use Rattle.std.specs.Prelude.{ℕ, ◌≡◌, ◌<◌, ◌⊎◌, ◌++◌, true, false, List, [], ◌∷◌, length, Option, Some, slice_get, unwrap_or}
use Rattle.std.specs.List.{AllByRecursion}
use Rattle.fio_form.specs.Bare.{is_cut_short}
use Rattle.fio_form.specs.Reading.{LineSaid, octets_between, octets_by}
use Rattle.fio_form.specs.Reading as reading
use Rattle.fio_form.specs.declared.form.LineForm.{LineForm}
use Rattle.fio_form.specs.declared.form.LineRows.TheVariants.{One}
use Rattle.fio_form.specs.declared.octets.TheConstants.{OCTETS}
use Rattle.fio_form.specs.declared.reading.Whole.TheVariants.{Message, Lacking}
use Rattle.fio_rows.specs.GoingOn.{may_go_on}
use Rattle.fio_rows.specs.Lines.{has, is_own_row, is_row, is_stray, is_stream, next_row, offset_after, offset_of, read_in, row_of}
use Rattle.fio_rows.specs.Rows.{Rows, octets_with, whole_before}
use Rattle.fio_rows.specs.declared.said.Said.{Said}
use Rattle.fio_rows.specs.declared.said.Said.TheVariants.{Frame, Damaged, Other}
use Rattle.fio_rows.specs.declared.said.Said.TheVariants as said

-- a row as it is written: a line, the text after its octets, and these
pub record Row : Type 0 where
  pub line : List ℕ
  pub tail : List ℕ
  pub octets : List ℕ

-- octets down to a row that lack some of their message, which may go on in the next row
pub record IsLacking (form : LineForm) (octets : List ℕ) (row : Row) : Type 0 where
  pub lacking : whole_before form octets row.tail ≡ Lacking
  pub goes_on : may_go_on form (length row.octets) row.tail ≡ true

-- a row that makes the octets above it a message, with those before and after it, and is none by itself unless they say its length
pub record IsLastRow (form : LineForm) (above : List ℕ) (row : Row) (message : List ℕ) : Type 0 where
  pub start : ℕ
  pub end : ℕ
  pub whole : whole_before form (above ++ row.octets) row.tail ≡ Message start end
  pub said : octets_between start end (octets_with form (above ++ row.octets)) ≡ message
  pub part : is_own_row form above row.octets ≡ false

-- a row of a form that goes on at an offset
pub record IsRowBelow (form : LineForm) (next : Option ℕ) (row : Row) : Type 0 where
  pub goes_on : is_row form next row.line ≡ true
  pub octets : next_row form row.line ≡ row.octets

-- rows below octets that are there, at an offset: each goes on with those above it, until the last one ends the message
abbrev pub AreRowsBelow : LineForm → List ℕ → Option ℕ → List ℕ → List Row → Type 0
AreRowsBelow form above next message [] = ⊥
AreRowsBelow form above next message (row ∷ []) = IsRowBelow form next row × IsLastRow form above row message
AreRowsBelow form above next message (row ∷ (more ∷ rows)) =
    IsRowBelow form next row × IsLacking form (above ++ row.octets) row
    × AreRowsBelow form (above ++ row.octets) (offset_after next (length row.octets)) message (more ∷ rows)

-- a row with which a form begins: no form above it has its line, and it is none of a stream, nor one with another offset
-- than 0 if the form's begin at 0
pub record IsFirstRow (others : List LineForm) (form : LineForm) (row : Row) : Type 0 where
  pub first : AllByRecursion (λ other. has other row.line ≡ false) others
  pub had : has form row.line ≡ true
  pub octets : row_of form row.line ≡ row.octets
  pub no_stream : is_stream form.rows ≡ false
  pub no_stray : is_stray form.rows (unwrap_or (offset_of form row.line) 0) ≡ false
  pub lacking : IsLacking form row.octets row

-- A message that a logger writes in two rows or more, by a form that has others above it.
pub record IsWrittenInRows (others : List LineForm) (form : LineForm) (message : List ℕ) (row : Row) (rows : List Row) : Type 0 where
  pub first : IsFirstRow others form row
  pub below : AreRowsBelow form row.octets
      (offset_after (Some (unwrap_or (offset_of form row.line) 0)) (length row.octets)) message rows

-- what is known after rows, one after another
abbrev pub read_rows : List LineForm → List Row → Rows → Rows
read_rows forms [] state = state
read_rows forms (row ∷ rows) state = read_rows forms rows (read_in forms row.line row.tail state)

-- a line says this message
pub record IsReadInRows (message : List ℕ) (state : Rows) : Type 0 where
  pub said : state.said ≡ Frame
  pub kept : state.message ≡ message

-- the octets that are there are those of a line of a form, or after those above it
abbrev pub AreOctetsOf : LineForm → List ℕ → List ℕ → List ℕ → Type 0
AreOctetsOf form line above octets = (octets ≡ row_of form line) ⊎ (octets ≡ above ++ next_row form line)

-- the message that is known after a line is in the octets that the form of it, one of some forms, has in the line, or in these
-- and those that were open above it
pub record IsInRows (forms : List LineForm) (line above : List ℕ) (state : Rows) : Type 0 where
  pub form : LineForm
  pub of : slice_get forms state.form ≡ Some form
  pub start : ℕ
  pub end : ℕ
  pub said : state.message ≡ octets_between start end (octets_with form state.octets)
  pub there : AreOctetsOf form line above state.octets

-- ---- A log of lines by themselves

-- what a line says by itself: a message, or none, as no form has it; anything else is damaged
abbrev pub said_alone : Said → List ℕ → LineSaid
said_alone Frame message = reading.Frame message
said_alone Other message = reading.Other
said_alone _ message = reading.Damaged

-- what lines say, one after another
abbrev pub said_in_turn : List LineForm → List Row → Rows → List LineSaid
said_in_turn forms [] state = []
said_in_turn forms (row ∷ rows) state =
    said_alone (read_in forms row.line row.tail state).said (read_in forms row.line row.tail state).message
    ∷ said_in_turn forms rows (read_in forms row.line row.tail state)

-- No form has rows, there is room for the octets that each has in a line, and the logger left none out after them.
abbrev pub IsAlone : List LineForm → List ℕ → List ℕ → Type 0
IsAlone forms line tail =
    (is_cut_short tail ≡ false) × AllByRecursion (λ form. (form.rows ≡ One) × (length (octets_by form line) < OCTETS)) forms

-- each line is such a line
abbrev pub AreAlone : List LineForm → List Row → Type 0
AreAlone forms [] = Unit {0}
AreAlone forms (row ∷ rows) = IsAlone forms row.line row.tail × AreAlone forms rows
