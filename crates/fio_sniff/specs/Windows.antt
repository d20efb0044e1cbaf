-- What forms read in the lines of a window.
use Rattle.std.specs.Prelude.{ℕ, ◌+◌, ◌≤◌, ◌||◌, ◌++◌, Bool, false, if◌then◌else◌, List, [], ◌∷◌, Option, Some, None}
use Rattle.fio_form.specs.Wholes.{whole_of}
use Rattle.fio_form.specs.declared.form.LineForm.{LineForm}
use Rattle.fio_form.specs.declared.form.LineRows.{LineRows}
use Rattle.fio_form.specs.declared.form.LineRows.TheVariants.{One, Offset, Wrapped, Bare, Pieces, Stream, Flags}
use Rattle.fio_form.specs.declared.reading.Whole.{Whole}
use Rattle.fio_form.specs.declared.reading.Whole.TheVariants.{Message, Any, Lacking, Idle, Damaged}
use Rattle.fio_rows.specs.Lines.{has, row_of}

-- whether one of some forms has a line
abbrev pub has_one : List LineForm → List ℕ → Bool
has_one [] line = false
has_one (form ∷ forms) line = has form line || has_one forms line

-- what the octets are that a form has in a line
abbrev pub whole_in : LineForm → List ℕ → Whole
whole_in form line = whole_of form (row_of form line)

-- what the octets are that a form has in a line, if none of the forms above it has the line
abbrev pub own_whole : List LineForm → LineForm → List ℕ → Option Whole
own_whole above form line =
    if has_one above line then None else (if has form line then Some (whole_in form line) else None)

-- one for a line that the form has
abbrev pub one_if_had : Option Whole → ℕ
one_if_had None = 0
one_if_had (Some whole) = 1

-- one for a line whose octets are a message
abbrev pub one_if_said : Option Whole → ℕ
one_if_said None = 0
one_if_said (Some (Message start end)) = 1
one_if_said (Some (Any start end)) = 1
one_if_said (Some Lacking) = 0
one_if_said (Some Idle) = 0
one_if_said (Some Damaged) = 0

-- one for a line whose octets are none, and lack none
abbrev pub one_if_damaged : Option Whole → ℕ
one_if_damaged None = 0
one_if_damaged (Some (Message start end)) = 0
one_if_damaged (Some (Any start end)) = 0
one_if_damaged (Some Lacking) = 0
one_if_damaged (Some Idle) = 0
one_if_damaged (Some Damaged) = 1

-- how many lines a form has that none of those above it has
abbrev pub had_by : List LineForm → LineForm → List (List ℕ) → ℕ
had_by above form [] = 0
had_by above form (line ∷ lines) = one_if_had (own_whole above form line) + had_by above form lines

-- in how many of these the octets are a message
abbrev pub messages_by : List LineForm → LineForm → List (List ℕ) → ℕ
messages_by above form [] = 0
messages_by above form (line ∷ lines) = one_if_said (own_whole above form line) + messages_by above form lines

-- in how many they are none, and lack none
abbrev pub damaged_by : List LineForm → LineForm → List (List ℕ) → ℕ
damaged_by above form [] = 0
damaged_by above form (line ∷ lines) = one_if_damaged (own_whole above form line) + damaged_by above form lines

-- enough of the lines that a form has: a message in one or more, and in half or more of those that lack no octet; if its
-- messages go on in other lines, one line
abbrev pub AreEnough : LineRows → ℕ → ℕ → ℕ → Type 0
AreEnough One had said damaged = (1 ≤ said) × (damaged ≤ said)
AreEnough (Offset number base width begins_at_zero) had said damaged = 1 ≤ had
AreEnough (Wrapped width) had said damaged = 1 ≤ had
AreEnough Bare had said damaged = 1 ≤ had
AreEnough Pieces had said damaged = 1 ≤ had
AreEnough Stream had said damaged = 1 ≤ had
AreEnough Flags had said damaged = 1 ≤ had

-- a form, with some above it, fits the lines of a window
abbrev pub Fits : List (List ℕ) → List LineForm → LineForm → Type 0
Fits lines above form =
    AreEnough form.rows (had_by above form lines) (messages_by above form lines) (damaged_by above form lines)

-- forms, with some above them, fit each
abbrev pub AllFit : List (List ℕ) → List LineForm → List LineForm → Type 0
AllFit lines above [] = Unit {0}
AllFit lines above (form ∷ forms) = Fits lines above form × AllFit lines (above ++ form ∷ []) forms
