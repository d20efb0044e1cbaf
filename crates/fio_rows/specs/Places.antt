-- Where the octets of a line are.
use Rattle.std.specs.Prelude.{ℕ, ◌≡◌, ◌≤◌, Bool, if◌then◌else◌, List, [], ◌∷◌, Option, Some, None, drop, take, length}
use Rattle.fio_form.specs.Bare.{bare_begin, bare_digits, tail_in, text_or}
use Rattle.fio_form.specs.Fronts.{after_front}
use Rattle.fio_form.specs.Octets.{rest_in, run_in}
use Rattle.fio_form.specs.Reading.{digits_at}
use Rattle.fio_form.specs.declared.form.Digits.{Digits}
use Rattle.fio_form.specs.declared.form.LineForm.{LineForm}
use Rattle.fio_form.specs.declared.form.Step.{Step}
use Rattle.fio_form.specs.declared.reading.Found.{Found}
use Rattle.fio_rows.specs.Lines.{has, has_bare_rows, line_goes_on, open_form, text_from_front}
use Rattle.fio_rows.specs.Rows.{Rows}

-- what a line has from three places on: from the front of a form, from its first octet, and after its last one
pub record Places : Type 0 where
  pub front : List ℕ
  pub start : List ℕ
  pub end : List ℕ

-- these are the places of octets in a line
abbrev pub AreAt : Found → List ℕ → Places → Type 0
AreAt found line places =
    (drop found.front line ≡ places.front) × (drop found.start line ≡ places.start) × (drop found.end line ≡ places.end)

-- the places are in the line, in their order
abbrev pub AreWithin : Found → List ℕ → Type 0
AreWithin found line = (found.front ≤ found.start) × (found.start ≤ found.end) × (found.end ≤ length line)

-- the line itself, if no form has it
abbrev pub no_places : List ℕ → Places
no_places line = record { front = line; start = line; end = line }

-- the text of a line after the front of a form
abbrev pub text_behind_front : LineForm → List ℕ → List ℕ
text_behind_front form line = text_or (after_front form.values.items form.front.items (text_from_front form line)) []

-- how the octets of a form are written in a line that begins
abbrev pub digits_behind_front : LineForm → List ℕ → Digits
digits_behind_front form line = digits_at form.digits line (text_behind_front form line)

-- where the octets of a form are in a line that begins: after the front, as far as they go on
unfoldable pub form_places : LineForm → List ℕ → Places
form_places form line = record {
  front = text_from_front form line;
  start = text_behind_front form line;
  end = tail_in (digits_behind_front form line) form.cycle.items (text_behind_front form line);
}

-- how the octets of a row that goes on are written
unfoldable pub next_digits : LineForm → List ℕ → Digits
next_digits form line = if has_bare_rows form.rows then bare_digits form line else digits_behind_front form line

-- where the octets of a row that goes on are: as in a line that begins, or after the blanks of one that is nothing but octets
unfoldable pub next_places : LineForm → List ℕ → Places
next_places form line =
    if has_bare_rows form.rows
    then record { front = line; start = bare_begin form line; end = tail_in (bare_digits form line) form.cycle.items (bare_begin form line) }
    else form_places form line

-- where the octets are of the first form that has a line
unfoldable pub first_places : List LineForm → List ℕ → Places
first_places [] line = no_places line
first_places (form ∷ forms) line = if has form line then form_places form line else first_places forms line

-- where the octets are of a row of the open form
abbrev pub open_places : Option LineForm → List ℕ → Places
open_places None line = no_places line
open_places (Some form) line = next_places form line

-- where the octets of a line are, by whether it goes on with the message of the form above
abbrev pub places_by : Bool → Option LineForm → List LineForm → List ℕ → Places
places_by goes_on above forms line = if goes_on then open_places above line else first_places forms line

-- where the octets of a line are: those of the open form, if it goes on with the open message; else those of the first form
-- that has it
unfoldable pub places_in : List LineForm → List ℕ → Rows → Places
places_in forms line state = places_by (line_goes_on forms line state) (open_form forms state) forms line

-- a text is these octets, as they are written, from its first character to its last one
pub record AreWritten (digits : Digits) (cycle : List Step) (octets text : List ℕ) : Type 0 where
  pub is : run_in digits cycle text ≡ octets
  pub rest : rest_in digits cycle text ≡ []

-- the text from the first octet of a line up to the end of the last one
abbrev pub text_between : Found → List ℕ → List ℕ
text_between found line = drop found.start (take found.end line)
