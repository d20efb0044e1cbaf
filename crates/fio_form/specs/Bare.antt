-- Lines that are nothing but octets, and what is after octets.
use Rattle.std.specs.Prelude.{ℕ, ◌&&◌, ◌||◌, ◌==◌, nat_le, if◌then◌else◌, Bool, true, false, List, [], ◌∷◌, ◌++◌, Option, Some, None, length}
use Rattle.fio_form.specs.Forms.{is_quotation, is_quoted, is_space_or_tab}
use Rattle.fio_form.specs.Fronts.{past}
use Rattle.fio_form.specs.Octets.{rest_in, run_in}
use Rattle.fio_form.specs.declared.form.LineForm.{LineForm}
use Rattle.fio_form.specs.declared.form.Digits.{Digits}
use Rattle.fio_form.specs.declared.form.Digits.TheVariants as digits
use Rattle.fio_form.specs.declared.form.Piece.TheVariants.{Blanks}
use Rattle.fio_form.specs.declared.octets.TheConstants.{OCTETS}
use Rattle.fio_form.specs.declared.form.Step.{Step}
use Rattle.fio_form.specs.declared.form.Step.TheVariants.{Octet, Mark, MaybeBlank}

-- ---- Octets that a logger left out

-- whether a character ends a text or a list
abbrev pub ends_text : ℕ → Bool
ends_text character = is_quotation character || (character == 93 || character == 41)

-- the text after a character that ends a text or a list, if it begins with one
abbrev pub past_end : List ℕ → List ℕ
past_end [] = []
past_end (character ∷ text) = if ends_text character then text else character ∷ text

-- the text after a blank, if it begins with one
abbrev pub past_blank : List ℕ → List ℕ
past_blank [] = []
past_blank (character ∷ text) = if character == 32 then text else character ∷ text

-- whether a text begins with dots: two, or three as one character in UTF-8
abbrev pub begins_dots : List ℕ → Bool
begins_dots [] = false
begins_dots (first ∷ []) = false
begins_dots (first ∷ second ∷ []) = first == 46 && second == 46
begins_dots (first ∷ second ∷ third ∷ text) = (first == 46 && second == 46) || (first == 226 && (second == 128 && third == 166))

-- whether a tail begins with dots, which say that a logger left octets out
unfoldable pub is_cut_short : List ℕ → Bool
is_cut_short tail = begins_dots (past_blank (past_end tail))

-- ---- What closes a line

-- whether a character closes a list: a blank, a bracket, a comma, a semicolon or a quote
abbrev pub is_closer : ℕ → Bool
is_closer character =
    is_space_or_tab character || (character == 93 || (character == 125 || (character == 41 || (character == 62
    || (character == 44 || (character == 59 || is_quotation character))))))

-- whether all characters close a list or a literal
abbrev pub are_closers : List ℕ → Bool
are_closers [] = true
are_closers (character ∷ text) = is_closer character && are_closers text

-- whether a text begins with two blanks and goes on
abbrev pub is_spaced : List ℕ → Bool
is_spaced [] = false
is_spaced (first ∷ []) = false
is_spaced (first ∷ second ∷ []) = false
is_spaced (first ∷ second ∷ third ∷ text) = is_space_or_tab first && is_space_or_tab second

-- whether a text ends a list, or has two blanks before more
abbrev pub is_closing : List ℕ → Bool
is_closing tail = is_spaced tail || are_closers tail

-- ---- A line that is nothing but octets

-- whether a mark separates octets
abbrev pub separates : ℕ → Bool
separates mark = is_space_or_tab mark || (mark == 44 || mark == 59)

-- the marks that are read, if a separator is known to be before them
abbrev pub if_known : Bool → List ℕ → List ℕ
if_known true marks = marks
if_known false marks = []

-- the marks that steps end with, by those above and whether a separator is before them
abbrev pub marks_from : Bool → List ℕ → List Step → List ℕ
marks_from known marks [] = if_known known marks
marks_from known marks (Octet ∷ steps) = marks_from false [] steps
marks_from known marks (MaybeBlank ∷ steps) = marks_from true [] steps
marks_from known marks (Mark mark ∷ steps) = if separates mark then marks_from true [] steps else marks_from known (marks ++ mark ∷ []) steps

-- the marks before an octet that a cycle ends with, after a separator, as the `0x` of `, 0x`
abbrev pub last_marks : List Step → List ℕ
last_marks cycle = marks_from false [] cycle

-- the text after marks, if it begins with them
abbrev pub after_marks : List ℕ → List ℕ → Option (List ℕ)
after_marks [] text = Some text
after_marks (mark ∷ marks) [] = None
after_marks (mark ∷ marks) (character ∷ text) = if character == mark then after_marks marks text else None

-- a text, or another one if there is none
abbrev pub text_or : Option (List ℕ) → List ℕ → List ℕ
text_or None other = other
text_or (Some text) other = text

-- the text of a line after the blanks at its beginning, and the marks before an octet
abbrev pub bare_text : List Step → List ℕ → List ℕ
bare_text cycle line = text_or (after_marks (last_marks cycle) (past Blanks line)) (past Blanks line)

-- the text after the letter of a literal of octets, as Python writes it
abbrev pub past_letter : List ℕ → List ℕ
past_letter [] = []
past_letter (character ∷ text) = if character == 98 then text else character ∷ text

-- whether a text begins with a quote
abbrev pub begins_quote : List ℕ → Bool
begins_quote [] = false
begins_quote (character ∷ text) = is_quotation character

-- octets, if what is after them closes the line
abbrev pub closed : List ℕ → List ℕ → List ℕ
closed octets tail = if is_closing tail then octets else []

-- what is after octets that a text begins with; the text itself, if they are more than there is room for
abbrev pub tail_in : Digits → List Step → List ℕ → List ℕ
tail_in digits cycle text = if nat_le (length (run_in digits cycle text)) OCTETS then rest_in digits cycle text else text

-- the octets that a text is
abbrev pub octets_closed : Digits → List Step → List ℕ → List ℕ
octets_closed digits cycle text = closed (run_in digits cycle text) (tail_in digits cycle text)

-- the octets of a literal that a text is
abbrev pub octets_quoted : List Step → List ℕ → List ℕ
octets_quoted cycle [] = []
octets_quoted cycle (quote ∷ text) = if is_quotation quote then octets_closed (digits.Text quote) cycle text else []

-- The octets of a line that has nothing else: after blanks, marks and the quote of a text; before an end of a list, or two
-- blanks and any text.
unfoldable pub bare_octets : LineForm → List ℕ → List ℕ
bare_octets form line =
    if is_quoted form.digits
    then octets_quoted form.cycle.items (past_letter (bare_text form.cycle.items line))
    else octets_closed form.digits form.cycle.items (bare_text form.cycle.items line)

-- ---- Where they begin, and how they are written

-- the text after a quote
abbrev pub past_quote : List ℕ → List ℕ
past_quote [] = []
past_quote (quote ∷ text) = text

-- a literal up to the quote that it begins with
abbrev pub quote_of : List ℕ → Digits
quote_of [] = digits.Text 0
quote_of (quote ∷ text) = digits.Text quote

-- the text of a line that is nothing but octets, from the first one on
unfoldable pub bare_begin : LineForm → List ℕ → List ℕ
bare_begin form line =
    if is_quoted form.digits then past_quote (past_letter (bare_text form.cycle.items line)) else bare_text form.cycle.items line

-- how the octets of such a line are written
unfoldable pub bare_digits : LineForm → List ℕ → Digits
bare_digits form line = if is_quoted form.digits then quote_of (past_letter (bare_text form.cycle.items line)) else form.digits
