-- What lines say by forms.
use Rattle.std.specs.Prelude.{ℕ, ◌+◌, ◌-◌, ◌&&◌, ◌||◌, Bool, true, false, not, nat_le, nat_lt, if◌then◌else◌, List, [], ◌∷◌, Option, Some, None, length, drop, take, slice_index, zero, suc}
use Rattle.fio_form.specs.Messages.{is_message}
pub use Rattle.fio_form.specs.Bare.{bare_octets, is_cut_short}
use Rattle.fio_form.specs.Forms.{is_quoted}
use Rattle.fio_form.specs.Fronts.{after_piece, after_front, past_piece}
use Rattle.fio_form.specs.Octets.{ends_open, run_in}
use Rattle.fio_form.specs.declared.form.LineForm.{LineForm}
use Rattle.fio_form.specs.declared.form.Piece.{Piece}
use Rattle.fio_form.specs.Wholes.{whole_of, held_of}
use Rattle.fio_form.specs.declared.form.Digits.{Digits}
use Rattle.fio_form.specs.declared.form.Digits.TheVariants as digits
use Rattle.fio_form.specs.declared.reading.Whole.{Whole}
use Rattle.fio_form.specs.declared.reading.Whole.TheVariants as wholes
use Rattle.fio_form.specs.declared.octets.TheConstants.{OCTETS}
use Rattle.fio_form.specs.declared.octets.Begun.TheVariants.{Nothing}

-- what a line says: a message; nothing, though a form has it or could have had it; or nothing, as no form has it
pub data LineSaid : Type 0 where
  Frame : List ℕ → LineSaid
  Damaged : LineSaid
  Other : LineSaid

-- ---- The message

-- the octets from one place up to another
abbrev pub octets_between : ℕ → ℕ → List ℕ → List ℕ
octets_between start end octets = drop start (take end octets)

-- what octets say of which this many before and after the message are no part of it
abbrev pub said_by_octets : ℕ → ℕ → List ℕ → LineSaid
said_by_octets before after octets =
    if nat_lt (before + after) (length octets) && is_message (octets_between before (length octets - after) octets)
    then Frame (octets_between before (length octets - after) octets) else Damaged

-- what octets say that are a whole, a message of any length or none
abbrev pub said_whole : Whole → List ℕ → LineSaid
said_whole (wholes.Message start end) octets = Frame (octets_between start end octets)
said_whole (wholes.Any start end) octets = Frame (octets_between start end octets)
said_whole other octets = Damaged

-- whether the octets of a form are those before its message, the message and those after it, and nothing else
abbrev pub is_bare : LineForm → Bool
is_bare form = not form.is_framed && not form.is_swapped

-- what octets say that are a frame of the wire, or words of which the last one may have a 0 too many: nothing, if they are too many
abbrev pub said_wrapped : LineForm → List ℕ → LineSaid
said_wrapped form octets =
    if nat_le OCTETS (length octets) then Damaged else said_whole (whole_of form octets) (held_of form octets)

-- what the octets of a form say
abbrev pub said_in_octets : LineForm → List ℕ → LineSaid
said_in_octets form octets = if is_bare form then said_by_octets form.before form.after octets else said_wrapped form octets

-- ---- The octets

-- a text up to the character before a place of a line
abbrev pub text_up_to : ℕ → List ℕ → Digits
text_up_to zero line = digits.Text 0
text_up_to (suc place) line = digits.Text (slice_index line place)

-- how an octet is written that begins where a text begins, with which a line ends
abbrev pub digits_at : Digits → List ℕ → List ℕ → Digits
digits_at digits line text = if is_quoted digits then text_up_to (length line - length text) line else digits

-- the octets after a front, if there is one
abbrev pub octets_after : LineForm → List ℕ → Option (List ℕ) → List ℕ
octets_after form line None = []
octets_after form line (Some text) = run_in (digits_at form.digits line text) form.cycle.items text

-- the octets that a form has at the beginning of a text, with which a line ends: none, if the front is not there
abbrev pub octets_here : LineForm → List ℕ → List ℕ → List ℕ
octets_here form line text = octets_after form line (after_front form.values.items form.front.items text)

-- whether a text is empty
abbrev pub is_empty : List ℕ → Bool
is_empty [] = true
is_empty (character ∷ text) = false

-- the first text, with which a line ends, at whose beginning a form has octets
abbrev pub from_front : LineForm → List ℕ → List ℕ → List ℕ
from_front form line [] = []
from_front form line (character ∷ text) =
    if is_empty (octets_here form line (character ∷ text)) then from_front form line text else character ∷ text

-- the text of a line from the front on: the line, or from where on the form has octets, if it may begin anywhere
unfoldable pub front_text : LineForm → List ℕ → List ℕ
front_text form line = if form.is_anywhere then from_front form line line else line

-- the octets that a form has in a line, as they are written
unfoldable pub octets_found : LineForm → List ℕ → List ℕ
octets_found form line = octets_here form line (front_text form line)

-- the octets of words of 16 bits, exchanged
abbrev pub in_words : List ℕ → List ℕ
in_words [] = []
in_words (octet ∷ []) = octet ∷ []
in_words (lower ∷ upper ∷ octets) = upper ∷ lower ∷ in_words octets

-- octets, exchanged or as they are
unfoldable pub swapped : Bool → List ℕ → List ℕ
swapped true octets = in_words octets
swapped false octets = octets

-- the octets that a form has in a line: none, if the form does not have the line
abbrev pub octets_by : LineForm → List ℕ → List ℕ
octets_by form line = swapped form.is_swapped (octets_found form line)

-- ---- The line

-- whether a line ends within a front, by the text after its first piece, if it begins with that
abbrev pub by_rest : Bool → Option (List ℕ) → (List ℕ → Bool) → Bool
by_rest cut None more = cut
by_rest cut (Some rest) more = more rest

-- Whether a text, with which a line ends, ends within a front or its first octet: it is not empty after pieces that it begins
-- with, or ends in a number.
abbrev pub ends_in_front : LineForm → List ℕ → List Piece → List ℕ → Bool
ends_in_front form line [] text = ends_open (digits_at form.digits line text) Nothing text
ends_in_front form line (piece ∷ front) [] = true
ends_in_front form line (piece ∷ front) (character ∷ text) =
    by_rest (is_empty (past_piece piece (character ∷ text))) (after_piece form.values.items piece (character ∷ text)) (λ rest. ends_in_front form line front rest)

-- whether a line is a beginning of those of a form, with the front at its beginning, that ends before the first octet is whole
abbrev pub ends_in_form : LineForm → List ℕ → Bool
ends_in_form form line = not (is_empty line) && ends_in_front form line form.front.items line

-- what the octets say that a form has in a line; if it has none, what the other forms read
abbrev pub said_by_form : LineForm → List ℕ → LineSaid → LineSaid
said_by_form form [] rest = rest
said_by_form form (octet ∷ octets) rest = said_in_octets form (octet ∷ octets)

-- what a line says by forms; `cut`: it ends within the front of one that is above them
abbrev pub read_from : List LineForm → Bool → List ℕ → LineSaid
read_from [] cut line = if cut then Damaged else Other
read_from (form ∷ forms) cut line = said_by_form form (octets_by form line) (read_from forms (cut || ends_in_form form line) line)

-- what a line says: by the first form that has it; it is damaged if none has it, but it ends within the front of one
abbrev pub read_line : List LineForm → List ℕ → LineSaid
read_line forms line = read_from forms false line
