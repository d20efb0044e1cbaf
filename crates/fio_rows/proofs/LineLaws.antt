-- The laws of lines.
use Rattle.std.proofs.Common.{arith}
use Rattle.std.proofs.lemmas.Bool.Decides.{nat_tests}
use Rattle.std.proofs.Common.{ℕ, ◌≡◌, ◌+◌, Bool, true, false, List, [], ◌∷◌, Option, Some, None, refl}
use Rattle.std.specs.Prelude.{if◌then◌else◌, unwrap_or}
use Rattle.fio_form.specs.declared.form.LineForm.{LineForm}
use Rattle.fio_form.specs.declared.reading.Whole.{Whole}
use Rattle.fio_form.specs.declared.reading.Whole.TheVariants as wholes
use Rattle.fio_rows.specs.Laws.{SaysMessages}
use Rattle.fio_rows.specs.Lines.{says_message, unless_known, added, begun_line, begun_with, first_line_in, has, is_message_whole, next_line_in, offset_of, open_in, read_in, said_unless, unless_own, is_certain, is_known, first, has_bare_rows, is_message_open, is_own_row, is_row, is_stray, is_stream, next_row, offset_after, open_form}
use Rattle.fio_rows.specs.Rows.{Rows, octets_with, say, say_whole, whole_before, open_after, say_none}
use Rattle.fio_form.specs.Messages.{size_of}
use Rattle.fio_rows.specs.declared.said.Said.{Said}
use Rattle.fio_rows.specs.declared.said.Said.TheVariants.{Frame, Idle, Damaged}
use Rattle.fio_rows.specs.declared.said.Said.TheVariants as said
use Rattle.fio_rows.proofs.Wholes.{HasMessage, before_has}
use Rattle.fio_rows.proofs.OtherLines.{no}

-- ---- What is said is a message

-- no message is said, and none may end
quiet : (state : Rows) → says_message state.said ≡ false → is_message_whole state.pending ≡ false → SaysMessages state
quiet state h k = grind (arith, nat_tests, no)

whole_right : (form : LineForm) (row : ℕ) (tail : List ℕ) (state : Rows) (whole : Whole) →
    HasMessage whole (octets_with form state.octets) → SaysMessages (say_whole form row tail state whole)
whole_right form row tail state wholes.Lacking h = grind (arith, nat_tests, quiet)
whole_right form row tail state wholes.Idle h = grind (arith, nat_tests, quiet)
whole_right form row tail state wholes.Damaged h = quiet _ refl refl
whole_right form row tail state _ h = record { said = λ e. h; open_message = λ e. h }

say_right : (form : LineForm) (row : ℕ) (tail : List ℕ) (state : Rows) → SaysMessages (say form row tail state)
unfolding say
say_right form row tail state = whole_right form row tail state (whole_before form state.octets tail) (before_has form state.octets tail)

begun_with_right : (form : LineForm) (offset : ℕ) (tail : List ℕ) (state : Rows) → SaysMessages (begun_with form offset tail state)
begun_with_right form offset tail state = grind (arith, nat_tests, quiet, say_right)

begun_right : (at : ℕ) (form : LineForm) (line tail : List ℕ) (state : Rows) → SaysMessages (begun_line at form line tail state)
unfolding begun_line
begun_right at form line tail state = begun_with_right form (unwrap_or (offset_of form line) 0) tail _

first_in_right : (at : ℕ) (forms : List LineForm) (line tail : List ℕ) (state : Rows) → SaysMessages (first_line_in at forms line tail state)
unfolding first_line_in
first_in_right at [] line tail state = quiet _ refl refl
first_in_right at (form ∷ forms) line tail state =
    elim (has form line) as (λ b. SaysMessages (if b then begun_line at form line tail state else first_line_in (at + 1) forms line tail state))
    [ true ↦ begun_right at form line tail state | false ↦ first_in_right (at + 1) forms line tail state ]

pub unless_frame : (own : Bool) (line : Said) → says_message (said_unless own line) ≡ true → says_message line ≡ true
unless_frame own Frame e = refl
unless_frame own _ e = e

unless_right : (own : Bool) (state : Rows) → SaysMessages state → SaysMessages (unless_own own state)
unless_right own state h = record { said = λ e. h.said (unless_frame own state.said e); open_message = h.open_message }

added_right : (form : LineForm) (row tail : List ℕ) (state : Rows) → SaysMessages (added form row tail state)
unfolding added
added_right form row tail state = grind (arith, nat_tests, quiet, unless_right, say_right)

known_right : (state : Rows) → SaysMessages state → SaysMessages (unless_known state)
known_right state h = grind (arith, nat_tests, quiet)

next_right : (form : LineForm) (forms : List LineForm) (line tail : List ℕ) (state : Rows) → SaysMessages (next_line_in form forms line tail state)
next_right form forms line tail state = grind (arith, nat_tests, added_right, quiet, known_right, first_in_right)

open_right : (above : Option LineForm) (forms : List LineForm) (line tail : List ℕ) (state : Rows) → SaysMessages (open_in above forms line tail state)
unfolding open_in
open_right None forms line tail state = first_in_right 0 forms line tail _
open_right (Some form) forms line tail state = grind (arith, nat_tests, next_right, first_in_right)

-- what a line says is a message, if it says one
pub read_right : (forms : List LineForm) (line tail : List ℕ) (state : Rows) → SaysMessages (read_in forms line tail state)
unfolding read_in
read_right forms line tail state = grind (arith, nat_tests, open_right, first_in_right)
