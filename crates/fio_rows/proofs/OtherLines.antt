-- Lines that no form has, and what is open above a line.
use Rattle.std.proofs.Common.{ℕ, ◌≡◌, ◌+◌, Bool, true, false, not, ◌&&◌, List, [], ◌∷◌, length, Option, Some, None, refl, sym, ◌∙◌, inl, inr, arith}
use Rattle.std.specs.Prelude.{if◌then◌else◌, ◌==◌, unwrap_or, ◌||◌}
use Rattle.std.specs.List.{AllByRecursion}
use Rattle.std.proofs.lemmas.Bool.Decides.{nat_tests}
use Rattle.fio_form.specs.declared.form.LineForm.{LineForm}
use Rattle.fio_form.specs.declared.reading.Whole.{Whole}
use Rattle.fio_form.specs.declared.reading.Whole.TheVariants as wholes
use Rattle.fio_rows.specs.Laws.{IsAdded, IsSame, Left, is_other, row_by, spare}
use Rattle.fio_form.specs.Messages.{size_of}
use Rattle.fio_rows.specs.Lines.{says_message, is_known, unless_known, added, begun_line, begun_with, ends_above, first_line_in, line_goes_on, goes_on_with, has, has_bare_rows, is_message_begun, is_message_broken, is_broken_by, is_ended, is_message_open, is_sure, is_message_whole, next_line_in, next_row, offset_of, open_form, open_in, read_in, said_unless, has_any, is_certain, first, is_own_row, is_row, is_stray, is_stream, offset_after, row_of, unless_own}
use Rattle.fio_rows.specs.Rows.{Rows, said_by_whole, say, say_none, say_whole, whole_before, octets_with, open_after}
use Rattle.fio_form.specs.Reading.{octets_between}
use Rattle.fio_rows.specs.declared.said.Said.{Said}
use Rattle.fio_rows.specs.declared.said.Said.TheVariants.{Frame, Idle, Damaged, Other}
use Rattle.fio_rows.specs.declared.said.Said.TheVariants as said
use Rattle.fio_rows.specs.declared.saying.Open.{Open}
use Rattle.fio_rows.specs.declared.saying.Open.TheVariants.{Nothing, Begun}
use Rattle.fio_rows.specs.declared.saying.Open.TheVariants as opens

-- ---- A line that a form has is no other one

whole_not : (form : LineForm) (row : ℕ) (tail : List ℕ) (whole : Whole) → is_other (said_by_whole form row tail whole) ≡ false
whole_not form row tail (wholes.Any start end) = grind (arith, nat_tests)
whole_not form row tail wholes.Lacking = grind (arith, nat_tests)
whole_not form row tail wholes.Idle = grind (arith, nat_tests)
whole_not form row tail _ = refl

say_not : (form : LineForm) (row : ℕ) (tail : List ℕ) (state : Rows) → is_other (say form row tail state).said ≡ false
unfolding say
say_not form row tail state = whole_not form row tail (whole_before form state.octets tail)

begun_with_not : (form : LineForm) (offset : ℕ) (tail : List ℕ) (state : Rows) → is_other (begun_with form offset tail state).said ≡ false
begun_with_not form offset tail state = grind (arith, nat_tests, say_not)

begun_not : (at : ℕ) (form : LineForm) (line tail : List ℕ) (state : Rows) → is_other (begun_line at form line tail state).said ≡ false
unfolding begun_line
begun_not at form line tail state = begun_with_not form (unwrap_or (offset_of form line) 0) tail _

unless_not : (own : Bool) (line : Said) → is_other line ≡ false → is_other (said_unless own line) ≡ false
unless_not true Frame e = refl
unless_not false Frame e = refl
unless_not own _ e = e

added_not : (form : LineForm) (row tail : List ℕ) (state : Rows) → is_other (added form row tail state).said ≡ false
unfolding added
added_not form row tail state = grind (arith, nat_tests, unless_not, say_not)

-- a test is not both
pub no : (b : Bool) → b ≡ false → b ≡ true → ⊥
no b h e = let z : false ≡ true = sym h ∙ e in cc

-- if a line is another one, no form has it, and the forms after the first neither
other_by : (b : Bool) (at : ℕ) (form : LineForm) (forms : List LineForm) (line tail : List ℕ) (state : Rows) → has form line ≡ b →
    (is_other (first_line_in (at + 1) forms line tail state).said ≡ true → AllByRecursion (λ form. has form line ≡ false) forms) →
    is_other (if b then begun_line at form line tail state else first_line_in (at + 1) forms line tail state).said ≡ true →
    AllByRecursion (λ form. has form line ≡ false) (form ∷ forms)
other_by true at form forms line tail state h rest e = absurd (no _ (begun_not at form line tail state) e)
other_by false at form forms line tail state h rest e = (h, rest e)

first_in_other : (at : ℕ) (forms : List LineForm) (line tail : List ℕ) (state : Rows) →
    is_other (first_line_in at forms line tail state).said ≡ true → AllByRecursion (λ form. has form line ≡ false) forms
unfolding first_line_in
first_in_other at [] line tail state e = tt
first_in_other at (form ∷ forms) line tail state e =
    other_by (has form line) at form forms line tail state refl (first_in_other (at + 1) forms line tail state) e

-- a line that says a message is no other one
frame_not : (line : Said) (known : Bool) → (says_message line && known) ≡ true → is_other line ≡ false
frame_not Other known e = absurd (no false refl e)
frame_not _ known e = refl

known_by : (b : Bool) (state : Rows) → (b ≡ true → is_other state.said ≡ false) →
    is_other (if b then state else say_none Damaged state).said ≡ false
known_by true state h = h refl
known_by false state h = refl

known_not : (state : Rows) → is_other (unless_known state).said ≡ false
known_not state = known_by (says_message state.said && is_known (size_of state.message)) state (frame_not state.said (is_known (size_of state.message)))

next_other : (form : LineForm) (forms : List LineForm) (line tail : List ℕ) (state : Rows) →
    is_other (next_line_in form forms line tail state).said ≡ true → AllByRecursion (λ form. has form line ≡ false) forms
next_other form forms line tail state = grind (arith, nat_tests, no, added_not, known_not)

open_other : (above : Option LineForm) (forms : List LineForm) (line tail : List ℕ) (state : Rows) →
    is_other (open_in above forms line tail state).said ≡ true → AllByRecursion (λ form. has form line ≡ false) forms
unfolding open_in
open_other None forms line tail state = first_in_other 0 forms line tail _
open_other (Some form) forms line tail state = grind (arith, nat_tests, next_other, first_in_other)

-- a line is said to be another one only if no form has it
pub other_none : (forms : List LineForm) (line tail : List ℕ) (state : Rows) →
    is_other (read_in forms line tail state).said ≡ true → AllByRecursion (λ form. has form line ≡ false) forms
unfolding read_in
other_none forms line tail state = grind (arith, nat_tests, open_other, first_in_other)

first_none_other : (at : ℕ) (forms : List LineForm) (line tail : List ℕ) (state : Rows) →
    AllByRecursion (λ form. has form line ≡ false) forms → is_other (first_line_in at forms line tail state).said ≡ true
unfolding first_line_in
first_none_other at [] line tail state h = refl
first_none_other at (form ∷ forms) line tail state h =
    let e : has form line ≡ false = h.0 in rw e (first_none_other (at + 1) forms line tail state h.1)

-- a line that no form has is another one, if no message is open
pub none_other : (forms : List LineForm) (line tail : List ℕ) (state : Rows) → is_message_open state.pending ≡ false →
    AllByRecursion (λ form. has form line ≡ false) forms → is_other (read_in forms line tail state).said ≡ true
unfolding read_in
none_other forms line tail state c h = rw c (first_none_other 0 forms line tail _ h)

-- ---- Nothing that is open is dropped in silence

-- the octets of what is said are those that are there
say_octets : (form : LineForm) (row : ℕ) (tail : List ℕ) (state : Rows) → (say form row tail state).octets ≡ state.octets
unfolding say
say_octets form row tail state = refl

added_octets : (form : LineForm) (row tail : List ℕ) (state : Rows) → IsAdded state.octets row (added form row tail state)
unfolding added
added_octets form row tail state = grind (arith, nat_tests, say_octets)

next_octets_kept : (form : LineForm) (forms : List LineForm) (line tail : List ℕ) (state : Rows) →
    (is_sure form state.pending || has_bare_rows form.rows) ≡ true → IsAdded state.octets (next_row form line) (next_line_in form forms line tail state)
next_octets_kept form forms line tail state = grind (arith, nat_tests, added_octets, no)

open_kept : (above : Option LineForm) (forms : List LineForm) (line tail : List ℕ) (state : Rows) →
    goes_on_with above line state ≡ true → IsAdded state.octets (row_by above line) (open_in above forms line tail state)
unfolding open_in
open_kept None forms line tail state = λ e. absurd (no false refl e)
open_kept (Some form) forms line tail state = grind (arith, nat_tests, next_octets_kept, no)

-- a row that goes on is after the open octets, or damaged
pub row_kept : (forms : List LineForm) (line tail : List ℕ) (state : Rows) → line_goes_on forms line state ≡ true →
    IsAdded state.octets (row_by (open_form forms state) line) (read_in forms line tail state)
unfolding read_in line_goes_on
row_kept forms line tail state = grind (arith, nat_tests, open_kept, no)

left_by : (b : Bool) (count spare : ℕ) → not (count == spare) ≡ b → Left false b count spare
left_by true count spare h = inr (inl refl)
left_by false count spare h = inr (inr (grind (arith, nat_tests)))

left_none : (pending : Open) (octets : List ℕ) → is_message_open pending ≡ true →
    Left (is_message_whole pending) (is_message_begun pending && not (length octets == 0)) (length octets) 0
left_none Nothing octets e = absurd (no false refl e)
left_none Begun octets e = left_by (not (length octets == 0)) (length octets) 0 refl
left_none opens.Whole octets e = inl refl

left_some : (pending : Open) (spare : ℕ) (octets : List ℕ) → is_message_open pending ≡ true →
    Left (is_message_whole pending && true) (is_message_begun pending && not (length octets == spare)) (length octets) spare
left_some Nothing spare octets e = absurd (no false refl e)
left_some Begun spare octets e = left_by (not (length octets == spare)) (length octets) spare refl
left_some opens.Whole spare octets e = inl refl

left_row : (sure : Bool) (whole : Bool) (count spare : ℕ) → sure ≡ false → Left (whole && false) (not sure) count spare
left_row true whole count spare e = absurd (no true e refl)
left_row false whole count spare e = inr (inl refl)

open_left : (above : Option LineForm) (line : List ℕ) (state : Rows) → is_message_open state.pending ≡ true → goes_on_with above line state ≡ false →
    Left (ends_above above line state) (is_broken_by above line state) (length state.octets) (spare above)
open_left None line state o = λ e. left_none state.pending state.octets o
open_left (Some form) line state o = grind (arith, nat_tests, left_row, left_some)

-- a message that does not go on ends, is broken, or has only octets before and after it
pub open_said : (forms : List LineForm) (line : List ℕ) (state : Rows) → is_message_open state.pending ≡ true → line_goes_on forms line state ≡ false →
    Left (is_ended forms line state) (is_message_broken forms line state) (length state.octets) (spare (open_form forms state))
unfolding line_goes_on is_ended is_message_broken
open_said forms line state o e = grind (arith, nat_tests, open_left)

-- ---- A line is read as if the log began there

-- lines that say no message, and end none
silent_same : (a b : Rows) → a.said ≡ b.said → a.pending ≡ b.pending → a.octets ≡ b.octets → a.form ≡ b.form → a.next ≡ b.next →
    says_message a.said ≡ false → is_message_whole a.pending ≡ false → IsSame a b
silent_same a b s p e f n m w = grind (arith, nat_tests, no)

-- the same is said by a whole, whatever was said above
by_whole : (form : LineForm) (row : ℕ) (tail : List ℕ) (a b : Rows) (whole : Whole) → a.octets ≡ b.octets → a.form ≡ b.form → a.next ≡ b.next →
    IsSame (say_whole form row tail a whole) (say_whole form row tail b whole)
by_whole form row tail a b (wholes.Message start end) e f n = grind (arith, nat_tests)
by_whole form row tail a b (wholes.Any start end) e f n = grind (arith, nat_tests)
by_whole form row tail a b wholes.Lacking e f n = grind (arith, nat_tests, silent_same)
by_whole form row tail a b wholes.Idle e f n = grind (arith, nat_tests, silent_same)
by_whole form row tail a b wholes.Damaged e f n = silent_same _ _ refl refl e f n refl refl

say_same : (form : LineForm) (row : ℕ) (tail : List ℕ) (a b : Rows) → a.octets ≡ b.octets → a.form ≡ b.form → a.next ≡ b.next →
    IsSame (say form row tail a) (say form row tail b)
unfolding say
say_same form row tail a b e f n = grind (arith, nat_tests, by_whole)

begun_with_same : (form : LineForm) (offset at : ℕ) (next : Option ℕ) (tail octets : List ℕ) (a b : Rows) →
    IsSame (begun_with form offset tail (record a { form = at; next = next; octets = octets }))
    (begun_with form offset tail (record b { form = at; next = next; octets = octets }))
begun_with_same form offset at next tail octets a b = grind (arith, nat_tests, silent_same, say_same)

begun_same : (at : ℕ) (form : LineForm) (line tail : List ℕ) (a b : Rows) → IsSame (begun_line at form line tail a) (begun_line at form line tail b)
unfolding begun_line
begun_same at form line tail a b = grind (arith, nat_tests, begun_with_same)

first_in_same : (at : ℕ) (forms : List LineForm) (line tail : List ℕ) (a b : Rows) → a.octets ≡ b.octets →
    IsSame (first_line_in at forms line tail a) (first_line_in at forms line tail b)
unfolding first_line_in
first_in_same at [] line tail a b e = grind (arith, nat_tests, no)
first_in_same at (form ∷ forms) line tail a b e =
    elim (has form line) as (λ c. IsSame
    (if c then begun_line at form line tail a else first_line_in (at + 1) forms line tail a)
    (if c then begun_line at form line tail b else first_line_in (at + 1) forms line tail b))
    [ true ↦ begun_same at form line tail a b | false ↦ first_in_same (at + 1) forms line tail a b e ]

-- two readers with nothing open say the same of a line
pub read_same : (forms : List LineForm) (line tail : List ℕ) (a b : Rows) → is_message_open a.pending ≡ false → is_message_open b.pending ≡ false →
    IsSame (read_in forms line tail a) (read_in forms line tail b)
unfolding read_in
read_same forms line tail a b c d = grind (arith, nat_tests, first_in_same)
