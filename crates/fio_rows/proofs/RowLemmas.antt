-- What is written in rows is read.
use Rattle.std.proofs.Common.{ℕ, ◌≡◌, ◌+◌, ◌<◌, Bool, true, false, List, [], ◌∷◌, ◌++◌, length, Some, refl, sym, ◌∙◌, ap, subst, arith, length-append}
use Rattle.std.specs.Prelude.{if◌then◌else◌, nat_lt, unwrap_or, slice_get}
use Rattle.std.specs.List.{AllByRecursion}
use Rattle.std.proofs.lemmas.Bool.Decides.{nat_tests}
use Rattle.std.proofs.lemmas.Bool.{or_parts}
use Rattle.fio_form.specs.Reading.{octets_between}
use Rattle.fio_form.specs.Wholes.{whole_of}
use Rattle.fio_form.specs.declared.form.LineForm.{LineForm}
use Rattle.fio_form.specs.declared.octets.TheConstants.{OCTETS}
use Rattle.fio_form.specs.declared.reading.Whole.{Whole}
use Rattle.fio_form.specs.declared.reading.Whole.TheVariants as wholes
use Rattle.fio_rows.specs.GoingOn.{may_go_on}
use Rattle.fio_rows.specs.Lines.{added, begun_line, first_line_in, has, is_row, next_row, offset_after, offset_of, open_form, open_in, read_in, unless_own, is_message_open, first, is_own_row}
use Rattle.fio_rows.specs.RowLaws.{AreRowsBelow, IsFirstRow, IsLacking, IsLastRow, IsReadInRows, IsWrittenInRows, Row, read_rows}
use Rattle.fio_rows.specs.Rows.{Rows, octets_with, say, whole_before}
use Rattle.fio_rows.specs.declared.said.Said.TheVariants.{Frame, Part}
use Rattle.fio_rows.specs.declared.saying.Open.TheVariants.{Nothing, Begun}

-- ---- Room

-- octets that are no damage have room
room_by : (b : Bool) (form : LineForm) (octets : List ℕ) (whole : Whole) → (whole ≡ wholes.Damaged → ⊥) →
    (if b then wholes.Damaged else whole_of form octets) ≡ whole → b ≡ false
room_by true form octets whole sound e = absurd (sound (sym e))
room_by false form octets whole sound e = refl

room : (form : LineForm) (octets tail : List ℕ) (whole : Whole) → (whole ≡ wholes.Damaged → ⊥) → whole_before form octets tail ≡ whole →
    length octets < OCTETS
unfolding whole_before
room form octets tail whole sound e = grind (arith, nat_tests, or_parts, room_by)

-- octets that are few enough fit after those that are there
fits : (octets row : List ℕ) → length (octets ++ row) < OCTETS → nat_lt OCTETS (length octets + length row) ≡ false
fits octets row l = let e : length (octets ++ row) ≡ length octets + length row = length-append octets row in grind (arith, nat_tests)

-- ---- A row that is added

-- what is known after a row that lacks some
abbrev pub gone_on : ℕ → List ℕ → Rows → Rows
gone_on count octets state = record state { said = Part; pending = Begun; next = offset_after state.next count; octets = octets }

say_lacking : (form : LineForm) (row : ℕ) (tail : List ℕ) (state : Rows) → whole_before form state.octets tail ≡ wholes.Lacking →
    may_go_on form row tail ≡ true → say form row tail state ≡ record state { said = Part; pending = Begun }
unfolding say
say_lacking form row tail state e m = rw (e, m) refl

say_message : (form : LineForm) (row : ℕ) (tail : List ℕ) (state : Rows) (start end : ℕ) →
    whole_before form state.octets tail ≡ wholes.Message start end →
    say form row tail state ≡ record state { said = Frame; pending = Nothing; message = octets_between start end (octets_with form state.octets) }
unfolding say
say_message form row tail state start end e = rw e refl

added_lacking : (form : LineForm) (row : Row) (state : Rows) → IsLacking form (state.octets ++ row.octets) row →
    added form row.octets row.tail state ≡ gone_on (length row.octets) (state.octets ++ row.octets) state
unfolding added
added_lacking form row state h = grind (arith, nat_tests, fits, room, say_lacking)

-- the message is that of the last row, as far as it is one
frame_kept : (own : Bool) (state : Rows) (message : List ℕ) → own ≡ false → state.said ≡ Frame → state.message ≡ message →
    IsReadInRows message (unless_own own state)
frame_kept own state message o s m = record { said = rw (o, s) refl; kept = m }

said_read : (form : LineForm) (row : ℕ) (tail : List ℕ) (state : Rows) (start end : ℕ) (message : List ℕ) →
    whole_before form state.octets tail ≡ wholes.Message start end → octets_between start end (octets_with form state.octets) ≡ message →
    IsReadInRows message (say form row tail state)
said_read form row tail state start end message e m = grind (arith, nat_tests, say_message)

added_last : (form : LineForm) (row : Row) (state : Rows) (message : List ℕ) → IsLastRow form state.octets row message →
    IsReadInRows message (added form row.octets row.tail state)
unfolding added
added_last form row state message h =
    let f : nat_lt OCTETS (length state.octets + length row.octets) ≡ false =
    fits state.octets row.octets (room form (state.octets ++ row.octets) row.tail (wholes.Message h.start h.end) (λ e. let z : ⊥ = cc in z) h.whole) in
    let r : IsReadInRows message (say form (length row.octets) row.tail
    (record state { next = offset_after state.next (length row.octets); octets = state.octets ++ row.octets })) =
    said_read form (length row.octets) row.tail
    (record state { next = offset_after state.next (length row.octets); octets = state.octets ++ row.octets }) h.start h.end message h.whole h.said in
    rw f (frame_kept (is_own_row form state.octets row.octets) _ message h.part r.said r.kept)

-- ---- A row that goes on

read_begun : (forms : List LineForm) (form : LineForm) (line tail : List ℕ) (state : Rows) →
    open_form forms (record state { pending = Begun }) ≡ Some form → is_row form state.next line ≡ true →
    read_in forms line tail (record state { pending = Begun }) ≡ added form (next_row form line) tail (record state { pending = Begun })
unfolding read_in open_in
read_begun forms form line tail state o r = rw (o, r) refl

-- the form of the open message stays
form_kept : (forms : List LineForm) (count : ℕ) (octets : List ℕ) (state : Rows) →
    open_form forms (gone_on count octets state) ≡ open_form forms state
unfolding open_form
form_kept forms count octets state = refl

below_read : (forms : List LineForm) (form : LineForm) (rows : List Row) (message : List ℕ) (state : Rows) →
    open_form forms (record state { pending = Begun }) ≡ Some form → AreRowsBelow form state.octets state.next message rows →
    IsReadInRows message (read_rows forms rows (record state { pending = Begun }))
below_read forms form [] message state o h = absurd h
below_read forms form (row ∷ []) message state o h =
    let e : read_in forms row.line row.tail (record state { pending = Begun }) ≡ added form row.octets row.tail (record state { pending = Begun }) =
    read_begun forms form row.line row.tail state o h.0.goes_on ∙ ap (λ octets. added form octets row.tail (record state { pending = Begun })) h.0.octets in
    subst (IsReadInRows message) (sym e) (added_last form row (record state { pending = Begun }) message h.1)
below_read forms form (row ∷ (more ∷ rows)) message state o h =
    let e : read_in forms row.line row.tail (record state { pending = Begun })
    ≡ gone_on (length row.octets) (state.octets ++ row.octets) (record state { pending = Begun }) =
    read_begun forms form row.line row.tail state o h.0.goes_on ∙ ap (λ octets. added form octets row.tail (record state { pending = Begun })) h.0.octets
    ∙ added_lacking form row (record state { pending = Begun }) h.1 in
    subst (λ (s : Rows). IsReadInRows message (read_rows forms (more ∷ rows) s)) (sym e)
    (below_read forms form (more ∷ rows) message (gone_on (length row.octets) (state.octets ++ row.octets) (record state { pending = Begun }))
    (form_kept forms (length row.octets) (state.octets ++ row.octets) (record state { pending = Begun }) ∙ o) h.2)

-- ---- The first row

first_had : (at : ℕ) (others below : List LineForm) (form : LineForm) (line tail : List ℕ) (state : Rows) →
    AllByRecursion (λ other. has other line ≡ false) others → has form line ≡ true →
    first_line_in at (others ++ form ∷ below) line tail state ≡ begun_line (at + length others) form line tail state
unfolding first_line_in
first_had at [] below form line tail state a h = grind (arith, nat_tests)
first_had at (other ∷ others) below form line tail state a h =
    let n : has other line ≡ false = a.0 in
    let e : at + 1 + length others ≡ at + length (other ∷ others) = omega arith in
    rw n (first_had (at + 1) others below form line tail state a.1 h ∙ ap (λ k. begun_line k form line tail state) e)

-- what is known after the first row
abbrev pub begun_by : ℕ → LineForm → Row → Rows → Rows
begun_by at form row state = record state {
  said = Part;
  pending = Begun;
  form = at;
  next = offset_after (Some (unwrap_or (offset_of form row.line) 0)) (length row.octets);
  octets = row.octets;
}

begun_lacking : (at : ℕ) (others : List LineForm) (form : LineForm) (row : Row) (state : Rows) → IsFirstRow others form row →
    begun_line at form row.line row.tail state ≡ begun_by at form row state
unfolding begun_line
begun_lacking at others form row state h = grind (arith, nat_tests, say_lacking)

-- the form at its index
form_at : (others below : List LineForm) (form : LineForm) → slice_get (others ++ form ∷ below) (length others) ≡ Some form
form_at [] below form = refl
form_at (other ∷ others) below form = form_at others below form

open_first : (others below : List LineForm) (form : LineForm) (row : Row) (state : Rows) →
    open_form (others ++ form ∷ below) (begun_by (0 + length others) form row state) ≡ Some form
unfolding open_form
open_first others below form row state =
    let e : length others ≡ 0 + length others = omega arith in
    subst (λ (k : ℕ). slice_get (others ++ form ∷ below) k ≡ Some form) e (form_at others below form)

-- what is written in rows is read, if no message is open above it
pub rows_read : (others below : List LineForm) (form : LineForm) (message : List ℕ) (row : Row) (rows : List Row) (state : Rows) →
    is_message_open state.pending ≡ false → IsWrittenInRows others form message row rows →
    IsReadInRows message (read_rows (others ++ form ∷ below) (row ∷ rows) state)
unfolding read_in
rows_read others below form message row rows state c h = grind (arith, nat_tests, first_had, begun_lacking, below_read, open_first)
