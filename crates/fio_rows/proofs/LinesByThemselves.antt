-- A line below nothing open says what its form reads in it.
use Rattle.std.proofs.Common.{ℕ, ◌≡◌, ◌+◌, ◌<◌, Bool, true, false, not, List, [], ◌∷◌, length, Option, Some, None, refl, sym, ◌∙◌, ap, inl, inr, arith}
use Rattle.std.specs.Prelude.{map, nat_le, ◌||◌, unwrap_or}
use Rattle.std.specs.List.{AllByRecursion}
use Rattle.std.proofs.lemmas.Bool.{cases_Bool, or_parts}
use Rattle.std.proofs.lemmas.Bool.Decides.{nat_tests}
use Rattle.std.proofs.lemmas.List.{take_all}
use Rattle.fio_form.specs.Bare.{is_cut_short}
use Rattle.fio_form.specs.Reading.{LineSaid, ends_in_form, octets_by, octets_found, read_from, read_line, said_by_form, said_in_octets, said_whole, swapped}
use Rattle.fio_form.specs.Reading as reading
use Rattle.fio_form.specs.Wholes.{whole_of}
use Rattle.fio_form.specs.Writing.{AreLines, IsLine, IsOther, frame_or_other}
use Rattle.fio_form.specs.declared.form.LineForm.{LineForm}
use Rattle.fio_form.specs.declared.form.LineRows.TheVariants.{One}
use Rattle.fio_form.specs.declared.octets.TheConstants.{OCTETS}
use Rattle.fio_form.specs.declared.reading.Whole.{Whole}
use Rattle.fio_form.specs.declared.reading.Whole.TheVariants as wholes
use Rattle.fio_form.proofs.Finding.{few_taken, swapped_size}
use Rattle.fio_form.proofs.Logs.{no_octets, read_back}
use Rattle.fio_form.proofs.Telling.{told}
use Rattle.fio_rows.specs.GoingOn.{is_full, may_go_on}
use Rattle.fio_rows.specs.Lines.{are_none, begun_line, begun_with, first_line_in, has, is_message_open, is_stray, is_stream, offset_after, offset_of, read_in, row_of, says_message}
use Rattle.fio_rows.specs.RowLaws.{AreAlone, IsAlone, IsReadInRows, Row, said_alone, said_in_turn}
use Rattle.fio_rows.specs.Rows.{Rows, octets_with, say, say_none, say_whole, whole_before}
use Rattle.fio_rows.specs.declared.said.Said.{Said}
use Rattle.fio_rows.specs.declared.said.Said.TheVariants.{Idle, Damaged, Other}
use Rattle.fio_rows.specs.declared.said.Said.TheVariants as said
use Rattle.fio_rows.proofs.OtherLines.{no}

-- ---- The octets of a form

none_swapped : (swap : Bool) (octets : List ℕ) → not (are_none octets) ≡ false → swapped swap octets ≡ []
unfolding swapped
none_swapped true [] h = refl
none_swapped false [] h = refl
none_swapped swap (octet ∷ octets) h = absurd (no true h refl)

none_had : (form : LineForm) (line : List ℕ) → has form line ≡ false → octets_by form line ≡ []
unfolding has
none_had form line h = none_swapped form.is_swapped (octets_found form line) h

some_swapped : (form : LineForm) (swap : Bool) (octets : List ℕ) (rest : LineSaid) → not (are_none octets) ≡ true →
    said_by_form form (swapped swap octets) rest ≡ said_in_octets form (swapped swap octets)
unfolding swapped
some_swapped form swap [] rest h = absurd (no false refl h)
some_swapped form true (octet ∷ []) rest h = refl
some_swapped form true (lower ∷ (upper ∷ octets)) rest h = refl
some_swapped form false (octet ∷ octets) rest h = refl

some_had : (form : LineForm) (line : List ℕ) (rest : LineSaid) → has form line ≡ true →
    said_by_form form (octets_by form line) rest ≡ said_in_octets form (octets_by form line)
unfolding has
some_had form line rest h = some_swapped form form.is_swapped (octets_found form line) rest h

-- those that there is room for are all
row_all : (form : LineForm) (line : List ℕ) → length (row_of form line) < OCTETS → row_of form line ≡ octets_by form line
unfolding row_of
row_all form line few = ap (swapped form.is_swapped) (few_taken form.is_swapped (octets_found form line) few)

row_few : (form : LineForm) (line : List ℕ) → length (octets_by form line) < OCTETS → row_of form line ≡ octets_by form line
unfolding row_of
row_few form line few =
    ap (swapped form.is_swapped) (take_all OCTETS (octets_found form line) (omega (arith, few, swapped_size form.is_swapped (octets_found form line))))

-- ---- What octets say before a tail

by_whole : (form : LineForm) (row : ℕ) (tail : List ℕ) (state : Rows) (whole : Whole) → whole_before form state.octets tail ≡ whole →
    say form row tail state ≡ say_whole form row tail state whole
unfolding say
by_whole form row tail state whole e = ap (say_whole form row tail state) e

damaged_before : (form : LineForm) (octets tail : List ℕ) → (nat_le OCTETS (length octets) || is_cut_short tail) ≡ true →
    whole_before form octets tail ≡ wholes.Damaged
unfolding whole_before
damaged_before form octets tail h = rw h refl

whole_here : (form : LineForm) (octets tail : List ℕ) → (nat_le OCTETS (length octets) || is_cut_short tail) ≡ false →
    whole_before form octets tail ≡ whole_of form octets
unfolding whole_before
whole_here form octets tail h = rw h refl

-- ---- What is read is what the form reads

-- a line says a message only if this is said
abbrev Says : LineSaid → Rows → Type 0
Says line state = says_message state.said ≡ true → line ≡ reading.Frame state.message

whole_says : (form : LineForm) (row : ℕ) (tail : List ℕ) (state : Rows) (whole : Whole) →
    Says (said_whole whole (octets_with form state.octets)) (say_whole form row tail state whole)
whole_says form row tail state wholes.Lacking = grind (arith, nat_tests, no)
whole_says form row tail state wholes.Idle = grind (arith, nat_tests, no)
whole_says form row tail state wholes.Damaged = λ e. absurd (no false refl e)
whole_says form row tail state _ = λ e. refl

say_few : (form : LineForm) (row : ℕ) (tail : List ℕ) (state : Rows) → says_message (say form row tail state).said ≡ true →
    (nat_le OCTETS (length state.octets) || is_cut_short tail) ≡ false
say_few form row tail state e = grind (arith, nat_tests, cases_Bool, by_whole, damaged_before, no)

-- a message is said of few octets, and is what they say
abbrev Keeps : LineForm → List ℕ → Rows → Type 0
Keeps form octets state =
    says_message state.said ≡ true → (length octets < OCTETS) × (said_in_octets form octets ≡ reading.Frame state.message)

say_keeps : (form : LineForm) (row : ℕ) (tail : List ℕ) (state : Rows) → Keeps form state.octets (say form row tail state)
unfolding octets_with
say_keeps form row tail state = grind (arith, nat_tests, say_few, or_parts, by_whole, whole_here, told, whole_says)

begun_with_keeps : (form : LineForm) (offset : ℕ) (tail : List ℕ) (state : Rows) → Keeps form state.octets (begun_with form offset tail state)
begun_with_keeps form offset tail state = grind (arith, nat_tests, no, say_keeps)

begun_says : (at : ℕ) (form : LineForm) (line tail : List ℕ) (state : Rows) →
    Says (said_in_octets form (octets_by form line)) (begun_line at form line tail state)
unfolding begun_line
begun_says at form line tail state = λ e.
    let kept = begun_with_keeps form (unwrap_or (offset_of form line) 0) tail (record state {
      form = at;
      next = offset_after (Some (unwrap_or (offset_of form line) 0)) (length (row_of form line));
      octets = row_of form line;
    }) e in
    sym (ap (said_in_octets form) (row_all form line kept.0)) ∙ kept.1

first_says : (at : ℕ) (forms : List LineForm) (cut : Bool) (line tail : List ℕ) (state : Rows) →
    Says (read_from forms cut line) (first_line_in at forms line tail state)
unfolding first_line_in
first_says at [] cut line tail state = λ e. absurd (no false refl e)
first_says at (form ∷ forms) cut line tail state = elim (cases_Bool (has form line)) [
  | inl had ↦ rw had (λ e. some_had form line (read_from forms (cut || ends_in_form form line) line) had ∙ begun_says at form line tail state e)
  | inr none ↦ rw none (λ e.
      ap (λ (octets : List ℕ). said_by_form form octets (read_from forms (cut || ends_in_form form line) line)) (none_had form line none)
      ∙ first_says (at + 1) forms (cut || ends_in_form form line) line tail state e)
]

-- a message that a line says below nothing open is what its form reads in it
pub itself_says : (forms : List LineForm) (line tail : List ℕ) (state : Rows) → is_message_open state.pending ≡ false →
    says_message (read_in forms line tail state).said ≡ true → read_line forms line ≡ reading.Frame (read_in forms line tail state).message
unfolding read_in
itself_says forms line tail state none = rw none (first_says 0 forms false line tail (record state { octets = [] }))

-- ---- What the form reads is read

frame_same : (a b : List ℕ) → reading.Frame a ≡ reading.Frame b → a ≡ b
frame_same a b h = cc

damaged_frame : (message : List ℕ) → reading.Damaged ≡ reading.Frame message → ⊥
damaged_frame message h = cc

other_frame : (message : List ℕ) → reading.Other ≡ reading.Frame message → ⊥
other_frame message h = cc

one_full : (form : LineForm) (row : ℕ) (tail : List ℕ) → form.rows ≡ One → is_full form row tail ≡ false
unfolding is_full may_go_on
one_full form row tail one = rw one refl

whole_said : (form : LineForm) (row : ℕ) (tail : List ℕ) (state : Rows) (whole : Whole) (message : List ℕ) → is_full form row tail ≡ false →
    said_whole whole (octets_with form state.octets) ≡ reading.Frame message → IsReadInRows message (say_whole form row tail state whole)
whole_said form row tail state (wholes.Message start end) message ends e = record { said = refl; kept = frame_same _ message e }
whole_said form row tail state (wholes.Any start end) message ends e = record { said = rw ends refl; kept = frame_same _ message e }
whole_said form row tail state _ message ends e = absurd (damaged_frame message e)

say_said : (form : LineForm) (tail : List ℕ) (state : Rows) (message : List ℕ) → form.rows ≡ One → is_cut_short tail ≡ false →
    length state.octets < OCTETS → said_in_octets form state.octets ≡ reading.Frame message →
    IsReadInRows message (say form (length state.octets) tail state)
unfolding octets_with
say_said form tail state message one all few e = grind (arith, nat_tests, by_whole, whole_here, whole_said, one_full, told)

begun_said : (at : ℕ) (form : LineForm) (line tail : List ℕ) (state : Rows) (message : List ℕ) → form.rows ≡ One → is_cut_short tail ≡ false →
    length (octets_by form line) < OCTETS → said_in_octets form (octets_by form line) ≡ reading.Frame message →
    IsReadInRows message (begun_line at form line tail state)
unfolding begun_line
begun_said at form line tail state message one all few e =
    let stream : is_stream form.rows ≡ false = rw one refl in
    let stray : is_stray form.rows (unwrap_or (offset_of form line) 0) ≡ false = rw one refl in
    rw (row_few form line few, stream, stray) (say_said form tail (record state {
      form = at;
      next = offset_after (Some (unwrap_or (offset_of form line) 0)) (length (octets_by form line));
      octets = octets_by form line;
    }) message one all few e)

first_said : (at : ℕ) (forms : List LineForm) (cut : Bool) (line tail message : List ℕ) (state : Rows) → is_cut_short tail ≡ false →
    AllByRecursion (λ form. (form.rows ≡ One) × (length (octets_by form line) < OCTETS)) forms → read_from forms cut line ≡ reading.Frame message →
    IsReadInRows message (first_line_in at forms line tail state)
unfolding first_line_in
first_said at [] true line tail message state all are e = absurd (damaged_frame message e)
first_said at [] false line tail message state all are e = absurd (other_frame message e)
first_said at (form ∷ forms) cut line tail message state all are e = elim (cases_Bool (has form line)) [
  | inl had ↦ rw had (begun_said at form line tail state message are.0.0 all are.0.1
      (sym (some_had form line (read_from forms (cut || ends_in_form form line) line) had) ∙ e))
  | inr none ↦ rw none (first_said (at + 1) forms (cut || ends_in_form form line) line tail message state all are.1
      (sym (ap (λ (octets : List ℕ). said_by_form form octets (read_from forms (cut || ends_in_form form line) line)) (none_had form line none)) ∙ e))
]

-- a message that its form reads in a line below nothing open is what the line says
pub itself_said : (forms : List LineForm) (line tail message : List ℕ) (state : Rows) → is_message_open state.pending ≡ false →
    IsAlone forms line tail → read_line forms line ≡ reading.Frame message → IsReadInRows message (read_in forms line tail state)
unfolding read_in
itself_said forms line tail message state none alone e = grind (arith, nat_tests, first_said)

-- ---- A log of such lines

no_row : (form : LineForm) (row : ℕ) (tail : List ℕ) → form.rows ≡ One → may_go_on form row tail ≡ false
unfolding may_go_on
no_row form row tail one = rw one refl

whole_closed : (form : LineForm) (row : ℕ) (tail : List ℕ) (state : Rows) (whole : Whole) → is_full form row tail ≡ false →
    may_go_on form row tail ≡ false → is_message_open (say_whole form row tail state whole).pending ≡ false
whole_closed form row tail state (wholes.Any start end) ends goes = rw ends refl
whole_closed form row tail state wholes.Lacking ends goes = rw goes refl
whole_closed form row tail state wholes.Idle ends goes = grind (arith, nat_tests)
whole_closed form row tail state _ ends goes = refl

say_closed : (form : LineForm) (row : ℕ) (tail : List ℕ) (state : Rows) → form.rows ≡ One → is_message_open (say form row tail state).pending ≡ false
unfolding say
say_closed form row tail state one = grind (arith, nat_tests, whole_closed, one_full, no_row)

pub begun_closed : (at : ℕ) (form : LineForm) (line tail : List ℕ) (state : Rows) → form.rows ≡ One →
    is_message_open (begun_line at form line tail state).pending ≡ false
unfolding begun_line
begun_closed at form line tail state one = grind (arith, nat_tests, say_closed)

first_closed : (at : ℕ) (forms : List LineForm) (line tail : List ℕ) (state : Rows) →
    AllByRecursion (λ form. (form.rows ≡ One) × (length (octets_by form line) < OCTETS)) forms →
    is_message_open (first_line_in at forms line tail state).pending ≡ false
unfolding first_line_in
first_closed at [] line tail state are = refl
first_closed at (form ∷ forms) line tail state are = elim (cases_Bool (has form line)) [
  | inl had ↦ rw had (begun_closed at form line tail state are.0.0)
  | inr none ↦ rw none (first_closed (at + 1) forms line tail state are.1)
]

-- none is open after such a line
itself_closed : (forms : List LineForm) (line tail : List ℕ) (state : Rows) → is_message_open state.pending ≡ false → IsAlone forms line tail →
    is_message_open (read_in forms line tail state).pending ≡ false
unfolding read_in
itself_closed forms line tail state none alone = rw none (first_closed 0 forms line tail (record state { octets = [] }) alone.1)

swapped_nothing : (swap : Bool) (octets : List ℕ) → swapped swap octets ≡ [] → not (are_none octets) ≡ false
unfolding swapped
swapped_nothing swap [] h = refl
swapped_nothing true (octet ∷ []) h = let z : ⊥ = cc in absurd z
swapped_nothing true (lower ∷ (upper ∷ octets)) h = let z : ⊥ = cc in absurd z
swapped_nothing false (octet ∷ octets) h = let z : ⊥ = cc in absurd z

had_none : (form : LineForm) (line : List ℕ) → octets_by form line ≡ [] → has form line ≡ false
unfolding has
had_none form line h = swapped_nothing form.is_swapped (octets_found form line) h

first_other : (at : ℕ) (forms : List LineForm) (line tail : List ℕ) (state : Rows) → IsOther forms line →
    first_line_in at forms line tail state ≡ say_none Other state
unfolding first_line_in
first_other at [] line tail state are = refl
first_other at (form ∷ forms) line tail state are =
    let none : has form line ≡ false = had_none form line (no_octets form line are.0.0) in
    rw none (first_other (at + 1) forms line tail state are.1)

other_alone : (forms : List LineForm) (line tail : List ℕ) (state : Rows) → is_message_open state.pending ≡ false → IsOther forms line →
    read_in forms line tail state ≡ say_none Other (record state { octets = [] })
unfolding read_in
other_alone forms line tail state none are = rw none (first_other 0 forms line tail (record state { octets = [] }) are)

line_alone : (forms : List LineForm) (line tail : List ℕ) (message : Option (List ℕ)) (state : Rows) → is_message_open state.pending ≡ false →
    IsAlone forms line tail → IsLine forms line message →
    said_alone (read_in forms line tail state).said (read_in forms line tail state).message ≡ frame_or_other message
line_alone forms line tail None state none alone is = grind (arith, nat_tests, other_alone)
line_alone forms line tail (Some message) state none alone is =
    let read : IsReadInRows message (read_in forms line tail state) =
    itself_said forms line tail message state none alone (read_back forms message line is) in
    ap (λ (s : Said). said_alone s (read_in forms line tail state).message) read.said ∙ ap reading.Frame read.kept

-- what a log of such lines says
pub log_alone : (forms : List LineForm) (rows : List Row) (messages : List (Option (List ℕ))) (state : Rows) → is_message_open state.pending ≡ false →
    AreAlone forms rows → AreLines forms (map (λ (row : Row). row.line) rows) messages → said_in_turn forms rows state ≡ map frame_or_other messages
log_alone forms [] [] state none alone are = refl
log_alone forms [] (message ∷ messages) state none alone are = absurd are
log_alone forms (row ∷ rows) [] state none alone are = absurd are
log_alone forms (row ∷ rows) (message ∷ messages) state none alone are =
    let head = line_alone forms row.line row.tail message state none alone.0 are.0 in
    let rest = log_alone forms rows messages (read_in forms row.line row.tail state)
    (itself_closed forms row.line row.tail state none alone.0) alone.1 are.1 in
    ap (λ (first : LineSaid). first ∷ said_in_turn forms rows (read_in forms row.line row.tail state)) head
    ∙ ap (λ (rows : List LineSaid). frame_or_other message ∷ rows) rest
