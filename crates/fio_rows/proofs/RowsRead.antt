-- What is read in rows is in them.
use Rattle.std.proofs.lemmas.Bool.Decides.{nat_tests}
use Rattle.std.proofs.Common.{ℕ, ◌≡◌, ◌+◌, Bool, true, false, ◌&&◌, List, [], ◌∷◌, ◌++◌, length, Option, Some, None, refl, sym, subst, ◌∙◌, inl, inr, arith}
use Rattle.std.specs.Prelude.{if◌then◌else◌, nat_le, nat_lt, slice_get, suc, unwrap_or}
use Rattle.fio_form.specs.Messages.{size_of}
use Rattle.fio_form.specs.declared.form.LineForm.{LineForm}
use Rattle.fio_form.specs.declared.octets.TheConstants.{OCTETS}
use Rattle.fio_form.specs.declared.reading.Whole.{Whole}
use Rattle.fio_form.specs.declared.reading.Whole.TheVariants as wholes
use Rattle.fio_rows.specs.Lines.{added, begun_line, begun_with, first, first_line_in, has, has_bare_rows, is_certain, is_known, is_row, is_stray, is_stream, next_line_in, next_row, offset_after, offset_of, open_form, open_in, read_in, row_of, says_message, unless_known, unless_own, is_message_open, is_own_row, said_unless}
use Rattle.fio_rows.specs.GoingOn.{may_go_on}
use Rattle.fio_rows.specs.RowLaws.{AreOctetsOf, IsInRows}
use Rattle.fio_rows.specs.Rows.{Rows, say, say_none, say_whole, whole_before}
use Rattle.fio_rows.specs.declared.said.Said.TheVariants.{Idle, Stray, Damaged}
use Rattle.fio_rows.specs.declared.said.Said.TheVariants as said
use Rattle.fio_rows.proofs.LineLaws.{unless_frame}

-- what a line says is in the rows of one of all forms, if it says a message
abbrev pub InRows : List LineForm → List ℕ → List ℕ → Rows → Type 0
InRows all line above state = says_message state.said ≡ true → IsInRows all line above state

-- a line that says no message
silent : (all : List LineForm) (line above : List ℕ) (state : Rows) → says_message state.said ≡ false → InRows all line above state
silent all line above state h e = absurd (let z : false ≡ true = sym h ∙ e in cc)

whole_in : (all : List LineForm) (line above : List ℕ) (form : LineForm) (row : ℕ) (tail : List ℕ) (state : Rows) (whole : Whole) →
    slice_get all state.form ≡ Some form → AreOctetsOf form line above state.octets → InRows all line above (say_whole form row tail state whole)
whole_in all line above form row tail state (wholes.Message start end) k o =
    λ e. record { form = form; of = k; start = start; end = end; said = refl; there = o }
whole_in all line above form row tail state (wholes.Any start end) k o =
    λ e. record { form = form; of = k; start = start; end = end; said = refl; there = o }
whole_in all line above form row tail state wholes.Lacking k o = grind (arith, nat_tests, silent)
whole_in all line above form row tail state wholes.Idle k o = grind (arith, nat_tests, silent)
whole_in all line above form row tail state wholes.Damaged k o = silent all line above _ refl

say_in : (all : List LineForm) (line above : List ℕ) (form : LineForm) (row : ℕ) (tail : List ℕ) (state : Rows) →
    slice_get all state.form ≡ Some form → AreOctetsOf form line above state.octets → InRows all line above (say form row tail state)
unfolding say
say_in all line above form row tail state k o = whole_in all line above form row tail state (whole_before form state.octets tail) k o

begun_with_in : (all : List LineForm) (line above : List ℕ) (form : LineForm) (offset : ℕ) (tail : List ℕ) (state : Rows) →
    slice_get all state.form ≡ Some form → AreOctetsOf form line above state.octets → InRows all line above (begun_with form offset tail state)
begun_with_in all line above form offset tail state k o =
    elim (is_stream form.rows) as (λ b. InRows all line above (if b then say_none (if nat_le OCTETS (length state.octets) then Damaged else said.Stream) state
    else (if is_stray form.rows offset then say_none Stray state else say form (length state.octets) tail state))) [
      | true ↦ elim (nat_le OCTETS (length state.octets)) as (λ b. InRows all line above (say_none (if b then Damaged else said.Stream) state))
          [ true ↦ silent all line above _ refl | false ↦ silent all line above _ refl ]
      | false ↦ elim (is_stray form.rows offset) as (λ b. InRows all line above (if b then say_none Stray state else say form (length state.octets) tail state))
          [ true ↦ silent all line above _ refl | false ↦ say_in all line above form (length state.octets) tail state k o ]
    ]

begun_in : (all : List LineForm) (at : ℕ) (form : LineForm) (line above tail : List ℕ) (state : Rows) → slice_get all at ≡ Some form →
    InRows all line above (begun_line at form line tail state)
unfolding begun_line
begun_in all at form line above tail state k =
    begun_with_in all line above form (unwrap_or (offset_of form line) 0) tail (record state {
      form = at;
      next = offset_after (Some (unwrap_or (offset_of form line) 0)) (length (row_of form line));
      octets = row_of form line;
    }) k (inl refl)

-- these are all forms from an index on
abbrev pub AreFrom : List LineForm → ℕ → List LineForm → Type 0
AreFrom all at forms = (k : ℕ) (form : LineForm) → slice_get forms k ≡ Some form → slice_get all (at + k) ≡ Some form

from_here : (all : List LineForm) (at : ℕ) (form : LineForm) (forms : List LineForm) → AreFrom all at (form ∷ forms) → slice_get all at ≡ Some form
from_here all at form forms h =
    let e : at + 0 ≡ at = omega arith in subst (λ (n : ℕ). slice_get all n ≡ Some form) e (h 0 form refl)

from_next : (all : List LineForm) (at : ℕ) (form : LineForm) (forms : List LineForm) → AreFrom all at (form ∷ forms) → AreFrom all (at + 1) forms
from_next all at form forms h k other is =
    let e : at + suc k ≡ at + 1 + k = omega arith in subst (λ (n : ℕ). slice_get all n ≡ Some other) e (h (suc k) other is)

from_first : (all : List LineForm) → AreFrom all 0 all
from_first all k form is = let e : k ≡ 0 + k = omega arith in subst (λ (n : ℕ). slice_get all n ≡ Some form) e is

first_in_rows : (all : List LineForm) (at : ℕ) (forms : List LineForm) (line above tail : List ℕ) (state : Rows) → AreFrom all at forms →
    InRows all line above (first_line_in at forms line tail state)
unfolding first_line_in
first_in_rows all at [] line above tail state h = silent all line above _ refl
first_in_rows all at (form ∷ forms) line above tail state h =
    elim (has form line) as (λ b. InRows all line above (if b then begun_line at form line tail state else first_line_in (at + 1) forms line tail state)) [
      | true ↦ begun_in all at form line above tail state (from_here all at form forms h)
      | false ↦ first_in_rows all (at + 1) forms line above tail state (from_next all at form forms h)
    ]

unless_in : (all : List LineForm) (line above : List ℕ) (own : Bool) (state : Rows) → InRows all line above state → InRows all line above (unless_own own state)
unless_in all line above own state h e =
    let r : IsInRows all line above state = h (unless_frame own state.said e) in
    record { form = r.form; of = r.of; start = r.start; end = r.end; said = r.said; there = r.there }

added_in : (all : List LineForm) (line : List ℕ) (form : LineForm) (tail : List ℕ) (state : Rows) → slice_get all state.form ≡ Some form →
    InRows all line state.octets (added form (next_row form line) tail state)
unfolding added
added_in all line form tail state k =
    elim (nat_lt OCTETS (length state.octets + length (next_row form line))) as (λ b. InRows all line state.octets (
    if b then say_none Damaged (record state { next = offset_after state.next (length (next_row form line)) })
    else unless_own (is_own_row form state.octets (next_row form line)) (say form (length (next_row form line)) tail (record state {
      next = offset_after state.next (length (next_row form line));
      octets = state.octets ++ next_row form line;
    })))) [
      | true ↦ silent all line state.octets _ refl
      | false ↦ unless_in all line state.octets (is_own_row form state.octets (next_row form line)) _
          (say_in all line state.octets form (length (next_row form line)) tail (record state {
            next = offset_after state.next (length (next_row form line));
            octets = state.octets ++ next_row form line;
          }) k (inr refl))
    ]

known_in : (all : List LineForm) (line above : List ℕ) (state : Rows) → InRows all line above state → InRows all line above (unless_known state)
known_in all line above state h =
    elim (says_message state.said && is_known (size_of state.message)) as (λ b. InRows all line above (if b then state else say_none Damaged state))
    [ true ↦ h | false ↦ silent all line above _ refl ]

next_in : (form : LineForm) (forms : List LineForm) (line tail : List ℕ) (state : Rows) → slice_get forms state.form ≡ Some form →
    InRows forms line state.octets (next_line_in form forms line tail state)
next_in form forms line tail state k =
    elim (is_certain form forms line state.pending) as (λ b. InRows forms line state.octets (if b then added form (next_row form line) tail state
    else (if has_bare_rows form.rows then say_none Damaged state else unless_known (first forms line tail state)))) [
      | true ↦ added_in forms line form tail state k
      | false ↦ elim (has_bare_rows form.rows) as (λ b. InRows forms line state.octets (if b then say_none Damaged state else unless_known (first forms line tail state))) [
        | true ↦ silent forms line state.octets _ refl
        | false ↦ known_in forms line state.octets _ (first_in_rows forms 0 forms line state.octets tail _ (from_first forms))
      ]
    ]

open_in_rows : (above : Option LineForm) (forms : List LineForm) (line tail : List ℕ) (state : Rows) → slice_get forms state.form ≡ above →
    InRows forms line state.octets (open_in above forms line tail state)
unfolding open_in
open_in_rows None forms line tail state k = first_in_rows forms 0 forms line state.octets tail _ (from_first forms)
open_in_rows (Some form) forms line tail state k =
    elim (is_row form state.next line) as (λ b. InRows forms line state.octets (if b then next_line_in form forms line tail state else first forms line tail state)) [
      | true ↦ next_in form forms line tail state k
      | false ↦ first_in_rows forms 0 forms line state.octets tail _ (from_first forms)
    ]

-- the message that a line says is in its octets, or in these and those that were open above it
pub read_in_rows : (forms : List LineForm) (line tail : List ℕ) (state : Rows) → says_message (read_in forms line tail state).said ≡ true →
    IsInRows forms line state.octets (read_in forms line tail state)
unfolding read_in open_form
read_in_rows forms line tail state = grind (arith, nat_tests, open_in_rows, first_in_rows, from_first)
