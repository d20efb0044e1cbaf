-- The first form that has a line.
use Rattle.std.proofs.Common.{arith}
use Rattle.std.proofs.lemmas.Bool.Decides.{nat_tests}
use Rattle.std.proofs.Common.{◌≡◌, ◌<◌, true, false, ◌≤◌, ℕ, ◌+◌, List, [], ◌∷◌, length, drop, get_or, refl, add-one, ◌∙◌, drop-cons, Option}
use Rattle.fio_form.specs.declared.form.LineForm.{LineForm}
use Rattle.fio_rows.specs.Lines.{begun_line, first_line_in, has, has_any}
use Rattle.fio_rows.specs.Places.{first_places, no_places, form_places}
use Rattle.fio_rows.specs.Rows.{Rows, say_none}
use Rattle.fio_rows.specs.declared.said.Said.{Said}
use Rattle.fio_rows.specs.declared.saying.Open.{Open}
use Rattle.fio_rows.specs.declared.said.Said.TheVariants.{Other}
use Rattle.std.proofs.Math.ListN.{drop_of_length-le}

-- a form that does not have the line is passed over
pub first_past : (at : ℕ) (form : LineForm) (forms : List LineForm) (line tail : List ℕ) (state : Rows) →
    has form line ≡ false →
    first_line_in at (form ∷ forms) line tail state ≡ first_line_in (at + 1) forms line tail state
unfolding first_line_in
first_past at form forms line tail state h = rw h refl

-- a form that has the line begins with it
pub first_here : (at : ℕ) (form : LineForm) (forms : List LineForm) (line tail : List ℕ) (state : Rows) →
    has form line ≡ true →
    first_line_in at (form ∷ forms) line tail state ≡ begun_line at form line tail state
unfolding first_line_in
first_here at form forms line tail state h = rw h refl

-- the forms from an index on
forms_from : (at : ℕ) (forms : List LineForm) (form : LineForm) → at < length forms → form ≡ get_or forms at form →
    drop at forms ≡ form ∷ drop (at + 1) forms
forms_from at forms form l e =
    let d : drop at forms ≡ get_or forms at form ∷ drop (at + 1) forms = rw (add-one, drop-cons forms at form) in
    d ∙ rw (← e) refl

-- the form at an index is passed over
pub first_past_index : (at : ℕ) (forms : List LineForm) (form : LineForm) (line tail : List ℕ) (state : Rows) →
    at < length forms → form ≡ get_or forms at form → has form line ≡ false →
    first_line_in at (drop at forms) line tail state ≡ first_line_in (at + 1) (drop (at + 1) forms) line tail state
first_past_index at forms form line tail state l e h = grind (arith, nat_tests, forms_from, first_past)

-- the form at an index begins with the line
pub first_here_index : (at : ℕ) (forms : List LineForm) (form : LineForm) (line tail : List ℕ) (state : Rows) →
    at < length forms → form ≡ get_or forms at form → has form line ≡ true →
    first_line_in at (drop at forms) line tail state ≡ begun_line at form line tail state
first_here_index at forms form line tail state l e h = grind (arith, nat_tests, forms_from, first_here)

-- no form is left
pub first_none_index : (at : ℕ) (forms : List LineForm) (line tail : List ℕ) (state : Rows) → length forms ≤ at →
    first_line_in at (drop at forms) line tail state ≡ say_none Other state
unfolding first_line_in
first_none_index at forms line tail state l = grind (arith, nat_tests, drop_of_length-le)

-- the octets above a line that begins do not count
pub begun_alone : (at : ℕ) (form : LineForm) (line tail : List ℕ) (said : Said) (pending : Open) (index : ℕ) (next : Option ℕ)
    (octets message : List ℕ) →
    begun_line at form line tail (record { said = said; pending = pending; form = index; next = next; octets = octets; message = message })
    ≡ begun_line at form line tail (record { said = said; pending = pending; form = index; next = next; octets = []; message = message })
unfolding begun_line
begun_alone at form line tail said pending index next octets message = refl

-- a form that does not have the line does not count
pub any_past_index : (at : ℕ) (forms : List LineForm) (form : LineForm) (line : List ℕ) →
    at < length forms → form ≡ get_or forms at form → has form line ≡ false →
    has_any (drop at forms) line ≡ has_any (drop (at + 1) forms) line
unfolding has_any
any_past_index at forms form line l e h = rw (forms_from at forms form l e, h) refl

-- a form that has it does
pub any_here_index : (at : ℕ) (forms : List LineForm) (form : LineForm) (line : List ℕ) →
    at < length forms → form ≡ get_or forms at form → has form line ≡ true → has_any (drop at forms) line ≡ true
unfolding has_any
any_here_index at forms form line l e h = rw (forms_from at forms form l e, h) refl

-- none is left
pub any_none_index : (at : ℕ) (forms : List LineForm) (line : List ℕ) → length forms ≤ at → has_any (drop at forms) line ≡ false
unfolding has_any
any_none_index at forms line l = let e : drop at forms ≡ [] = drop_of_length-le forms l in rw e refl

-- the places of a line are not those of a form that does not have it
pub places_past_index : (at : ℕ) (forms : List LineForm) (form : LineForm) (line : List ℕ) →
    at < length forms → form ≡ get_or forms at form → has form line ≡ false →
    first_places (drop at forms) line ≡ first_places (drop (at + 1) forms) line
unfolding first_places
places_past_index at forms form line l e h = rw (forms_from at forms form l e, h) refl

-- they are those of a form that does
pub places_here_index : (at : ℕ) (forms : List LineForm) (form : LineForm) (line : List ℕ) →
    at < length forms → form ≡ get_or forms at form → has form line ≡ true → first_places (drop at forms) line ≡ form_places form line
unfolding first_places
places_here_index at forms form line l e h = rw (forms_from at forms form l e, h) refl

-- none is left
pub places_none_index : (at : ℕ) (forms : List LineForm) (line : List ℕ) → length forms ≤ at → first_places (drop at forms) line ≡ no_places line
unfolding first_places
places_none_index at forms line l = let e : drop at forms ≡ [] = drop_of_length-le forms l in rw e refl
