-- Octets are where they are found.
use Rattle.std.proofs.Common.{ℕ, ◌≡◌, ◌≢◌, ◌+◌, ◌-◌, ◌≤◌, Bool, true, false, not, List, [], ◌∷◌, ◌++◌, length, drop, take, Option, Some, None, refl, sym, ap, subst, ◌∙◌, arith}
use Rattle.std.specs.Prelude.{if◌then◌else◌}
use Rattle.std.proofs.lemmas.Bool.Decides.{nat_tests}
use Rattle.std.proofs.lemmas.List.{drop-take, length-append, length-drop, take_at}
use Rattle.fio_form.specs.Bare.{bare_begin, bare_digits, bare_octets, bare_text, is_closing, octets_closed, octets_quoted, past_letter, past_quote, quote_of, tail_in, text_or}
use Rattle.fio_form.specs.Forms.{is_quotation, is_quoted}
use Rattle.fio_form.specs.Fronts.{after_front}
use Rattle.fio_form.specs.Octets.{rest_in, run_in}
use Rattle.fio_form.specs.Reading.{digits_at, front_text, octets_after, octets_found}
use Rattle.fio_form.specs.declared.form.Digits.{Digits}
use Rattle.fio_form.specs.declared.form.Digits.TheVariants as digits
use Rattle.fio_form.specs.declared.form.LineForm.{LineForm}
use Rattle.fio_form.specs.declared.form.Step.{Step}
use Rattle.fio_form.specs.declared.octets.TheConstants.{OCTETS}
use Rattle.fio_form.specs.declared.reading.Found.{Found}
use Rattle.fio_rows.specs.Lines.{are_none, has, has_bare_rows, has_next, next_octets, text_from_front}
use Rattle.fio_rows.specs.Places.{AreAt, AreWithin, AreWritten, digits_behind_front, next_digits, next_places, form_places, text_behind_front, text_between}
use Rattle.fio_form.proofs.Written.{IsSplit, is_split}

-- there are octets if they are not said to be none
some_there : (octets : List ℕ) → not (are_none octets) ≡ true → octets ≢ []
some_there [] h = absurd (let e : false ≡ true = h in cc)
some_there (octet ∷ octets) h = λ e. cc

-- ---- The text from one place to another

between : (line part rest : List ℕ) (start end : ℕ) → start ≤ end → end ≤ length line → drop start line ≡ part ++ rest → drop end line ≡ rest →
    drop start (take end line) ≡ part
between line part rest start end l w s e =
    let n : start + length part ≡ end = omega (arith, ap length s, ap length e, length-append part rest, length-drop start line, length-drop end line) in
    let here : drop start (take end line) ≡ take (length part) (drop start line) =
    subst (λ (k : ℕ). drop start (take k line) ≡ take (length part) (drop start line)) n (drop-take start (length part) line) in
    here ∙ (ap (take (length part)) s ∙ take_at part rest (length part) refl)

tail_is : (written : Digits) (cycle : List Step) (text octets : List ℕ) → octets ≡ run_in written cycle text → length octets ≤ OCTETS →
    tail_in written cycle text ≡ rest_in written cycle text
tail_is written cycle text octets is few = grind (arith, nat_tests)

there : (written : Digits) (cycle : List Step) (text octets line : List ℕ) (found : Found) → octets ≡ run_in written cycle text → octets ≢ [] →
    length octets ≤ OCTETS → AreWithin found line → drop found.start line ≡ text → drop found.end line ≡ tail_in written cycle text →
    AreWritten written cycle octets (text_between found line)
there written cycle text octets line found is some few within start end =
    let h : IsSplit written cycle text = is_split written cycle text (λ none. some (is ∙ none)) in
    let same : text_between found line ≡ h.part =
    between line h.part (rest_in written cycle text) found.start found.end within.1 within.2 (start ∙ h.whole) (end ∙ tail_is written cycle text octets is few) in
    subst (λ (part : List ℕ). AreWritten written cycle octets part) (sym same) (record { is = h.octets ∙ sym is; rest = h.rest })

-- ---- A line that begins

found_by : (form : LineForm) (line : List ℕ) (after : Option (List ℕ)) → octets_after form line after ≢ [] →
    octets_after form line after ≡ run_in (digits_at form.digits line (text_or after [])) form.cycle.items (text_or after [])
found_by form line None some = absurd (some refl)
found_by form line (Some text) some = refl

found_is : (form : LineForm) (line : List ℕ) → octets_found form line ≢ [] →
    octets_found form line ≡ run_in (digits_behind_front form line) form.cycle.items (text_behind_front form line)
unfolding octets_found text_from_front
found_is form line some = found_by form line (after_front form.values.items form.front.items (front_text form line)) some

first_by : (form : LineForm) (line : List ℕ) (found : Found) → octets_found form line ≢ [] → length (octets_found form line) ≤ OCTETS →
    AreWithin found line → AreAt found line (form_places form line) →
    AreWritten (digits_behind_front form line) form.cycle.items (octets_found form line) (text_between found line)
unfolding form_places
first_by form line found some few within at =
    there (digits_behind_front form line) form.cycle.items (text_behind_front form line) (octets_found form line) line found (found_is form line some) some few within at.1 at.2

-- the octets of a line that begins are where they are found
pub first_there : (form : LineForm) (line : List ℕ) (found : Found) → has form line ≡ true → length (octets_found form line) ≤ OCTETS →
    AreWithin found line → AreAt found line (form_places form line) →
    AreWritten (digits_behind_front form line) form.cycle.items (octets_found form line) (text_between found line)
unfolding has
first_there form line found h few within at = first_by form line found (some_there (octets_found form line) h) few within at

-- ---- A row that goes on

closed_by : (b : Bool) (octets : List ℕ) → (if b then octets else []) ≢ [] → (if b then octets else []) ≡ octets
closed_by true octets some = refl
closed_by false octets some = absurd (some refl)

quoted_by : (b : Bool) (written : Digits) (cycle : List Step) (text : List ℕ) → (if b then octets_closed written cycle text else []) ≢ [] →
    (if b then octets_closed written cycle text else []) ≡ run_in written cycle text
quoted_by true written cycle text some = closed_by (is_closing (tail_in written cycle text)) (run_in written cycle text) some
quoted_by false written cycle text some = absurd (some refl)

quoted_is : (cycle : List Step) (text : List ℕ) → octets_quoted cycle text ≢ [] → octets_quoted cycle text ≡ run_in (quote_of text) cycle (past_quote text)
quoted_is cycle [] some = absurd (some refl)
quoted_is cycle (quote ∷ text) some = quoted_by (is_quotation quote) (digits.Text quote) cycle text some

bare_by : (quoted : Bool) (written : Digits) (cycle : List Step) (text : List ℕ) →
    (if quoted then octets_quoted cycle (past_letter text) else octets_closed written cycle text) ≢ [] →
    (if quoted then octets_quoted cycle (past_letter text) else octets_closed written cycle text)
    ≡ run_in (if quoted then quote_of (past_letter text) else written) cycle (if quoted then past_quote (past_letter text) else text)
bare_by true written cycle text some = quoted_is cycle (past_letter text) some
bare_by false written cycle text some = closed_by (is_closing (tail_in written cycle text)) (run_in written cycle text) some

bare_is : (form : LineForm) (line : List ℕ) → bare_octets form line ≢ [] →
    bare_octets form line ≡ run_in (bare_digits form line) form.cycle.items (bare_begin form line)
unfolding bare_octets bare_digits bare_begin
bare_is form line some = bare_by (is_quoted form.digits) form.digits form.cycle.items (bare_text form.cycle.items line) some

next_by : (bare : Bool) (form : LineForm) (line : List ℕ) (found : Found) → has_bare_rows form.rows ≡ bare → next_octets form line ≢ [] →
    length (next_octets form line) ≤ OCTETS → AreWithin found line → AreAt found line (next_places form line) →
    AreWritten (next_digits form line) form.cycle.items (next_octets form line) (text_between found line)
unfolding next_places next_digits
next_by true form line found e some few within at =
    let some' : bare_octets form line ≢ [] = rw e at some in
    let few' : length (bare_octets form line) ≤ OCTETS = rw e at few in
    let at' : (drop found.front line ≡ line) × (drop found.start line ≡ bare_begin form line)
    × (drop found.end line ≡ tail_in (bare_digits form line) form.cycle.items (bare_begin form line)) = rw e at at in
    rw e (there (bare_digits form line) form.cycle.items (bare_begin form line) (bare_octets form line) line found (bare_is form line some') some' few' within at'.1 at'.2)
next_by false form line found e some few within at =
    let some' : octets_found form line ≢ [] = rw e at some in
    let few' : length (octets_found form line) ≤ OCTETS = rw e at few in
    let at' : AreAt found line (form_places form line) = rw e at at in
    rw e (first_by form line found some' few' within at')

-- the octets of a row that goes on are where they are found
pub next_there : (form : LineForm) (line : List ℕ) (found : Found) → has_next form line ≡ true → length (next_octets form line) ≤ OCTETS →
    AreWithin found line → AreAt found line (next_places form line) →
    AreWritten (next_digits form line) form.cycle.items (next_octets form line) (text_between found line)
unfolding has_next
next_there form line found h few within at = next_by (has_bare_rows form.rows) form line found refl (some_there (next_octets form line) h) few within at
