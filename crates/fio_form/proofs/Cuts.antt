-- A line that is cut is not another one.
use Rattle.std.proofs.Common.{◌≡◌, ◌≢◌, ℕ, zero, suc, ◌-◌, ◌≤◌, Some, None, true, false, Bool, List, [], ◌∷◌, ◌++◌, length, refl, sym, ap, ◌∙◌, inl, inr, arith}
use Rattle.std.specs.Prelude.{Option, option_and_then, ◌==◌, ◌⊎◌}
use Rattle.std.proofs.lemmas.Bool.{cases_Bool, false≢true}
use Rattle.std.proofs.lemmas.List.{get_or_append_left, length-append}
use Rattle.std.proofs.lemmas.Option.{same_Some}
use Rattle.fio_form.specs.Forms.{is_quoted, begins_with_octet, is_decimal, is_hex, is_part, is_quotation, is_space_or_tab}
use Rattle.fio_form.specs.Fronts.{after_digits, after_front, after_piece, has_value, past, past_piece, taken_parts}
use Rattle.fio_form.specs.Octets.{by_next, by_open, ends_open, longer_in, next_in, octets_from, run_in, steps_at}
use Rattle.fio_form.specs.Reading.{Other, by_rest, digits_at, ends_in_form, ends_in_front, front_text, in_words, is_empty, octets_after, octets_by, octets_found, octets_here, read_line, swapped, text_up_to}
use Rattle.fio_form.specs.Writing.{Has, IsOther}
use Rattle.fio_form.specs.declared.form.LineForm.{LineForm}
use Rattle.fio_form.specs.declared.form.Digits.{Digits}
use Rattle.fio_form.specs.declared.form.Digits.TheVariants as digits
use Rattle.fio_form.specs.declared.form.Piece.{Piece}
use Rattle.fio_form.specs.declared.form.Piece.TheVariants.{Character, Decimal, Hexadecimal, Blanks, Padded, Quote, Value}
use Rattle.fio_form.specs.declared.form.Step.{Step}
use Rattle.fio_form.specs.declared.form.Step.TheVariants.{Octet}
use Rattle.fio_form.specs.declared.octets.Begun.{Begun}
use Rattle.fio_form.specs.declared.octets.Begun.TheVariants.{Nothing}
use Rattle.fio_form.specs.declared.octets.NextDigit.{NextDigit}
use Rattle.fio_form.specs.declared.octets.NextDigit.TheVariants.{More, Last, Emit, Stop}
use Rattle.fio_form.proofs.GoesOn.{goes_on, goes_on_end}
use Rattle.fio_form.proofs.Lines.{begins_of, run_read, run_some}
use Rattle.fio_form.proofs.Logs.{is_other, no_octets}
use Rattle.fio_form.proofs.Stepping.{extends, some_octets}

-- ---- A piece

none_not_some : {X : Type 0} (x : X) → None ≡ Some x → ⊥
none_not_some x h = cc

-- the text after the parts of a piece ends where the line is cut, or goes on with the rest
past_cut : (piece : Piece) (line more : List ℕ) → (past piece line ≡ []) ⊎ ((past piece (line ++ more) ≡ past piece line ++ more) × (taken_parts piece (line ++ more) ≡ taken_parts piece line))
past_cut piece [] more = inl refl
past_cut piece (x ∷ line) more = elim (cases_Bool (is_part piece x)) [
  | inr other ↦ inr (rw other refl, rw other refl)
  | inl part ↦ elim (past_cut piece line more) [
    | inl none ↦ inl (rw part none)
    | inr on ↦ inr (rw part on.0, rw part (ap (λ t. x ∷ t) on.1))
  ]
]

-- where a line is cut, a piece is all of it: the text after the piece is empty
abbrev IsAll : Option (List ℕ) → List ℕ → Type 0
IsAll found after = (is_empty after ≡ true) × ((found ≡ None) ⊎ (found ≡ Some []))

-- the text after a piece goes on with the rest of the line
record Goes (found : Option (List ℕ)) (more rest : List ℕ) : Type 0 where
  left : List ℕ
  is : found ≡ Some left
  whole : left ++ more ≡ rest

digits_cut : (line more rest : List ℕ) → after_digits (line ++ more) ≡ Some rest → IsAll (after_digits line) (past Hexadecimal line) ⊎ Goes (after_digits line) more rest
digits_cut [] more rest is = inl (refl, inl refl)
digits_cut (x ∷ line) more rest is = elim (cases_Bool (is_hex x)) [
  | inr other ↦ absurd (none_not_some rest (rw other at is))
  | inl digit ↦ elim (past_cut Hexadecimal line more) [
    | inl none ↦ inl (rw digit (ap is_empty none), inr (rw digit (ap Some none)))
    | inr on ↦ inr (record { left = past Hexadecimal line; is = rw digit refl; whole = sym on.0 ∙ same_Some (past Hexadecimal (line ++ more)) rest (rw digit at is) })
  ]
]

padded_cut : (values line more rest : List ℕ) (x : ℕ) → after_piece values Padded (x ∷ (line ++ more)) ≡ Some rest
    → IsAll (after_piece values Padded (x ∷ line)) (past_piece Padded (x ∷ line)) ⊎ Goes (after_piece values Padded (x ∷ line)) more rest
padded_cut values line more rest x is = elim (past_cut Blanks (x ∷ line) more) [
  | inl none ↦ inl (ap (λ t. is_empty (past Hexadecimal t)) none, inl (ap after_digits none))
  | inr on ↦ digits_cut (past Blanks (x ∷ line)) more rest (sym (ap after_digits on.0) ∙ is)
]

value_cut : (values line more rest : List ℕ) (x : ℕ) → after_piece values Value (x ∷ (line ++ more)) ≡ Some rest
    → IsAll (after_piece values Value (x ∷ line)) (past_piece Value (x ∷ line)) ⊎ Goes (after_piece values Value (x ∷ line)) more rest
value_cut values line more rest x is = elim (cases_Bool (is_hex x)) [
  | inr other ↦ absurd (none_not_some rest (rw other at is))
  | inl digit ↦ elim (cases_Bool (has_value values (x ∷ taken_parts Value (line ++ more)))) [
    | inr not_ ↦ absurd (none_not_some rest (rw (digit, not_) at is))
    | inl known ↦ elim (past_cut Value line more) [
      | inl none ↦ elim (cases_Bool (has_value values (x ∷ taken_parts Value line))) [
        | inl here ↦ inl (rw digit (ap is_empty none), inr (rw digit (rw here (ap Some none))))
        | inr not_ ↦ inl (rw digit (ap is_empty none), inl (rw digit (rw not_ refl)))
      ]
      | inr on ↦ (
          let here : has_value values (x ∷ taken_parts Value line) ≡ true = ap (λ t. has_value values (x ∷ t)) (sym on.1) ∙ known in
          inr (record { left = past Value line; is = rw digit (rw here refl); whole = sym on.0 ∙ same_Some (past Value (line ++ more)) rest (rw (digit, known) at is) }))
    ]
  ]
]

piece_cut : (values : List ℕ) (piece : Piece) (line more rest : List ℕ) (x : ℕ) → after_piece values piece (x ∷ (line ++ more)) ≡ Some rest
    → IsAll (after_piece values piece (x ∷ line)) (past_piece piece (x ∷ line)) ⊎ Goes (after_piece values piece (x ∷ line)) more rest
piece_cut values (Character mark) line more rest x is = elim (cases_Bool (x == mark)) [
  | inr other ↦ absurd (none_not_some rest (rw other at is))
  | inl same ↦ inr (record { left = line; is = rw same refl; whole = same_Some (line ++ more) rest (rw same at is) })
]
piece_cut values Quote line more rest x is = elim (cases_Bool (is_quotation x)) [
  | inr other ↦ absurd (none_not_some rest (rw other at is))
  | inl same ↦ inr (record { left = line; is = rw same refl; whole = same_Some (line ++ more) rest (rw same at is) })
]
piece_cut values Decimal line more rest x is = elim (cases_Bool (is_decimal x)) [
  | inr other ↦ absurd (none_not_some rest (rw other at is))
  | inl digit ↦ elim (past_cut Decimal line more) [
    | inl none ↦ inl (rw digit (ap is_empty none), inr (rw digit (ap Some none)))
    | inr on ↦ inr (record { left = past Decimal line; is = rw digit refl; whole = sym on.0 ∙ same_Some (past Decimal (line ++ more)) rest (rw digit at is) })
  ]
]
piece_cut values Hexadecimal line more rest x is = elim (cases_Bool (is_hex x)) [
  | inr other ↦ absurd (none_not_some rest (rw other at is))
  | inl digit ↦ elim (past_cut Hexadecimal line more) [
    | inl none ↦ inl (rw digit (ap is_empty none), inr (rw digit (ap Some none)))
    | inr on ↦ inr (record { left = past Hexadecimal line; is = rw digit refl; whole = sym on.0 ∙ same_Some (past Hexadecimal (line ++ more)) rest (rw digit at is) })
  ]
]
piece_cut values Blanks line more rest x is = elim (cases_Bool (is_space_or_tab x)) [
  | inr other ↦ absurd (none_not_some rest (rw other at is))
  | inl digit ↦ elim (past_cut Blanks line more) [
    | inl none ↦ inl (rw digit (ap is_empty none), inr (rw digit (ap Some none)))
    | inr on ↦ inr (record { left = past Blanks line; is = rw digit refl; whole = sym on.0 ∙ same_Some (past Blanks (line ++ more)) rest (rw digit at is) })
  ]
]
piece_cut values Padded line more rest x is = padded_cut values line more rest x is
piece_cut values Value line more rest x is = value_cut values line more rest x is

-- ---- The front

ends_empty : (form : LineForm) (all : List ℕ) (front : List Piece) → ends_in_front form all front [] ≡ true
ends_empty form all [] = refl
ends_empty form all (piece ∷ front) = refl

-- the text after the front of a line that is cut, if it has the front
record Left (form : LineForm) (all : List ℕ) (front : List Piece) (line more body : List ℕ) : Type 0 where
  left : List ℕ
  is : after_front form.values.items front line ≡ Some left
  ends : ends_in_front form all front line ≡ ends_open (digits_at form.digits all left) Nothing left
  whole : left ++ more ≡ body

-- whether a line ends within a front, by the text after its first piece
abbrev ends_after : LineForm → List ℕ → Piece → List Piece → List ℕ → Option (List ℕ) → Bool
ends_after form all piece front line found = by_rest (is_empty (past_piece piece line)) found (λ rest. ends_in_front form all front rest)

after_piece_cut : (form : LineForm) (all : List ℕ) (piece : Piece) (front : List Piece) (x : ℕ) (line more body : List ℕ) (found : Option (List ℕ))
    → ((left : List ℕ) → after_front form.values.items front (left ++ more) ≡ Some body → (ends_in_front form all front left ≡ true) ⊎ Left form all front left more body)
    → after_piece form.values.items piece (x ∷ (line ++ more)) ≡ found → option_and_then (after_front form.values.items front) found ≡ Some body
    → (ends_in_front form all (piece ∷ front) (x ∷ line) ≡ true) ⊎ Left form all (piece ∷ front) (x ∷ line) more body
after_piece_cut form all piece front x line more body None go here is = absurd (none_not_some body is)
after_piece_cut form all piece front x line more body (Some rest) go here is = elim (piece_cut form.values.items piece line more rest x here) [
  | inl whole ↦ elim whole.1 [
    | inl none ↦ inl (ap (ends_after form all piece front (x ∷ line)) none ∙ whole.0)
    | inr empty ↦ inl (ap (ends_after form all piece front (x ∷ line)) empty ∙ ends_empty form all front)
  ]
  | inr on ↦ elim (go on.left (ap (after_front form.values.items front) on.whole ∙ is)) [
    | inl cut ↦ inl (ap (ends_after form all piece front (x ∷ line)) on.is ∙ cut)
    | inr left ↦ inr (record {
      left = left.left;
      is = ap (option_and_then (after_front form.values.items front)) on.is ∙ left.is;
      ends = ap (ends_after form all piece front (x ∷ line)) on.is ∙ left.ends;
      whole = left.whole;
    })
  ]
]

front_cut : (form : LineForm) (all : List ℕ) (front : List Piece) (line more body : List ℕ) → after_front form.values.items front (line ++ more) ≡ Some body
    → (ends_in_front form all front line ≡ true) ⊎ Left form all front line more body
front_cut form all [] line more body is = inr (record { left = line; is = refl; ends = refl; whole = same_Some (line ++ more) body is })
front_cut form all (piece ∷ front) [] more body is = inl refl
front_cut form all (piece ∷ front) (x ∷ line) more body is =
    after_piece_cut form all piece front x line more body (after_piece form.values.items piece (x ∷ (line ++ more))) (λ left here. front_cut form all front left more body here) refl is

-- ---- The octets

on_some : (next : NextDigit) (more : Begun → List ℕ) (last : ℕ → List ℕ) (emit : ℕ → Begun → List ℕ) → by_next next [] more last emit ≢ [] → goes_on next ≡ true
on_some Stop more last emit some = absurd (some refl)
on_some _ more last emit some = refl

some_value : (value : ℕ) → value ∷ [] ≡ [] → ⊥
some_value value h = cc

not_stop : false ≡ true → ⊥
not_stop h = false≢true h

last_cut : (digits : Digits) (cycle steps : List Step) (begun : Begun) (x : ℕ) (next : NextDigit) → next_in digits begun x false ≡ next → goes_on next ≡ true
    → (ends_open digits begun (x ∷ []) ≡ true) ⊎ (octets_from digits cycle (Octet ∷ steps) begun [] (x ∷ []) ≢ [])
last_cut digits cycle steps begun x (More more) is on = inl (rw is refl)
last_cut digits cycle steps begun x (Last value) is on = inr (λ none. some_value value (rw is at none))
last_cut digits cycle steps begun x (Emit value more) is on = inr (λ none. some_value value (rw is at none))
last_cut digits cycle steps begun x Stop is on = absurd (not_stop on)

next_cut : (digits : Digits) (cycle steps : List Step) (next : NextDigit) (text whole : List ℕ)
    → ((begun : Begun) → octets_from digits cycle (Octet ∷ steps) begun [] whole ≢ [] → (ends_open digits begun text ≡ true) ⊎ (octets_from digits cycle (Octet ∷ steps) begun [] text ≢ []))
    → by_next next [] (λ more. octets_from digits cycle (Octet ∷ steps) more [] whole) (λ last. octets_from digits cycle (steps_at cycle steps whole) Nothing (last ∷ []) whole)
    (λ last more. octets_from digits cycle (Octet ∷ steps) more (last ∷ []) whole) ≢ []
    → (by_open next (λ more. ends_open digits more text) ≡ true)
    ⊎ (by_next next [] (λ more. octets_from digits cycle (Octet ∷ steps) more [] text) (λ last. octets_from digits cycle (steps_at cycle steps text) Nothing (last ∷ []) text)
    (λ last more. octets_from digits cycle (Octet ∷ steps) more (last ∷ []) text) ≢ [])
next_cut digits cycle steps (More more) text whole go some = go more some
next_cut digits cycle steps (Last value) text whole go some =
    inr (some_octets value (octets_from digits cycle (steps_at cycle steps text) Nothing (value ∷ []) text) (extends digits cycle (steps_at cycle steps text) Nothing (value ∷ []) text))
next_cut digits cycle steps (Emit value more) text whole go some =
    inr (some_octets value (octets_from digits cycle (Octet ∷ steps) more (value ∷ []) text) (extends digits cycle (Octet ∷ steps) more (value ∷ []) text))
next_cut digits cycle steps Stop text whole go some = absurd (some refl)

run_cut : (digits : Digits) (cycle steps : List Step) (begun : Begun) (left more : List ℕ) → octets_from digits cycle (Octet ∷ steps) begun [] (left ++ more) ≢ []
    → (ends_open digits begun left ≡ true) ⊎ (octets_from digits cycle (Octet ∷ steps) begun [] left ≢ [])
run_cut digits cycle steps begun [] more some = inl refl
run_cut digits cycle steps begun (x ∷ []) more some = last_cut digits cycle steps begun x (next_in digits begun x false) refl
    (goes_on_end digits begun x (longer_in digits begun more) (on_some (next_in digits begun x (longer_in digits begun more))
    (λ begun. octets_from digits cycle (Octet ∷ steps) begun [] more) (λ last. octets_from digits cycle (steps_at cycle steps more) Nothing (last ∷ []) more)
    (λ last begun. octets_from digits cycle (Octet ∷ steps) begun (last ∷ []) more) some))
run_cut digits cycle steps begun (x ∷ (y ∷ left)) more some =
    next_cut digits cycle steps (next_in digits begun x (longer_in digits begun (y ∷ left))) (y ∷ left) (y ∷ (left ++ more)) (λ begun there. run_cut digits cycle steps begun (y ∷ left) more there) some

cycle_cut : (digits : Digits) (cycle : List Step) (left more : List ℕ) → begins_with_octet cycle ≡ true → run_in digits cycle (left ++ more) ≢ []
    → (ends_open digits Nothing left ≡ true) ⊎ (run_in digits cycle left ≢ [])
cycle_cut digits (Octet ∷ steps) left more begins some = run_cut digits (Octet ∷ steps) steps Nothing left more some
cycle_cut digits _ left more begins some = absurd (false≢true begins)

-- ---- A text up to the quote before it

text_cut : (place : ℕ) (line more : List ℕ) → place ≤ length line → text_up_to place (line ++ more) ≡ text_up_to place line
text_cut zero line more within = refl
text_cut (suc place) line more within = ap (λ quote. digits.Text quote) (get_or_append_left line more 0 place (omega arith))

quote_cut : (digits : Digits) (line more left body : List ℕ) → left ++ more ≡ body → digits_at digits (line ++ more) body ≡ digits_at digits line left
quote_cut digits line more left body whole = elim (cases_Bool (is_quoted digits)) [
  | inr other ↦ rw other refl
  | inl quoted ↦ (
      let place : length (line ++ more) - length body ≡ length line - length left = omega (arith, length-append line more, ap length whole, length-append left more) in
      rw quoted (ap (λ p. text_up_to p (line ++ more)) place ∙ text_cut (length line - length left) line more (omega arith)))
]

-- ---- The line

words_none : (octets : List ℕ) → in_words octets ≡ [] → octets ≡ []
words_none [] none = refl
words_none (octet ∷ []) none = none
words_none (lower ∷ (upper ∷ octets)) none = cc

swapped_none : (swap : Bool) → swapped swap [] ≡ []
unfolding swapped
swapped_none true = refl
swapped_none false = refl

none_swapped : (swap : Bool) (octets : List ℕ) → swapped swap octets ≡ [] → octets ≡ []
unfolding swapped
none_swapped true octets none = words_none octets none
none_swapped false octets none = none

found_here : (form : LineForm) (line : List ℕ) → form.is_anywhere ≡ false → octets_found form line ≡ octets_here form line line
unfolding front_text octets_found
found_here form line first = rw first refl

after_cut : (form : LineForm) (line more : List ℕ) (found : Option (List ℕ)) → after_front form.values.items form.front.items (line ++ more) ≡ found
    → octets_after form (line ++ more) found ≢ [] → (ends_in_front form line form.front.items line ≡ true) ⊎ (octets_here form line line ≢ [])
after_cut form line more None is some = absurd (some refl)
after_cut form line more (Some body) is some = elim (front_cut form line form.front.items line more body is) [
  | inl cut ↦ inl cut
  | inr left ↦ (
      let same = quote_cut form.digits line more left.left body left.whole in
      let there = λ (none : run_in (digits_at form.digits line left.left) form.cycle.items (left.left ++ more) ≡ []).
      some (ap (λ (digits : Digits). run_in digits form.cycle.items body) same ∙ (ap (run_in (digits_at form.digits line left.left) form.cycle.items) (sym left.whole) ∙ none)) in
      elim (cycle_cut (digits_at form.digits line left.left) form.cycle.items left.left more (begins_of form) there) [
        | inl cut ↦ inl (left.ends ∙ cut)
        | inr begins ↦ inr (λ none. begins (sym (ap (octets_after form line) left.is) ∙ none))
      ])
]

cut_run : (form : LineForm) (line more : List ℕ) → form.is_anywhere ≡ false → octets_by form (line ++ more) ≢ []
    → (ends_in_front form line form.front.items line ≡ true) ⊎ (octets_by form line ≢ [])
cut_run form line more first some =
    let whole = line ++ more in
    let there = λ (none : octets_here form whole whole ≡ []). some (ap (swapped form.is_swapped) (found_here form whole first ∙ none) ∙ swapped_none form.is_swapped) in
    elim (after_cut form line more (after_front form.values.items form.front.items whole) refl there) [
      | inl cut ↦ inl cut
      | inr begins ↦ inr (λ none. begins (sym (found_here form line first) ∙ none_swapped form.is_swapped (octets_found form line) none))
    ]

not_empty_line : (line : List ℕ) → line ≢ [] → is_empty line ≡ false
not_empty_line [] some = absurd (some refl)
not_empty_line (x ∷ line) some = refl

at_form : (above : List LineForm) (form : LineForm) (below : List LineForm) (line : List ℕ) → IsOther (above ++ form ∷ below) line → (Has form line → ⊥) × (ends_in_form form line ≡ false)
at_form [] form below line is = is.0
at_form (other ∷ above) form below line is = at_form above form below line is.1

pub cut_seen : (above : List LineForm) (form : LineForm) (below : List LineForm) (line more : List ℕ) → form.is_anywhere ≡ false → Has form (line ++ more) → line ≢ []
    → read_line (above ++ form ∷ below) line ≢ Other
cut_seen above form below line more first has some said =
    let here = at_form above form below line (is_other (above ++ form ∷ below) line said) in
    let there = λ (none : octets_by form (line ++ more) ≡ []). run_some form has.octets (line ++ more) has.run (sym (run_read form has.octets (line ++ more) has.run) ∙ none) in
    elim (cut_run form line more first there) [
      | inl cut ↦ absurd (false≢true (sym here.1 ∙ rw (not_empty_line line some) cut))
      | inr octets ↦ absurd (octets (no_octets form line here.0))
    ]
