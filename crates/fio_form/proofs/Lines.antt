-- What is written of a line is what is read.
use Rattle.std.proofs.Common.{◌≡◌, ◌≢◌, ℕ, Some, None, true, false, List, [], ◌∷◌, ◌++◌, length, refl, sym, ap, ◌∙◌, subst, inl, inr, arith}
use Rattle.std.specs.Prelude.{Bool, Option, not, ◌&&◌, ◌||◌}
use Rattle.std.proofs.lemmas.Bool.{cases_Bool, false≢true, and_parts, not-true}
use Rattle.fio_form.specs.Forms.{are_certain, are_separate, are_shut, begins_with_octet, has_spelling, has_texts, is_clear, is_last}
use Rattle.fio_form.specs.Fronts.{after_front}
use Rattle.fio_form.specs.Octets.{makes_longer, run_in}
use Rattle.fio_form.specs.Reading.{digits_at, front_text, octets_after, octets_by, octets_found, octets_here, swapped}
use Rattle.fio_form.specs.Writing.{AreFoundIn, AreOctetTexts, AreOctetsIn, AreSpelledIn, BeginsOctet, OneOf, cycle_of, is_spelled, joined, more_text, next_gap}
use Rattle.fio_form.specs.declared.form.LineForm.{LineForm}
use Rattle.fio_form.specs.declared.form.Digits.{Digits}
use Rattle.fio_form.specs.declared.form.Piece.{Piece}
use Rattle.fio_form.specs.declared.form.Step.{Step}
use Rattle.fio_form.specs.declared.form.Digits.TheVariants as digits
use Rattle.fio_form.proofs.Fronts.{begins_part, front_read, written_front}
use Rattle.fio_form.proofs.Gaps.{begun_or_not, stops}
use Rattle.fio_form.proofs.OctetTexts.{octet_begins, octet_read}
use Rattle.fio_form.proofs.Runs.{AreApart, More, cycle_gaps, gaps_apart, more_ends, more_read, more_written, steps_of}

-- ---- One of two

pub the_one : (test : Bool) (A B : Type 0) → test ≡ true → OneOf test A B → A
the_one true A B is one = one
the_one false A B is one = absurd (false≢true is)

pub the_other : (test : Bool) (A B : Type 0) → test ≡ false → OneOf test A B → B
the_other true A B is one = absurd (false≢true (sym is))
the_other false A B is one = one

pub as_one : (test : Bool) (A B : Type 0) → test ≡ true → A → OneOf test A B
as_one true A B is one = one
as_one false A B is one = absurd (false≢true is)

pub as_other : (test : Bool) (A B : Type 0) → test ≡ false → B → OneOf test A B
as_other true A B is one = absurd (false≢true (sym is))
as_other false A B is one = one

-- ---- The parts of a form

pub record Parts (form : LineForm) : Type 0 where
  pub texts : has_texts form.digits ≡ true
  pub begins : begins_with_octet form.cycle.items ≡ true
  pub certain : are_certain form.cycle.items ≡ true
  pub shut : are_shut form.digits form.front.items ≡ true
  pub separate : are_separate form.digits form.cycle.items ≡ true
  pub first : form.is_anywhere ≡ false
  pub plain : form.is_swapped ≡ false

or_second : (a b : Bool) → (not a || b) ≡ true → a ≡ true → b ≡ true
or_second true b h is = h
or_second false b h is = absurd (false≢true is)

pub begins_of : (form : LineForm) → begins_with_octet form.cycle.items ≡ true
begins_of form =
    (and_parts (begins_with_octet form.cycle.items) (not (has_spelling form.digits form.cycle.items) || is_clear form.front.items form.digits form.cycle.items) form.whole).0

pub parts_of : (form : LineForm) → is_spelled form ≡ true → Parts form
parts_of form spelled =
    let kind = and_parts (has_spelling form.digits form.cycle.items) (not form.is_anywhere && not form.is_swapped) spelled in
    let texts = and_parts (has_texts form.digits) (are_certain form.cycle.items) kind.0 in
    let places = and_parts (not form.is_anywhere) (not form.is_swapped) kind.1 in
    let whole = and_parts (begins_with_octet form.cycle.items) (not (has_spelling form.digits form.cycle.items) || is_clear form.front.items form.digits form.cycle.items) form.whole in
    let clear = and_parts (are_shut form.digits form.front.items) (are_separate form.digits form.cycle.items)
    (or_second (has_spelling form.digits form.cycle.items) (is_clear form.front.items form.digits form.cycle.items) whole.1 kind.0) in
    record {
      texts = texts.0;
      begins = whole.0;
      certain = texts.1;
      shut = clear.0;
      separate = clear.1;
      first = not-true form.is_anywhere places.0;
      plain = not-true form.is_swapped places.1;
    }

digits_same : (digits : Digits) → has_texts digits ≡ true → (line text : List ℕ) → digits_at digits line text ≡ digits
digits_same (digits.Text quote) has line text = absurd (false≢true has)
digits_same _ has line text = refl

-- the octets of a form whose front begins the line
pub here_by : (form : LineForm) (line : List ℕ) → form.is_anywhere ≡ false → form.is_swapped ≡ false → octets_by form line ≡ octets_here form line line
unfolding front_text octets_found swapped
here_by form line first plain = rw plain (rw first refl)

-- ---- What is written is read

first_read : (digits : Digits) → has_texts digits ≡ true → (first : List ℕ) (others : List (List ℕ)) (octets : List ℕ) (initial : List ℕ) (texts : List (List ℕ)) (tail : List ℕ)
    → AreApart digits (first ∷ others) → AreOctetTexts digits octets (initial ∷ texts)
    → (BeginsOctet digits (next_gap first others [] texts) tail → ⊥) → makes_longer digits tail ≡ false
    → run_in digits (cycle_of (first ∷ others)) (initial ++ (more_text first others [] texts ++ tail)) ≡ octets
first_read digits has first others [] initial texts tail apart spelled ends short = absurd spelled
first_read digits has first others (octet ∷ octets) initial texts tail apart spelled ends short =
    octet_read digits (cycle_of (first ∷ others)) (steps_of first others []) octet initial [] (more_text first others [] texts ++ tail) spelled.0
    (more_ends digits first others [] texts tail apart.0 tt short)
    ∙ more_read digits has first others [] (octet ∷ []) octets texts tail apart.0 apart.1 tt spelled.1 ends short

pub first_begins : (digits : Digits) (octets initial : List ℕ) (texts : List (List ℕ)) (rest : List ℕ) → AreOctetTexts digits octets (initial ∷ texts)
    → (piece : Piece) → is_last digits piece ≡ true → begins_part piece (initial ++ rest) ≡ false
first_begins digits [] initial texts rest spelled piece not_ = absurd spelled
first_begins digits (octet ∷ octets) initial texts rest spelled piece not_ = octet_begins digits octet initial rest spelled.0 piece not_

spelled_read : (form : LineForm) (octets line : List ℕ) → is_spelled form ≡ true → AreSpelledIn form octets line → octets_by form line ≡ octets
spelled_read form octets line spelled run =
    let parts = parts_of form spelled in
    let text = run.initial ++ (more_text run.first run.others [] run.texts ++ run.tail) in
    let found = front_read form.digits form.values.items form.front.items run.front text run.pieces parts.shut
    (first_begins form.digits octets run.initial run.texts (more_text run.first run.others [] run.texts ++ run.tail) run.spelled) in
    let apart = gaps_apart form.digits (run.first ∷ run.others) (subst (λ (cycle : List Step). are_separate form.digits cycle ≡ true) run.gaps parts.separate) in
    let read = first_read form.digits parts.texts run.first run.others octets run.initial run.texts run.tail apart run.spelled run.ends run.apart in
    here_by form line parts.first parts.plain
    ∙ (ap (λ l. octets_after form line (after_front form.values.items form.front.items l)) run.whole
    ∙ (ap (octets_after form line) found
    ∙ (ap (λ (digits : Digits). run_in digits form.cycle.items text) (digits_same form.digits parts.texts line text)
    ∙ (ap (λ (cycle : List Step). run_in form.digits cycle text) run.gaps ∙ read))))

pub run_read : (form : LineForm) (octets line : List ℕ) → AreOctetsIn form octets line → octets_by form line ≡ octets
run_read form octets line run = elim (cases_Bool (is_spelled form)) [
  | inl spelled ↦ spelled_read form octets line spelled (the_one (is_spelled form) (AreSpelledIn form octets line) (AreFoundIn form octets line) spelled run)
  | inr not_ ↦ (
      let found : AreFoundIn form octets line = the_other (is_spelled form) (AreSpelledIn form octets line) (AreFoundIn form octets line) not_ run in
      found.is)
]

-- ---- What is read is written

-- the octets that a text begins with are written there
record Whole (digits : Digits) (first : List ℕ) (others : List (List ℕ)) (all text : List ℕ) : Type 0 where
  initial : List ℕ
  texts : List (List ℕ)
  tail : List ℕ
  spelled : AreOctetTexts digits all (initial ∷ texts)
  ends : BeginsOctet digits (next_gap first others [] texts) tail → ⊥
  apart : makes_longer digits tail ≡ false
  whole : text ≡ initial ++ (more_text first others [] texts ++ tail)

whole_text : (digits : Digits) (first : List ℕ) (others : List (List ℕ)) (all text : List ℕ) (one : BeginsOctet digits [] text)
    → More digits first others [] (one.octet ∷ []) all one.rest → Whole digits first others all text
whole_text digits first others all text one more = record {
  initial = one.written;
  texts = more.texts;
  tail = more.tail;
  spelled = subst (λ (octets : List ℕ). AreOctetTexts digits octets (one.written ∷ more.texts)) (sym more.is) (one.is, more.spelled);
  ends = more.ends;
  apart = more.apart;
  whole = one.whole ∙ ap (λ t. one.written ++ t) more.whole;
}

octets_written : (digits : Digits) → has_texts digits ≡ true → (first : List ℕ) (others : List (List ℕ)) (all text : List ℕ)
    → run_in digits (cycle_of (first ∷ others)) text ≡ all → all ≢ [] → Whole digits first others all text
octets_written digits has first others all text read some =
    let cycle = cycle_of (first ∷ others) in
    elim (begun_or_not digits has [] text) [
      | inl ends ↦ absurd (some (sym read ∙ stops digits has cycle [] (steps_of first others []) (λ text. refl) [] [] text ends))
      | inr one ↦ (
          let here = octet_read digits cycle (steps_of first others []) one.octet one.written [] one.rest one.is one.apart in
          let rest = sym here ∙ (ap (run_in digits cycle) (sym one.whole) ∙ read) in
          whole_text digits first others all text one
          (more_written digits has first others (length one.rest) [] (one.octet ∷ []) all one.rest (omega arith) one.apart rest))
    ]

spelled_after : (form : LineForm) (octets line : List ℕ) → Parts form → (found : Option (List ℕ)) → after_front form.values.items form.front.items line ≡ found
    → octets_after form line found ≡ octets → octets ≢ [] → AreSpelledIn form octets line
spelled_after form octets line parts None is read some = absurd (some (sym read))
spelled_after form octets line parts (Some rest) is read some =
    let before = written_front form.values.items form.front.items line rest is in
    let gaps = cycle_gaps form.cycle.items parts.begins parts.certain in
    let all = octets_written form.digits parts.texts gaps.first gaps.others octets rest
    (ap (λ (cycle : List Step). run_in form.digits cycle rest) (sym gaps.is)
    ∙ (ap (λ (digits : Digits). run_in digits form.cycle.items rest) (sym (digits_same form.digits parts.texts line rest)) ∙ read)) some in
    record {
      front = before.texts;
      first = gaps.first;
      others = gaps.others;
      initial = all.initial;
      texts = all.texts;
      tail = all.tail;
      pieces = before.pieces;
      gaps = gaps.is;
      spelled = all.spelled;
      ends = all.ends;
      apart = all.apart;
      whole = before.whole ∙ ap (λ t. joined before.texts ++ t) all.whole;
    }

spelled_of : (form : LineForm) (octets line : List ℕ) → is_spelled form ≡ true → octets_by form line ≡ octets → octets ≢ [] → AreSpelledIn form octets line
spelled_of form octets line spelled read some =
    let parts = parts_of form spelled in
    spelled_after form octets line parts (after_front form.values.items form.front.items line) refl (sym (here_by form line parts.first parts.plain) ∙ read) some

pub run_of : (form : LineForm) (octets line : List ℕ) → octets_by form line ≡ octets → octets ≢ [] → AreOctetsIn form octets line
run_of form octets line read some = elim (cases_Bool (is_spelled form)) [
  | inl spelled ↦ as_one (is_spelled form) (AreSpelledIn form octets line) (AreFoundIn form octets line) spelled (spelled_of form octets line spelled read some)
  | inr not_ ↦ as_other (is_spelled form) (AreSpelledIn form octets line) (AreFoundIn form octets line) not_ (record { some = some; is = read })
]

spelled_some : (form : LineForm) (octets line : List ℕ) → AreSpelledIn form octets line → octets ≢ []
spelled_some form [] line run is = absurd run.spelled
spelled_some form (octet ∷ octets) line run is = cc

pub run_some : (form : LineForm) (octets line : List ℕ) → AreOctetsIn form octets line → octets ≢ []
run_some form octets line run = elim (cases_Bool (is_spelled form)) [
  | inl spelled ↦ spelled_some form octets line (the_one (is_spelled form) (AreSpelledIn form octets line) (AreFoundIn form octets line) spelled run)
  | inr not_ ↦ (
      let found : AreFoundIn form octets line = the_other (is_spelled form) (AreSpelledIn form octets line) (AreFoundIn form octets line) not_ run in
      found.some)
]
