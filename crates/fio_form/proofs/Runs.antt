-- The octets that are written are those that are read.
use Rattle.std.proofs.Common.{◌≡◌, ℕ, zero, suc, ◌+◌, ◌≤◌, true, false, Bool, List, [], ◌∷◌, ◌++◌, length, refl, sym, ap, ◌∙◌, append_assoc, subst, inl, inr, arith}
use Rattle.std.specs.Prelude.{not, map}
use Rattle.std.specs.List.{AllByRecursion}
use Rattle.std.proofs.lemmas.Bool.{cases_Bool, not-true, false≢true, and_parts}
use Rattle.std.proofs.lemmas.List.{append-nil, length-append}
use Rattle.fio_form.specs.Forms.{are_apart, are_certain, are_separate, begins_with_octet, has_texts, is_decimal, is_fixed, is_more}
use Rattle.fio_form.specs.Octets.{makes_longer, octets_from, steps_at}
use Rattle.fio_form.specs.Writing.{AreOctetTexts, BeginsOctet, IsOctetText, cycle_of, more_text, next_gap}
use Rattle.fio_form.specs.declared.form.Digits.{Digits}
use Rattle.fio_form.specs.declared.octets.Begun.TheVariants.{Nothing}
use Rattle.fio_form.specs.declared.form.Step.{Step}
use Rattle.fio_form.specs.declared.form.Step.TheVariants.{Octet, Mark, MaybeBlank}
use Rattle.fio_form.proofs.Gaps.{IsNext, begun_or_not, gap_read, stops}
use Rattle.fio_form.proofs.OctetTexts.{fixed_short, octet_read, octet_some}

-- ---- Gaps

-- whether a gap tells where the number before it ends
abbrev pub is_apart : Digits → List ℕ → Bool
is_apart digits [] = is_fixed digits
is_apart digits (mark ∷ gap) = not (is_more digits mark)

abbrev pub AreApart : Digits → List (List ℕ) → Type 0
AreApart digits gaps = AllByRecursion (λ gap. is_apart digits gap ≡ true) gaps

inside_gap : (gap : List ℕ) (steps : List Step) → are_apart true (map Mark gap ++ steps) ≡ are_apart true steps
inside_gap [] steps = refl
inside_gap (mark ∷ gap) steps = inside_gap gap steps

fixed_apart : (digits : Digits) (gap : List ℕ) → is_fixed digits ≡ true → is_apart digits gap ≡ true
fixed_apart digits [] fixed = fixed
fixed_apart digits (mark ∷ gap) fixed = rw fixed refl

all_fixed : (digits : Digits) (gaps : List (List ℕ)) → is_fixed digits ≡ true → AreApart digits gaps
all_fixed digits [] fixed = tt
all_fixed digits (gap ∷ gaps) fixed = (fixed_apart digits gap fixed, all_fixed digits gaps fixed)

all_apart : (digits : Digits) (gaps : List (List ℕ)) → is_fixed digits ≡ false → are_apart true (cycle_of gaps) ≡ true → AreApart digits gaps
all_apart digits [] free are = tt
all_apart digits ([] ∷ []) free are = absurd (false≢true are)
all_apart digits ([] ∷ (gap ∷ gaps)) free are = absurd (false≢true are)
all_apart digits ((mark ∷ gap) ∷ gaps) free are =
    let parts = and_parts (not (is_decimal mark)) (are_apart true (map Mark gap ++ cycle_of gaps)) are in
    (rw free (parts.0), all_apart digits gaps free (sym (inside_gap gap (cycle_of gaps)) ∙ parts.1))

pub gaps_apart : (digits : Digits) (gaps : List (List ℕ)) → are_separate digits (cycle_of gaps) ≡ true → AreApart digits gaps
gaps_apart digits gaps are = elim (cases_Bool (is_fixed digits)) [
  | inl fixed ↦ all_fixed digits gaps fixed
  | inr free ↦ all_apart digits gaps free (rw free at are)
]

gap_ends : (digits : Digits) (gap text : List ℕ) → is_apart digits gap ≡ true → makes_longer digits (gap ++ text) ≡ false
gap_ends digits [] text is = fixed_short digits text is
gap_ends digits (mark ∷ gap) text is = not-true (is_more digits mark) is

pub more_ends : (digits : Digits) (first : List ℕ) (others gaps texts : List (List ℕ)) (tail : List ℕ) → is_apart digits first ≡ true → AreApart digits gaps → makes_longer digits tail ≡ false
    → makes_longer digits (more_text first others gaps texts ++ tail) ≡ false
more_ends digits first others gaps [] tail apart are ends = ends
more_ends digits first others [] (text ∷ texts) tail apart are ends = rw append_assoc (gap_ends digits first ((text ++ more_text first others others texts) ++ tail) apart)
more_ends digits first others (gap ∷ gaps) (text ∷ texts) tail apart are ends = rw append_assoc (gap_ends digits gap ((text ++ more_text first others gaps texts) ++ tail) are.0)

-- the gap that is next, and those after it; after the last one the first follows
abbrev pub here_of : List ℕ → List (List ℕ) → List ℕ
here_of first [] = first
here_of first (gap ∷ gaps) = gap

abbrev pub then_of : List (List ℕ) → List (List ℕ) → List (List ℕ)
then_of others [] = others
then_of others (gap ∷ gaps) = gaps

-- the steps of the gaps that are left
abbrev pub steps_of : List ℕ → List (List ℕ) → List (List ℕ) → List Step
steps_of first others gaps = map Mark (here_of first gaps) ++ cycle_of (then_of others gaps)

next_octet : (first : List ℕ) (others gaps : List (List ℕ)) → IsNext (cycle_of (first ∷ others)) (cycle_of gaps) (steps_of first others gaps)
next_octet first others [] text = refl
next_octet first others (gap ∷ gaps) text = refl

more_as : (first : List ℕ) (others gaps : List (List ℕ)) (text : List ℕ) (texts : List (List ℕ))
    → more_text first others gaps (text ∷ texts) ≡ here_of first gaps ++ (text ++ more_text first others (then_of others gaps) texts)
more_as first others [] text texts = refl
more_as first others (gap ∷ gaps) text texts = refl

next_as : (first : List ℕ) (others gaps : List (List ℕ)) → next_gap first others gaps [] ≡ here_of first gaps
next_as first others [] = refl
next_as first others (gap ∷ gaps) = refl

next_more : (first : List ℕ) (others gaps : List (List ℕ)) (text : List ℕ) (texts : List (List ℕ))
    → next_gap first others gaps (text ∷ texts) ≡ next_gap first others (then_of others gaps) texts
next_more first others [] text texts = refl
next_more first others (gap ∷ gaps) text texts = refl

then_apart : (digits : Digits) (others gaps : List (List ℕ)) → AreApart digits others → AreApart digits gaps → AreApart digits (then_of others gaps)
then_apart digits others [] all are = all
then_apart digits others (gap ∷ gaps) all are = are.1

-- no octet after one gap, and none after an equal one
none_at : (digits : Digits) (a b tail : List ℕ) → a ≡ b → (BeginsOctet digits a tail → ⊥) → BeginsOctet digits b tail → ⊥
none_at digits a b tail is none one = none (subst (λ (gap : List ℕ). BeginsOctet digits gap tail) (sym is) one)

-- ---- What is written is read

three : (a b c tail : List ℕ) → (a ++ (b ++ c)) ++ tail ≡ a ++ (b ++ (c ++ tail))
three a b c tail = append_assoc a (b ++ c) tail ∙ ap (λ t. a ++ t) (append_assoc b c tail)

-- what is read of a text after an octet, by the gaps that are left
abbrev pub read_after : Digits → List ℕ → List (List ℕ) → List (List ℕ) → List ℕ → List ℕ → List ℕ
read_after digits first others gaps done text =
    octets_from digits (cycle_of (first ∷ others)) (steps_at (cycle_of (first ∷ others)) (steps_of first others gaps) text) Nothing done text

-- one octet with the gap before it
one_read : (digits : Digits) (first : List ℕ) (others gaps : List (List ℕ)) (octet : ℕ) (text done rest : List ℕ)
    → IsOctetText digits octet text → makes_longer digits rest ≡ false
    → read_after digits first others gaps done (here_of first gaps ++ (text ++ rest)) ≡ read_after digits first others (then_of others gaps) (done ++ octet ∷ []) rest
one_read digits first others gaps octet text done rest is ends =
    let cycle = cycle_of (first ∷ others) in
    gap_read digits cycle (cycle_of (then_of others gaps)) (here_of first gaps) done (text ++ rest)
    ∙ (ap (λ (steps : List Step). octets_from digits cycle steps Nothing done (text ++ rest)) (next_octet first others (then_of others gaps) (text ++ rest))
    ∙ octet_read digits cycle (steps_of first others (then_of others gaps)) octet text done rest is ends)

stops_after : (digits : Digits) → has_texts digits ≡ true → (first : List ℕ) (others gaps : List (List ℕ)) (done text : List ℕ) → (BeginsOctet digits (here_of first gaps) text → ⊥)
    → read_after digits first others gaps done text ≡ done
stops_after digits has first others gaps done text ends =
    stops digits has (cycle_of (first ∷ others)) (cycle_of (then_of others gaps)) (steps_of first others (then_of others gaps)) (next_octet first others (then_of others gaps)) (here_of first gaps) done text ends

pub more_read : (digits : Digits) → has_texts digits ≡ true → (first : List ℕ) (others gaps : List (List ℕ)) (done octets : List ℕ) (texts : List (List ℕ)) (tail : List ℕ)
    → is_apart digits first ≡ true → AreApart digits others → AreApart digits gaps
    → AreOctetTexts digits octets texts → (BeginsOctet digits (next_gap first others gaps texts) tail → ⊥) → makes_longer digits tail ≡ false
    → read_after digits first others gaps done (more_text first others gaps texts ++ tail) ≡ done ++ octets
more_read digits has first others gaps done [] (text ∷ texts) tail one all are is ends apart = absurd is
more_read digits has first others gaps done (octet ∷ octets) [] tail one all are is ends apart = absurd is
more_read digits has first others gaps done [] [] tail one all are is ends apart =
    stops_after digits has first others gaps done tail (none_at digits (next_gap first others gaps []) (here_of first gaps) tail (next_as first others gaps) ends) ∙ sym (append-nil done)
more_read digits has first others gaps done (octet ∷ octets) (text ∷ texts) tail one all are is ends apart =
    let left = then_of others gaps in
    let rest = more_text first others left texts ++ tail in
    let whole = ap (λ t. t ++ tail) (more_as first others gaps text texts) ∙ three (here_of first gaps) text (more_text first others left texts) tail in
    let here = one_read digits first others gaps octet text done rest is.0 (more_ends digits first others left texts tail one (then_apart digits others gaps all are) apart) in
    let after = more_read digits has first others left (done ++ octet ∷ []) octets texts tail one all (then_apart digits others gaps all are) is.1
    (none_at digits (next_gap first others gaps (text ∷ texts)) (next_gap first others left texts) tail (next_more first others gaps text texts) ends) apart in
    ap (read_after digits first others gaps done) whole ∙ (here ∙ (after ∙ append_assoc done (octet ∷ []) octets))

-- ---- What is read is written

-- octets are read as they are written
pub record More (digits : Digits) (first : List ℕ) (others gaps : List (List ℕ)) (done all text : List ℕ) : Type 0 where
  pub octets : List ℕ
  pub texts : List (List ℕ)
  pub tail : List ℕ
  pub spelled : AreOctetTexts digits octets texts
  pub ends : BeginsOctet digits (next_gap first others gaps texts) tail → ⊥
  pub apart : makes_longer digits tail ≡ false
  pub is : all ≡ done ++ octets
  pub whole : text ≡ more_text first others gaps texts ++ tail

no_more : (digits : Digits) → has_texts digits ≡ true → (first : List ℕ) (others gaps : List (List ℕ)) (done all text : List ℕ) → (BeginsOctet digits (here_of first gaps) text → ⊥) → makes_longer digits text ≡ false
    → read_after digits first others gaps done text ≡ all → More digits first others gaps done all text
no_more digits has first others gaps done all text ends apart read = record {
  octets = [];
  texts = [];
  tail = text;
  spelled = tt;
  ends = none_at digits (here_of first gaps) (next_gap first others gaps []) text (sym (next_as first others gaps)) ends;
  apart = apart;
  whole = refl;
  is = sym read ∙ (stops_after digits has first others gaps done text ends ∙ sym (append-nil done));
}

-- after one octet more
one_on : (digits : Digits) (first : List ℕ) (others gaps : List (List ℕ)) (done all text : List ℕ) (one : BeginsOctet digits (here_of first gaps) text)
    → read_after digits first others gaps done text ≡ all → read_after digits first others (then_of others gaps) (done ++ one.octet ∷ []) one.rest ≡ all
one_on digits first others gaps done all text one read =
    sym (one_read digits first others gaps one.octet one.written done one.rest one.is one.apart)
    ∙ (ap (read_after digits first others gaps done) (sym one.whole) ∙ read)

with_octet : (digits : Digits) (first : List ℕ) (others gaps : List (List ℕ)) (done all text : List ℕ) (one : BeginsOctet digits (here_of first gaps) text)
    → More digits first others (then_of others gaps) (done ++ one.octet ∷ []) all one.rest → More digits first others gaps done all text
with_octet digits first others gaps done all text one more = record {
  octets = one.octet ∷ more.octets;
  texts = one.written ∷ more.texts;
  tail = more.tail;
  spelled = (one.is, more.spelled);
  ends = none_at digits (next_gap first others (then_of others gaps) more.texts) (next_gap first others gaps (one.written ∷ more.texts)) more.tail (sym (next_more first others gaps one.written more.texts)) more.ends;
  apart = more.apart;
  is = more.is ∙ append_assoc done (one.octet ∷ []) more.octets;
  whole = one.whole ∙ (ap (λ t. here_of first gaps ++ (one.written ++ t)) more.whole
      ∙ (sym (three (here_of first gaps) one.written (more_text first others (then_of others gaps) more.texts) more.tail)
      ∙ ap (λ t. t ++ more.tail) (sym (more_as first others gaps one.written more.texts))));
}

pub shorter : (digits : Digits) (gap text : List ℕ) (one : BeginsOctet digits gap text) (n : ℕ) → length text ≤ n → length one.rest + 1 ≤ n
shorter digits gap text one n h =
    omega (arith, h, ap length one.whole, length-append gap (one.written ++ one.rest), length-append one.written one.rest, octet_some digits one.octet one.written one.is)

pub more_written : (digits : Digits) → has_texts digits ≡ true → (first : List ℕ) (others : List (List ℕ)) (n : ℕ) (gaps : List (List ℕ)) (done all text : List ℕ) → length text ≤ n → makes_longer digits text ≡ false
    → read_after digits first others gaps done text ≡ all → More digits first others gaps done all text
more_written digits has first others zero gaps done all text short apart read = elim (begun_or_not digits has (here_of first gaps) text) [
  | inl ends ↦ no_more digits has first others gaps done all text ends apart read
  | inr one ↦ (let less = shorter digits (here_of first gaps) text one zero short in absurd (omega (arith, less)))
]
more_written digits has first others (suc n) gaps done all text short apart read = elim (begun_or_not digits has (here_of first gaps) text) [
  | inl ends ↦ no_more digits has first others gaps done all text ends apart read
  | inr one ↦ (
      let less = shorter digits (here_of first gaps) text one (suc n) short in
      with_octet digits first others gaps done all text one
      (more_written digits has first others n (then_of others gaps) (done ++ one.octet ∷ []) all one.rest (omega (arith, less)) one.apart
      (one_on digits first others gaps done all text one read)))
]

-- ---- The gaps of a cycle

-- steps are a gap, and gaps with an octet before each
record StepGaps (steps : List Step) : Type 0 where
  gap : List ℕ
  gaps : List (List ℕ)
  is : steps ≡ map Mark gap ++ cycle_of gaps

step_gaps : (steps : List Step) → are_certain steps ≡ true → StepGaps steps
step_gaps [] certain = record { gap = []; gaps = []; is = refl }
step_gaps (Octet ∷ steps) certain =
    let more = step_gaps steps certain in
    record { gap = []; gaps = more.gap ∷ more.gaps; is = ap (λ s. Octet ∷ s) more.is }
step_gaps (Mark mark ∷ steps) certain =
    let more = step_gaps steps certain in
    record { gap = mark ∷ more.gap; gaps = more.gaps; is = ap (λ s. Mark mark ∷ s) more.is }
step_gaps (MaybeBlank ∷ steps) certain = absurd (false≢true certain)

-- the gaps of a cycle
pub record CycleGaps (cycle : List Step) : Type 0 where
  pub first : List ℕ
  pub others : List (List ℕ)
  pub is : cycle ≡ cycle_of (first ∷ others)

pub cycle_gaps : (cycle : List Step) → begins_with_octet cycle ≡ true → are_certain cycle ≡ true → CycleGaps cycle
cycle_gaps (Octet ∷ steps) begins certain =
    let more = step_gaps steps certain in
    record { first = more.gap; others = more.gaps; is = ap (λ s. Octet ∷ s) more.is }
cycle_gaps _ begins certain = absurd (false≢true begins)
