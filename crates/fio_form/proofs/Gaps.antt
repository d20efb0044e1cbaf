-- The gap before an octet.
use Rattle.std.proofs.Common.{◌≡◌, ℕ, true, List, [], ◌∷◌, ◌++◌, refl, sym, ap, ◌∙◌, eq-eqb, inl, inr}
use Rattle.std.specs.Prelude.{◌==◌, map, ◌⊎◌}
use Rattle.std.proofs.lemmas.Bool.{cases_Bool, eqb-true, false≢true}
use Rattle.fio_form.specs.Forms.{has_texts}
use Rattle.fio_form.specs.Octets.{octets_from, steps_at}
use Rattle.fio_form.specs.Writing.{BeginsOctet}
use Rattle.fio_form.specs.declared.form.Digits.{Digits}
use Rattle.fio_form.specs.declared.form.Step.{Step}
use Rattle.fio_form.specs.declared.form.Step.TheVariants.{Octet, Mark}
use Rattle.fio_form.specs.declared.octets.Begun.TheVariants.{Nothing}
use Rattle.fio_form.proofs.OctetTexts.{octet_one, octet_or_not}
use Rattle.fio_form.proofs.OneOctet.{after_found, fold_one, go_between, go_on, missing_not, read_one}

-- steps that an octet follows, whatever the text is
abbrev pub IsNext : List Step → List Step → List Step → Type 0
IsNext cycle steps more = (text : List ℕ) → steps_at cycle steps text ≡ Octet ∷ more

pub gap_read : (digits : Digits) (cycle steps : List Step) (gap done text : List ℕ)
    → octets_from digits cycle (steps_at cycle (map Mark gap ++ steps) (gap ++ text)) Nothing done (gap ++ text) ≡ octets_from digits cycle (steps_at cycle steps text) Nothing done text
gap_read digits cycle steps [] done text = refl
gap_read digits cycle steps (mark ∷ gap) done text = rw (eq-eqb mark mark refl) (gap_read digits cycle steps gap done text)

with_mark : (digits : Digits) (mark : ℕ) (gap : List ℕ) (x : ℕ) (text : List ℕ) → x ≡ mark → BeginsOctet digits gap text → BeginsOctet digits (mark ∷ gap) (x ∷ text)
with_mark digits mark gap x text same one = record {
  octet = one.octet;
  written = one.written;
  rest = one.rest;
  is = one.is;
  apart = one.apart;
  whole = ap (λ t. x ∷ t) one.whole ∙ ap (λ m. m ∷ (gap ++ (one.written ++ one.rest))) same;
}

pub stops : (digits : Digits) → has_texts digits ≡ true → (cycle steps more : List Step) → IsNext cycle steps more → (gap done text : List ℕ) → (BeginsOctet digits gap text → ⊥)
    → octets_from digits cycle (steps_at cycle (map Mark gap ++ steps) text) Nothing done text ≡ done
stops digits has cycle steps more next [] done text ends = elim (octet_or_not digits has text) [
  | inl none ↦ ap (λ (steps : List Step). octets_from digits cycle steps Nothing done text) (next text) ∙ (fold_one digits cycle more Nothing done text
      ∙ ap (λ found. after_found found done (go_on digits cycle more done) (go_between digits cycle more done)) none)
  | inr one ↦ absurd (ends one)
]
stops digits has cycle steps more next (mark ∷ gap) done [] ends = refl
stops digits has cycle steps more next (mark ∷ gap) done (x ∷ text) ends = elim (cases_Bool (x == mark)) [
  | inl same ↦ rw same (stops digits has cycle steps more next gap done text (λ one. ends (with_mark digits mark gap x text (eqb-true x mark same) one)))
  | inr other ↦ rw other refl
]

-- ---- What is read is written

head_of : (x y : ℕ) (a b : List ℕ) → x ∷ a ≡ y ∷ b → x ≡ y
head_of x y a b h = cc

rest_of : (x y : ℕ) (a b : List ℕ) → x ∷ a ≡ y ∷ b → a ≡ b
rest_of x y a b h = cc

none_of : (y : ℕ) (b : List ℕ) → [] ≡ y ∷ b → ⊥
none_of y b h = cc

without_mark : (digits : Digits) (mark : ℕ) (gap : List ℕ) (x : ℕ) (text : List ℕ) → BeginsOctet digits (mark ∷ gap) (x ∷ text) → BeginsOctet digits gap text
without_mark digits mark gap x text one = record {
  octet = one.octet;
  written = one.written;
  rest = one.rest;
  is = one.is;
  apart = one.apart;
  whole = rest_of x mark text (gap ++ (one.written ++ one.rest)) one.whole;
}

pub begun_or_not : (digits : Digits) → has_texts digits ≡ true → (gap text : List ℕ) → (BeginsOctet digits gap text → ⊥) ⊎ BeginsOctet digits gap text
begun_or_not digits has [] text = elim (octet_or_not digits has text) [
  | inl none ↦ inl (λ one. missing_not one.octet one.rest (sym none ∙ (ap (read_one digits Nothing) one.whole ∙ octet_one digits one.octet one.written one.rest one.is one.apart)))
  | inr one ↦ inr one
]
begun_or_not digits has (mark ∷ gap) [] = inl (λ one. none_of mark (gap ++ (one.written ++ one.rest)) one.whole)
begun_or_not digits has (mark ∷ gap) (x ∷ text) = elim (cases_Bool (x == mark)) [
  | inl same ↦ elim (begun_or_not digits has gap text) [
    | inl none ↦ inl (λ one. none (without_mark digits mark gap x text one))
    | inr one ↦ inr (with_mark digits mark gap x text (eqb-true x mark same) one)
  ]
  | inr other ↦ inl (λ one. false≢true (sym other ∙ eq-eqb x mark (head_of x mark text (gap ++ (one.written ++ one.rest)) one.whole)))
]
