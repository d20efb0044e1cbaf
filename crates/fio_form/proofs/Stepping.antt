-- Steps through a cycle.
use Rattle.std.proofs.Common.{◌≡◌, ◌<◌, ◌+◌, ◌-◌, Bool, ℕ, List, [], ◌∷◌, ◌++◌, drop, length, slice_index_or, sym, ap, ◌∙◌, append_assoc, arith, inl, inr}
use Rattle.std.specs.Prelude.{◌==◌, take}
use Rattle.std.proofs.lemmas.Bool.{cases_Bool}
use Rattle.std.proofs.lemmas.List.{append-nil, length-append, length-drop, take_all, take_at}
use Rattle.fio_form.specs.Octets.{steps_at, next_in, octets_from, by_next, longer_in}
use Rattle.fio_form.specs.declared.form.Digits.{Digits}
use Rattle.fio_form.specs.declared.form.Step.{Step}
use Rattle.fio_form.specs.declared.form.Step.TheVariants.{Octet, Mark, MaybeBlank}
use Rattle.fio_form.specs.declared.octets.Begun.{Begun}
use Rattle.fio_form.specs.declared.octets.Begun.TheVariants.{Nothing}
use Rattle.fio_form.specs.declared.octets.NextDigit.{NextDigit}
use Rattle.fio_form.specs.declared.octets.NextDigit.TheVariants.{More, Last, Emit, Stop}

-- ---- What is read goes on from the octets before it

-- octets that go on with more
pub record Extends (octets all : List ℕ) : Type 0 where
  pub more : List ℕ
  pub is : all ≡ octets ++ more

same : (octets : List ℕ) → Extends octets octets
same octets = record { more = []; is = sym (append-nil octets) }

one_before : (octets : List ℕ) (value : ℕ) (all : List ℕ) → Extends (octets ++ value ∷ []) all → Extends octets all
one_before octets value all on = record { more = value ∷ on.more; is = on.is ∙ append_assoc octets (value ∷ []) on.more }

by_extended : (next : NextDigit) (octets : List ℕ) (more : Begun → List ℕ) (last : ℕ → List ℕ) (emit : ℕ → Begun → List ℕ)
    → ((begun : Begun) → Extends octets (more begun)) → ((value : ℕ) → Extends (octets ++ value ∷ []) (last value))
    → ((value : ℕ) (begun : Begun) → Extends (octets ++ value ∷ []) (emit value begun)) → Extends octets (by_next next octets more last emit)
by_extended (More begun) octets more last emit a b c = a begun
by_extended (Last value) octets more last emit a b c = one_before octets value (last value) (b value)
by_extended (Emit value begun) octets more last emit a b c = one_before octets value (emit value begun) (c value begun)
by_extended Stop octets more last emit a b c = same octets

pub extends : (digits : Digits) (cycle steps : List Step) (begun : Begun) (octets text : List ℕ) → Extends octets (octets_from digits cycle steps begun octets text)
extends digits cycle steps begun octets [] = same octets
extends digits cycle [] begun octets (x ∷ text) = same octets
extends digits cycle (Mark mark ∷ steps) begun octets (x ∷ text) = elim (cases_Bool (x == mark)) [
  | inl is ↦ rw is (extends digits cycle (steps_at cycle steps text) Nothing octets text)
  | inr other ↦ rw other (same octets)
]
extends digits cycle (MaybeBlank ∷ steps) begun octets (x ∷ text) = elim (cases_Bool (x == 32)) [
  | inl is ↦ rw is (extends digits cycle (steps_at cycle steps text) Nothing octets text)
  | inr other ↦ rw other (same octets)
]
extends digits cycle (Octet ∷ steps) begun octets (x ∷ text) = by_extended (next_in digits begun x (longer_in digits begun text)) octets
    (λ more. octets_from digits cycle (Octet ∷ steps) more octets text)
    (λ last. octets_from digits cycle (steps_at cycle steps text) Nothing (octets ++ last ∷ []) text)
    (λ last more. octets_from digits cycle (Octet ∷ steps) more (octets ++ last ∷ []) text)
    (λ more. extends digits cycle (Octet ∷ steps) more octets text)
    (λ last. extends digits cycle (steps_at cycle steps text) Nothing (octets ++ last ∷ []) text)
    (λ last more. extends digits cycle (Octet ∷ steps) more (octets ++ last ∷ []) text)

pub taken : {n : ℕ} (octets all : List ℕ) → Extends octets all → length octets ≡ n → octets ≡ take n all
taken {n} octets all on full = sym (ap (take n) on.is ∙ take_at octets on.more n full)

pub more_left : (octets : List ℕ) (value : ℕ) (all : List ℕ) → Extends (octets ++ value ∷ []) all → length octets < length all
more_left octets value all on = omega (arith, ap length on.is, length-append (octets ++ value ∷ []) on.more, length-append octets (value ∷ []))

pub some_octets : (value : ℕ) (all : List ℕ) → Extends (value ∷ []) all → all ≡ [] → ⊥
some_octets value all on none = omega (arith, more_left [] value all on, ap length none)

-- where an octet is complete, there is one more
pub ended : (digits : Digits) (cycle steps : List Step) (begun : Begun) (last x : ℕ) (octets text : List ℕ) → next_in digits begun x (longer_in digits begun text) ≡ Last last
    → Extends (octets ++ last ∷ []) (octets_from digits cycle (Octet ∷ steps) begun octets (x ∷ text))
ended digits cycle steps begun last x octets text is = rw is (extends digits cycle (steps_at cycle steps text) Nothing (octets ++ last ∷ []) text)

pub emitted : (digits : Digits) (cycle steps : List Step) (begun : Begun) (last x : ℕ) (more : Begun) (octets text : List ℕ) → next_in digits begun x (longer_in digits begun text) ≡ Emit last more
    → Extends (octets ++ last ∷ []) (octets_from digits cycle (Octet ∷ steps) begun octets (x ∷ text))
emitted digits cycle steps begun last x more octets text is = rw is (extends digits cycle (Octet ∷ steps) more (octets ++ last ∷ []) text)

-- octets of which there are as many as have room are the first ones
pub filled : {n : ℕ} (octets : List ℕ) (value : ℕ) (all : List ℕ) → Extends (octets ++ value ∷ []) all → length octets ≡ n → octets ≡ take n all
filled octets value all on full = taken octets all (one_before octets value all on) full

-- what a character makes of an octet, if what is left is as long as its text
pub next_here : (digits : Digits) (begun : Begun) (text : List ℕ) (place : ℕ) {longer : Bool} {next : NextDigit} →
    longer ≡ longer_in digits begun (take (length text - (place + 1)) (drop (place + 1) text)) →
    next_in digits begun (slice_index_or text place 0) longer ≡ next →
    next_in digits begun (slice_index_or text place 0) (longer_in digits begun (drop (place + 1) text)) ≡ next
next_here digits begun text place is next =
    let all = take_all (length text - (place + 1)) (drop (place + 1) text) (omega (arith, length-drop (place + 1) text)) in
    rw (← all) (rw (← is) next)
