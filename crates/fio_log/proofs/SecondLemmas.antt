-- Lines that no form has.
use Rattle.std.proofs.Common.{◌≡◌, ◌<◌, ℕ, false, not, List, [], ◌∷◌, Some, length, get_or, slice_get, refl, subst, zero, suc}
use Rattle.std.specs.List.{AllByRecursion}
use Rattle.std.proofs.lemmas.Option.{same_Some, slice_get_read}
use Rattle.fio_form.specs.Reading.{octets_found}
use Rattle.fio_form.specs.declared.form.LineForm.{LineForm}
use Rattle.fio_rows.specs.Lines.{are_none, has}

none_found : (octets : List ℕ) → not (are_none octets) ≡ false → octets ≡ []
none_found [] none = refl
none_found (octet ∷ octets) none = absurd (cc)

not_had : (form : LineForm) (text : List ℕ) → has form text ≡ false → octets_found form text ≡ []
unfolding has
not_had form text none = none_found (octets_found form text) none

of_each : (forms : List LineForm) (text : List ℕ) (at : ℕ) (form : LineForm) → AllByRecursion (λ form. has form text ≡ false) forms
    → slice_get forms at ≡ Some form → has form text ≡ false
of_each [] text at form none is = absurd (cc)
of_each (first ∷ forms) text zero form none is = subst (λ (f : LineForm). has f text ≡ false) (same_Some first form is) none.0
of_each (first ∷ forms) text (suc at) form none is = of_each forms text at form none.1 is

-- a form of some that do not have a text
pub none_there : (forms : List LineForm) (text : List ℕ) (at : ℕ) (form : LineForm) → AllByRecursion (λ form. has form text ≡ false) forms
    → at < length forms → form ≡ get_or forms at form → (octets_found form text ≡ [] → ⊥) → ⊥
none_there forms text at form none within is found =
    found (not_had form text (of_each forms text at form none (slice_get_read forms (length forms) at form refl within is)))
