-- One octet of a text.
use Rattle.std.proofs.Common.{◌≡◌, ℕ, List, [], ◌∷◌, ◌++◌, refl}
use Rattle.fio_form.specs.Octets.{by_next, longer_in, next_in, octets_from, steps_at}
use Rattle.fio_form.specs.declared.form.Digits.{Digits}
use Rattle.fio_form.specs.declared.form.Step.{Step}
use Rattle.fio_form.specs.declared.form.Step.TheVariants.{Octet}
use Rattle.fio_form.specs.declared.octets.Begun.{Begun}
use Rattle.fio_form.specs.declared.octets.Begun.TheVariants.{Nothing}
use Rattle.fio_form.specs.declared.octets.NextDigit.{NextDigit}
use Rattle.fio_form.specs.declared.octets.NextDigit.TheVariants.{More, Last, Emit, Stop}

-- an octet that a text begins with, and the text after it; with what is read of the next one, if nothing is between them
pub data Found : Type 0 where
  Missing : Found
  At : ℕ → List ℕ → Found
  Between : ℕ → Begun → List ℕ → Found

abbrev pub found_by : NextDigit → List ℕ → (Begun → Found) → Found
found_by (More begun) text more = more begun
found_by (Last octet) text more = At octet text
found_by (Emit octet begun) text more = Between octet begun text
found_by Stop text more = Missing

abbrev pub read_one : Digits → Begun → List ℕ → Found
read_one digits begun [] = Missing
read_one digits begun (x ∷ text) = found_by (next_in digits begun x (longer_in digits begun text)) text (λ more. read_one digits more text)

-- ---- Octets go on after it

abbrev pub after_found : Found → List ℕ → (ℕ → List ℕ → List ℕ) → (ℕ → Begun → List ℕ → List ℕ) → List ℕ
after_found Missing octets go on = octets
after_found (At last rest) octets go on = go last rest
after_found (Between last begun rest) octets go on = on last begun rest

fold_next : (next : NextDigit) (octets text : List ℕ) (more : Begun → List ℕ) (found : Begun → Found) (go : ℕ → List ℕ → List ℕ) (on : ℕ → Begun → List ℕ → List ℕ)
    → ((begun : Begun) → more begun ≡ after_found (found begun) octets go on)
    → by_next next octets more (λ last. go last text) (λ last begun. on last begun text) ≡ after_found (found_by next text found) octets go on
fold_next (More begun) octets text more found go on same = same begun
fold_next _ octets text more found go on same = refl

-- what is read after an octet
abbrev pub go_on : Digits → List Step → List Step → List ℕ → ℕ → List ℕ → List ℕ
go_on digits cycle steps octets last rest = octets_from digits cycle (steps_at cycle steps rest) Nothing (octets ++ last ∷ []) rest

abbrev pub go_between : Digits → List Step → List Step → List ℕ → ℕ → Begun → List ℕ → List ℕ
go_between digits cycle steps octets last begun rest = octets_from digits cycle (Octet ∷ steps) begun (octets ++ last ∷ []) rest

pub fold_one : (digits : Digits) (cycle steps : List Step) (begun : Begun) (octets text : List ℕ)
    → octets_from digits cycle (Octet ∷ steps) begun octets text
    ≡ after_found (read_one digits begun text) octets (go_on digits cycle steps octets) (go_between digits cycle steps octets)
fold_one digits cycle steps begun octets [] = refl
fold_one digits cycle steps begun octets (x ∷ text) = fold_next (next_in digits begun x (longer_in digits begun text)) octets text
    (λ more. octets_from digits cycle (Octet ∷ steps) more octets text) (λ more. read_one digits more text)
    (go_on digits cycle steps octets) (go_between digits cycle steps octets)
    (λ more. fold_one digits cycle steps more octets text)

pub missing_not : (octet : ℕ) (rest : List ℕ) → Missing ≡ At octet rest → ⊥
missing_not octet rest h = cc
