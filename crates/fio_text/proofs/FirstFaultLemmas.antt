use Rattle.std.proofs.Common.{◌≡◌, List, [], ◌∷◌, map, Result, Ok, Err, refl, ap}
use Rattle.fio_text.specs.FirstFaults.{values_or_fault, with_first, IsFirstFault, Collects}

with_first-err : {A E : Type 0} (values : List A) (more : Result (List A) E) (e : E) → with_first values more ≡ Err e → more ≡ Err e
with_first-err values (Ok vs) e h = cc
with_first-err values (Err d) e h = h

with_first-ok : {A E : Type 0} (value : A) (more : Result (List A) E) (vs : List A) → with_first (value ∷ []) more ≡ Ok vs
    → (rest : List A) × (more ≡ Ok rest) × (vs ≡ value ∷ rest)
with_first-ok value (Ok rest) vs h = (rest, refl, cc)
with_first-ok value (Err d) vs h = absurd (cc)

values_or_fault-values : {A E : Type 0} (readings : List (Result A E)) (vs : List A) → values_or_fault readings ≡ Ok vs → readings ≡ map Ok vs
values_or_fault-values [] vs h = let none : vs ≡ [] = cc in rw none refl
values_or_fault-values (Ok value ∷ rest) vs h =
    let more = with_first-ok value (values_or_fault rest) vs h in
    rw more.2 (ap (λ rs. Ok value ∷ rs) (values_or_fault-values rest more.0 more.1))
values_or_fault-values (Err e ∷ rest) vs h = absurd (cc)

values_or_fault-fault : {A E : Type 0} (readings : List (Result A E)) (e : E) → values_or_fault readings ≡ Err e → IsFirstFault readings e
values_or_fault-fault [] e h = absurd (cc)
values_or_fault-fault (Ok value ∷ rest) e h =
    let more = values_or_fault-fault rest e (with_first-err (value ∷ []) (values_or_fault rest) e h) in
    (value ∷ more.0, more.1, ap (λ rs. Ok value ∷ rs) more.2)
values_or_fault-fault (Err d ∷ rest) e h = let same : d ≡ e = cc in ([], rest, ap (λ x. Err x ∷ rest) same)

pub collects : {A E : Type 0} (readings : List (Result A E)) → Collects readings
collects readings = record { values = values_or_fault-values readings; fault = values_or_fault-fault readings }
