-- The entries of the transition log are within their ranges.
use Rattle.fio_module.proofs.Names.{ℕ, List, [], ◌∷◌, map, take, drop, arith, AllByRecursion, IsEntry, Life, Transition, entry_of, log_of}
use Rattle.fio_module.proofs.ListParts.{each-take, each-drop}
use Rattle.fio_module.proofs.ScanTransitions.{each_logged}

-- the entry of each of these transitions is within its ranges
abbrev pub GiveEntries : List Transition → Type 0
GiveEntries transitions = AllByRecursion (λ transition. IsEntry (entry_of transition)) transitions

all-map : (xs : List Transition) → GiveEntries xs → AllByRecursion IsEntry (map entry_of xs)
all-map [] p = tt
all-map (x ∷ xs) p = (p.0, all-map xs p.1)

-- all transitions of a life do
pub log-fits : (life : Life) → GiveEntries (log_of life)
log-fits =
    each_logged (λ life transition. IsEntry (entry_of transition))
    (λ raw life transition of. (omega (arith, of.low), omega arith))
    (λ occurrence life transition fits. fits)

-- and so are the entries of a part of them
pub part-fits : (life : Life) (count start : ℕ)
    → AllByRecursion IsEntry (map entry_of (take count (drop start (log_of life))))
part-fits life count start =
    all-map (take count (drop start (log_of life))) (each-take _ count (drop start (log_of life)) (each-drop _ start (log_of life) (log-fits life)))
