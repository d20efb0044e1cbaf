-- A search of the first that passes a test, from a place on.
use Rattle.fio_check.proofs.Names.{◌≡◌, ◌<◌, ◌∙◌, ◌+◌, ℕ, Bool, false, List, Some, ap, cond, length, drop, get_or, find}
use Rattle.std.proofs.lemmas.List.{at_drop_more}

-- one that does not pass it
pub find-more : {A : Type 0} (test : A → Bool) (all : List A) (place : ℕ) (none : A) → place < length all → test (get_or all place none) ≡ false
    → find test (drop place all) ≡ find test (drop (place + 1) all)
find-more test all place none within fails =
    at_drop_more (find test) all place none within ∙ ap (λ passes. cond passes (Some (get_or all place none)) (find test (drop (place + 1) all))) fails
