-- The latest that lines above a place say.
use Rattle.fio_check.proofs.Names.{◌≡◌, ◌<◌, inl, inr, ℕ, zero, suc, Bool, Option, Some, None, refl, ap, sym, arith, option_map, option_or, IsLatestAbove, IsTheLatest, Placed, is_some_and, latest_above}
use Rattle.fio_check.proofs.Verdicts.{below-or-at}

-- a test of a mapped option tests what is mapped
pub is_some_and-map : {A B : Type 0} (f : A → B) (test : B → Bool) (o : Option A)
    → is_some_and (option_map f o) test ≡ is_some_and o (λ x. test (f x))
is_some_and-map f test None = refl
is_some_and-map f test (Some x) = refl

later-is_latest : {A : Type 0} (said : ℕ → Option A) (place : ℕ) (o : Option A) (found : Placed A) → said place ≡ o
    → option_or (option_map (λ value. record { place = place; value = value }) o) (latest_above said place) ≡ Some found
    → (latest_above said place ≡ Some found → IsLatestAbove said place found) → IsLatestAbove said (suc place) found
later-is_latest said place o found is e above = grind (arith, below-or-at)

latest_above-is_latest : {A : Type 0} (said : ℕ → Option A) (place : ℕ) (found : Placed A) → latest_above said place ≡ Some found → IsLatestAbove said place found
latest_above-is_latest said zero found e = absurd (cc)
latest_above-is_latest said (suc place) found e = later-is_latest said place (said place) found refl e (latest_above-is_latest said place found)

-- the latest is found
is_latest-found : {A : Type 0} (said : ℕ → Option A) (place : ℕ) (found : Placed A) → IsLatestAbove said place found → latest_above said place ≡ Some found
is_latest-found said zero found latest = let none : found.place < 0 = latest.above in absurd (omega arith)
is_latest-found said (suc place) found latest =
    elim (below-or-at found.place place latest.above) as (λ _. latest_above said (suc place) ≡ Some found) [
      | inl here ↦ (let said_here : said place ≡ Some found.value = rw (← here) latest.here in rw said_here (ap (λ n. Some (record { place = n; value = found.value })) (sym here)))
      | inr below ↦ (
          let none : said place ≡ None = latest.none_between place below (omega arith) in
          let above : IsLatestAbove said place found = record { above = below; here = latest.here; none_between = λ between after before. latest.none_between between after (omega arith) } in
          rw none (is_latest-found said place found above))
    ]

pub is_the_latest : {A : Type 0} (said : ℕ → Option A) → IsTheLatest said
is_the_latest said place found = (latest_above-is_latest said place found, is_latest-found said place found)
