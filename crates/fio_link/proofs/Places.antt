-- Places in lists that grow at their end.
use Rattle.fio_link.proofs.Names.{◌≡◌, ℕ, zero, suc, ◌+◌, ◌<◌, ◌⊎◌, List, [], ◌∷◌, ◌++◌, length, take, drop, Some, slice_get, refl, ap, ◌∙◌, arith, inl, inr, slice_get_within, get_or_from_slice_get}
use Rattle.std.proofs.lemmas.List.{take_more}

-- what is in a list is still there after a push
pub get_before_push : {A : Type 0} (xs ys : List A) (k : ℕ) (y : A) → slice_get xs k ≡ Some y
    → slice_get (xs ++ ys) k ≡ Some y
get_before_push [] ys k y h = absurd cc
get_before_push (x ∷ xs) ys zero y h = h
get_before_push (x ∷ xs) ys (suc k) y h = get_before_push xs ys k y h

-- what is in a list after a push was there before, or is what was pushed
pub get_after_push : {A : Type 0} (xs : List A) (x : A) (k : ℕ) (y : A)
    → slice_get (xs ++ x ∷ []) k ≡ Some y → (slice_get xs k ≡ Some y) ⊎ ((k ≡ length xs) × (y ≡ x))
get_after_push [] x zero y h = inr (refl, cc)
get_after_push [] x (suc k) y h = absurd cc
get_after_push (z ∷ zs) x zero y h = inl h
get_after_push (z ∷ zs) x (suc k) y h =
    elim (get_after_push zs x k y h) as (λ _. (slice_get zs k ≡ Some y) ⊎ ((suc k ≡ suc (length zs)) × (y ≡ x))) [ inl old ↦ inl old | inr new ↦ inr (ap suc new.0, new.1) ]

-- one more of a list
pub take_one_more : {A : Type 0} (xs : List A) (k : ℕ) (x : A) → slice_get xs k ≡ Some x
    → take (k + 1) xs ≡ take k xs ++ x ∷ []
take_one_more xs k x h = take_more xs k x (slice_get_within xs k x h) ∙ ap (λ y. take k xs ++ y ∷ []) (get_or_from_slice_get xs k x x h)

-- there is an element at each index below the length
pub some_block : {A : Type 0} (xs : List A) (m : ℕ) → m < length xs → (x : A) × (slice_get xs m ≡ Some x)
some_block [] m h = absurd (omega arith)
some_block (x ∷ xs) zero h = (x, refl)
some_block (x ∷ xs) (suc m) h = some_block xs m (omega arith)

-- what is in a part of a list is in the list
pub get_part : {A : Type 0} (n p : ℕ) (xs : List A) (i : ℕ) (x : A)
    → slice_get (take n (drop p xs)) i ≡ Some x → slice_get xs (p + i) ≡ Some x
get_part zero p xs i x is = absurd cc
get_part (suc n) zero [] i x is = absurd cc
get_part (suc n) zero (y ∷ xs) zero x is = is
get_part (suc n) zero (y ∷ xs) (suc i) x is =
    let shift : 0 + suc i ≡ suc (0 + i) = omega arith in
    ap (λ k. slice_get (y ∷ xs) k) shift ∙ get_part n zero xs i x is
get_part (suc n) (suc p) [] i x is = absurd cc
get_part (suc n) (suc p) (y ∷ xs) i x is =
    let shift : suc p + i ≡ suc (p + i) = omega arith in
    ap (λ k. slice_get (y ∷ xs) k) shift ∙ get_part (suc n) p xs i x is

-- what is in a list after another
pub get_behind : {A : Type 0} (xs ys : List A) (k : ℕ) (y : A) → slice_get ys k ≡ Some y
    → slice_get (xs ++ ys) (length xs + k) ≡ Some y
get_behind [] ys k y is = let same : 0 + k ≡ k = omega arith in ap (slice_get ys) same ∙ is
get_behind (x ∷ xs) ys k y is =
    let same : suc (length xs) + k ≡ suc (length xs + k) = omega arith in
    ap (slice_get (x ∷ (xs ++ ys))) same ∙ get_behind xs ys k y is
