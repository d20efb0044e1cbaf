-- What is in parts of a list, and what holds of it.
use Rattle.fio_module.proofs.Names.{◌≡◌, ℕ, zero, suc, ◌+◌, ◌-◌, ◌<◌, ◌≤◌, Bool, true, false, List, [], ◌∷◌, ◌++◌, length, take, drop, if◌then◌else◌, Some, slice_get, refl, ap, sym, ◌∙◌, arith, AllByRecursion, slice_get_within}
use Rattle.circular_buffer.proofs.Places.{slice_get-append_left, slice_get-append_right, slice_get-last}

module _ {A : Type 0} (P : A → Type 0) where
  -- what holds of each element of two lists holds of each of both
  pub each-append : (xs ys : List A) → AllByRecursion P xs → AllByRecursion P ys → AllByRecursion P (xs ++ ys)
  each-append [] ys front back = back
  each-append (x ∷ xs) ys front back = (front.0, each-append xs ys front.1 back)

  -- and of one more element, or none
  pub each-push : (xs : List A) (x : A) → AllByRecursion P xs → P x → AllByRecursion P (xs ++ x ∷ [])
  each-push xs x all one = each-append xs (x ∷ []) all (one, tt)

  pub each-push_if : (more : Bool) (xs : List A) (x : A) → AllByRecursion P xs → P x
      → AllByRecursion P (if more then xs ++ x ∷ [] else xs)
  each-push_if true xs x all one = each-push xs x all one
  each-push_if false xs x all one = all

  -- what holds of each element of both holds of each of either
  pub each-front : (xs ys : List A) → AllByRecursion P (xs ++ ys) → AllByRecursion P xs
  each-front [] ys all = tt
  each-front (x ∷ xs) ys all = (all.0, each-front xs ys all.1)

  pub each-back : (xs ys : List A) → AllByRecursion P (xs ++ ys) → AllByRecursion P ys
  each-back [] ys all = all
  each-back (x ∷ xs) ys all = each-back xs ys all.1

  -- so of the first elements, and of those after them
  pub each-take : (n : ℕ) (xs : List A) → AllByRecursion P xs → AllByRecursion P (take n xs)
  each-take zero xs all = tt
  each-take (suc n) [] all = tt
  each-take (suc n) (x ∷ xs) all = (all.0, each-take n xs all.1)

  pub each-drop : (n : ℕ) (xs : List A) → AllByRecursion P xs → AllByRecursion P (drop n xs)
  each-drop zero xs all = all
  each-drop (suc n) [] all = tt
  each-drop (suc n) (x ∷ xs) all = each-drop n xs all.1

  -- what holds of the element at each index holds of each element
  pub each-from_get : (xs : List A) → ((k : ℕ) (x : A) → slice_get xs k ≡ Some x → P x) → AllByRecursion P xs
  each-from_get [] at = tt
  each-from_get (x ∷ xs) at = (at 0 x refl, each-from_get xs (λ k. at (suc k)))

module _ {A : Type 0} (xs ys : List A) (k : ℕ) (x : A) where
  -- what is in two lists is in one of them
  pub get_in_front : k < length xs → slice_get (xs ++ ys) k ≡ Some x → slice_get xs k ≡ Some x
  get_in_front low is = sym (slice_get-append_left xs ys k low) ∙ is

  pub get_in_back : length xs ≤ k → slice_get (xs ++ ys) k ≡ Some x → slice_get ys (k - length xs) ≡ Some x
  get_in_back high is = sym (slice_get-append_right xs ys k (k - length xs) (omega arith)) ∙ is

  -- what is in one of them is in both
  pub get_from_front : slice_get xs k ≡ Some x → slice_get (xs ++ ys) k ≡ Some x
  get_from_front is = slice_get-append_left xs ys k (slice_get_within xs k x is) ∙ is

  pub get_from_back : slice_get ys k ≡ Some x → slice_get (xs ++ ys) (length xs + k) ≡ Some x
  get_from_back is = slice_get-append_right xs ys (length xs + k) k refl ∙ is

-- the last element is at the end
pub get_last : {A : Type 0} (xs : List A) (x : A) → slice_get (xs ++ x ∷ []) (length xs) ≡ Some x
get_last xs x = slice_get-last xs x (length xs) refl

-- what remains of a list was in it before
pub get_in_drop : {A : Type 0} (n : ℕ) (xs : List A) (k : ℕ) (x : A) → slice_get (drop n xs) k ≡ Some x
    → slice_get xs (n + k) ≡ Some x
get_in_drop zero xs k x is = let same : 0 + k ≡ k = omega arith in ap (slice_get xs) same ∙ is
get_in_drop (suc n) [] k x is = absurd (cc is)
get_in_drop (suc n) (y ∷ xs) k x is =
    let same : suc n + k ≡ suc (n + k) = omega arith in ap (slice_get (y ∷ xs)) same ∙ get_in_drop n xs k x is
