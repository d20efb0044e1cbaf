-- One lane of vectors of 16 lanes that are computed lane by lane.
use Rattle.fio_input.proofs.Names.{◌≡◌, ℕ, ◌+◌, ◌-◌, ◌%◌, ◌^◌, ◌<◌, min, max, Bool, true, false, cond, ltb, List, [], ◌∷◌, map, length, get_or, replicate, refl, ap, ◌∙◌, arith, w8, Fits, nat_tests, tops_compared, length-zip2, get_or-zip2, length-sel_l, get_or-sel_l, mask_l-mod, mask_l-lt, Each1-get_or, get_or-replicate, get_or-map, length-map, zip2, sel_l, mask_l, top, Each1, is_set, is_set-mask_l}

-- a mask, as a test of the lanes of two vectors returns it
abbrev pub compared : (ℕ → ℕ → Bool) → List ℕ → List ℕ → List Bool
compared test xs ys = map (top 7) (zip2 (λ a b. cond (test a b) 255 0) xs ys)

module _ (test : ℕ → ℕ → Bool) (xs ys : List ℕ) (xs_long : length xs ≡ 16) (ys_long : length ys ≡ 16) where
  compared_is : compared test xs ys ≡ zip2 test xs ys
  compared_is = tops_compared w8 test xs ys

  compared_long : length (compared test xs ys) ≡ 16
  compared_long = ap length compared_is ∙ omega (arith, length-zip2 test xs ys)

  compared-lane : (i : ℕ) → i < 16 → get_or (compared test xs ys) i false ≡ test (get_or xs i 0) (get_or ys i 0)
  compared-lane i h = ap (λ l. get_or l i false) compared_is ∙ get_or-zip2 test xs ys i 0 0 false (omega arith) (omega arith)

  -- a selection has the one lane if the test passes, and the other otherwise
  pub select-lane : (chosen other : List ℕ) → length chosen ≡ 16 → length other ≡ 16 → (i : ℕ) → i < 16
      → get_or (sel_l (compared test xs ys) chosen other) i 0 ≡ cond (test (get_or xs i 0) (get_or ys i 0)) (get_or chosen i 0) (get_or other i 0)
  select-lane chosen other chosen_long other_long i h =
      let long = compared_long in
      get_or-sel_l (compared test xs ys) chosen other i 0 (omega arith) (omega arith) (omega arith)
      ∙ ap (λ b. cond b (get_or chosen i 0) (get_or other i 0)) (compared-lane i h)

  pub length-select : (chosen other : List ℕ) → length chosen ≡ 16 → length other ≡ 16 → length (sel_l (compared test xs ys) chosen other) ≡ 16
  length-select chosen other chosen_long other_long =
      let long = compared_long in omega (arith, length-sel_l (compared test xs ys) chosen other (omega arith) (omega arith))

  -- the mask as a number has a bit for each lane whose test passes
  pub bitmask-lane : (i : ℕ) → i < 16 → is_set (mask_l (compared test xs ys) % 2 ^ 64) i ≡ test (get_or xs i 0) (get_or ys i 0)
  bitmask-lane i h =
      let long = compared_long in
      ap (λ n. is_set n i) (mask_l-mod (compared test xs ys) 64 (omega arith)) ∙ is_set-mask_l (compared test xs ys) i ∙ compared-lane i h

  -- and no other bits
  pub bitmask-lt : mask_l (compared test xs ys) % 2 ^ 64 < 65536
  bitmask-lt =
      let long = compared_long in
      rw (mask_l-mod (compared test xs ys) 64 (omega arith)) (rw compared_long at (mask_l-lt (compared test xs ys)))

-- what holds of the lanes of two vectors holds of those that are selected
pub each-selected : (P : ℕ → Type 0) (mask : List Bool) (chosen other : List ℕ) → Each1 P chosen → Each1 P other
    → Each1 P (sel_l mask chosen other)
each-selected P [] chosen other all_chosen all_other = tt
each-selected P (is ∷ mask) [] other all_chosen all_other = tt
each-selected P (is ∷ mask) (x ∷ chosen) [] all_chosen all_other = tt
each-selected P (true ∷ mask) (x ∷ chosen) (y ∷ other) all_chosen all_other =
    (all_chosen.0, each-selected P mask chosen other all_chosen.1 all_other.1)
each-selected P (false ∷ mask) (x ∷ chosen) (y ∷ other) all_chosen all_other =
    (all_other.0, each-selected P mask chosen other all_chosen.1 all_other.1)

abbrev pub zeros : List ℕ
zeros = replicate 16 0

abbrev pub ones : List ℕ
ones = replicate 16 1

pub one-lane : (i : ℕ) → i < 16 → get_or ones i 0 ≡ 1
one-lane i h = get_or-replicate 16 i 1 0 h

at_least_one : (n : ℕ) → cond (ltb n 1) 1 n ≡ max n 1
at_least_one n = grind (arith, nat_tests)

module _ (xs : List ℕ) (xs_long : length xs ≡ 16) where
  -- `xs.simd_max(one)`
  abbrev pub max_one : List ℕ
  max_one = sel_l (compared ltb xs ones) ones xs

  -- the greater of a lane and 1
  pub max_one-lane : (i : ℕ) → i < 16 → get_or max_one i 0 ≡ max (get_or xs i 0) 1
  max_one-lane i h =
      select-lane ltb xs ones xs_long refl ones xs refl xs_long i h
      ∙ ap (λ one. cond (ltb (get_or xs i 0) one) one (get_or xs i 0)) (one-lane i h) ∙ at_least_one (get_or xs i 0)

held_at_255 : (n : ℕ) → n < 256 → (n + cond (ltb 1 (255 - n)) 1 (255 - n)) % 256 ≡ min (n + 1) 255
held_at_255 n h = grind (arith, nat_tests)

module _ (xs : List ℕ) (xs_long : length xs ≡ 16) (fits : Each1 (Fits w8) xs) where
  abbrev pub room : List ℕ
  room = map (λ x. 255 - x) xs

  room_long : length room ≡ 16
  room_long = length-map xs (λ x. 255 - x) ∙ xs_long

  abbrev pub step : List ℕ
  step = sel_l (compared ltb ones room) ones room

  step_long : length step ≡ 16
  step_long = length-select ltb ones room refl room_long ones room refl room_long

  -- `xs.saturating_add(one)`
  abbrev pub one_more : List ℕ
  one_more = zip2 (λ a b. (a + b) % 256) xs step

  -- a lane plus one, at most 255
  pub one_more-lane : (i : ℕ) → i < 16 → get_or one_more i 0 ≡ min (get_or xs i 0 + 1) 255
  one_more-lane i h =
      let long = step_long in
      let x = get_or xs i 0 in
      let within : i < length xs = omega arith in
      let room_is : get_or room i 0 ≡ 255 - x = get_or-map (λ n. 255 - n) xs i 0 0 within in
      get_or-zip2 (λ (a b : ℕ). (a + b) % 256) xs step i 0 0 0 within (omega arith)
      ∙ ap (λ n. (x + n) % 256)
      (select-lane ltb ones room refl room_long ones room refl room_long i h
      ∙ ap (λ one. cond (ltb one (get_or room i 0)) one (get_or room i 0)) (one-lane i h) ∙ ap (λ r. cond (ltb 1 r) 1 r) room_is)
      ∙ held_at_255 x (Each1-get_or (Fits w8) xs i 0 within fits).fits
