-- Lists of parts of three octets each: how they are read from octets; what they spell is read back, and what is read is
-- spelled.
use Rattle.fio_message.proofs.Names.{◌≡◌, ℕ, zero, suc, ◌+◌, ◌*◌, ◌/◌, ◌<◌, ◌≤◌, List, [], ◌∷◌, ◌++◌, length, get_or, take, drop, refl, sym, ap, ◌∙◌, arith, append_assoc, AllByRecursion, flat_map, take-append-drop, length-append, length-drop, drop_at, drop-drop, IsOctets, parts_at, parts_in}
use Rattle.fio_message.proofs.Numbers.{IsOctets-drop, IsOctets-append}

module _ {X : Type 0} (part_at : List ℕ → X) where
  -- the number of parts that are read is the number requested
  pub length-parts_at : (n : ℕ) (octets : List ℕ) → length (parts_at part_at n octets) ≡ n
  length-parts_at zero octets = refl
  length-parts_at (suc n) octets = ap suc (length-parts_at n (drop 3 octets))

  -- octets have a part for each three of them
  pub length-parts_in : (octets : List ℕ) → length (parts_in part_at octets) ≡ length octets / 3
  length-parts_in octets = length-parts_at (length octets / 3) octets

  -- enough octets begin with a part, and the next parts follow three octets later
  pub parts_in-some : (octets : List ℕ) → 3 ≤ length octets
      → parts_in part_at octets ≡ part_at octets ∷ parts_in part_at (drop 3 octets)
  parts_in-some octets le =
      let one : length octets / 3 ≡ suc (length (drop 3 octets) / 3) = omega (arith, length-drop 3 octets) in
      rw one refl

  -- the part at an index begins after three octets for each part before it
  parts_at-place : (n place : ℕ) (octets : List ℕ) (blank : X) → place < n
      → get_or (parts_at part_at n octets) place blank ≡ part_at (drop (3 * place) octets)
  parts_at-place zero place octets blank lt = absurd (omega arith)
  parts_at-place (suc n) zero octets blank lt = refl
  parts_at-place (suc n) (suc place) octets blank lt =
      let three : 3 + 3 * place ≡ 3 * suc place = omega arith in
      parts_at-place n place (drop 3 octets) blank (omega arith)
      ∙ ap part_at (drop-drop (3 * place) 3 octets ∙ ap (λ k. drop k octets) three)

  -- the part at an index of a list
  pub parts_in-place : (octets : List ℕ) (place : ℕ) (blank : X) → place < length (parts_in part_at octets)
      → get_or (parts_in part_at octets) place blank ≡ part_at (drop (3 * place) octets)
  parts_in-place octets place blank lt =
      parts_at-place (length octets / 3) place octets blank (omega (arith, length-parts_in octets, lt))

-- a kind of parts: each has three octets, which spell the part that is read from them, and from which the part is read back
pub record IsPart {X : Type 0} (Fits : X → Type 0) (octets_of : X → List ℕ) (part_at : List ℕ → X) : Type 0 where
  pub len : (x : X) → length (octets_of x) ≡ 3
  pub octets : (x : X) → Fits x → IsOctets (octets_of x)
  pub again : (x : X) (rest : List ℕ) → Fits x → part_at (octets_of x ++ rest) ≡ x
  pub fits : (o : List ℕ) → IsOctets o → Fits (part_at o)
  pub spelled : (o : List ℕ) → 3 ≤ length o → IsOctets o → octets_of (part_at o) ≡ take 3 o

module _ {X : Type 0} {Fits : X → Type 0} {octets_of : X → List ℕ} {part_at : List ℕ → X}
    (part : IsPart Fits octets_of part_at) where
  -- parts have three octets each
  pub length-parts : (xs : List X) → length (flat_map octets_of xs) ≡ 3 * length xs
  length-parts [] = refl
  length-parts (x ∷ xs) =
      omega (arith, length-append (octets_of x) (flat_map octets_of xs), length-parts xs, part.len x)

  -- and each of these is an octet
  pub octets-parts : (xs : List X) → AllByRecursion Fits xs → IsOctets (flat_map octets_of xs)
  octets-parts [] h = tt
  octets-parts (x ∷ xs) h =
      IsOctets-append (octets_of x) (flat_map octets_of xs) (part.octets x h.0) (octets-parts xs h.1)

  -- all parts that were spelled are read back, whatever follows
  pub parts-again : (xs : List X) (rest : List ℕ) → AllByRecursion Fits xs
      → parts_at part_at (length xs) (flat_map octets_of xs ++ rest) ≡ xs
  parts-again [] rest h = refl
  parts-again (x ∷ xs) rest h =
      let others = flat_map octets_of xs ++ rest in
      let regrouped : flat_map octets_of (x ∷ xs) ++ rest ≡ octets_of x ++ others =
      append_assoc (octets_of x) (flat_map octets_of xs) rest in
      let first : part_at (octets_of x ++ others) ≡ x = part.again x others h.0 in
      let left : drop 3 (octets_of x ++ others) ≡ others = drop_at (octets_of x) others 3 (part.len x) in
      ap (parts_at part_at (suc (length xs))) regrouped ∙ rw (first, left, parts-again xs rest h.1) refl

  -- parts that are read from octets are within their ranges
  pub fits-parts_at : (n : ℕ) (o : List ℕ) → IsOctets o → AllByRecursion Fits (parts_at part_at n o)
  fits-parts_at zero o h = tt
  fits-parts_at (suc n) o h = (part.fits o h, fits-parts_at n (drop 3 o) (IsOctets-drop 3 o h))

  -- parts that are read from octets spell them, up to the octets that remain
  pub parts-spelled : (n : ℕ) (o : List ℕ) → 3 * n ≤ length o → IsOctets o
      → flat_map octets_of (parts_at part_at n o) ++ drop (3 * n) o ≡ o
  parts-spelled zero o le h = refl
  parts-spelled (suc n) o le h =
      let first = octets_of (part_at o) in
      let others = flat_map octets_of (parts_at part_at n (drop 3 o)) in
      let left : drop (3 * suc n) o ≡ drop (3 * n) (drop 3 o) =
      ap (λ (k : ℕ). drop k o) (omega arith) ∙ sym (drop-drop (3 * n) 3 o) in
      let after : others ++ drop (3 * n) (drop 3 o) ≡ drop 3 o =
      parts-spelled n (drop 3 o) (omega (arith, length-drop 3 o)) (IsOctets-drop 3 o h) in
      append_assoc first others (drop (3 * suc n) o)
      ∙ ap (λ (r : List ℕ). first ++ (others ++ r)) left
      ∙ ap (λ (r : List ℕ). first ++ r) after
      ∙ ap (λ (r : List ℕ). r ++ drop 3 o) (part.spelled o (omega arith) h)
      ∙ take-append-drop 3 o
