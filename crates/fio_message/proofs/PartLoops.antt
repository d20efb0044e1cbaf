-- A loop that writes the octets of parts one after another.
use Rattle.fio_message.proofs.Names.{◌≡◌, ℕ, ◌+◌, ◌*◌, ◌<◌, ◌≤◌, List, [], ◌∷◌, ◌++◌, length, get_or, set, take, refl, sym, ap, ◌∙◌, arith, append_assoc, AllByRecursion, flat_map, length-set, append-nil, take_more, take_more_set}

-- one more item of a list that has the fact
AllByRecursion-push : {X : Type 0} (P : X → Type 0) (xs : List X) (x : X)
    → AllByRecursion P xs → P x → AllByRecursion P (xs ++ x ∷ [])
AllByRecursion-push P [] x h p = (p, tt)
AllByRecursion-push P (y ∷ ys) x h p = (h.0, AllByRecursion-push P ys x h.1 p)

-- the octets of one more part come last
flat_map_push : {X : Type 0} (f : X → List ℕ) (xs : List X) (x : X)
    → flat_map f xs ++ f x ≡ flat_map f (xs ++ x ∷ [])
flat_map_push f [] x = sym (append-nil (f x))
flat_map_push f (y ∷ ys) x =
    append_assoc (f y) (flat_map f ys) (f x) ∙ ap (λ (o : List ℕ). f y ++ o) (flat_map_push f ys x)

-- three more octets are put
put_three : (slots : List ℕ) (p a b c : ℕ) → p + 2 < length slots
    → take (p + 3) (set (set (set slots p a) (p + 1) b) (p + 2) c) ≡ take p slots ++ a ∷ b ∷ c ∷ []
put_three slots p a b c below =
    let one = set slots p a in
    let two = set one (p + 1) b in
    let next : p + 2 ≡ p + 1 + 1 = omega arith in
    let last : p + 3 ≡ p + 2 + 1 = omega arith in
    let first : take (p + 1) one ≡ take p slots ++ a ∷ [] = take_more_set slots p a (omega (arith, below)) in
    let second : take (p + 2) two ≡ take (p + 1) one ++ b ∷ [] =
    ap (λ n. take n two) next
    ∙ take_more_set one (p + 1) b (omega (arith, below, length-set slots p a)) in
    ap (λ n. take n (set two (p + 2) c)) last
    ∙ take_more_set two (p + 2) c (omega (arith, below, length-set slots p a, length-set one (p + 1) b))
    ∙ ap (λ (o : List ℕ). o ++ c ∷ []) (second ∙ ap (λ (o : List ℕ). o ++ b ∷ []) first)
    ∙ ap (λ (o : List ℕ). o ++ c ∷ []) (append_assoc (take p slots) (a ∷ []) (b ∷ []))
    ∙ append_assoc (take p slots) (a ∷ b ∷ []) (c ∷ [])

-- three octets are those at the indexes 0, 1 and 2
pub three_octets : (octets : List ℕ) → length octets ≡ 3 → octets ≡ get_or octets 0 0 ∷ get_or octets 1 0 ∷ get_or octets 2 0 ∷ []
three_octets (a ∷ b ∷ c ∷ []) len = refl
three_octets [] len = absurd (omega (arith, len))
three_octets (a ∷ []) len = absurd (omega (arith, len))
three_octets (a ∷ b ∷ []) len = absurd (omega (arith, len))
three_octets (a ∷ b ∷ c ∷ d ∷ rest) len = absurd (omega (arith, len))

-- the octets of the first i parts have been put, and these are within their ranges
pub record IsPutSoFar {X : Type 0} (Fits : X → Type 0) (octets_of : X → List ℕ)
    (room : ℕ) (slots : List ℕ) (parts : List X) (i count : ℕ) : Type 0 where
  pub put : take count slots ≡ flat_map octets_of (take i parts)
  pub within : AllByRecursion Fits (take i parts)
  pub counted : count ≡ 3 * i
  pub fits : i ≤ length parts
  pub long : length slots ≡ room

module _ {X : Type 0} (Fits : X → Type 0) (octets_of : X → List ℕ) (room : ℕ) (slots : List ℕ)
    (parts : List X) (i count : ℕ) where
  -- one more part is put
  pub put_more : (part : X) (a b c : ℕ) → i < length parts → count + 2 < room → part ≡ get_or parts i part
      → Fits part → octets_of part ≡ a ∷ b ∷ c ∷ []
      → IsPutSoFar Fits octets_of room slots parts i count
      → IsPutSoFar Fits octets_of room (set (set (set slots count a) (count + 1) b) (count + 2) c) parts (i + 1) (count + 3)
  put_more part a b c lt below read fits is h =
      let more : take (i + 1) parts ≡ take i parts ++ part ∷ [] =
      take_more parts i part lt ∙ ap (λ x. take i parts ++ x ∷ []) (sym read) in
      let one = set slots count a in
      let two = set one (count + 1) b in
      record {
        put = put_three slots count a b c (omega (arith, below, h.long))
            ∙ ap (λ (o : List ℕ). o ++ a ∷ b ∷ c ∷ []) h.put
            ∙ ap (λ (o : List ℕ). flat_map octets_of (take i parts) ++ o) (sym is)
            ∙ flat_map_push octets_of (take i parts) part
            ∙ ap (flat_map octets_of) (sym more);
        within = rw more (AllByRecursion-push Fits (take i parts) part h.within fits);
        counted = omega (arith, h.counted);
        fits = omega (arith, lt);
        long = length-set two (count + 2) c ∙ length-set one (count + 1) b ∙ length-set slots count a ∙ h.long;
      }
