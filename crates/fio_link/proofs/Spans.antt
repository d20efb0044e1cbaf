-- Which rounds the CPU takes of each life.
use Rattle.std.proofs.lemmas.Bool.Decides.{nat_tests}
use Rattle.fio_link.proofs.Names.{◌≡◌, ℕ, zero, suc, ◌+◌, ◌-◌, ◌<◌, ◌≤◌, ◌⊎◌, List, [], ◌∷◌, ◌++◌, length, take, drop, map, Some, slice_get, refl, ap, sym, subst, ◌∙◌, arith, inl, inr, append_assoc, append-nil, flat_map, slice_get_within, MadeBlock}
use Rattle.fio_link.proofs.Places.{take_one_more}

-- the blocks of a life, the round of the first of them, and the round up to which the CPU has taken them
pub data Span : Type 0 where
  Of : (blocks : List MadeBlock) → (base to : ℕ) → Span

abbrev pub made_in : Span → List MadeBlock
made_in (Of blocks base to) = blocks

-- the rounds of blocks, counted up from the round of the first
abbrev pub rounds_from : ℕ → List MadeBlock → List ℕ
rounds_from base [] = []
rounds_from base (block ∷ blocks) = base ∷ rounds_from (base + 1) blocks

-- the blocks of all spans, and their rounds
abbrev pub blocks_in : List Span → List MadeBlock
blocks_in spans = flat_map made_in spans

abbrev pub rounds_in : List Span → List ℕ
rounds_in [] = []
rounds_in (Of blocks base to ∷ spans) = rounds_from base blocks ++ rounds_in spans

-- what the CPU has taken of them, from this round on
abbrev pub taken_from : ℕ → List Span → List MadeBlock
taken_from from [] = []
taken_from from (Of blocks base to ∷ spans) = take (to - from) (drop (from - base) blocks) ++ taken_from to spans

-- Of `count` blocks the CPU takes the rounds from one up to another: all except perhaps the first and perhaps the last. They
-- follow those of the lives before, up to `low`, or begin one before.
pub record FitsSome (low from base to count : ℕ) : Type 0 where
  pub follows : low ≤ base + 1
  pub begins : base ≤ from
  pub begins_soon : from ≤ base + 1
  pub ends_late : base + count ≤ to + 1
  pub ends : to ≤ base + count

abbrev pub Fits : ℕ → ℕ → List MadeBlock → ℕ → ℕ → Type 0
Fits low from [] base to = to ≡ from
Fits low from (block ∷ blocks) base to = FitsSome low from base to (suc (length blocks))

-- the round after the newest block
abbrev pub low_after : ℕ → List MadeBlock → ℕ → ℕ
low_after low [] base = low
low_after low (block ∷ blocks) base = base + suc (length blocks)

-- the spans follow one another, through these rounds
abbrev pub Chain : ℕ → ℕ → List Span → ℕ → ℕ → Type 0
Chain low from [] next round = (low ≡ next) × (from ≡ round)
Chain low from (Of blocks base to ∷ spans) next round =
    (from ≤ to) × Fits low from blocks base to × Chain (low_after low blocks base) to spans next round

-- they are taken in order
pub chain_within : (low from next round : ℕ) (spans : List Span) → Chain low from spans next round → from ≤ round
chain_within low from next round [] c = omega (arith, c.1)
chain_within low from next round (Of blocks base to ∷ spans) c =
    omega (arith, c.0, chain_within (low_after low blocks base) to next round spans c.2)

-- none of a list, and none of the rest
none_taken : (n : ℕ) (xs rest : List MadeBlock) → n ≡ 0 → rest ≡ [] → take n xs ++ rest ≡ []
none_taken zero xs rest is none = none
none_taken (suc n) xs rest is none = absurd (omega arith)

-- spans of which nothing is taken, if the CPU has taken one more round
pub record Moved (low next round : ℕ) (spans : List Span) : Type 0 where
  pub moved : List Span
  pub same_blocks : map made_in moved ≡ map made_in spans
  pub same_rounds : rounds_in moved ≡ rounds_in spans
  pub chain : Chain low (round + 1) moved next (round + 1)
  pub none : taken_from round spans ≡ []
  pub none_moved : taken_from (round + 1) moved ≡ []

move : (low next round : ℕ) (spans : List Span) → round < low → Chain low round spans next round
    → Moved low next round spans
move low next round [] less c = grind (arith, nat_tests)
move low next round (Of [] base to ∷ spans) less c =
    let low_to : round ≤ to = c.0 in
    let high = chain_within low to next round spans c.2 in
    let same : to ≡ round = omega arith in
    let none : to - round ≡ 0 = omega arith in
    let rest = move low next round spans less (subst (λ n. Chain low n spans next round) same c.2) in
    record {
      moved = Of [] base (round + 1) ∷ rest.moved;
      same_blocks = ap (λ bs. [] ∷ bs) rest.same_blocks;
      same_rounds = rest.same_rounds;
      chain = (omega arith, refl, rest.chain);
      none = none_taken (to - round) (drop (round - base) []) (taken_from to spans) none
          (ap (λ n. taken_from n spans) same ∙ rest.none);
      none_moved = none_taken ((round + 1) - (round + 1)) (drop ((round + 1) - base) []) (taken_from (round + 1) rest.moved)
          (omega arith) rest.none_moved;
    }
move low next round (Of (block ∷ blocks) base to ∷ spans) less c =
    let low_to : round ≤ to = c.0 in
    let high = chain_within (base + suc (length blocks)) to next round spans c.2 in
    let same : to ≡ round = omega arith in
    let none : to - round ≡ 0 = omega arith in
    let f = c.1 in
    let follows : low ≤ base + 1 = f.follows in
    let begins : base ≤ round = f.begins in
    let ends_late : base + suc (length blocks) ≤ to + 1 = f.ends_late in
    let rest = move (base + suc (length blocks)) next round spans (omega arith)
    (subst (λ n. Chain (base + suc (length blocks)) n spans next round) same c.2) in
    record {
      moved = Of (block ∷ blocks) base (round + 1) ∷ rest.moved;
      same_blocks = ap (λ bs. (block ∷ blocks) ∷ bs) rest.same_blocks;
      same_rounds = ap (λ rs. rounds_from base (block ∷ blocks) ++ rs) rest.same_rounds;
      chain = (
        omega arith,
        record {
          follows = follows;
          begins = omega arith;
          begins_soon = omega arith;
          ends_late = omega arith;
          ends = omega arith;
        },
        rest.chain,
      );
      none = none_taken (to - round) (drop (round - base) (block ∷ blocks)) (taken_from to spans) none
          (ap (λ n. taken_from n spans) same ∙ rest.none);
      none_moved = none_taken ((round + 1) - (round + 1)) (drop ((round + 1) - base) (block ∷ blocks))
          (taken_from (round + 1) rest.moved) (omega arith) rest.none_moved;
    }

-- what is in two lists joined is in one of them
get_either : {A : Type 0} (xs ys : List A) (p : ℕ) (y : A) → slice_get (xs ++ ys) p ≡ Some y
    → ((p < length xs) × (slice_get xs p ≡ Some y)) ⊎ ((k : ℕ) × (p ≡ length xs + k) × (slice_get ys k ≡ Some y))
get_either [] ys p y is = inr (p, omega arith, is)
get_either (x ∷ xs) ys zero y is = inl (omega arith, is)
get_either {A} (x ∷ xs) ys (suc p) y is =
    elim (get_either xs ys p y is) as (λ _. ((suc p < length (x ∷ xs)) × (slice_get (x ∷ xs) (suc p) ≡ Some y)) ⊎ ((k : ℕ) × (suc p ≡ length (x ∷ xs) + k) × (slice_get ys k ≡ Some y))) [
      | inl here ↦ let within : p < length xs = here.0 in inl (omega arith, here.1)
      | inr there ↦ let at : p ≡ length xs + there.0 = there.1 in inr (there.0, omega arith, there.2)
    ]

-- there is a round for each block, and the rounds count up
length-rounds : (base : ℕ) (blocks : List MadeBlock) → length (rounds_from base blocks) ≡ length blocks
length-rounds base [] = refl
length-rounds base (block ∷ blocks) = ap suc (length-rounds (base + 1) blocks)

round_at : (base : ℕ) (blocks : List MadeBlock) (p r : ℕ) → slice_get (rounds_from base blocks) p ≡ Some r
    → r ≡ base + p
round_at base [] p r is = absurd (cc is)
round_at base (block ∷ blocks) zero r is = let same : base ≡ r = cc in omega arith
round_at base (block ∷ blocks) (suc p) r is = omega (arith, round_at (base + 1) blocks p r is)

-- what is in a list is in what remains of it
get_dropped : {A : Type 0} (d : ℕ) (xs : List A) (k : ℕ) (x : A) → slice_get xs (d + k) ≡ Some x
    → slice_get (drop d xs) k ≡ Some x
get_dropped zero xs k x is = let same : k ≡ 0 + k = omega arith in ap (slice_get xs) same ∙ is
get_dropped (suc d) [] k x is = absurd (cc is)
get_dropped (suc d) (y ∷ xs) k x is =
    let same : suc (d + k) ≡ suc d + k = omega arith in
    get_dropped d xs k x (ap (slice_get (y ∷ xs)) same ∙ is)

-- the spans once the CPU has taken this block of its round
pub record Took (low from next round : ℕ) (spans : List Span) (block : MadeBlock) : Type 0 where
  pub later : List Span
  pub same_blocks : map made_in later ≡ map made_in spans
  pub same_rounds : rounds_in later ≡ rounds_in spans
  pub chain : Chain low from later next (round + 1)
  pub taken : taken_from from later ≡ taken_from from spans ++ block ∷ []

-- it is of the first span
took_here : (low from next round : ℕ) (first : MadeBlock) (blocks : List MadeBlock) (base to : ℕ) (spans : List Span)
    (p : ℕ) (block : MadeBlock) → Chain low from (Of (first ∷ blocks) base to ∷ spans) next round
    → slice_get (first ∷ blocks) p ≡ Some block → round ≡ base + p
    → Took low from next round (Of (first ∷ blocks) base to ∷ spans) block
took_here low from next round first blocks base to spans p block c at made =
    let all = first ∷ blocks in
    let within : p < suc (length blocks) = slice_get_within all p block at in
    let forward : from ≤ to = c.0 in
    let high = chain_within (base + suc (length blocks)) to next round spans c.2 in
    let f = c.1 in
    let begins : base ≤ from = f.begins in
    let soon : from ≤ base + 1 = f.begins_soon in
    let late : base + suc (length blocks) ≤ to + 1 = f.ends_late in
    let same : to ≡ round = omega arith in
    let rest = move (base + suc (length blocks)) next round spans (omega arith)
    (subst (λ n. Chain (base + suc (length blocks)) n spans next round) same c.2) in
    let left = drop (from - base) all in
    let k = round - from in
    let there : (from - base) + k ≡ p = omega arith in
    let found = get_dropped (from - base) all k block (ap (slice_get all) there ∙ at) in
    let more : (round + 1) - from ≡ k + 1 = omega arith in
    let less : to - from ≡ k = omega arith in
    let before : taken_from from (Of all base to ∷ spans) ≡ take k left =
    ap (λ n. take n left ++ taken_from to spans) less
    ∙ ap (λ bs. take k left ++ bs) (ap (λ n. taken_from n spans) same ∙ rest.none) ∙ append-nil (take k left) in
    let after : taken_from from (Of all base (round + 1) ∷ rest.moved) ≡ take (k + 1) left =
    ap (λ n. take n left ++ taken_from (round + 1) rest.moved) more
    ∙ ap (λ bs. take (k + 1) left ++ bs) rest.none_moved ∙ append-nil (take (k + 1) left) in
    record {
      later = Of all base (round + 1) ∷ rest.moved;
      same_blocks = ap (λ bs. all ∷ bs) rest.same_blocks;
      same_rounds = ap (λ rs. rounds_from base all ++ rs) rest.same_rounds;
      chain = (
        omega arith,
        record { follows = f.follows; begins = begins; begins_soon = soon; ends_late = omega arith; ends = omega arith },
        rest.chain,
      );
      taken = after ∙ take_one_more left k block found ∙ ap (λ bs. bs ++ block ∷ []) (sym before);
    }

-- it is of a later span
took_there : (low from next round : ℕ) (blocks : List MadeBlock) (base to : ℕ) (spans : List Span) (block : MadeBlock)
    → Chain low from (Of blocks base to ∷ spans) next round
    → Took (low_after low blocks base) to next round spans block
    → Took low from next round (Of blocks base to ∷ spans) block
took_there low from next round blocks base to spans block c rest =
    let here = take (to - from) (drop (from - base) blocks) in
    record {
      later = Of blocks base to ∷ rest.later;
      same_blocks = ap (λ bs. blocks ∷ bs) rest.same_blocks;
      same_rounds = ap (λ rs. rounds_from base blocks ++ rs) rest.same_rounds;
      chain = (c.0, c.1, rest.chain);
      taken = ap (λ bs. here ++ bs) rest.taken ∙ sym (append_assoc here (taken_from to spans) (block ∷ []));
    }

-- the CPU takes a block of its round
pub took : (low from next round : ℕ) (spans : List Span) (p : ℕ) (block : MadeBlock)
    → Chain low from spans next round → slice_get (blocks_in spans) p ≡ Some block
    → slice_get (rounds_in spans) p ≡ Some round
    → Took low from next round spans block
took low from next round [] p block c at made = absurd (cc at)
took low from next round (Of [] base to ∷ spans) p block c at made =
    took_there low from next round [] base to spans block c (took low to next round spans p block c.2 at made)
took low from next round (Of (first ∷ blocks) base to ∷ spans) p block c at made =
    let all = first ∷ blocks in
    let count : length (rounds_from base all) ≡ suc (length blocks) = length-rounds base all in
    elim (get_either all (blocks_in spans) p block at) as (λ _. Took low from next round (Of (first ∷ blocks) base to ∷ spans) block) [
      | inl here ↦ elim (get_either (rounds_from base all) (rounds_in spans) p round made) as (λ _. Took low from next round (Of (first ∷ blocks) base to ∷ spans) block) [
        | inl mine ↦ took_here low from next round first blocks base to spans p block c here.1 (round_at base all p round mine.1)
        | inr other ↦
            let within : p < suc (length blocks) = here.0 in
            let past : p ≡ length (rounds_from base all) + other.0 = other.1 in
            absurd (omega arith)
      ]
      | inr there ↦
          let past : p ≡ suc (length blocks) + there.0 = there.1 in
          elim (get_either (rounds_from base all) (rounds_in spans) p round made) as (λ _. Took low from next round (Of (first ∷ blocks) base to ∷ spans) block) [
            | inl mine ↦ let within : p < length (rounds_from base all) = mine.0 in absurd (omega arith)
            | inr other ↦
                let same : p ≡ length (rounds_from base all) + other.0 = other.1 in
                let alike : there.0 ≡ other.0 = omega arith in
                took_there low from next round all base to spans block c
                (took (base + suc (length blocks)) to next round spans there.0 block c.2 there.2
                (ap (slice_get (rounds_in spans)) alike ∙ other.2))
          ]
    ]
