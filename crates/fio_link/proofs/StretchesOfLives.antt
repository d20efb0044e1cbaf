-- What the CPU has taken of each life is one stretch of its blocks.
use Rattle.std.proofs.lemmas.Bool.Decides.{nat_tests}
use Rattle.fio_link.proofs.Names.{◌≡◌, ℕ, suc, ◌+◌, ◌-◌, ◌≤◌, ◌⊎◌, List, [], ◌∷◌, ◌++◌, length, take, drop, map, refl, ap, arith, inl, inr, length-take, length-drop, AllByRecursion, cases_lt, Settings, Life, MadeBlock, blocks_of, TakenLife, IsOneStretch, taken_in, AtEachRestart}
use Rattle.std.proofs.lemmas.List.{take-append-drop, nil_from_length}
use Rattle.fio_link.specs.Restarts.{BeginsAtStart}
use Rattle.fio_link.proofs.Spans.{Span, Of, made_in, taken_from, Fits, low_after, Chain}

-- a life with the blocks of a span, of which the CPU took those from one round on
abbrev pub part_of : Life → ℕ → List MadeBlock → ℕ → ℕ → TakenLife
part_of life from blocks base to =
    record {
      life = life;
      before = take (from - base) blocks;
      taken = take (to - from) (drop (from - base) blocks);
      after = drop (to - from) (drop (from - base) blocks);
    }

abbrev pub parts : ℕ → List Life → List Span → List TakenLife
parts from [] spans = []
parts from (life ∷ lives) [] = []
parts from (life ∷ lives) (Of blocks base to ∷ spans) = part_of life from blocks base to ∷ parts to lives spans

-- of the last block before a restart and the first one after it the CPU does not pass over both
abbrev pub NotBoth : TakenLife → TakenLife → Type 0
NotBoth old new = (old.after ≡ []) ⊎ (new.before ≡ [])

-- the parts of a chain of spans
pub record AreParts (settings : Settings) (from : ℕ) (lives : List Life) (spans : List Span) (taken : List TakenLife)
    : Type 0 where
  pub all : map (λ part. part.life) taken ≡ lives
  pub stretches : AllByRecursion (IsOneStretch settings) taken
  pub blocks : taken_in taken ≡ taken_from from spans
  pub restarts : AtEachRestart NotBoth taken

-- few blocks lie around what is taken
pub record IsAround (from base to count : ℕ) : Type 0 where
  pub before : (from - base ≤ 1) ⊎ (count ≡ 0)
  pub after : count ≤ ((from - base) + (to - from)) + 1

around : (low from : ℕ) (blocks : List MadeBlock) (base to : ℕ) → from ≤ to → Fits low from blocks base to
    → IsAround from base to (length blocks)
around low from [] base to le f = record { before = inr refl; after = omega arith }
around low from (block ∷ blocks) base to le f = grind (arith, nat_tests)

-- so it is one contiguous run
one_stretch : (settings : Settings) (low from : ℕ) (life : Life) (blocks : List MadeBlock) (base to : ℕ)
    → blocks ≡ blocks_of settings life → from ≤ to → Fits low from blocks base to
    → IsOneStretch settings (part_of life from blocks base to)
one_stretch settings low from life blocks base to is le f = grind (arith, nat_tests, around, length-take, take-append-drop, length-drop)

-- if neither the last block of one life nor the first of the next is taken, the next would follow from an earlier round
not_both : (low from : ℕ) (life next : Life) (blocks : List MadeBlock) (base to : ℕ) (more : List MadeBlock) (b t : ℕ)
    → from ≤ to → Fits low from blocks base to → Fits (low_after low blocks base) to more b t
    → NotBoth (part_of life from blocks base to) (part_of next to more b t)
not_both low from life next blocks base to [] b t le f g =
    let none : List MadeBlock = [] in
    inr (nil_from_length (take (to - b) []) (omega (arith, length-take (to - b) none)))
not_both low from life next [] base to (other ∷ more) b t le f g =
    let none : List MadeBlock = [] in
    inl (nil_from_length (drop (to - from) (drop (from - base) []))
    (omega (arith, length-drop (to - from) (drop (from - base) none), length-drop (from - base) none)))
not_both low from life next (block ∷ blocks) base to (other ∷ more) b t le f g =
    let all = block ∷ blocks in
    let begins : base ≤ from = f.begins in
    let follows : base + suc (length blocks) ≤ b + 1 = g.follows in
    elim (cases_lt b to) as (λ _. NotBoth (part_of life from (block ∷ blocks) base to) (part_of next to (other ∷ more) b t)) [
      | inl less ↦ inl (nil_from_length (drop (to - from) (drop (from - base) all))
          (omega (arith, length-drop (to - from) (drop (from - base) all), length-drop (from - base) all)))
      | inr not_less ↦ inr (nil_from_length (take (to - b) (other ∷ more)) (omega (arith, length-take (to - b) (other ∷ more))))
    ]

-- what a chain of spans takes of each life
pub are_parts : (settings : Settings) (low from next round : ℕ) (lives : List Life) (spans : List Span)
    → map made_in spans ≡ map (blocks_of settings) lives → Chain low from spans next round
    → AreParts settings from lives spans (parts from lives spans)
are_parts settings low from next round [] [] same c = grind (arith, nat_tests)
are_parts settings low from next round [] (Of blocks base to ∷ spans) same c = absurd (cc same)
are_parts settings low from next round (life ∷ lives) [] same c = absurd (cc same)
are_parts settings low from next round (life ∷ []) (Of blocks base to ∷ (Of others b t ∷ spans)) same c = absurd (cc same)
are_parts settings low from next round (life ∷ []) (Of blocks base to ∷ []) same c =
    let here : blocks ≡ blocks_of settings life = cc in
    record {
      all = refl;
      stretches = (one_stretch settings low from life blocks base to here c.0 c.1, tt);
      blocks = refl;
      restarts = tt;
    }
are_parts settings low from next round (life ∷ (other ∷ lives)) (Of blocks base to ∷ []) same c = absurd (cc same)
are_parts settings low from next round (life ∷ (other ∷ lives)) (Of blocks base to ∷ (Of others b t ∷ spans)) same c =
    let here : blocks ≡ blocks_of settings life = cc in
    let tail : map made_in (Of others b t ∷ spans) ≡ map (blocks_of settings) (other ∷ lives) = cc in
    let rest = are_parts settings (low_after low blocks base) to next round (other ∷ lives) (Of others b t ∷ spans) tail c.2 in
    record {
      all = ap (λ ls. life ∷ ls) rest.all;
      stretches = (one_stretch settings low from life blocks base to here c.0 c.1, rest.stretches);
      blocks = ap (λ bs. take (to - from) (drop (from - base) blocks) ++ bs) rest.blocks;
      restarts = (not_both low from life other blocks base to others b t c.0 c.1 c.2.1, rest.restarts);
    }

-- from the first round on nothing lies before what is taken
pub begins_at_start : (lives : List Life) (spans : List Span) → BeginsAtStart (parts 0 lives spans)
begins_at_start [] spans = tt
begins_at_start (life ∷ lives) [] = tt
begins_at_start (life ∷ lives) (Of blocks base to ∷ spans) = grind (arith, nat_tests)
