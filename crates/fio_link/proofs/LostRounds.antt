-- If few rounds are lost, the blocks are never far behind.
use Rattle.std.proofs.lemmas.Bool.Decides.{nat_tests}
use Rattle.fio_link.proofs.Names.{◌≡◌, ℕ, zero, suc, ◌+◌, ◌-◌, ◌*◌, ◌<◌, ◌≤◌, ◌⊎◌, max, Bool, true, false, List, [], ◌∷◌, ◌++◌, take, drop, refl, ap, ◌∙◌, arith, inl, inr, AllZip, mul-le-mul_left, mul-le-mul_right, cases_lt, Pause, left_behind, BeginNear}
use Rattle.std.specs.Prelude.{replicate}
use Rattle.fio_link.specs.LostRounds.{lost_among, FewAreLost, rounds_of, HasLost, LostRoundsArePossible}

abbrev clean_among : List Bool → ℕ
clean_among [] = 0
clean_among (true ∷ rounds) = clean_among rounds + 1
clean_among (false ∷ rounds) = clean_among rounds

-- how many were lost directly before
abbrev lost_first : List Bool → ℕ
lost_first (false ∷ rounds) = lost_first rounds + 1
lost_first _ = 0

counted : (n : ℕ) (rounds : List Bool) → lost_among (take n rounds) + clean_among (take n rounds) ≤ n
counted zero rounds = omega arith
counted (suc n) [] = omega arith
counted (suc n) (true ∷ rounds) = let rest = counted n rounds in omega arith
counted (suc n) (false ∷ rounds) = let rest = counted n rounds in omega arith

few-more : (n m : ℕ) (rounds : List Bool) → n ≤ m → lost_among (take n rounds) ≤ lost_among (take m rounds)
few-more zero m rounds le = omega arith
few-more (suc n) zero rounds le = absurd (omega arith)
few-more (suc n) (suc m) [] le = omega arith
few-more (suc n) (suc m) (true ∷ rounds) le = few-more n m rounds (omega arith)
few-more (suc n) (suc m) (false ∷ rounds) le = let rest = few-more n m rounds (omega arith) in omega arith

few-later : (each lost n : ℕ) (rounds : List Bool) → FewAreLost each lost rounds → FewAreLost each lost (drop n rounds)
few-later each lost zero rounds few = few
few-later each lost (suc n) [] few = tt
few-later each lost (suc n) (round ∷ rounds) few = few-later each lost n rounds few.1

few-here : (each lost : ℕ) (rounds : List Bool) → FewAreLost each lost rounds → lost_among (take each rounds) ≤ lost
few-here zero lost [] few = omega arith
few-here (suc each) lost [] few = omega arith
few-here each lost (round ∷ rounds) few = few.0

split-lost : (n m : ℕ) (rounds : List Bool) → lost_among (take (n + m) rounds) ≡ lost_among (take n rounds) + lost_among (take m (drop n rounds))
split-lost zero m rounds = let same : 0 + m ≡ m = omega arith in let here = ap (λ k. lost_among (take k rounds)) same in omega arith
split-lost (suc n) m [] = let same : suc n + m ≡ suc (n + m) = omega arith in let here = ap (λ k. lost_among (take {A = Bool} k [])) same in let none = nothing m in omega arith
  where
    nothing : (m : ℕ) → lost_among (take {A = Bool} m []) ≡ 0
    nothing zero = refl
    nothing (suc m) = refl
split-lost (suc n) m (true ∷ rounds) = let same : suc n + m ≡ suc (n + m) = omega arith in let here = ap (λ k. lost_among (take k (true ∷ rounds))) same in let rest = split-lost n m rounds in omega arith
split-lost (suc n) m (false ∷ rounds) = let same : suc n + m ≡ suc (n + m) = omega arith in let here = ap (λ k. lost_among (take k (false ∷ rounds))) same in let rest = split-lost n m rounds in omega arith

-- the clean ones among the first n rounds, if there are n
abbrev cleans : ℕ → List Bool → ℕ
cleans n rounds = n - lost_among (take n rounds)

module _ (scans pace each lost : ℕ) (slow : pace ≤ scans) (enough : each * pace + lost * scans ≤ each * scans) where
  -- n rounds make up for their scans, except those of the lost ones
  record MakesUp (n : ℕ) (rounds : List Bool) : Type 0 where
    pub all : pace * n ≤ scans * cleans n rounds + pace * lost
    -- and for the scans that a block of an answer lost before them does not make up for
    pub besides : 1 ≤ cleans n rounds → pace * n + (scans - pace) ≤ scans * cleans n rounds + pace * lost

  makes_up_short : (n : ℕ) (rounds : List Bool) → lost_among (take (each + 1) rounds) ≤ lost
      → lost_among (take n rounds) ≤ lost_among (take (each + 1) rounds) → MakesUp n rounds
  makes_up_short n rounds here less =
      let count = counted n rounds in
      let l = lost_among (take n rounds) in
      let c = n - l in
      let parts : pace * n ≡ pace * l + pace * c = (let whole : n ≡ l + c = omega arith in ap (λ k. pace * k) whole ∙ grind arith) in
      let few_lost : pace * l ≤ pace * lost = mul-le-mul_left pace (omega arith) in
      let most : pace * c ≤ scans * c = mul-le-mul_right c slow in
      let rest : scans * c ≡ pace * c + (scans - pace) * c = (let whole : scans ≡ pace + (scans - pace) = omega arith in ap (λ k. k * c) whole ∙ grind arith) in
      record {
        all = omega arith;
        besides = λ some. let once : (scans - pace) * 1 ≤ (scans - pace) * c = mul-le-mul_left (scans - pace) some in omega arith;
      }

  makes_up_long : (n : ℕ) (rounds : List Bool) → each + 1 < n → FewAreLost (each + 1) lost rounds
      → MakesUp (n - (each + 1)) (drop (each + 1) rounds) → MakesUp n rounds
  makes_up_long n rounds long few rest =
      let m = n - (each + 1) in
      let later = drop (each + 1) rounds in
      let here = few-here (each + 1) lost rounds few in
      let whole : n ≡ (each + 1) + m = omega arith in
      let split : lost_among (take n rounds) ≡ lost_among (take (each + 1) rounds) + lost_among (take m later) =
      ap (λ k. lost_among (take k rounds)) whole ∙ split-lost (each + 1) m rounds in
      let count_here = counted (each + 1) rounds in
      let count_later = counted m later in
      let c = each + 1 - lost_among (take (each + 1) rounds) in
      let d = cleans m later in
      let both : cleans n rounds ≡ c + d = omega arith in
      let products : scans * cleans n rounds ≡ scans * c + scans * d = ap (λ k. scans * k) both ∙ grind arith in
      let paces : pace * n ≡ each * pace + pace + pace * m = ap (λ k. pace * k) whole ∙ grind arith in
      let low_clean : scans * (each + 1) ≤ scans * (c + lost) = mul-le-mul_left scans (omega arith) in
      let spread : scans * (c + lost) ≡ scans * c + lost * scans = grind arith in
      let spread_each : scans * (each + 1) ≡ each * scans + scans = grind arith in
      let rest_all = rest.all in
      record { all = omega arith; besides = λ some. omega arith }

  makes_up : (fuel n : ℕ) (rounds : List Bool) → n ≤ fuel → FewAreLost (each + 1) lost rounds → MakesUp n rounds
  makes_up zero n rounds low few = grind (arith, nat_tests, makes_up_short, few-here, few-more)
  makes_up (suc fuel) n rounds low few =
      elim (cases_lt (each + 1) n) as (λ _. MakesUp n rounds) [
        | inr short ↦ makes_up_short n rounds (few-here (each + 1) lost rounds few) (few-more n (each + 1) rounds short)
        | inl long ↦
            makes_up_long n rounds long few
            (makes_up fuel (n - (each + 1)) (drop (each + 1) rounds) (omega arith) (few-later (each + 1) lost (each + 1) rounds few))
      ]

  -- how far the blocks are behind after each round, lost or not
  abbrev after_round : List Bool → ℕ
  after_round [] = 0
  after_round (false ∷ rounds) = after_round rounds + pace
  after_round (true ∷ rounds) = max (after_round rounds + pace - scans) (pace * lost_first rounds)

  -- a number of rounds since the blocks were not behind, or since an answer was lost
  record Since (rounds : List Bool) : Type 0 where
    pub n : ℕ
    pub within : lost_among (take n rounds) ≤ n
    pub behind :
        (after_round rounds + scans * cleans n rounds ≤ pace * n)
        ⊎ ((1 ≤ cleans n rounds) × (after_round rounds + scans * cleans n rounds ≤ pace * n + (scans - pace)))

  lost-before : (rounds : List Bool) → lost_among (take (lost_first rounds) rounds) ≡ lost_first rounds
  lost-before [] = refl
  lost-before (true ∷ rounds) = refl
  lost-before (false ∷ rounds) =
      let same : lost_first rounds + 1 ≡ suc (lost_first rounds) = omega arith in
      let here = ap (λ k. lost_among (take k (false ∷ rounds))) same in
      let rest = lost-before rounds in
      omega arith

  since : (rounds : List Bool) → Since rounds
  since [] = let none : scans * 0 ≡ 0 = grind arith in let nothing : pace * 0 ≡ 0 = grind arith in record { n = 0; within = omega arith; behind = inl (omega arith) }
  since (false ∷ rounds) =
      let s = since rounds in
      let more : pace * suc s.n ≡ pace * s.n + pace = grind arith in
      let within = s.within in
      let same : cleans (suc s.n) (false ∷ rounds) ≡ cleans s.n rounds = omega arith in
      let products : scans * cleans (suc s.n) (false ∷ rounds) ≡ scans * cleans s.n rounds = ap (λ k. scans * k) same in
      record {
        n = suc s.n;
        within = omega arith;
        behind = elim s.behind as (λ _. (after_round (false ∷ rounds) + scans * cleans (suc s.n) (false ∷ rounds) ≤ pace * suc s.n)
            ⊎ ((1 ≤ cleans (suc s.n) (false ∷ rounds)) × (after_round (false ∷ rounds) + scans * cleans (suc s.n) (false ∷ rounds) ≤ pace * suc s.n + (scans - pace)))) [
              | inl plain ↦ inl (omega arith)
              | inr kept ↦ inr (omega (arith, kept.0), omega (arith, kept.1))
            ];
      }
  since (true ∷ rounds) =
      elim (cases_lt (pace * lost_first rounds) (after_round rounds + pace - scans)) as (λ _. Since (true ∷ rounds)) [
        | inl ahead ↦
            let s = since rounds in
            let more : pace * suc s.n ≡ pace * s.n + pace = grind arith in
            let within = s.within in
            let one_more : cleans (suc s.n) (true ∷ rounds) ≡ cleans s.n rounds + 1 = omega arith in
            let products : scans * cleans (suc s.n) (true ∷ rounds) ≡ scans * cleans s.n rounds + scans = ap (λ k. scans * k) one_more ∙ grind arith in
            record {
              n = suc s.n;
              within = omega arith;
              behind = elim s.behind as (λ _. (after_round (true ∷ rounds) + scans * cleans (suc s.n) (true ∷ rounds) ≤ pace * suc s.n)
                  ⊎ ((1 ≤ cleans (suc s.n) (true ∷ rounds)) × (after_round (true ∷ rounds) + scans * cleans (suc s.n) (true ∷ rounds) ≤ pace * suc s.n + (scans - pace)))) [
                    | inl plain ↦ inl (omega arith)
                    | inr kept ↦ inr (omega arith, omega (arith, kept.1))
                  ];
            }
        | inr kept ↦
            let all_lost = lost-before rounds in
            let more : pace * suc (lost_first rounds) ≡ pace * lost_first rounds + pace = grind arith in
            let once : cleans (suc (lost_first rounds)) (true ∷ rounds) ≡ 1 = omega arith in
            let products : scans * cleans (suc (lost_first rounds)) (true ∷ rounds) ≡ scans = ap (λ k. scans * k) once ∙ grind arith in
            record { n = suc (lost_first rounds); within = omega arith; behind = inr (omega arith, omega arith) }
      ]

  -- so they are never far behind
  near : (rounds : List Bool) → FewAreLost (each + 1) lost rounds → after_round rounds ≤ pace * lost
  near rounds few =
      let s = since rounds in
      let m = makes_up s.n s.n rounds (omega arith) few in
      let all = m.all in
      elim s.behind as (λ _. after_round rounds ≤ pace * lost) [
        | inl plain ↦ omega arith
        | inr kept ↦ let besides = m.besides kept.0 in omega (arith, kept.1)
      ]

  after_lost : (n : ℕ) (rounds : List Bool) → after_round (replicate n false ++ rounds) ≡ after_round rounds + n * pace
  after_lost zero rounds = let none : 0 * pace ≡ 0 = grind arith in omega arith
  after_lost (suc n) rounds =
      let rest = after_lost n rounds in
      let more : suc n * pace ≡ n * pace + pace = grind arith in
      omega arith

  first_lost : (n : ℕ) (rounds : List Bool) → n ≤ lost_first (replicate n false ++ rounds)
  first_lost zero rounds = omega arith
  first_lost (suc n) rounds = let rest = first_lost n rounds in omega arith

  few-older : (n : ℕ) (rounds : List Bool) → FewAreLost (each + 1) lost (replicate n false ++ rounds) → FewAreLost (each + 1) lost rounds
  few-older zero rounds few = few
  few-older (suc n) rounds few = few-older n rounds few.1

  left_near : (pauses : List Pause) (losses : List ℕ) → AllZip (HasLost pace) pauses losses
      → left_behind scans pauses ≤ after_round (rounds_of losses)
  left_near [] [] all = omega arith
  left_near [] (l ∷ losses) all = absurd all
  left_near (pause ∷ pauses) [] all = absurd all
  left_near (pause ∷ pauses) (l ∷ losses) all =
      let rest = left_near pauses losses all.1 in
      let rounds = rounds_of losses in
      let after = after_lost l rounds in
      let kept : pace * l ≤ pace * lost_first (replicate l false ++ rounds) = mul-le-mul_left pace (first_lost l rounds) in
      let turned : l * pace ≡ pace * l = grind arith in
      omega (arith, all.0.settled, all.0.untaken)

  begin_near : (pauses : List Pause) (losses : List ℕ) → AllZip (HasLost pace) pauses losses
      → FewAreLost (each + 1) lost (rounds_of losses) → BeginNear scans ((lost + 1) * pace) pauses
  begin_near [] [] all few = tt
  begin_near [] (l ∷ losses) all few = absurd all
  begin_near (pause ∷ pauses) [] all few = absurd all
  begin_near (pause ∷ pauses) (l ∷ losses) all few =
      let rounds = rounds_of losses in
      let left = left_near pauses losses all.1 in
      let after = after_lost l rounds in
      let low = near (replicate l false ++ rounds) few.1 in
      let spread : (lost + 1) * pace ≡ pace * lost + pace = grind arith in
      (omega (arith, all.0.settled, all.0.untaken), begin_near pauses losses all.1 (few-older l rounds few.1))

-- lost rounds within these limits are possible
pub lost_rounds_are_possible : LostRoundsArePossible
lost_rounds_are_possible scans pace each lost pauses l slow enough = grind (arith, nat_tests, begin_near)
