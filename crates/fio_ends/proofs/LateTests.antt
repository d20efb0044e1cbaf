-- How late an answer is, and what a checker knows that takes it or passes it over.
use Rattle.fio_ends.proofs.Names.{◌≡◌, ◌∙◌, ◌+◌, ◌==◌, ℕ, Bool, true, false, Option, Some, None, refl, ap, arith, if◌then◌else◌, Facts, Nothing, Skips, ToCommand, ToPoll, is_some_and, ◌≢◌, ◌%◌, ◌<◌, ◌&&◌, ◌||◌, not, nat_tests, BLOCK_ANSWER, skips_frame, awaits, lateness_below, unawaited_block, LateAnswers, Lateness, InTime, Late}
use Rattle.fio_ends.proofs.LateKnown.{AgreesLate, KnowsFacts}

-- ---- what is known

-- the latest command waits for an answer of a type
pub awaits_is : (awaited : Option ℕ) (code : ℕ) → is_some_and awaited (λ a. a == code) ≡ true → awaited ≡ Some code
awaits_is awaited code is = grind arith

-- where an answer is passed over
pub facts_passed : (skips : Skips) (facts : Facts) (awaited next polled : Option ℕ) (answered : Bool) → skips_frame skips false ≡ true
    → KnowsFacts skips facts awaited polled answered → KnowsFacts skips facts next polled answered
facts_passed Nothing facts awaited next polled answered over k = absurd (cc over)
facts_passed ToCommand facts awaited next polled answered over k = k
facts_passed ToPoll facts awaited next polled answered over k = k

-- a checker that takes one judges each frame
pub facts_agree : (skips : Skips) (facts : Facts) (awaited polled : Option ℕ) (answered : Bool) → skips_frame skips false ≡ false
    → KnowsFacts skips facts awaited polled answered → AgreesLate facts awaited polled answered
facts_agree Nothing facts awaited polled answered over k = k
facts_agree ToCommand facts awaited polled answered over k = absurd (cc over)
facts_agree ToPoll facts awaited polled answered over k = absurd (cc over)

pub awaits_same : (awaited : Option ℕ) (code : ℕ) → awaited ≡ Some code → is_some_and awaited (λ a. a == code) ≡ true
awaits_same awaited code is = grind arith

pub or_false : (answered : Bool) → (answered || false) ≡ answered
or_false true = refl
or_false false = refl

-- no block is above where no poll is
pub none_above : (skips : Skips) (facts : Facts) (awaited polled : Option ℕ) (answered : Bool) → polled ≡ None
    → KnowsFacts skips facts awaited polled answered → facts.more ≡ None
none_above Nothing facts awaited polled answered none k = k.none none
none_above ToCommand facts awaited polled answered none k = ap (λ (f : Facts). f.more) k.0
none_above ToPoll facts awaited polled answered none k = ap (λ (f : Facts). f.more) k

-- ---- how late one is

-- how late one with a number is
pub late_before : (late : LateAnswers) (polled number : ℕ) → polled ≡ (number + 1) % 256 → lateness_below late polled number ≡ Late
late_before late polled number is = grind (arith, nat_tests)

module _ (late : LateAnswers) (polled number : ℕ) (same : polled ≡ number) (low : number < 256) where
  not_before : (polled == (number + 1) % 256) ≡ false
  not_before = let apart : polled ≢ (number + 1) % 256 = omega arith in grind (arith, nat_tests)

  pub is_latest : (polled == number) ≡ true
  is_latest = grind (arith, nat_tests)

  abbrev by : Bool → Bool → Bool → Lateness
  by before latest waits = if before then Late else if latest && not waits then unawaited_block late else InTime

  pub timely_block : awaits late BLOCK_ANSWER ≡ true → lateness_below late polled number ≡ InTime
  timely_block waits =
      ap (λ (b : Bool). by b (polled == number) (awaits late BLOCK_ANSWER)) not_before
      ∙ ap (λ (b : Bool). by false b (awaits late BLOCK_ANSWER)) is_latest
      ∙ ap (λ (b : Bool). by false true b) waits

  pub unawaited : awaits late BLOCK_ANSWER ≡ false → lateness_below late polled number ≡ unawaited_block late
  unawaited waits =
      ap (λ (b : Bool). by b (polled == number) (awaits late BLOCK_ANSWER)) not_before
      ∙ ap (λ (b : Bool). by false b (awaits late BLOCK_ANSWER)) is_latest
      ∙ ap (λ (b : Bool). by false true b) waits
