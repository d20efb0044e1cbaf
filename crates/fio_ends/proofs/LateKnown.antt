-- What is known of the judge that leaves late answers out, along a right link: of its checker and of what it keeps of the answers.
use Rattle.fio_ends.proofs.Names.{◌≡◌, ◌+◌, ◌≤◌, ℕ, Bool, true, false, List, Option, Some, None, refl, if◌then◌else◌, Breach, Checker, Facts, HasPoll, LogPlace, Nothing, Observation, RuleLimits, SentFrame, Skips, ToCommand, ToPoll, checker_below_breach, checker_below_lines, checker_with, found_by, MadeBlock, next_round, no_facts, number_of, passes_over, facts_with, breach_of, is_some, BLOCK_ANSWER, Settings, Machine, blocks_of, life_of, checker_anywhere}
use Rattle.fio_ends.proofs.Following.{TookBlock}
use Rattle.fio_ends.proofs.LateJudges.{IsKnownLost}
use Rattle.fio_ends.proofs.LateRules.{MayBeLate}

-- The latest poll has this number: it was sent in a round that the CPU's end is in still, or that was over with an answer to that
-- poll. No poll of a round after it was sent or received.
pub record HasLatest (first : ℕ) (frames : List SentFrame) (polls : List ℕ) (now : ℕ) (number : ℕ) (answered : Bool) : Type 0 where
  pub round : ℕ
  pub named : number ≡ number_of first round
  pub sent : (place n r : ℕ) → HasPoll frames place n r → r ≤ round
  pub received : next_round polls ≤ round + 1
  pub reached : now ≡ (if answered then round + 1 else round)

-- a checker that judges each frame knows what is kept of the answers
pub record AgreesLate (facts : Facts) (awaited polled : Option ℕ) (answered : Bool) : Type 0 where
  pub awaits : facts.awaited ≡ awaited
  pub polls : facts.polled ≡ polled
  pub answers : facts.answered ≡ answered
  pub none : polled ≡ None → facts.more ≡ None

-- one that skips frames knows nothing; where it still skips all that is above the first command, no poll is above
abbrev pub KnowsFacts : Skips → Facts → Option ℕ → Option ℕ → Bool → Type 0
KnowsFacts Nothing facts awaited polled answered = AgreesLate facts awaited polled answered
KnowsFacts ToCommand facts awaited polled answered = (facts ≡ no_facts) × ((polled ≡ None) × (answered ≡ false))
KnowsFacts ToPoll facts awaited polled answered = facts ≡ no_facts

-- all that is known, for the frames sent to the module, the rounds of the polls received, the CPU's round and the blocks made
pub record KnownLate (limits : RuleLimits) (first : ℕ) (frames : List SentFrame) (polls : List ℕ) (now : ℕ) (blocks : List MadeBlock) (checker : Checker)
    (awaited polled : Option ℕ) (answered : Bool) : Type 0 where
  pub limited : checker.limits ≡ limits
  pub facts : KnowsFacts checker.skips checker.facts awaited polled answered
  pub latest : (n : ℕ) → polled ≡ Some n → HasLatest first frames polls now n answered
  pub waits : awaited ≡ Some BLOCK_ANSWER → answered ≡ false
  pub more : (m : Bool) → checker.facts.more ≡ Some m → TookBlock blocks now m

-- and for a machine
abbrev pub KnownOf : Settings → RuleLimits → ℕ → Machine → Checker → Option ℕ → Option ℕ → Bool → Type 0
KnownOf settings limits first machine =
    KnownLate limits first machine.to_module machine.polls machine.round (blocks_of settings (life_of machine.history))

module _ (limits : RuleLimits) (first : ℕ) (frames : List SentFrame) (polls : List ℕ) (now : ℕ) (blocks : List MadeBlock) where
  abbrev Known : Checker → Option ℕ → Option ℕ → Bool → Type 0
  Known = KnownLate limits first frames polls now blocks

  -- above the first line
  pub known_above : Known (checker_anywhere limits) None None false
  known_above = record {
    limited = refl;
    facts = (refl, (refl, refl));
    latest = λ n is. absurd (cc is);
    waits = λ is. refl;
    more = λ m is. absurd (cc is);
  }

  -- below a breach
  pub known_broken : (checker : Checker) (awaited polled : Option ℕ) (answered : Bool) → Known checker awaited polled answered
      → Known (checker_below_breach checker.limits) awaited polled answered
  known_broken checker awaited polled answered k = record {
    limited = k.limited;
    facts = refl;
    latest = k.latest;
    waits = k.waits;
    more = λ m is. absurd (cc is);
  }

  -- where the place is lost
  pub known_lost : IsKnownLost Known
  known_lost checker awaited polled answered k = by checker.skips
    where
      by : (skips : Skips) → Known (checker_below_lines checker skips) awaited polled answered
      by ToCommand = k
      by Nothing = known_broken checker awaited polled answered k
      by ToPoll = known_broken checker awaited polled answered k

-- ---- a checker with a frame more

choose : (Q : Checker → Type 0) (passes broken : Bool) (passed lost taken : Checker) → (passes ≡ true → Q passed) → Q lost → (passes ≡ false → Q taken)
    → Q (if passes then passed else (if broken then lost else taken))
choose Q true broken passed lost taken one two three = one refl
choose Q false true passed lost taken one two three = two
choose Q false false passed lost taken one two three = three refl

-- it passes the frame over, or loses the place, or takes it
pub with_frame : (Q : Checker → Type 0) (checker : Checker) (from_cpu : Bool) (said : Observation)
    → (passes_over checker from_cpu said ≡ true → Q checker) → Q (checker_below_breach checker.limits)
    → (passes_over checker from_cpu said ≡ false → Q (record checker { facts = facts_with checker.facts said; skips = Nothing }))
    → Q (checker_with checker from_cpu said)
with_frame Q checker from_cpu said passed lost taken =
    choose Q (passes_over checker from_cpu said) (is_some (breach_of checker.limits checker.facts said)) checker (checker_below_breach checker.limits)
    (record checker { facts = facts_with checker.facts said; skips = Nothing }) passed lost taken

choose_found : (place : LogPlace) (passes : Bool) (found : Option Breach) → (passes ≡ false → MayBeLate place found) → MayBeLate place (if passes then None else found)
choose_found place true found late = tt
choose_found place false found late = late refl

-- what it finds may be explained, if that is so where it does not pass the frame over
pub found_late : (place : LogPlace) (checker : Checker) (from_cpu : Bool) (said : Observation)
    → (passes_over checker from_cpu said ≡ false → MayBeLate place (breach_of checker.limits checker.facts said)) → MayBeLate place (found_by checker from_cpu said)
found_late place checker from_cpu said late =
    choose_found place (passes_over checker from_cpu said) (breach_of checker.limits checker.facts said) late
