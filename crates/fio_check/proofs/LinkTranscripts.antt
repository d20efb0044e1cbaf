-- The judge of a link finds in a whole transcript what the checkers find.
use Rattle.fio_check.proofs.Names.{◌≡◌, ◌⊎◌, ◌∙◌, ℕ, inl, inr, Bool, true, false, List, [], ◌∷◌, Option, Some, None, refl, sym, ap, ap₂, option_or, is_some, option_map, if◌then◌else◌, facts_with, TranscriptLine, checking_with, found_in_frame, Accused, Breach, Checker, ContentBreach, ContentRule, Judging, Nothing, Observation, RuleLimits, ToCommand, both_find_first, breach_of, broken_on, checker_below_breach, checker_with, checking_above, content_here, content_on, found_by, judging_with, loads_left, nat_lt, observation_in, outcome_found, outcome_in, passes_over, arith}
use Rattle.fio_check.specs.LinkJudges.{is_set_back, judging_at, judging_below_outcome, judging_taken, may_be_anew, outcome_anew, outcome_judged, outcome_of_content, outcome_set_back, stamp_in}
use Rattle.fio_check.specs.LinkLaws.{RunsOn, SaysTheSame, accused, accused_first, is_set_anew}
use Rattle.fio_check.specs.declared.outcome.Excuse.TheVariants.{Load}
use Rattle.fio_check.specs.declared.outcome.LogPlace.TheVariants.{Cpu}
use Rattle.fio_check.specs.declared.outcome.FrameOutcome.TheVariants.{Kept, Broken, BrokenContent, Excused, Restarted}

-- ---- a whole transcript

-- a judge whose place is known: above the first command its checker of the rules on content has not begun
abbrev pub Aligned : Judging → Type 0
Aligned judging =
    (judging.checker.skips ≡ Nothing) ⊎ ((judging.checker.skips ≡ ToCommand) × (judging.content.begun ≡ false))

pub unfolded-here : (judging : Judging) → Aligned judging → content_here judging ≡ judging.content
unfolded-here judging (inl nothing) = ap (checking_above judging) nothing
unfolded-here judging (inr closed) = ap (checking_above judging) closed.0

-- one that passes over nothing
pub passes-open : (checker : Checker) (from_cpu : Bool) (observation : Observation) → checker.skips ≡ Nothing
    → passes_over checker from_cpu observation ≡ false
passes-open checker from_cpu observation nothing = grind arith

-- and one above the first command, of what is sent
passes-sent : (checker : Checker) (observation : Observation) → checker.skips ≡ ToCommand
    → passes_over checker true observation ≡ false
passes-sent checker observation closed = grind arith

pub taken-is : (limits : RuleLimits) (checker taken : Checker) (passes : Bool) (breach : Option Breach) → passes ≡ false
    → (if passes then None else breach) ≡ None
    → (if passes then checker else (if is_some breach then checker_below_breach limits else taken)) ≡ taken
taken-is limits checker taken passes breach is none = grind arith

not-dog : (anew : Bool) (breach : ContentBreach) (rule : ContentRule) → is_set_anew (outcome_anew anew (outcome_of_content breach rule)) ≡ false
    → outcome_anew anew (outcome_of_content breach rule) ≡ BrokenContent breach
not-dog anew breach rule other = grind arith

-- a breach of a rule of transcripts that is no restart
not-rest : (anew : Bool) (breach : Breach) → is_set_anew (outcome_anew anew (Broken breach)) ≡ false → outcome_anew anew (Broken breach) ≡ Broken breach
not-rest anew breach other = grind arith

none-anew : (anew : Bool) → outcome_anew anew Kept ≡ Kept
none-anew true = refl
none-anew false = refl

-- a stamp that is set back says so
back-says : (left : Bool) → is_set_anew (if left then Excused Load else Restarted) ≡ true
back-says true = refl
back-says false = refl

pub at-checker : (judging : Judging) (stamp : Option ℕ) → (judging_at judging stamp).checker ≡ judging.checker
at-checker judging None = refl
at-checker judging (Some stamp) = refl

pub at-content : (judging : Judging) (stamp : Option ℕ) → (judging_at judging stamp).content ≡ judging.content
at-content judging None = refl
at-content judging (Some stamp) = refl

-- a line that is accused, by the judge and by a checker
record Loud (judging : Judging) (number : ℕ) (from_cpu : Bool) (octets : List ℕ) : Type 0 where
  pub accusation : Accused
  pub mine : accused number (outcome_in judging Cpu from_cpu octets) ≡ Some accusation
  pub theirs : (rest : Option Accused)
      → option_or (option_map (broken_on number) (found_by judging.checker from_cpu (observation_in from_cpu octets)))
      (option_or (option_map (content_on number) (found_in_frame judging.content from_cpu octets)) rest)
      ≡ Some accusation

-- one that is not
record Quiet (judging : Judging) (number : ℕ) (from_cpu : Bool) (octets : List ℕ) : Type 0 where
  pub mine : accused number (outcome_in judging Cpu from_cpu octets) ≡ None
  pub broken : found_by judging.checker from_cpu (observation_in from_cpu octets) ≡ None
  pub content : found_in_frame judging.content from_cpu octets ≡ None
  pub aligned : Aligned (judging_with judging Cpu from_cpu octets)
  pub checker : (judging_with judging Cpu from_cpu octets).checker
      ≡ checker_with judging.checker from_cpu (observation_in from_cpu octets)
  pub kept : (judging_with judging Cpu from_cpu octets).content ≡ checking_with judging.content from_cpu octets

-- a frame that is passed over
passed-quiet : (judging : Judging) (number : ℕ) (from_cpu : Bool) (octets : List ℕ) → Aligned judging
    → passes_over judging.checker from_cpu (observation_in from_cpu octets) ≡ true
    → Quiet judging number from_cpu octets
passed-quiet judging number from_cpu octets is passes = grind (arith, passes-open, passes-sent)

module _ (judging : Judging) (number : ℕ) (from_cpu : Bool) (octets : List ℕ) where
  abbrev observed : Observation
  observed = observation_in from_cpu octets

  judged-step : Aligned judging → passes_over judging.checker from_cpu observed ≡ false
      → is_set_back judging from_cpu octets ≡ false
      → (broken : Option Breach) → found_by judging.checker from_cpu observed ≡ broken
      → (content : Option ContentBreach) → found_in_frame judging.content from_cpu octets ≡ content
      → is_set_anew (outcome_in judging Cpu from_cpu octets) ≡ false
      → Loud judging number from_cpu octets ⊎ Quiet judging number from_cpu octets
  judged-step aligned passes runs broken broken_is content content_is other =
      let same = unfolded-here judging aligned in
      let judged : outcome_in judging Cpu from_cpu octets ≡ outcome_anew anew (outcome_judged judging Cpu from_cpu octets) = rw (passes, runs) refl in
      let outcome : outcome_in judging Cpu from_cpu octets ≡ outcome_anew anew (outcome_found false broken content) =
      judged
      ∙ ap (outcome_anew anew) (ap₂ (outcome_found false) broken_is (ap (λ c. found_in_frame c from_cpu octets) same ∙ content_is)) in
      by broken content outcome broken_is content_is (sym (ap is_set_anew outcome) ∙ other)
    where
      anew : Bool
      anew = may_be_anew judging from_cpu octets

      by : (broken : Option Breach) (content : Option ContentBreach)
          → outcome_in judging Cpu from_cpu octets ≡ outcome_anew anew (outcome_found false broken content)
          → found_by judging.checker from_cpu observed ≡ broken
          → found_in_frame judging.content from_cpu octets ≡ content
          → is_set_anew (outcome_anew anew (outcome_found false broken content)) ≡ false
          → Loud judging number from_cpu octets ⊎ Quiet judging number from_cpu octets
      by (Some breach) content outcome broken_is content_is other = inl (record {
        accusation = broken_on number breach;
        mine = ap (accused number) (outcome ∙ not-rest anew breach other);
        theirs = λ rest. ap (λ b. option_or (option_map (broken_on number) b)
            (option_or (option_map (content_on number) (found_in_frame judging.content from_cpu octets)) rest)) broken_is;
      })
      by None (Some breach) outcome broken_is content_is other = inl (record {
        accusation = content_on number breach;
        mine = ap (accused number) (outcome ∙ not-dog anew breach breach.rule other);
        theirs = λ rest. ap₂ (λ b c. option_or (option_map (broken_on number) b) (option_or (option_map (content_on number) c) rest))
            broken_is content_is;
      })
      by None None outcome broken_is content_is other =
          let kept = outcome ∙ none-anew anew in
          let same = ap (λ o. judging_below_outcome o judging from_cpu octets) kept in
          let stamp = stamp_in from_cpu octets in
          let taken = judging_taken judging judging.checker from_cpu octets in
          let checker = ap (λ (j : Judging). j.checker) same ∙ at-checker taken stamp in
          let opened = taken-is judging.checker.limits judging.checker
          (record judging.checker { facts = facts_with judging.checker.facts observed; skips = Nothing })
          (passes_over judging.checker from_cpu observed) (breach_of judging.checker.limits judging.checker.facts observed)
          passes broken_is in
          inr (record {
            mine = ap (accused number) kept;
            broken = broken_is;
            content = content_is;
            aligned = inl (ap (λ (c : Checker). c.skips) (checker ∙ opened));
            checker = checker;
            kept = ap (λ (j : Judging). j.content) same ∙ at-content taken stamp
                ∙ ap (λ c. checking_with c from_cpu octets) (unfolded-here judging aligned);
          })

  step : Aligned judging → is_set_anew (outcome_in judging Cpu from_cpu octets) ≡ false
      → Loud judging number from_cpu octets ⊎ Quiet judging number from_cpu octets
  step aligned other = by (passes_over judging.checker from_cpu observed) refl (is_set_back judging from_cpu octets) refl
    where
      by : (passes : Bool) → passes_over judging.checker from_cpu observed ≡ passes
          → (back : Bool) → is_set_back judging from_cpu octets ≡ back
          → Loud judging number from_cpu octets ⊎ Quiet judging number from_cpu octets
      by true passes back runs = inr (passed-quiet judging number from_cpu octets aligned passes)
      by false passes true back =
          let is : outcome_in judging Cpu from_cpu octets ≡ outcome_set_back judging = rw (passes, back) refl in
          absurd (let says : true ≡ false = sym (back-says (nat_lt 0 (loads_left judging))) ∙ sym (ap is_set_anew is) ∙ other in cc)
      by false passes false runs = judged-step aligned passes runs (found_by judging.checker from_cpu observed) refl
          (found_in_frame judging.content from_cpu octets) refl other

pub says : (judging : Judging) (lines : List TranscriptLine) → Aligned judging → RunsOn judging lines
    → accused_first judging lines ≡ both_find_first judging.checker judging.content lines
says judging [] aligned runs = refl
says judging (line ∷ lines) aligned runs =
    let from_cpu = line.from_cpu in
    let octets = line.octets in
    let next = judging_with judging Cpu from_cpu octets in
    let rest = both_find_first (checker_with judging.checker from_cpu (observation_in from_cpu octets)) (checking_with judging.content from_cpu octets) lines in
    elim (step judging line.number from_cpu octets aligned runs.0) as (λ _. accused_first judging (line ∷ lines)
    ≡ both_find_first judging.checker judging.content (line ∷ lines)) [
      | inl loud ↦ ap (λ mine. option_or mine (accused_first next lines)) loud.mine ∙ sym (loud.theirs rest)
      | inr quiet ↦ ap (λ mine. option_or mine (accused_first next lines)) quiet.mine
          ∙ says next lines quiet.aligned runs.1
          ∙ ap₂ (λ checker content. both_find_first checker content lines) quiet.checker quiet.kept
          ∙ sym (ap₂ (λ b c. option_or (option_map (broken_on line.number) b) (option_or (option_map (content_on line.number) c) rest)) quiet.broken quiet.content)
    ]

pub says_the_same : (limits : RuleLimits) (lines : List TranscriptLine) → SaysTheSame limits lines
says_the_same limits lines = grind (arith, says)
