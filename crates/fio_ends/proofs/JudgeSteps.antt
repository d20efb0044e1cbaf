-- What the judge of a link does with a frame in which no breach is found.
use Rattle.fio_ends.proofs.Names.{◌≡◌, ◌∙◌, ℕ, Bool, true, false, List, [], ◌∷◌, ◌++◌, ◌⊎◌, inl, inr, Option, Some, None, refl, ap, sym, subst, if◌then◌else◌, nat_lt, AllByRecursion, ContentKept, kept_with, facts_with, no_facts, first_broken_within, Facts, RuleLimits, Observation, observation_in, observation_of, AccusesNeither, Answer, Checker, CpuFrame, Excused, FrameOutcome, Judging, Kept, Load, LogLine, LogPlace, NotJudged, Nothing, Restarted, Skips, ToCommand, checker_skipping, checker_with, checking_above, checking_with, content_found, content_here, found-taking, found_by, found_in_frame, is_set_back, judging_at, judging_below, judging_below_outcome, judging_kept, judging_passed, judging_taken, judging_with, judging_with_line, loads_below, loads_left, outcome_anew, outcome_found, outcome_in, outcome_set_back, outcomes_of, passes_over, place_lost, stamp_in, taking, unjudged_by, with-taking, arith, Frame, Lost}
use Rattle.fio_check.specs.declared.observation.Observation.TheVariants as seen

-- the stamp of a frame is set back
abbrev pub turns_back : Judging → CpuFrame → Bool
turns_back judging frame = is_set_back judging frame.from_cpu frame.octets

-- the judge accuses neither end by a frame, and is this below it
pub record Judged (judging : Judging) (at : LogPlace) (from_cpu : Bool) (octets : List ℕ) (below : Judging) : Type 0 where
  pub fine : AccusesNeither (outcome_in judging at from_cpu octets)
  pub is : judging_with judging at from_cpu octets ≡ below

module _ (judging : Judging) (at : LogPlace) (from_cpu : Bool) (octets : List ℕ) where
  abbrev back_here : Bool
  back_here = turns_back judging (record { from_cpu = from_cpu; octets = octets })

  abbrev said : Observation
  said = observation_in from_cpu octets

  abbrev here : FrameOutcome → Bool → Bool → FrameOutcome
  here judged over back = if over then NotJudged (unjudged_by judging.checker.skips) else (if back then outcome_set_back judging else judged)

  by_outcome : (outcome : FrameOutcome) → outcome_in judging at from_cpu octets ≡ outcome → AccusesNeither outcome
      → Judged judging at from_cpu octets (judging_below_outcome outcome judging from_cpu octets)
  by_outcome outcome is fine = record { fine = subst AccusesNeither (sym is) fine; is = ap (λ o. judging_below_outcome o judging from_cpu octets) is }

  -- one that is passed over
  pub passed_is : passes_over judging.checker from_cpu said ≡ true → outcome_in judging at from_cpu octets ≡ NotJudged (unjudged_by judging.checker.skips)
  passed_is over = rw over refl

  pub passed : passes_over judging.checker from_cpu said ≡ true → Judged judging at from_cpu octets (judging_passed judging from_cpu octets)
  passed over = by_outcome (NotJudged (unjudged_by judging.checker.skips)) (passed_is over) tt

  none_found : (unheard : Bool) → outcome_found unheard None None ≡ Kept
  none_found true = refl
  none_found false = refl

  none_anew : (anew : Bool) → outcome_anew anew Kept ≡ Kept
  none_anew true = refl
  none_anew false = refl

  -- one in which nothing is found
  pub kept_is : passes_over judging.checker from_cpu said ≡ false → back_here ≡ false
      → found_by judging.checker from_cpu said ≡ None → found_in_frame (content_here judging) from_cpu octets ≡ None
      → outcome_in judging at from_cpu octets ≡ Kept
  kept_is over back rules content = grind (arith, none_anew, none_found)

  pub kept : passes_over judging.checker from_cpu said ≡ false → back_here ≡ false
      → found_by judging.checker from_cpu said ≡ None → found_in_frame (content_here judging) from_cpu octets ≡ None
      → Judged judging at from_cpu octets (judging_kept judging from_cpu octets)
  kept over back rules content = by_outcome Kept (kept_is over back rules content) tt

  -- one whose stamp is set back: the place is lost
  pub set_back : passes_over judging.checker from_cpu said ≡ false → back_here ≡ true
      → (stamp : Option ℕ) × Judged judging at from_cpu octets (place_lost judging (loads_below judging from_cpu octets) stamp)
  set_back over back = by (outcome_set_back judging) refl (excused_or_restarted (nat_lt 0 (loads_left judging)))
    where
      excused_or_restarted : (may : Bool) → ((if may then Excused Load else Restarted) ≡ Excused Load) ⊎ ((if may then Excused Load else Restarted) ≡ Restarted)
      excused_or_restarted true = inl refl
      excused_or_restarted false = inr refl

      by : (outcome : FrameOutcome) → outcome_set_back judging ≡ outcome → (outcome ≡ Excused Load) ⊎ (outcome ≡ Restarted)
          → (stamp : Option ℕ) × Judged judging at from_cpu octets (place_lost judging (loads_below judging from_cpu octets) stamp)
      by outcome is (inl excused) = (_, by_outcome (Excused Load) (rw (over, back) (is ∙ excused)) tt)
      by outcome is (inr restarted) = (_, by_outcome Restarted (rw (over, back) (is ∙ restarted)) tt)

-- ---- what is passed over

pub takes_all : (limits : RuleLimits) (facts : Facts) (from_cpu : Bool) (said : Observation) → passes_over (taking limits facts) from_cpu said ≡ false
takes_all limits facts from_cpu (seen.Poll number) = refl
takes_all limits facts from_cpu other = refl

-- what is heard where the place is lost
pub heard_passed : (skips : Skips) (limits : RuleLimits) → (skips ≡ Nothing → ⊥) → (answer : Option Answer)
    → passes_over (checker_skipping skips limits) false (observation_of None answer) ≡ true
heard_passed skips limits lost answer = grind arith

-- a command above which nothing was sent
pub command_taken : (limits : RuleLimits) (said : Observation) → passes_over (checker_skipping ToCommand limits) true said ≡ false
command_taken limits (seen.Poll number) = refl
command_taken limits other = refl

-- ---- below a frame that keeps the rules

at_checker : (judging : Judging) (stamp : Option ℕ) → (judging_at judging stamp).checker ≡ judging.checker
at_checker judging None = refl
at_checker judging (Some stamp) = refl

at_content : (judging : Judging) (stamp : Option ℕ) → (judging_at judging stamp).content ≡ judging.content
at_content judging None = refl
at_content judging (Some stamp) = refl

module _ (judging : Judging) (from_cpu : Bool) (octets : List ℕ) where
  abbrev taken : Judging
  taken = judging_taken judging judging.checker from_cpu octets

  pub kept_checker : (judging_kept judging from_cpu octets).checker ≡ checker_with judging.checker from_cpu (observation_in from_cpu octets)
  kept_checker = at_checker taken (stamp_in from_cpu octets)

  pub kept_content : (judging_kept judging from_cpu octets).content ≡ checking_with (content_here judging) from_cpu octets
  kept_content = at_content taken (stamp_in from_cpu octets)

-- the judge takes a frame that keeps all rules, and both checkers go on below it
pub record KeepsFrame (limits : RuleLimits) (judging : Judging) (at : LogPlace) (frame : CpuFrame) (facts : Facts) (below : ContentKept) : Type 0 where
  pub outcome : outcome_in judging at frame.from_cpu frame.octets ≡ Kept
  pub is : judging_with judging at frame.from_cpu frame.octets ≡ judging_kept judging frame.from_cpu frame.octets
  pub checker : (judging_with judging at frame.from_cpu frame.octets).checker ≡ taking limits facts
  pub content : (judging_with judging at frame.from_cpu frame.octets).content ≡ record { begun = true; kept = below }

pub checking_on : (kept : ContentKept) (from_cpu : Bool) (octets : List ℕ)
    → checking_with (record { begun = true; kept = kept }) from_cpu octets ≡ record { begun = true; kept = kept_with kept from_cpu octets }
checking_on kept true octets = refl
checking_on kept false octets = refl

finds_on : (kept : ContentKept) (from_cpu : Bool) (octets : List ℕ) → content_found kept from_cpu octets ≡ None
    → found_in_frame (record { begun = true; kept = kept }) from_cpu octets ≡ None
finds_on kept true octets none = none
finds_on kept false octets none = none

module _ (limits : RuleLimits) (judging : Judging) (at : LogPlace) (frame : CpuFrame) where
  abbrev sent : Bool
  sent = frame.from_cpu

  abbrev said_here : Observation
  said_here = observation_in frame.from_cpu frame.octets

  by_kept : (facts : Facts) (below : ContentKept) → passes_over judging.checker sent said_here ≡ false → turns_back judging frame ≡ false
      → found_by judging.checker sent said_here ≡ None → found_in_frame (content_here judging) sent frame.octets ≡ None
      → checker_with judging.checker sent said_here ≡ taking limits facts → checking_with (content_here judging) sent frame.octets ≡ record { begun = true; kept = below }
      → KeepsFrame limits judging at frame facts below
  by_kept facts below over back rules content checker checking = grind (arith, kept, kept_checker, kept_content, kept_is)

  -- where each frame is judged
  pub frame_kept : (facts : Facts) (kept : ContentKept) → judging.checker ≡ taking limits facts → judging.content ≡ record { begun = true; kept = kept } → turns_back judging frame ≡ false
      → first_broken_within limits facts said_here ≡ None → content_found kept sent frame.octets ≡ None
      → KeepsFrame limits judging at frame (facts_with facts said_here) (kept_with kept sent frame.octets)
  frame_kept facts kept checker content back none finds =
      let on : content_here judging ≡ record { begun = true; kept = kept } = ap (λ (c : Checker). checking_above judging c.skips) checker ∙ content in
      by_kept (facts_with facts said_here) (kept_with kept sent frame.octets) (ap (λ c. passes_over c sent said_here) checker ∙ takes_all limits facts sent said_here) back
      (ap (λ c. found_by c sent said_here) checker ∙ found-taking limits facts sent said_here ∙ rw none refl)
      (ap (λ c. found_in_frame c sent frame.octets) on ∙ finds_on kept sent frame.octets finds)
      (ap (λ c. checker_with c sent said_here) checker ∙ with-taking limits facts sent said_here none)
      (ap (λ c. checking_with c sent frame.octets) on ∙ checking_on kept sent frame.octets)

-- a command at which both checkers begin anew
pub frame_again : (limits : RuleLimits) (judging : Judging) (at : LogPlace) (octets : List ℕ) (skips : Skips) (kept : ContentKept) → judging.checker ≡ checker_skipping skips limits
    → checking_above judging skips ≡ record { begun = false; kept = kept } → passes_over (checker_skipping skips limits) true (observation_in true octets) ≡ false
    → first_broken_within limits no_facts (observation_in true octets) ≡ None → content_found kept true octets ≡ None
    → KeepsFrame limits judging at (record { from_cpu = true; octets = octets }) (facts_with no_facts (observation_in true octets)) (kept_with kept true octets)
frame_again limits judging at octets skips kept checker above over none finds = grind (arith, by_kept, taking)

-- ---- lines

-- what holds of the outcomes of lines, and of those below
pub outcomes-append : (P : FrameOutcome → Type 0) (front rest : List LogLine) (judging : Judging) → AllByRecursion P (outcomes_of judging front)
    → AllByRecursion P (outcomes_of (judging_below judging front) rest) → AllByRecursion P (outcomes_of judging (front ++ rest))
outcomes-append P [] rest judging fine below = below
outcomes-append P (Frame at from_cpu octets ∷ front) rest judging fine below = (fine.0, outcomes-append P front rest (judging_with judging at from_cpu octets) fine.1 below)
outcomes-append P (Lost ∷ front) rest judging fine below = outcomes-append P front rest (judging_with_line judging Lost) fine below
