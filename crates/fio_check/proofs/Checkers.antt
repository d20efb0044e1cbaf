-- The checker, one line at a time.
use Rattle.fio_check.proofs.Names.{◌≡◌, ◌≤◌, ◌<◌, inl, inr, ◌∙◌, ◌+◌, ℕ, zero, suc, Bool, true, false, List, [], ◌∷◌, Option, Some, None, refl, sym, ap, ap₂, arith, length, drop, is_some, option_map, option_and_then, slice_get, unwrap_or, if◌then◌else◌, option_or, slice_get_cases, facts_at, facts_with, number_polled, TranscriptLine, from_first_command, is_sent_at, observation_at, earliest_above, first_broken, rule_broken, breach_at, verdict_on, Rule, Verdict, Good, Broken, Breach, Checker, Facts, Nothing, Observation, Poll, RuleLimits, ToCommand, breach_of, checker_below_breach, checker_from, checker_with, first_broken_within, found_by, passes_over}
use Rattle.fio_check.specs.Checkers.{BeginsAnywhere, HasNoPollBetween, GoesOn, checker_anywhere, checker_at, checker_skipping, checker_within, due_in, found_at, found_from, verdict_found_at, verdict_of_checker}
use Rattle.fio_check.specs.Rules.{standard_rule_limits}
use Rattle.fio_check.proofs.FirstCommands.{IsBelowHeard, below_heard}
use Rattle.fio_check.proofs.KeptFacts.{facts_next, seen_at}
use Rattle.fio_check.proofs.Verdicts.{below-or-at, breach-is}

-- ---- from the start on, through the first breach

-- a checker that passes over nothing
abbrev pub taking : RuleLimits → Facts → Checker
taking limits facts = record { limits = limits; facts = facts; skips = Nothing }

takes-it : (limits : RuleLimits) (facts : Facts) (from_cpu : Bool) (observation : Observation) → passes_over (taking limits facts) from_cpu observation ≡ false
takes-it limits facts from_cpu (Poll number) = refl
takes-it limits facts from_cpu other = refl

pub found-taking : (limits : RuleLimits) (facts : Facts) (from_cpu : Bool) (observation : Observation)
    → found_by (taking limits facts) from_cpu observation ≡ breach_of limits facts observation
found-taking limits facts from_cpu observation = rw (takes-it limits facts from_cpu observation) refl

pub with-taking : (limits : RuleLimits) (facts : Facts) (from_cpu : Bool) (observation : Observation) → first_broken_within limits facts observation ≡ None
    → checker_with (taking limits facts) from_cpu observation ≡ taking limits (facts_with facts observation)
with-taking limits facts from_cpu observation none = rw (takes-it limits facts from_cpu observation, none) refl

-- the verdict of a breach is that of its rule
verdict-of : (facts : Facts) (observation : Observation) (broken : Option Rule) (line : Option TranscriptLine)
    → option_and_then (λ l. option_map (λ (breach : Breach). Broken l.number breach.rule) (option_map (λ rule. record { rule = rule; due = due_in facts observation rule }) broken)) line
    ≡ option_and_then (λ l. option_map (Broken l.number) broken) line
verdict-of facts observation broken line = grind arith

unbroken : (number : ℕ) (broken : Option Rule) → option_map (Broken number) broken ≡ None → broken ≡ None
unbroken number None is = refl
unbroken number (Some rule) is = absurd (cc)

-- a checker found the earliest breach above a place, and where there is none it has the facts of the lines
record AgreesSoFar (lines : List TranscriptLine) (place : ℕ) : Type 0 where
  pub found : earliest_above (verdict_found_at lines) place ≡ earliest_above (breach_at lines) place
  pub kept : earliest_above (breach_at lines) place ≡ None → checker_at standard_rule_limits lines place ≡ taking standard_rule_limits (facts_at lines place)

agrees-more : (lines : List TranscriptLine) (place : ℕ) (line : TranscriptLine) (earlier : Option Verdict) → slice_get lines place ≡ Some line
    → earliest_above (breach_at lines) place ≡ earlier → AgreesSoFar lines place → AgreesSoFar lines (suc place)
agrees-more lines place line (Some verdict) here is so_far =
    let same = ap (λ e. option_or e (breach_at lines place)) is in
    record {
      found = ap (λ e. option_or e (verdict_found_at lines place)) (so_far.found ∙ is) ∙ sym same;
      kept = λ none. (let no : Some verdict ≡ None = sym same ∙ none in absurd (cc));
    }
agrees-more lines place line None here is so_far =
    let facts = facts_at lines place in
    let observation = observation_at lines place in
    let from_cpu = is_sent_at lines place in
    let kept = so_far.kept is in
    let found_here : found_at standard_rule_limits lines place ≡ breach_of standard_rule_limits facts observation =
    ap (λ checker. found_by checker from_cpu observation) kept ∙ found-taking standard_rule_limits facts from_cpu observation in
    let verdict_here : verdict_found_at lines place ≡ breach_at lines place =
    ap (λ found. option_and_then (λ l. option_map (λ breach. Broken l.number breach.rule) found) (slice_get lines place)) found_here
    ∙ verdict-of facts observation (first_broken facts observation) (slice_get lines place) in
    record {
      found = ap (λ e. option_or e (verdict_found_at lines place)) so_far.found
          ∙ ap (λ e. option_or (earliest_above (breach_at lines) place) e) verdict_here;
      kept = λ none.
          (let none_here : breach_at lines place ≡ None = sym (ap (λ e. option_or e (breach_at lines place)) is) ∙ none in
          let keeps : rule_broken lines place ≡ None =
          unbroken line.number (rule_broken lines place) (sym (breach-is lines place line (rule_broken lines place) here refl) ∙ none_here) in
          ap (λ checker. checker_with checker from_cpu observation) kept
          ∙ with-taking standard_rule_limits facts from_cpu observation keeps
          ∙ ap (taking standard_rule_limits) (ap (facts_with facts) (seen_at lines place line here) ∙ sym (facts_next lines place line here)));
    }

agrees : (lines : List TranscriptLine) (place : ℕ) → place ≤ length lines → AgreesSoFar lines place
agrees lines zero within = record { found = refl; kept = λ none. refl }
agrees lines (suc place) within =
    elim (slice_get_cases lines place).1 as (λ _. AgreesSoFar lines (suc place)) [
      | inl found ↦ agrees-more lines place _ (earliest_above (breach_at lines) place) found.2 refl (agrees lines place (omega (arith, within)))
      | inr past ↦ absurd (omega (arith, within, past.0))
    ]

pub finds_the_first_breach : (lines : List TranscriptLine) → verdict_of_checker lines ≡ verdict_on lines
finds_the_first_breach lines =
    ap (λ found. unwrap_or found (Good (length lines))) (agrees lines (length lines) (omega arith)).found

-- ---- below a breach

pub with-breach : (limits : RuleLimits) (checker taken : Checker) (passes : Bool) (breach : Option Breach) → is_some (if passes then None else breach) ≡ true
    → (if passes then checker else (if is_some breach then checker_below_breach limits else taken)) ≡ checker_below_breach limits
with-breach limits checker taken passes breach is = grind arith

pub passes-it : (limits : RuleLimits) (from_cpu : Bool) (observation : Observation) → number_polled observation ≡ None
    → passes_over (checker_below_breach limits) from_cpu observation ≡ true
passes-it limits from_cpu observation none = grind arith

-- what a checker below a breach keeps, and finds, until the next poll
with-passing : (limits : RuleLimits) (from_cpu : Bool) (observation : Observation) → number_polled observation ≡ None
    → checker_with (checker_below_breach limits) from_cpu observation ≡ checker_below_breach limits
with-passing limits from_cpu observation none = rw (passes-it limits from_cpu observation none) refl

found-passing : (limits : RuleLimits) (from_cpu : Bool) (observation : Observation) → number_polled observation ≡ None
    → found_by (checker_below_breach limits) from_cpu observation ≡ None
found-passing limits from_cpu observation none = rw (passes-it limits from_cpu observation none) refl

-- what a checker has of the limits stays
limits-kept : (checker : Checker) (passes : Bool) (breach : Option Breach) (facts : Facts)
    → (if passes then checker else (if is_some breach then checker_below_breach checker.limits else (record checker { facts = facts; skips = Nothing }))).limits
    ≡ checker.limits
limits-kept checker passes breach facts = grind arith

pub limits-stay : (checker : Checker) (from_cpu : Bool) (observation : Observation) → (checker_with checker from_cpu observation).limits ≡ checker.limits
limits-stay checker from_cpu observation = limits-kept checker (passes_over checker from_cpu observation) (breach_of checker.limits checker.facts observation) (facts_with checker.facts observation)

limits-at : (limits : RuleLimits) (lines : List TranscriptLine) (place : ℕ) → (checker_at limits lines place).limits ≡ limits
limits-at limits lines zero = refl
limits-at limits lines (suc place) = limits-stay (checker_at limits lines place) (is_sent_at lines place) (observation_at lines place) ∙ limits-at limits lines place

module _ (limits : RuleLimits) (lines : List TranscriptLine) (breach : ℕ) (broken : is_some (found_at limits lines breach) ≡ true) where
  still-below : (place : ℕ) → breach < place → HasNoPollBetween lines breach place → checker_at limits lines place ≡ checker_below_breach limits
  still-below zero below none = absurd (omega (arith, below))
  still-below (suc place) below none =
      elim (below-or-at breach place below) as (λ _. checker_at limits lines (suc place) ≡ checker_below_breach limits) [
        | inl same ↦ (let here : is_some (found_at limits lines place) ≡ true = rw (← same) broken in
            let checker = checker_at limits lines place in
            let observation = observation_at lines place in
            with-breach checker.limits checker (record checker { facts = facts_with checker.facts observation; skips = Nothing })
            (passes_over checker (is_sent_at lines place) observation) (breach_of checker.limits checker.facts observation) here
            ∙ ap checker_below_breach (limits-at limits lines place))
        | inr further ↦ (let before = still-below place further (λ between after above. none between after (omega (arith, above))) in
            ap (λ checker. checker_with checker (is_sent_at lines place) (observation_at lines place)) before
            ∙ with-passing limits (is_sent_at lines place) (observation_at lines place) (none place further (omega arith)))
      ]

-- a poll is taken alike by a checker below a breach and a new one
found-alike : (limits : RuleLimits) (from_cpu : Bool) (observation : Observation) → is_some (number_polled observation) ≡ true
    → found_by (checker_below_breach limits) from_cpu observation ≡ found_by (checker_within limits) from_cpu observation
found-alike limits from_cpu observation is = grind arith

with-alike : (limits : RuleLimits) (from_cpu : Bool) (observation : Observation) → is_some (number_polled observation) ≡ true
    → checker_with (checker_below_breach limits) from_cpu observation ≡ checker_with (checker_within limits) from_cpu observation
with-alike limits from_cpu observation is = grind arith

get-drop : {A : Type 0} (all : List A) (n i : ℕ) → slice_get (drop n all) i ≡ slice_get all (n + i)
get-drop all zero i = ap (slice_get all) (omega arith)
get-drop [] (suc n) i = refl
get-drop (x ∷ all) (suc n) i =
    let later : suc (n + i) ≡ suc n + i = omega arith in
    get-drop all n i ∙ ap (slice_get (x ∷ all)) later

-- the same of what a line says, and of whether the CPU sent it
record IsLineAt (lines others : List TranscriptLine) (place other : ℕ) : Type 0 where
  pub sent : is_sent_at lines place ≡ is_sent_at others other
  pub said : observation_at lines place ≡ observation_at others other

line-at : (lines others : List TranscriptLine) (place other : ℕ) → slice_get lines place ≡ slice_get others other → IsLineAt lines others place other
line-at lines others place other same = record { sent = rw same refl; said = rw same refl }

-- ---- a checker of lines, and one that starts at a later one, which it takes as this one does

-- the checkers take the line alike
record TakesAlike (one other : Checker) (from_cpu : Bool) (observation : Observation) : Type 0 where
  pub found : found_by one from_cpu observation ≡ found_by other from_cpu observation
  pub kept : checker_with one from_cpu observation ≡ checker_with other from_cpu observation

module _ (one other : Checker) (lines others : List TranscriptLine) (start : ℕ) (rest : (further : ℕ) → slice_get lines (start + further) ≡ slice_get others further)
    (alike : TakesAlike (checker_from one lines start) other (is_sent_at lines start) (observation_at lines start)) where
  first-line : IsLineAt lines others start 0
  first-line = let place : start + 0 ≡ start = omega arith in line-at lines others start 0 (ap (slice_get lines) (sym place) ∙ rest 0)

  later-line : (further : ℕ) → IsLineAt lines others (suc start + further) (suc further)
  later-line further = grind (arith, line-at)

  same-further : (further : ℕ) → checker_from one lines (suc start + further) ≡ checker_from other others (suc further)
  same-further zero =
      let place : suc start + 0 ≡ suc start = omega arith in
      ap (checker_from one lines) place ∙ alike.kept ∙ ap₂ (checker_with other) first-line.sent first-line.said
  same-further (suc further) =
      let place : suc start + suc further ≡ suc (suc start + further) = omega arith in
      let line = later-line further in
      ap (checker_from one lines) place
      ∙ ap (λ checker. checker_with checker (is_sent_at lines (suc start + further)) (observation_at lines (suc start + further))) (same-further further)
      ∙ ap₂ (checker_with (checker_from other others (suc further))) line.sent line.said

  same-found : (further : ℕ) → found_from one lines (start + further) ≡ found_from other others further
  same-found zero =
      let place : start + 0 ≡ start = omega arith in
      ap (found_from one lines) place ∙ alike.found ∙ ap₂ (found_by other) first-line.sent first-line.said
  same-found (suc further) =
      let place : start + suc further ≡ suc start + further = omega arith in
      let line = later-line further in
      ap (found_from one lines) place
      ∙ ap (λ checker. found_by checker (is_sent_at lines (suc start + further)) (observation_at lines (suc start + further))) (same-further further)
      ∙ ap₂ (found_by (checker_from other others (suc further))) line.sent line.said

pub goes_on : (limits : RuleLimits) (lines : List TranscriptLine) → GoesOn limits lines
goes_on limits lines = grind (arith, found-alike, found-passing, get-drop, same-found, still-below, with-alike)

-- ---- a log that begins anywhere

-- what is heard above the first command is passed over
above-heard : (limits : RuleLimits) (observation : Observation) → number_polled observation ≡ None → passes_over (checker_skipping ToCommand limits) false observation ≡ true
above-heard limits (Poll number) none = absurd (cc)
above-heard limits other none = refl

command-alike : (limits : RuleLimits) (observation : Observation) → TakesAlike (checker_skipping ToCommand limits) (checker_within limits) true observation
command-alike limits (Poll number) = record { found = refl; kept = refl }
command-alike limits other = record { found = refl; kept = refl }

module _ (limits : RuleLimits) (lines : List TranscriptLine) (below : IsBelowHeard lines (from_first_command lines)) where
  still-above : (place : ℕ) → place ≤ below.above → checker_from (checker_anywhere limits) lines place ≡ checker_anywhere limits
  still-above zero within = refl
  still-above (suc place) within =
      let heard = below.heard place (omega (arith, within)) in
      let observation = observation_at lines place in
      ap (λ checker. checker_with checker (is_sent_at lines place) observation) (still-above place (omega (arith, within)))
      ∙ ap (λ sent. checker_with (checker_anywhere limits) sent observation) heard.0
      ∙ rw (above-heard limits observation heard.1) refl

  nothing-above : (place : ℕ) → place < below.above → found_from (checker_anywhere limits) lines place ≡ None
  nothing-above place within = grind (arith, above-heard, still-above)

  starts-there : (further : ℕ) → further < length (from_first_command lines)
      → found_from (checker_anywhere limits) lines (below.above + further) ≡ found_at limits (from_first_command lines) further
  starts-there further within =
      let rest = from_first_command lines in
      let place : below.above + 0 ≡ below.above = omega arith in
      let first = line-at lines rest below.above 0 (ap (slice_get lines) (sym place) ∙ below.same 0) in
      let sent : is_sent_at lines below.above ≡ true = first.sent ∙ below.sent (omega (arith, within)) in
      let here = still-above below.above (omega arith) in
      let said = observation_at lines below.above in
      let alike = command-alike limits said in
      same-found (checker_anywhere limits) (checker_within limits) lines rest below.above below.same
      (record {
        found = ap (λ checker. found_by checker (is_sent_at lines below.above) said) here ∙ ap (λ s. found_by (checker_anywhere limits) s said) sent ∙ alike.found
            ∙ ap (λ s. found_by (checker_within limits) s said) (sym sent);
        kept = ap (λ checker. checker_with checker (is_sent_at lines below.above) said) here ∙ ap (λ s. checker_with (checker_anywhere limits) s said) sent ∙ alike.kept
            ∙ ap (λ s. checker_with (checker_within limits) s said) (sym sent);
      })
      further

pub begins_anywhere : (limits : RuleLimits) (lines : List TranscriptLine) → BeginsAnywhere limits lines
begins_anywhere limits lines =
    let below = below_heard lines in
    let count = below.count in
    record {
      passes = λ place above. nothing-above limits lines below place (omega (arith, above, count));
      starts = λ above further is within.
          (let same : above ≡ below.above = omega (arith, is, count) in
          ap (λ n. found_from (checker_anywhere limits) lines (n + further)) same ∙ starts-there limits lines below further within);
    }
