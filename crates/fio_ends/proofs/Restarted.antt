-- Where a module is started anew, time after time, the judge of a link accuses nobody, and says once at most for each life that it
-- was restarted.
use Rattle.fio_ends.proofs.Names.{length-append, append_assoc, ◌%◌, ◌≡◌, ◌∙◌, ◌+◌, same_Some, ◌≤◌, inl, inr, ℕ, suc, true, false, List, [], ◌∷◌, ◌++◌, length, Some, None, refl, ap, ap₂, sym, subst, arith, AllByRecursion, life_of, loads_of, Settings, AreInRange, no_facts, Facts, RuleLimits, Machine, start, number_of, number_of-fits, kept, SuitModule, AccusesNeither, Checker, FrameOutcome, HaveRestarts, IsRestarted, JudgesOn, Judging, LogLine, LogStep, LoggedLife, Nothing, events_of, filter, is_restart, judging_anywhere, judging_below, judging_with_line, log_from, outcomes_of, taking, filter-append, outcome_on, AreRestarted, lines_of_lives, nat_tests}
use Rattle.fio_ends.specs.RestartedLogs.{JudgeFindsRestarts, JudgeFindsRestartsAnywhere}
use Rattle.fio_ends.proofs.AllRules.{again_known, agrees_again, kept_again}
use Rattle.fio_ends.proofs.BegunAgain.{asks_begun}
use Rattle.fio_ends.proofs.ClockKept.{clock_above}
use Rattle.fio_ends.proofs.ContentSteps.{IsKnown}
use Rattle.fio_ends.proofs.Following.{Follows, goes_on-same}
use Rattle.fio_ends.proofs.JudgeStamps.{stamps_above, stamps_begin}
use Rattle.fio_ends.proofs.JudgedCalm.{calm_above, none_loaded}
use Rattle.fio_ends.proofs.StateKept.{state_above}
use Rattle.fio_ends.proofs.AnewFrames.{are_quiet, quiet_of}
use Rattle.fio_ends.proofs.RestartedLife.{OneRestartTo, between}

-- a checker that judges each frame
checker_of : (limits : RuleLimits) (checker : Checker) → checker.limits ≡ limits → checker.skips ≡ Nothing → checker ≡ taking limits checker.facts
checker_of limits checker limits_are all = ap₂ (λ l s. record checker { limits = l; skips = s }) limits_are all

-- what a CPU's end that goes on with this number knows where a life begins: the block before it was answered, the first time that it was asked for
abbrev facts_anew : ℕ → Facts
facts_anew number = record no_facts { polled = Some (number + 255); answered = true; advanced = true }

follows_anew : (settings : Settings) (first : ℕ) → Follows settings first [] start 0 (facts_anew (number_of first 0))
follows_anew settings first = grind (arith, nat_tests, number_of-fits, number_of, same_Some, inl)

-- a life, below whatever a judge took
one_life : (settings : Settings) (limits : RuleLimits) (first : ℕ) (steps : List LogStep) (last : Machine) (judging : Judging) (range : AreInRange settings) (suit : SuitModule settings limits)
    → IsRestarted settings first judging steps last → JudgesOn limits (number_of first 0) judging
    → OneRestartTo settings range first limits suit last judging (log_from settings first start steps)
one_life settings limits first steps last judging range suit life j =
    let run = life.run in
    let calm = life.calm in
    let events = events_of steps in
    let now = life_of start.history in
    let steady = calm.no_loads in
    let known : IsKnown settings first start now start =
    record { is_kept = kept settings range first [] start refl tt; begun = goes_on-same now now refl; rounds = omega arith; now = goes_on-same now now refl } in
    let again = agrees_again settings range first start false None start 0 in
    between settings range first limits suit judging.latest steps last life.logged
    (record {
      times = record { clock = clock_above false; state = state_above; sent = 0 };
      stamps = stamps_above settings range first start;
      from = now;
      facts = facts_anew (number_of first 0);
      kept = record { number = Some (number_of first 0); facts = (kept_again 0).facts };
      machine = start;
      due = 0;
    }) judging
    (record {
      known = known;
      follows = follows_anew settings first;
      agrees = record { number = λ polled is. refl; unpolled = λ is. absurd (cc is); awaits = λ code command is. absurd (cc is); polls = again.polls };
      content = again_known settings range first start false None (record { clock = clock_above false; state = state_above; sent = 0 }) start 0 (goes_on-same now now refl) (record { enough = inr (omega arith) });
      stamps = stamps_begin settings range first start now start (kept_again 0).facts;
    })
    (record {
      above = judging.checker.facts;
      content = judging.content.kept;
      checker_is = checker_of limits judging.checker j.limits_are j.all;
      content_is = ap (λ b. record judging.content { begun = b }) j.content;
      due = j.due;
      same = inl refl;
      latest_is = refl;
      polls = inl (record { polled = refl; answered = refl; advanced = refl });
    })
    (record {
      asks = asks_begun false settings first start last 0 events run.no_restart run.is_run
          (none_loaded settings range first events start last (loads_of now + 0) run.is_run run.no_restart (omega (arith, steady))) life.near;
      calm = record { last = last; leads = run.is_run; none = run.no_restart; steady = calm.no_loads; short = calm.short };
      leads = run.is_run;
      none = run.no_restart;
      within = run.within;
      prompt = run.prompt;
      steady = calm.no_loads;
    })
    life.earlier

-- ---- lives, one after the other

both_found : (outcomes more : List FrameOutcome) (one count most : ℕ) → one + count ≤ most → HaveRestarts one outcomes → HaveRestarts count more
    → HaveRestarts most (outcomes ++ more)
both_found outcomes more one count most within found rest = record { none_accused = both outcomes found.none_accused; few = fewer }
  where
    both : (outcomes : List FrameOutcome) → AllByRecursion AccusesNeither outcomes → AllByRecursion AccusesNeither (outcomes ++ more)
    both [] none = rest.none_accused
    both (outcome ∷ outcomes) none = (none.0, both outcomes none.1)

    counted : length (filter is_restart (outcomes ++ more)) ≡ length (filter is_restart outcomes) + length (filter is_restart more)
    counted = ap length (filter-append is_restart outcomes more) ∙ length-append (filter is_restart outcomes) (filter is_restart more)

    fewer : length (filter is_restart (outcomes ++ more)) ≤ most
    fewer = let is = counted in let first = found.few in let few = rest.few in omega (arith, is, first, few, within)

outcomes_both : (judging : Judging) (lines more : List LogLine) → outcomes_of judging (lines ++ more) ≡ outcomes_of judging lines ++ outcomes_of (judging_below judging lines) more
outcomes_both judging [] more = refl
outcomes_both judging (line ∷ lines) more =
    ap (λ (left : List FrameOutcome). outcome_on judging line ++ left) (outcomes_both (judging_with_line judging line) lines more)
    ∙ sym (append_assoc (outcome_on judging line) (outcomes_of (judging_with_line judging line) lines) (outcomes_of (judging_below (judging_with_line judging line) lines) more))

lives_found : (settings : Settings) (limits : RuleLimits) (range : AreInRange settings) (suit : SuitModule settings limits) (lives : List LoggedLife) (first : ℕ) (judging : Judging)
    → (judging.checker.skips ≡ Nothing → JudgesOn limits (number_of first 0) judging) → AreRestarted settings first judging lives
    → HaveRestarts (length lives) (outcomes_of judging (lines_of_lives settings first lives))
lives_found settings limits range suit [] first judging judges restarted = record { none_accused = tt; few = omega arith }
lives_found settings limits range suit (life ∷ lives) first judging judges restarted =
    let lines = log_from settings first start life.steps in
    let more = lines_of_lives settings (first + life.last.round) lives in
    let one = one_life settings limits first life.steps life.last judging range suit restarted.1 (judges restarted.0) in
    let same : number_of first life.last.round ≡ number_of (first + life.last.round) 0 = ap (λ n. n % 256) (omega arith) in
    subst (HaveRestarts (suc (length lives))) (sym (outcomes_both judging lines more))
    (both_found (outcomes_of judging lines) (outcomes_of (judging_below judging lines) more) 1 (length lives) (suc (length lives)) (omega arith) one.0
    (lives_found settings limits range suit lives (first + life.last.round) (judging_below judging lines)
    (λ all. subst (λ number. JudgesOn limits number (judging_below judging lines)) same (one.1 all)) restarted.2))

pub judge_finds_restarts_anywhere : JudgeFindsRestartsAnywhere
unfolding JudgeFindsRestartsAnywhere
judge_finds_restarts_anywhere settings limits first lives judging range suit judges restarted =
    lives_found settings limits range suit lives first judging (λ all. judges) restarted

pub judge_finds_restarts : JudgeFindsRestarts
unfolding JudgeFindsRestarts
judge_finds_restarts settings limits first before steps machine last lives log =
    let lines = log_from settings first machine steps in
    let more = lines_of_lives settings (first + last.round) lives in
    let judging = judging_anywhere limits in
    let right = calm_above settings log.in_range first limits log.suit last steps before machine log.run log.leads log.logged (log.calm, log.near) in
    let quiet = are_quiet (outcomes_of judging lines) (quiet_of (outcomes_of judging lines) right.0) in
    let none = quiet.none in
    let same : number_of first last.round ≡ number_of (first + last.round) 0 = ap (λ n. n % 256) (omega arith) in
    subst (HaveRestarts (length lives)) (sym (outcomes_both judging lines more))
    (both_found (outcomes_of judging lines) (outcomes_of (judging_below judging lines) more) 0 (length lives) (length lives) (omega arith) (record { none_accused = quiet.none_accused; few = omega (arith, none) })
    (lives_found settings limits log.in_range log.suit lives (first + last.round) (judging_below judging lines)
    (λ all. subst (λ number. JudgesOn limits number (judging_below judging lines)) same (right.1 all)) log.restarted))
