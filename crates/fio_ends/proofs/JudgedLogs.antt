-- The judge of a link accuses no right link, from the first line of a log on.
use Rattle.fio_ends.proofs.Names.{◌≡◌, ◌∙◌, ◌≤◌, inl, inr, ℕ, Bool, true, false, List, [], ◌∷◌, ◌++◌, map, Some, None, refl, ap, sym, subst, arith, AllByRecursion, if◌then◌else◌, Settings, AreInRange, no_facts, RuleLimits, Event, Machine, start, after, Leads, kept, kept_at_start, frames_at, SuitModule, AccusesNeither, AreTimesNear, Checker, ContentChecking, FewAreUnderWay, IsPromptRun, Judging, LogStep, Logged, Marked, Missing, ToCommand, begun_is, checker_below_lines, checker_skipping, checking_again, events_from_command, events_of, is_command, judging_anywhere, judging_lost, le-max_left, loads_left, log_from, logged_at, machine_at_command, max, outcomes_of, scans_above, with_loads, judging_begun, AreMarked}
use Rattle.fio_ends.specs.LinkLogs.{JudgeAccusesNone}
use Rattle.fio_ends.proofs.AlternateKept.{follow_begun}
use Rattle.fio_ends.proofs.AllRules.{AllKnown}
use Rattle.fio_ends.proofs.ClockKept.{clock_above}
use Rattle.fio_ends.proofs.ContentFrame.{agrees-start}
use Rattle.fio_ends.proofs.ContentSteps.{PollsKnown}
use Rattle.fio_ends.proofs.FirstLoads.{loads_are_sent}
use Rattle.fio_ends.proofs.FirstPolls.{polls_begun}
use Rattle.fio_ends.proofs.Following.{follows-start, goes_on-same}
use Rattle.fio_ends.proofs.IgnoredKept.{both_begun}
use Rattle.fio_ends.proofs.JudgeLost.{all_heard, heard_lost}
use Rattle.fio_ends.proofs.JudgeSteps.{outcomes-append}
use Rattle.fio_ends.proofs.LaterLogs.{moved}
use Rattle.fio_ends.proofs.PromptRuns.{reaches}
use Rattle.fio_ends.proofs.StateKept.{state_above}
use Rattle.fio_ends.proofs.TimesKept.{times_begun}
use Rattle.fio_ends.proofs.TimesKnown.{time_above}
use Rattle.fio_ends.proofs.JudgedRuns.{judged}

-- ---- from its first line on

module _ (settings : Settings) (range : AreInRange settings) (first : ℕ) (limits : RuleLimits) (suit : SuitModule settings limits) (last : Machine) where
  -- above its first command, below this many loads that may take effect
  record IsAbove (excuses : ℕ) (judging : Judging) : Type 0 where
    pub checker : judging.checker ≡ checker_skipping ToCommand limits
    pub content : judging.content ≡ checking_again excuses

  abbrev IsFine : Judging → Machine → List LogStep → Type 0
  IsFine judging machine steps = AllByRecursion AccusesNeither (outcomes_of judging (log_from settings first machine steps))

  -- what is asked of the rest of a log above its first command
  record Above (before : List Event) (machine : Machine) (excuses loads : ℕ) (marked : Bool) (steps : List LogStep) : Type 0 where
    pub run : IsPromptRun settings first (before ++ events_of steps) last
    pub leads : Leads settings first start before machine
    pub few_excused : loads ≤ excuses
    pub marks : AreMarked marked steps
    pub few : FewAreUnderWay settings first machine (Some loads) steps

  abbrev IsNear : Machine → List Event → Type 0
  IsNear machine later = AreTimesNear false settings first (machine_at_command settings first machine later) (events_from_command later) last

  -- its first command
  begins : (before : List Event) (machine : Machine) (excuses loads : ℕ) (marked : Bool) (steps : List LogStep) (judging : Judging) → IsAbove excuses judging → Above before machine excuses loads marked steps
      → AreTimesNear false settings first machine (events_of steps) last → IsFine judging machine steps
  begins before machine excuses loads marked steps judging j a near =
      let r = reaches settings range first before (events_of steps) [] start machine last 0 no_facts (kept settings range first [] start refl tt) (follows-start settings first)
      a.leads a.run.is_run a.run.no_restart a.run.within a.run.prompt in
      let left : loads_left judging ≡ excuses = ap (λ (content : ContentChecking). content.kept.facts.excuses) j.content in
      judged settings range first limits suit machine false None steps (clock_above false) state_above machine last r.due judging (Some loads) marked
      (record { taken = record { last = last; leads = r.leads; none = r.no_restart; asked = record { blocks_near = near.blocks; near = near.inputs } }; stamps = near.stamps; states = near.states })
      (inl (record {
        reached = record { is_kept = r.is_kept; since = goes_on-same _ _ refl; rounds = omega arith };
        from = r.from;
        facts = r.facts;
        follows = r.follows;
        skips = ToCommand;
        checker = j.checker;
        place = inr (refl, j.content ∙ ap checking_again (sym left));
        loads = subst (λ n. loads ≤ n) (sym left) a.few_excused;
      }))
      r.leads r.no_restart r.within r.prompt a.marks (λ is. refl) a.few

  -- an event is its first command, or another is
  by_event : (before : List Event) (machine : Machine) (excuses loads : ℕ) (marked : Bool) (event : Event) (rest : List Event) (steps : List LogStep) (judging : Judging)
      → events_of steps ≡ event ∷ rest → IsAbove excuses judging → Above before machine excuses loads marked steps
      → IsNear machine (event ∷ rest) → (is_command event ≡ false → IsNear (after settings first machine event) rest → IsFine judging machine steps) → IsFine judging machine steps
  by_event before machine excuses loads marked event rest steps judging are j a near further = by (is_command event) refl
    where
      near_if : (sends : Bool) → is_command event ≡ sends
          → AreTimesNear false settings first (if sends then machine else machine_at_command settings first (after settings first machine event) rest)
          (if sends then event ∷ rest else events_from_command rest) last
      near_if sends is = subst (λ b. AreTimesNear false settings first (if b then machine else machine_at_command settings first (after settings first machine event) rest)
          (if b then event ∷ rest else events_from_command rest) last) is near

      by : (sends : Bool) → is_command event ≡ sends → IsFine judging machine steps
      by true is = begins before machine excuses loads marked steps judging j a (subst (λ events. AreTimesNear false settings first machine events last) (sym are) (near_if true is))
      by false is = further is (near_if false is)

  -- what is above it
  above_it : (steps : List LogStep) (before : List Event) (machine : Machine) (excuses loads : ℕ) (marked : Bool) (judging : Judging) → IsAbove excuses judging → Above before machine excuses loads marked steps
      → IsNear machine (events_of steps) → IsFine judging machine steps
  above_it [] before machine excuses loads marked judging j a near = tt
  above_it (Marked ∷ steps) before machine excuses loads marked judging j a near =
      above_it steps before machine (max 1 excuses) 1 true (judging_lost judging)
      (record {
        checker = ap (λ (checker : Checker). checker_below_lines checker checker.skips) j.checker;
        content = ap (λ (content : ContentChecking). with_loads (max 1 content.kept.facts.excuses) content) j.content;
      })
      (record { run = a.run; leads = a.leads; few_excused = le-max_left 1 excuses; marks = a.marks; few = a.few }) near
  above_it (Missing event ∷ steps) before machine excuses loads marked judging j a near =
      by_event before machine excuses loads marked event (events_of steps) (Missing event ∷ steps) judging refl j a near
      (λ is near. (let m = moved settings first last before (events_of steps) event machine a.run a.leads in
      above_it steps (before ++ event ∷ []) (after settings first machine event) excuses loads marked judging j
      (record { run = m.run; leads = m.leads; few_excused = a.few_excused; marks = a.marks.1; few = a.few }) near))
  above_it (Logged at event ∷ steps) before machine excuses loads marked judging j a near =
      by_event before machine excuses loads marked event (events_of steps) (Logged at event ∷ steps) judging refl j a near
      (λ is near. (let m = moved settings first last before (events_of steps) event machine a.run a.leads in
      let next = after settings first machine event in
      let heard = heard_lost settings range first limits start judging ToCommand j.checker (λ nothing. absurd (cc nothing)) at (frames_at first machine event) (all_heard first machine event is) in
      outcomes-append AccusesNeither (map (logged_at at) (frames_at first machine event)) (log_from settings first next steps) judging heard.0
      (subst (λ j. AllByRecursion AccusesNeither (outcomes_of j (log_from settings first next steps))) (sym heard.1)
      (above_it steps (before ++ event ∷ []) next excuses loads false judging j
      (record {
        run = m.run;
        leads = m.leads;
        few_excused = a.few_excused;
        marks = a.marks;
        few = subst (λ b. FewAreUnderWay settings first next (if b then None else Some loads) steps) is a.few.1;
      }) near))))

-- of one that begins with both ends
begun_whole : (settings : Settings) (range : AreInRange settings) (first : ℕ) (limits : RuleLimits) (suit : SuitModule settings limits) (last : Machine) (steps : List LogStep)
    → IsPromptRun settings first (events_of steps) last → AreMarked false steps → FewAreUnderWay settings first start None steps → AreTimesNear true settings first start (events_of steps) last
    → AllByRecursion AccusesNeither (outcomes_of (judging_begun limits) (log_from settings first start steps))
begun_whole settings range first limits suit last steps run marks few near =
    judged settings range first limits suit start true (scans_above true) steps (clock_above true) state_above start last 0 (judging_begun limits) None false
    (record { taken = record { last = last; leads = run.is_run; none = run.no_restart; asked = record { blocks_near = near.blocks; near = near.inputs } }; stamps = near.stamps; states = near.states })
    (inr (
      refl,
      record {
        sent = 0;
        from = [];
        facts = no_facts;
        kept = kept_at_start true;
        known = record { is_kept = kept settings range first [] start refl tt; begun = goes_on-same _ _ refl; rounds = omega arith; now = goes_on-same _ _ refl };
        follows = follows-start settings first;
        agrees = agrees-start settings true first start (subst (PollsKnown settings start) (sym begun_is) (polls_begun settings (λ input. false)));
        content = subst (AllKnown settings start (scans_above true) (time_above true) [] start) (sym begun_is)
            (record { timed = times_begun settings; watchdog = λ is. absurd (cc is); follow = follow_begun settings; shut = both_begun settings });
        loads = loads_are_sent settings first (events_of steps) last run.is_run run.no_restart run.within run.prompt;
        checker_is = refl;
        content_is = refl;
      },
    ))
    run.is_run run.no_restart run.within run.prompt marks (λ is. absurd (cc is)) few

pub judge_accuses_none : JudgeAccusesNone
unfolding JudgeAccusesNone
judge_accuses_none false settings limits first before steps machine last log =
    above_it settings log.in_range first limits log.suit last steps before machine 0 0 false (judging_anywhere limits) (record { checker = refl; content = refl })
    (record { run = log.run; leads = log.leads; few_excused = omega arith; marks = log.marked; few = log.few }) log.near
judge_accuses_none true settings limits first before steps machine last log = nothing_before before log.begins log.run log.leads
  where
    nothing_before : (before : List Event) → before ≡ [] → IsPromptRun settings first (before ++ events_of steps) last → Leads settings first start before machine
        → AllByRecursion AccusesNeither (outcomes_of (judging_begun limits) (log_from settings first machine steps))
    nothing_before (event ∷ before) none run leads = absurd (cc none)
    nothing_before [] none run leads =
        subst (λ m. FewAreUnderWay settings first m None steps → AreTimesNear true settings first m (events_of steps) last
        → AllByRecursion AccusesNeither (outcomes_of (judging_begun limits) (log_from settings first m steps))) (sym leads)
        (begun_whole settings log.in_range first limits log.suit last steps run log.marked) log.few log.near
