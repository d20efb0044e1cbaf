-- The judge of a link accuses no right link: event by event of a prompt run, where frames may be missing at marks.
use Rattle.fio_ends.proofs.Names.{◌≡◌, ◌∙◌, ◌+◌, ◌<◌, ◌⊎◌, inl, inr, ℕ, Bool, true, false, List, [], ◌∷◌, map, Option, Some, None, refl, ap, sym, subst, arith, is_some, AllByRecursion, if◌then◌else◌, Life, life_of, loads_of, Settings, AreInRange, ContentKept, kept_with, facts_with, no_facts, Facts, RuleLimits, Observation, observation_in, Event, Machine, SentFrame, number_of, number_of-fits, refusal, after, Leads, item_numbered, IsNotRestart, HaveNoRestart, CpuFrame, frame_heard, frames_at, due_after, ArePrompt, IsPrompt, IsWithinRanges, SuitModule, AccusesNeither, AreUnderWayAt, Checker, ContentChecking, FewAreUnderWay, Judging, LoadsAreSent, LogLine, LogPlace, LogStep, Logged, Marked, Missing, Skips, StampsAreNear, StatesAreNear, ToCommand, ToPoll, checker_below_breach, checker_below_lines, checker_skipping, checking_above, checking_again, checking_with, command_octets, events_of, is_command, judging_below, judging_lost, le-max_left, loads_below, loads_left, loads_sent, log_from, logged_at, outcomes_of, passes_over, taking, AreMarked, below_command}
use Rattle.fio_message.specs.declared.commands.Command.TheVariants as commands
use Rattle.fio_link.specs.declared.event.Event.TheVariants as events
use Rattle.fio_ends.proofs.AllRules.{AllKnown, kept_again, none_in_frame}
use Rattle.fio_ends.proofs.ApartTimes.{AreNearByInput}
use Rattle.fio_ends.proofs.BegunAgain.{Sends, Went, went-again, went-on}
use Rattle.fio_ends.proofs.ContentFrame.{Agrees}
use Rattle.fio_ends.proofs.ContentSteps.{IsKnown}
use Rattle.fio_ends.proofs.Following.{Follows, from_after, goes_on-both}
use Rattle.fio_ends.proofs.JudgeLost.{IsLost, IsReached, MayTakeEffect, all_heard, command_passed, has_later, heard_lost, is_somewhere, known_of, lost_at_mark, lost_command, lost_further, may_begin_at, no_loads_but, reached_of, sends_if}
use Rattle.fio_ends.proofs.JudgeSteps.{checking_on, command_taken, frame_again, frame_kept, outcomes-append, passed, set_back, takes_all, turns_back}
use Rattle.fio_ends.proofs.Lives.{loads_grow}
use Rattle.fio_ends.proofs.Sends.{said_of}
use Rattle.fio_ends.proofs.Stamps.{ClockState, clock_after}
use Rattle.fio_ends.proofs.StateKnown.{StateState, state_after}
use Rattle.fio_ends.proofs.Taken.{Asks, asks_on}
use Rattle.fio_ends.proofs.JumpedBlocks.{HasExcuses}
use Rattle.fio_ends.proofs.TimesKnown.{AsksTimes, TimeState, time_after}

-- an event has one frame at most
abbrev IsShort : List CpuFrame → Type 0
IsShort [] = Unit {0}
IsShort (frame ∷ []) = Unit {0}
IsShort (frame ∷ other ∷ more) = ⊥

short_at : (first : ℕ) (machine : Machine) (event : Event) → IsShort (frames_at first machine event)
short_at first machine events.Poll = tt
short_at first machine (events.Send command) = tt
short_at first machine (events.ToCpu index) = by (item_numbered machine.to_cpu index)
  where
    by : (found : Option SentFrame) → IsShort (frame_heard found)
    by None = tt
    by (Some frame) = tt
short_at first machine other = tt

below_none : (event : Event) → below_command event None ≡ None
below_none event = grind arith

module _ (settings : Settings) (range : AreInRange settings) (first : ℕ) (limits : RuleLimits) (suit : SuitModule settings limits) (begin : Machine)
    (begun : Bool) (above : Option ℕ) where
  abbrev loads_at : ℕ
  loads_at = loads_of (life_of begin.history)

  abbrev time_at : ClockState → StateState → ℕ → TimeState
  time_at c t sent = record { clock = c; state = t; sent = sent }

  -- what is asked of the rest of a log, but of loads
  pub record AsksNear (c : ClockState) (t : StateState) (machine : Machine) (later : List Event) : Type 0 where
    pub taken : Asks settings first begin (AreNearByInput above) machine later
    pub stamps : StampsAreNear settings first machine c.asked c.before later
    pub states : StatesAreNear settings first machine t.asked t.seen later

  near_on : (c : ClockState) (t : StateState) (machine : Machine) (event : Event) (rest : List Event) → AsksNear c t machine (event ∷ rest)
      → AsksNear (clock_after c machine event) (state_after settings t machine event) (after settings first machine event) rest
  near_on c t machine event rest a =
      record { taken = asks_on settings first begin (AreNearByInput above) machine event rest a.taken; stamps = a.stamps.1; states = a.states.1 }

  asks_with : (c : ClockState) (t : StateState) (sent : ℕ) (machine : Machine) (later : List Event) → AsksNear c t machine later → LoadsAreSent settings first (loads_at + sent) machine later
      → AsksTimes settings first begin above (time_at c t sent) machine later
  asks_with c t sent machine later a loads = record { taken = a.taken; stamps = a.stamps; states = a.states; loads = loads }

  abbrev Lost : Option ℕ → Machine → ℕ → List Event → Judging → Type 0
  Lost = IsLost settings range first limits begin

  -- each frame is judged
  pub record Judges (c : ClockState) (t : StateState) (machine : Machine) (due : ℕ) (later : List Event) (judging : Judging) : Type 0 where
    pub sent : ℕ
    pub from : Life
    pub facts : Facts
    pub kept : ContentKept
    pub known : IsKnown settings first begin from machine
    pub follows : Follows settings first from machine due facts
    pub agrees : Agrees settings first machine facts kept
    pub content : AllKnown settings begin above (time_at c t sent) from machine kept.facts
    pub loads : LoadsAreSent settings first (loads_at + sent) machine later
    pub checker_is : judging.checker ≡ taking limits facts
    pub content_is : judging.content ≡ record { begun = true; kept = kept }

  -- one of the two, by whether a part of the log has begun
  abbrev IsThere : Option ℕ → ClockState → StateState → Machine → ℕ → List Event → Judging → Type 0
  IsThere begins c t machine due later judging = Lost begins machine due later judging ⊎ ((begins ≡ None) × Judges c t machine due later judging)

  -- what lines keep
  record KeepsJudge (begins : Option ℕ) (c : ClockState) (t : StateState) (machine : Machine) (due : ℕ) (later : List Event) (judging : Judging) (lines : List LogLine) : Type 0 where
    pub fine : AllByRecursion AccusesNeither (outcomes_of judging lines)
    pub there : IsThere begins c t machine due later (judging_below judging lines)

  -- ---- a frame that is judged

  module _ (c : ClockState) (t : StateState) (sent : ℕ) (from : Life) (machine : Machine) (due : ℕ) (later : List Event) (facts : Facts) (kept : ContentKept)
      (loads : LoadsAreSent settings first (loads_at + sent) machine later) (judging : Judging) (checker_is : judging.checker ≡ taking limits facts)
      (content_is : judging.content ≡ record { begun = true; kept = kept }) where
    takes : (from_cpu : Bool) (said : Observation) → passes_over judging.checker from_cpu said ≡ false
    takes from_cpu said = ap (λ checker. passes_over checker from_cpu said) checker_is ∙ takes_all limits facts from_cpu said

    -- it keeps all rules: the next one is judged too
    goes_on : (at : LogPlace) (frame : CpuFrame) (went : Went settings first begin above (time_at c t sent) from due facts kept (frame ∷ []) machine)
        → turns_back judging frame ≡ false → KeepsJudge None c t machine due later judging (logged_at at frame ∷ [])
    goes_on at frame went back =
        let k = frame_kept limits judging at frame facts kept checker_is content_is back (went.rules limits suit).0 (none_in_frame kept frame [] went.content.keep) in
        record {
          fine = (subst AccusesNeither (sym k.outcome) tt, tt);
          there = inr (
            refl,
            record {
              sent = sent;
              from = from;
              facts = facts_with facts (observation_in frame.from_cpu frame.octets);
              kept = kept_with kept frame.from_cpu frame.octets;
              known = went.known;
              follows = went.follows;
              agrees = went.content.agrees;
              content = went.content.holds;
              loads = loads;
              checker_is = k.checker;
              content_is = k.content;
            },
          );
        }

    -- its stamp is set back: the place is lost
    set_back_at : (at : LogPlace) (frame : CpuFrame) (went : Went settings first begin above (time_at c t sent) from due facts kept (frame ∷ []) machine)
        → turns_back judging frame ≡ true → KeepsJudge None c t machine due later judging (logged_at at frame ∷ [])
    set_back_at at frame went back =
        let from_cpu = frame.from_cpu in
        let octets = frame.octets in
        let said = observation_in from_cpu octets in
        let found = set_back judging at from_cpu octets (takes from_cpu said) back in
        let j = found.1 in
        let timed = went.content.holds.timed in
        let grown = loads_grow (life_of timed.base) (life_of machine.history) (goes_on-both (life_of timed.base) from (life_of machine.history) timed.upto went.known.now) in
        let has = has_later (loads_at + sent) _ _ _ grown timed.has in
        let left : loads_below judging from_cpu octets ≡ (kept_with kept from_cpu octets).facts.excuses =
        ap (λ content. (checking_with content from_cpu octets).kept.facts.excuses) content_is ∙ ap (λ (content : ContentChecking). content.kept.facts.excuses) (checking_on kept from_cpu octets) in
        record {
          fine = (j.fine, tt);
          there = inl (subst (Lost None machine due later) (sym j.is) (record {
            reached = reached_of settings range first limits begin from machine went.known;
            from = from;
            facts = facts_with facts said;
            follows = went.follows;
            skips = ToPoll;
            checker = ap (λ (checker : Checker). checker_below_breach checker.limits) checker_is;
            place = inl refl;
            loads = (sent, loads, subst (λ n. HasExcuses (loads_at + sent) (loads_of (life_of machine.history)) n) (sym left) has);
          }));
        }

    -- the frames of an event
    judge_frames : (at : LogPlace) (frames : List CpuFrame) → IsShort frames → Went settings first begin above (time_at c t sent) from due facts kept frames machine
        → KeepsJudge None c t machine due later judging (map (logged_at at) frames)
    judge_frames at [] short went = record {
      fine = tt;
      there = inr (
        refl,
        record {
          sent = sent;
          from = from;
          facts = facts;
          kept = kept;
          known = went.known;
          follows = went.follows;
          agrees = went.content.agrees;
          content = went.content.holds;
          loads = loads;
          checker_is = checker_is;
          content_is = content_is;
        },
      );
    }
    judge_frames at (frame ∷ []) short went = by (turns_back judging frame) refl
      where
        by : (back : Bool) → turns_back judging frame ≡ back → KeepsJudge None c t machine due later judging (logged_at at frame ∷ [])
        by true back = set_back_at at frame went back
        by false back = goes_on at frame went back
    judge_frames at (frame ∷ other ∷ more) short went = absurd short

  -- an event of which each frame is judged
  judges_on : (c : ClockState) (t : StateState) (at : LogPlace) (event : Event) (rest : List Event) (machine : Machine) (due : ℕ) (judging : Judging) → AsksNear c t machine (event ∷ rest)
      → Judges c t machine due (event ∷ rest) judging
      → refusal machine event ≡ None → IsNotRestart event → IsWithinRanges event → IsPrompt machine due event
      → KeepsJudge None (clock_after c machine event) (state_after settings t machine event) (after settings first machine event) (due_after machine due event) rest judging
      (map (logged_at at) (frames_at first machine event))
  judges_on c t at event rest machine due judging near j fine none within prompt =
      let next = after settings first machine event in
      let went = went-on settings range first begin begun above (time_at c t j.sent) j.from machine due j.facts j.known j.follows j.kept j.agrees j.content event rest fine none within prompt
      (asks_with c t j.sent machine (event ∷ rest) near j.loads) in
      let same : (loads_at + j.sent) + loads_sent event ≡ loads_at + (j.sent + loads_sent event) = omega arith in
      judge_frames (clock_after c machine event) (state_after settings t machine event) (j.sent + loads_sent event) (from_after machine j.from event) next (due_after machine due event) rest j.facts j.kept
      (subst (λ n. LoadsAreSent settings first n next rest) same j.loads.1) judging j.checker_is j.content_is at (frames_at first machine event) (short_at first machine event) went

  -- ---- where the place is lost

  -- an event at which nothing is sent
  lost_quiet : (begins : Option ℕ) (c : ClockState) (t : StateState) (at : LogPlace) (event : Event) (rest : List Event) (machine : Machine) (due : ℕ) (judging : Judging) → Lost begins machine due (event ∷ rest) judging
      → refusal machine event ≡ None → IsNotRestart event → IsWithinRanges event → IsPrompt machine due event → is_command event ≡ false
      → KeepsJudge begins c t (after settings first machine event) (due_after machine due event) rest judging (map (logged_at at) (frames_at first machine event))
  lost_quiet begins c t at event rest machine due judging l fine none within prompt quiet =
      let heard = heard_lost settings range first limits begin judging l.skips l.checker (is_somewhere settings range first limits begin l.skips _ l.place) at (frames_at first machine event)
      (all_heard first machine event quiet) in
      record {
        fine = heard.0;
        there = inl (subst (Lost begins (after settings first machine event) (due_after machine due event) rest) (sym heard.1)
            (lost_further settings range first limits begin begins machine due event rest judging l fine none within prompt (λ is. no_loads_but event quiet)));
      }

  -- a command at which both checkers begin anew
  begins_again : (judging : Judging) (skips : Skips) → judging.checker ≡ checker_skipping skips limits → (c : ClockState) (t : StateState) (at : LogPlace) (event : Event) (rest : List Event) (machine : Machine) (due : ℕ)
      (from : Life) (facts : Facts) → IsReached settings range first limits begin machine
      → Follows settings first from machine due facts → MayTakeEffect settings range first limits begin None machine (event ∷ rest) (loads_left judging) → Sends event
      → refusal machine event ≡ None → IsWithinRanges event → (octets : List ℕ) → frames_at first machine event ≡ record { from_cpu = true; octets = octets } ∷ []
      → passes_over (checker_skipping skips limits) true (observation_in true octets) ≡ false → checking_above judging skips ≡ checking_again (loads_left judging)
      → KeepsJudge None (clock_after c machine event) (state_after settings t machine event) (after settings first machine event) (due_after machine due event) rest judging
      (map (logged_at at) (frames_at first machine event))
  begins_again judging skips checker c t at event rest machine due from facts r follows may sends fine within octets frames_are over above_is =
      let excuses = loads_left judging in
      let next = after settings first machine event in
      let sent = may.0 in
      let said = observation_in true octets in
      let frame : CpuFrame = record { from_cpu = true; octets = octets } in
      let went = subst (λ frames. Went settings first begin above (time_after settings (time_at c t sent) machine event) (life_of machine.history) (due_after machine due event) no_facts (kept_again excuses) frames next) frames_are
      (went-again settings range first begin begun above (time_at c t sent) from machine due facts (known_of settings range first limits begin machine r) follows excuses may.2 event sends fine within) in
      let k = frame_again limits judging at octets skips (kept_again excuses) checker above_is over (went.rules limits suit).0 (none_in_frame (kept_again excuses) frame [] went.content.keep) in
      let same : (loads_at + sent) + loads_sent event ≡ loads_at + (sent + loads_sent event) = omega arith in
      subst (λ frames. KeepsJudge None (clock_after c machine event) (state_after settings t machine event) next (due_after machine due event) rest judging (map (logged_at at) frames)) (sym frames_are)
      (record {
        fine = (subst AccusesNeither (sym k.outcome) tt, tt);
        there = inr (
          refl,
          record {
            sent = sent + loads_sent event;
            from = life_of machine.history;
            facts = facts_with no_facts said;
            kept = kept_with (kept_again excuses) true octets;
            known = went.known;
            follows = went.follows;
            agrees = went.content.agrees;
            content = went.content.holds;
            loads = subst (λ n. LoadsAreSent settings first n next rest) same may.1.1;
            checker_is = k.checker;
            content_is = k.content;
          },
        );
      })

  -- where it goes on, or counts as a load
  lost_sends : (begins : Option ℕ) (c : ClockState) (t : StateState) (at : LogPlace) (event : Event) (rest : List Event) (machine : Machine) (due : ℕ) (judging : Judging) → Lost begins machine due (event ∷ rest) judging
      → AreUnderWayAt begins settings first machine (event ∷ rest) → refusal machine event ≡ None → IsWithinRanges event → IsPrompt machine due event → Sends event
      → KeepsJudge None (clock_after c machine event) (state_after settings t machine event) (after settings first machine event) (due_after machine due event) rest judging
      (map (logged_at at) (frames_at first machine event))
  lost_sends begins c t at event rest machine due judging l under_way fine within prompt sends =
      at_event event fine within prompt sends (may_begin_at settings range first limits begin begins machine (event ∷ rest) (loads_left judging) l.reached under_way l.loads) l.place
    where
      Keeps : Event → Type 0
      Keeps event = KeepsJudge None (clock_after c machine event) (state_after settings t machine event) (after settings first machine event) (due_after machine due event) rest judging
          (map (logged_at at) (frames_at first machine event))

      poll_is : l.skips ≡ ToPoll → judging.checker ≡ checker_skipping ToPoll limits
      poll_is is = l.checker ∙ ap (λ s. checker_skipping s limits) is

      command_is : l.skips ≡ ToCommand → judging.checker ≡ checker_skipping ToCommand limits
      command_is is = l.checker ∙ ap (λ s. checker_skipping s limits) is

      at_event : (event : Event) → refusal machine event ≡ None → IsWithinRanges event → IsPrompt machine due event → Sends event
          → MayTakeEffect settings range first limits begin None machine (event ∷ rest) (loads_left judging)
          → (l.skips ≡ ToPoll) ⊎ ((l.skips ≡ ToCommand) × (judging.content ≡ checking_again (loads_left judging)))
          → Keeps event
      at_event events.Poll fine within prompt sends may (inl poll) =
          let number = number_of first machine.round in
          let fits : number < 256 = omega (arith, number_of-fits first machine.round) in
          begins_again judging ToPoll (poll_is poll) c t at events.Poll rest machine due l.from l.facts l.reached l.follows may tt fine within (command_octets (commands.Poll number)) refl
          (ap (passes_over (checker_skipping ToPoll limits) true) (said_of (commands.Poll number) fits)) refl
      at_event events.Poll fine within prompt sends may (inr command) =
          let number = number_of first machine.round in
          begins_again judging ToCommand (command_is command.0) c t at events.Poll rest machine due l.from l.facts l.reached l.follows may tt fine within (command_octets (commands.Poll number)) refl
          (command_taken limits (observation_in true (command_octets (commands.Poll number)))) command.1
      at_event (events.Send sent) fine within prompt sends may (inl poll) =
          let octets = command_octets sent in
          let over : passes_over judging.checker true (observation_in true octets) ≡ true =
          ap (λ checker. passes_over checker true (observation_in true octets)) (poll_is poll) ∙ command_passed settings range first limits begin sent fine within in
          let j = passed judging at true octets over in
          record {
            fine = (j.fine, tt);
            there = inl (subst (Lost None (after settings first machine (events.Send sent)) (due_after machine due (events.Send sent)) rest) (sym j.is)
                (lost_command settings range first limits begin machine due sent rest judging l.from l.facts l.reached l.follows may (poll_is poll) fine within prompt));
          }
      at_event (events.Send sent) fine within prompt sends may (inr command) =
          let octets = command_octets sent in
          begins_again judging ToCommand (command_is command.0) c t at (events.Send sent) rest machine due l.from l.facts l.reached l.follows may tt fine within octets refl
          (command_taken limits (observation_in true octets)) command.1
      at_event (events.Scan raw) fine within prompt sends may place = absurd sends
      at_event events.LineSync fine within prompt sends may place = absurd sends
      at_event (events.Raise mask) fine within prompt sends may place = absurd sends
      at_event (events.ToModule index) fine within prompt sends may place = absurd sends
      at_event (events.ToCpu index) fine within prompt sends may place = absurd sends
      at_event events.Restart fine within prompt sends may place = absurd sends

  -- ---- a step

  -- an event that is logged
  logged_on : (begins : Option ℕ) (c : ClockState) (t : StateState) (at : LogPlace) (event : Event) (rest : List Event) (machine : Machine) (due : ℕ) (judging : Judging) → AsksNear c t machine (event ∷ rest)
      → IsThere begins c t machine due (event ∷ rest) judging → (is_command event ≡ true → AreUnderWayAt begins settings first machine (event ∷ rest))
      → refusal machine event ≡ None → IsNotRestart event → IsWithinRanges event → IsPrompt machine due event
      → KeepsJudge (below_command event begins) (clock_after c machine event) (state_after settings t machine event) (after settings first machine event) (due_after machine due event) rest judging
      (map (logged_at at) (frames_at first machine event))
  logged_on begins c t at event rest machine due judging near (inr (begun, j)) under_way fine none within prompt =
      subst (λ b. KeepsJudge b (clock_after c machine event) (state_after settings t machine event) (after settings first machine event) (due_after machine due event) rest judging
      (map (logged_at at) (frames_at first machine event))) (sym (ap (below_command event) begun ∙ below_none event))
      (judges_on c t at event rest machine due judging near j fine none within prompt)
  logged_on begins c t at event rest machine due judging near (inl l) under_way fine none within prompt = by (is_command event) refl
    where
      by : (sends : Bool) → is_command event ≡ sends
          → KeepsJudge (if is_command event then None else begins) (clock_after c machine event) (state_after settings t machine event) (after settings first machine event) (due_after machine due event) rest judging
          (map (logged_at at) (frames_at first machine event))
      by true is =
          subst (λ b. KeepsJudge (if b then None else begins) (clock_after c machine event) (state_after settings t machine event) (after settings first machine event) (due_after machine due event) rest judging
          (map (logged_at at) (frames_at first machine event))) (sym is)
          (lost_sends begins c t at event rest machine due judging l (under_way is) fine within prompt (sends_if event is))
      by false is =
          subst (λ b. KeepsJudge (if b then None else begins) (clock_after c machine event) (state_after settings t machine event) (after settings first machine event) (due_after machine due event) rest judging
          (map (logged_at at) (frames_at first machine event))) (sym is)
          (lost_quiet begins (clock_after c machine event) (state_after settings t machine event) at event rest machine due judging l fine none within prompt is)

  -- a mark
  at_mark : (begins : Option ℕ) (c : ClockState) (t : StateState) (machine : Machine) (due : ℕ) (later : List Event) (judging : Judging) → IsThere begins c t machine due later judging
      → Lost (Some 1) machine due later (judging_lost judging)
  at_mark begins c t machine due later judging (inl l) = lost_at_mark settings range first limits begin begins machine due later judging l
  at_mark begins c t machine due later judging (inr (begun, j)) =
      record {
        reached = reached_of settings range first limits begin j.from machine j.known;
        from = j.from;
        facts = j.facts;
        follows = j.follows;
        skips = ToPoll;
        checker = ap (λ (checker : Checker). checker_below_lines checker checker.skips) j.checker_is;
        place = inl refl;
        loads = le-max_left 1 (loads_left judging);
      }

  -- an event whose frames are missing
  missing_on : (begins : Option ℕ) (c : ClockState) (t : StateState) (event : Event) (rest : List Event) (machine : Machine) (due : ℕ) (judging : Judging) → is_some begins ≡ true
      → IsThere begins c t machine due (event ∷ rest) judging
      → refusal machine event ≡ None → IsNotRestart event → IsWithinRanges event → IsPrompt machine due event
      → Lost begins (after settings first machine event) (due_after machine due event) rest judging
  missing_on begins c t event rest machine due judging some (inl l) fine none within prompt =
      lost_further settings range first limits begin begins machine due event rest judging l fine none within prompt (λ begun. absurd (cc (sym (ap is_some begun) ∙ some)))
  missing_on begins c t event rest machine due judging some (inr (begun, j)) fine none within prompt = absurd (cc (sym (ap is_some begun) ∙ some))

  -- all steps
  pub judged : (steps : List LogStep) (c : ClockState) (t : StateState) (machine last : Machine) (due : ℕ) (judging : Judging) (begins : Option ℕ) (marked : Bool) → AsksNear c t machine (events_of steps)
      → IsThere begins c t machine due (events_of steps) judging
      → Leads settings first machine (events_of steps) last → HaveNoRestart (events_of steps) → AllByRecursion IsWithinRanges (events_of steps) → ArePrompt settings first machine due (events_of steps)
      → AreMarked marked steps → (marked ≡ true → is_some begins ≡ true) → FewAreUnderWay settings first machine begins steps
      → AllByRecursion AccusesNeither (outcomes_of judging (log_from settings first machine steps))
  judged [] c t machine last due judging begins marked near there leads none within prompt marks some few = tt
  judged (Logged at event ∷ steps) c t machine last due judging begins marked near there leads none within prompt marks some few =
      let next = after settings first machine event in
      let lines = map (logged_at at) (frames_at first machine event) in
      let step = logged_on begins c t at event (events_of steps) machine due judging near there few.0 leads.0 none.0 within.0 prompt.0 in
      outcomes-append AccusesNeither lines (log_from settings first next steps) judging step.fine
      (judged steps (clock_after c machine event) (state_after settings t machine event) next last (due_after machine due event) (judging_below judging lines) (below_command event begins) false
      (near_on c t machine event (events_of steps) near) step.there leads.1 none.1 within.1 prompt.1 marks (λ is. absurd (cc is)) few.1)
  judged (Missing event ∷ steps) c t machine last due judging begins marked near there leads none within prompt marks some few =
      judged steps (clock_after c machine event) (state_after settings t machine event) (after settings first machine event) last (due_after machine due event) judging begins marked
      (near_on c t machine event (events_of steps) near)
      (inl (missing_on begins c t event (events_of steps) machine due judging (some marks.0) there leads.0 none.0 within.0 prompt.0)) leads.1 none.1 within.1 prompt.1 marks.1 some few
  judged (Marked ∷ steps) c t machine last due judging begins marked near there leads none within prompt marks some few =
      judged steps c t machine last due (judging_lost judging) (Some 1) true near (inl (at_mark begins c t machine due (events_of steps) judging there)) leads none within prompt marks (λ is. refl) few
