-- Where the place is lost in the log of a prompt run: what the judge of a link knows there, and how it goes on.
use Rattle.fio_ends.proofs.Names.{◌≡◌, ◌∙◌, ◌+◌, ◌-◌, ◌≤◌, ◌⊎◌, inl, inr, ℕ, true, false, List, [], ◌∷◌, map, Option, Some, None, refl, ap, sym, subst, arith, fold, AllByRecursion, Command, IsCommand, command_octets, command_in, Life, life_of, loads_of, Settings, AreInRange, ContentFacts, content_with, content_step, Sent, kept_with, content_events, Facts, RuleLimits, observation_in, Event, Machine, SentFrame, sending_refusal, refusal, after, after_delivery_to_cpu, after_delivery_to_module, item_numbered, IsNotRestart, IsKept, kept_all, CpuFrame, frame_heard, frames_at, due_after, IsPrompt, IsWithinRanges, Done, answer_in, AccusesNeither, AreUnderWayAt, Checker, ContentChecking, Judging, LoadsAreSent, LogPlace, Nothing, Skips, ToCommand, ToPoll, checker_below_lines, checker_skipping, checking_again, checking_with, is_command, judging_below, judging_lost, judging_passed, judging_with, le-max_left, loads_left, loads_sent, logged_at, max, outcomes_of, passes_over, sent_step, with_loads, nat_tests}
use Rattle.fio_link.specs.declared.event.Event.TheVariants as events
use Rattle.fio_ends.proofs.AllRules.{done_is}
use Rattle.fio_ends.proofs.BegunAgain.{Sends}
use Rattle.fio_ends.proofs.ContentRuns.{rounds_after}
use Rattle.fio_ends.proofs.ContentSteps.{IsKnown}
use Rattle.fio_ends.proofs.Following.{Follows, GoesOn, facts_below, from_after, goes_on-both, goes_on-same}
use Rattle.fio_ends.proofs.JudgeSteps.{heard_passed, passed}
use Rattle.fio_ends.proofs.Lives.{loads_grow}
use Rattle.fio_ends.proofs.PromptRuns.{keeps-event}
use Rattle.fio_ends.proofs.Sends.{other_said, read_back, said_of}
use Rattle.fio_ends.proofs.JumpedBlocks.{HasExcuses}
use Rattle.fio_ends.proofs.TimesKept.{sends_loads, sent_has}
use Rattle.fio_ends.proofs.TimesKnown.{goes_on-command, past_life}

-- ---- events

-- a command is sent at an event, or none is
pub sends_if : (event : Event) → is_command event ≡ true → Sends event
sends_if event is = grind arith

pub no_loads_but : (event : Event) → is_command event ≡ false → loads_sent event ≡ 0
no_loads_but other is = grind arith

-- all these frames are heard
abbrev pub AreHeard : List CpuFrame → Type 0
AreHeard frames = AllByRecursion (λ (frame : CpuFrame). frame.from_cpu ≡ false) frames

pub all_heard : (first : ℕ) (machine : Machine) (event : Event) → is_command event ≡ false → AreHeard (frames_at first machine event)
all_heard first machine events.Poll is = absurd (cc is)
all_heard first machine (events.Send command) is = absurd (cc is)
all_heard first machine (events.ToCpu index) is = by (item_numbered machine.to_cpu index)
  where
    by : (found : Option SentFrame) → AreHeard (frame_heard found)
    by None = tt
    by (Some frame) = (refl, tt)
all_heard first machine other is = tt

-- the life of the module goes on
pub life_on : (settings : Settings) (first : ℕ) (machine : Machine) (event : Event) → IsNotRestart event
    → GoesOn (life_of machine.history) (life_of (after settings first machine event).history)
life_on settings first machine (events.Scan raw) none = past_life settings first machine (events.Scan raw) tt
life_on settings first machine events.LineSync none = past_life settings first machine events.LineSync tt
life_on settings first machine (events.Raise mask) none = past_life settings first machine (events.Raise mask) tt
life_on settings first machine events.Poll none = goes_on-same _ _ refl
life_on settings first machine (events.Send command) none = goes_on-same _ _ refl
life_on settings first machine (events.ToModule index) none = by (item_numbered machine.to_module index)
  where
    by : (found : Option SentFrame) → GoesOn (life_of machine.history) (life_of (after_delivery_to_module settings machine index found).history)
    by None = goes_on-same _ _ refl
    by (Some frame) = goes_on-command (life_of machine.history) (life_of machine.history) (command_in frame.octets) (goes_on-same _ _ refl)
life_on settings first machine (events.ToCpu index) none = goes_on-same _ _ (ap life_of (stays (item_numbered machine.to_cpu index)))
  where
    stays : (found : Option SentFrame) → (after_delivery_to_cpu first machine index found).history ≡ machine.history
    stays found = grind arith
life_on settings first machine events.Restart none = absurd none

-- more loads have taken effect since
pub has_later : (sent jumps later excuses : ℕ) → jumps ≤ later → HasExcuses sent jumps excuses → HasExcuses sent later excuses
has_later sent jumps later excuses more h = grind (arith, nat_tests, inl, inr)

module _ (settings : Settings) (range : AreInRange settings) (first : ℕ) (limits : RuleLimits) (begin : Machine) where
  abbrev pub began : ℕ
  began = loads_of (life_of begin.history)

  -- a machine of the log
  pub record IsReached (machine : Machine) : Type 0 where
    pub is_kept : IsKept settings first machine
    pub since : GoesOn (life_of begin.history) (life_of machine.history)
    pub rounds : begin.round ≤ machine.round

  pub known_of : (machine : Machine) → IsReached machine → IsKnown settings first begin (life_of machine.history) machine
  known_of machine r = record { is_kept = r.is_kept; begun = r.since; rounds = r.rounds; now = goes_on-same _ _ refl }

  pub reached_of : (from : Life) (machine : Machine) → IsKnown settings first begin from machine → IsReached machine
  reached_of from machine known = record {
    is_kept = known.is_kept;
    since = goes_on-both (life_of begin.history) from (life_of machine.history) known.begun known.now;
    rounds = known.rounds;
  }

  pub reached_after : (machine : Machine) (event : Event) → IsReached machine → refusal machine event ≡ None → IsNotRestart event → IsReached (after settings first machine event)
  reached_after machine event r fine none = record {
    is_kept = kept_all settings range first (event ∷ []) machine (after settings first machine event) (none, tt) (fine, refl) r.is_kept;
    since = goes_on-both _ _ _ r.since (life_on settings first machine event none);
    rounds = rounds_after settings range first begin Done (Unit {0}) tt (λ state machine event. tt) (λ state machine later. Unit {0}) (λ state from machine facts. Unit {0})
        (done_is settings range first begin false None) machine event r.rounds;
  }

  -- The loads that may take effect where the place is lost are no more than those that excuse something. Where a part of a log
  -- has not begun, it is known of it how many may be under way.
  abbrev pub MayTakeEffect : Option ℕ → Machine → List Event → ℕ → Type 0
  MayTakeEffect None machine later excuses =
      (sent : ℕ) × LoadsAreSent settings first (began + sent) machine later × HasExcuses (began + sent) (loads_of (life_of machine.history)) excuses
  MayTakeEffect (Some loads) machine later excuses = loads ≤ excuses

  -- the place is lost
  pub record IsLost (begins : Option ℕ) (machine : Machine) (due : ℕ) (later : List Event) (judging : Judging) : Type 0 where
    pub reached : IsReached machine
    pub from : Life
    pub facts : Facts
    pub follows : Follows settings first from machine due facts
    pub skips : Skips
    pub checker : judging.checker ≡ checker_skipping skips limits
    pub place : (skips ≡ ToPoll) ⊎ ((skips ≡ ToCommand) × (judging.content ≡ checking_again (loads_left judging)))
    pub loads : MayTakeEffect begins machine later (loads_left judging)

  -- ---- an event at which no load is sent that is known of

  may_on : (begins : Option ℕ) (machine : Machine) (event : Event) (rest : List Event) (excuses : ℕ) → (begins ≡ None → loads_sent event ≡ 0) → IsNotRestart event
      → MayTakeEffect begins machine (event ∷ rest) excuses → MayTakeEffect begins (after settings first machine event) rest excuses
  may_on (Some loads) machine event rest excuses quiet none may = may
  may_on None machine event rest excuses quiet none may =
      let none_sent = quiet refl in
      let same : (began + may.0) + loads_sent event ≡ began + may.0 = omega (arith, none_sent) in
      let grown = loads_grow _ _ (life_on settings first machine event none) in (
        may.0,
        subst (λ n. LoadsAreSent settings first n (after settings first machine event) rest) same may.1.1,
        has_later (began + may.0) _ _ excuses grown may.2,
      )

  pub lost_further : (begins : Option ℕ) (machine : Machine) (due : ℕ) (event : Event) (rest : List Event) (judging : Judging) → IsLost begins machine due (event ∷ rest) judging
      → refusal machine event ≡ None → IsNotRestart event → IsWithinRanges event → IsPrompt machine due event → (begins ≡ None → loads_sent event ≡ 0)
      → IsLost begins (after settings first machine event) (due_after machine due event) rest judging
  lost_further begins machine due event rest judging l fine none within prompt quiet = record {
    reached = reached_after machine event l.reached fine none;
    from = from_after machine l.from event;
    facts = facts_below l.facts (frames_at first machine event);
    follows = (keeps-event settings range first l.from machine due l.facts l.reached.is_kept l.follows event fine none within prompt).follows;
    skips = l.skips;
    checker = l.checker;
    place = l.place;
    loads = may_on begins machine event rest (loads_left judging) quiet none l.loads;
  }

  -- ---- frames that are heard

  pub is_somewhere : (skips : Skips) (A : Type 0) → (skips ≡ ToPoll) ⊎ ((skips ≡ ToCommand) × A) → skips ≡ Nothing → ⊥
  is_somewhere skips A (inl poll) nothing = absurd (cc (sym poll ∙ nothing))
  is_somewhere skips A (inr command) nothing = absurd (cc (sym command.0 ∙ nothing))

  -- none is judged, and nothing changes by them
  pub heard_lost : (judging : Judging) (skips : Skips) → judging.checker ≡ checker_skipping skips limits → (skips ≡ Nothing → ⊥) → (at : LogPlace) (frames : List CpuFrame) → AreHeard frames
      → AllByRecursion AccusesNeither (outcomes_of judging (map (logged_at at) frames)) × (judging_below judging (map (logged_at at) frames) ≡ judging)
  heard_lost judging skips checker place at [] heard = (tt, refl)
  heard_lost judging skips checker place at (frame ∷ frames) heard =
      let over : passes_over judging.checker frame.from_cpu (observation_in frame.from_cpu frame.octets) ≡ true =
      ap (λ b. passes_over judging.checker b (observation_in b frame.octets)) heard.0
      ∙ ap (λ c. passes_over c false (observation_in false frame.octets)) checker ∙ heard_passed skips limits place (answer_in frame.octets) in
      let j = passed judging at frame.from_cpu frame.octets over in
      let same : judging_with judging at frame.from_cpu frame.octets ≡ judging = j.is ∙ ap (λ b. judging_passed judging b frame.octets) heard.0 in
      let below = heard_lost judging skips checker place at frames heard.1 in (
        (j.fine, subst (λ j. AllByRecursion AccusesNeither (outcomes_of j (map (logged_at at) frames))) (sym same) below.0),
        ap (λ j. judging_below j (map (logged_at at) frames)) same ∙ below.1,
      )

  -- ---- marks

  pub lost_at_mark : (begins : Option ℕ) (machine : Machine) (due : ℕ) (later : List Event) (judging : Judging) → IsLost begins machine due later judging
      → IsLost (Some 1) machine due later (judging_lost judging)
  lost_at_mark begins machine due later judging l = record {
    reached = l.reached;
    from = l.from;
    facts = l.facts;
    follows = l.follows;
    skips = l.skips;
    checker = by l.place;
    place = again l.place;
    loads = le-max_left 1 (loads_left judging);
  }
    where
      below : (checker : Checker) (skips : Skips) → checker ≡ checker_skipping skips limits → (skips ≡ ToPoll) ⊎ (skips ≡ ToCommand)
          → checker_below_lines checker checker.skips ≡ checker_skipping skips limits
      below checker skips is (inl poll) =
          ap (λ (c : Checker). checker_below_lines c c.skips) is ∙ ap (λ s. checker_below_lines (checker_skipping s limits) s) poll ∙ sym (ap (λ s. checker_skipping s limits) poll)
      below checker skips is (inr command) =
          ap (λ (c : Checker). checker_below_lines c c.skips) is ∙ ap (λ s. checker_below_lines (checker_skipping s limits) s) command ∙ sym (ap (λ s. checker_skipping s limits) command)

      by : (l.skips ≡ ToPoll) ⊎ ((l.skips ≡ ToCommand) × (judging.content ≡ checking_again (loads_left judging))) → (judging_lost judging).checker ≡ checker_skipping l.skips limits
      by (inl poll) = below judging.checker l.skips l.checker (inl poll)
      by (inr command) = below judging.checker l.skips l.checker (inr command.0)

      again : (l.skips ≡ ToPoll) ⊎ ((l.skips ≡ ToCommand) × (judging.content ≡ checking_again (loads_left judging)))
          → (l.skips ≡ ToPoll) ⊎ ((l.skips ≡ ToCommand) × ((judging_lost judging).content ≡ checking_again (loads_left (judging_lost judging))))
      again (inl poll) = inl poll
      again (inr command) = inr (command.0, ap (with_loads (max 1 (loads_left judging))) command.1)

  -- ---- a command with which a part of a log begins

  pub may_begin_at : (begins : Option ℕ) (machine : Machine) (later : List Event) (excuses : ℕ) → IsReached machine → AreUnderWayAt begins settings first machine later
      → MayTakeEffect begins machine later excuses → MayTakeEffect None machine later excuses
  may_begin_at None machine later excuses r under_way may = may
  may_begin_at (Some loads) machine later excuses r under_way may =
      let now = loads_of (life_of machine.history) in
      let low = loads_grow (life_of begin.history) (life_of machine.history) r.since in
      let sent = (now + loads) - began in
      let same : now + loads ≡ began + sent = omega (arith, low) in (
        sent,
        subst (λ n. LoadsAreSent settings first n machine later) same under_way,
        record { enough = inr (omega (arith, may, same)) },
      )

  -- a command that is passed over counts as a load, if it is one
  load_counted : (machine : Machine) (command : Command) (content : ContentChecking) (sent jumps : ℕ) → sending_refusal command ≡ None → IsCommand command
      → HasExcuses (began + sent) jumps content.kept.facts.excuses
      → HasExcuses (began + (sent + loads_sent (events.Send command))) jumps (checking_with content true (command_octets command)).kept.facts.excuses
  load_counted machine command content sent jumps fine within has =
      let kept = content.kept in
      let events_are : (kept_with kept true (command_octets command)).facts ≡ content_with kept.facts (Sent command) =
      ap (λ read. fold content_with kept.facts (content_events kept.number read None)) (read_back command within) in
      let is : (kept_with kept true (command_octets command)).facts ≡ content_step kept.facts (Sent command) = events_are ∙ sent_step kept.facts command in
      subst (λ (f : ContentFacts). HasExcuses (began + (sent + loads_sent (events.Send command))) jumps f.excuses) (sym is)
      (subst (λ n. HasExcuses (began + (sent + n)) jumps (content_step kept.facts (Sent command)).excuses) (sym (sends_loads settings range first begin None machine (events.Send command) command (refl, fine)))
      (sent_has settings range first begin None kept.facts command sent jumps has))

  pub lost_command : (machine : Machine) (due : ℕ) (command : Command) (rest : List Event) (judging : Judging) (from : Life) (facts : Facts) → IsReached machine
      → Follows settings first from machine due facts → MayTakeEffect None machine (events.Send command ∷ rest) (loads_left judging)
      → judging.checker ≡ checker_skipping ToPoll limits → sending_refusal command ≡ None → IsCommand command → IsPrompt machine due (events.Send command)
      → IsLost None (after settings first machine (events.Send command)) (due_after machine due (events.Send command)) rest (judging_passed judging true (command_octets command))
  lost_command machine due command rest judging from facts r follows may checker fine within prompt =
      let event = events.Send command in
      let same : (began + may.0) + loads_sent event ≡ began + (may.0 + loads_sent event) = omega arith in
      record {
        reached = reached_after machine event r fine tt;
        from = from_after machine from event;
        facts = facts_below facts (frames_at first machine event);
        follows = (keeps-event settings range first from machine due facts r.is_kept follows event fine tt within prompt).follows;
        skips = ToPoll;
        checker = checker;
        place = inl refl;
        loads = (
          may.0 + loads_sent event,
          subst (λ n. LoadsAreSent settings first n (after settings first machine event) rest) same may.1.1,
          load_counted machine command judging.content may.0 _ fine within may.2,
        );
      }

  -- such a command is passed over
  pub command_passed : (command : Command) → sending_refusal command ≡ None → IsCommand command
      → passes_over (checker_skipping ToPoll limits) true (observation_in true (command_octets command)) ≡ true
  command_passed command fine within = ap (passes_over (checker_skipping ToPoll limits) true) (said_of command within ∙ other_said command fine)
