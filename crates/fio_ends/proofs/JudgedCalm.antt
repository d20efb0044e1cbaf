-- Where no frame is missing, and no load takes effect, each frame of a right link keeps all rules for the judge, from the first
-- command on.
use Rattle.fio_ends.proofs.Names.{Skips, checking_above, number_due, ◌≡◌, ◌∙◌, ◌+◌, ◌<◌, ◌≤◌, inr, ℕ, Bool, true, false, List, [], ◌∷◌, ◌++◌, map, Option, Some, None, refl, ap, sym, subst, arith, AllByRecursion, if◌then◌else◌, option_and_then, Life, life_of, loads_of, Settings, AreInRange, answer_in, ContentFacts, ContentKept, kept_with, facts_with, no_facts, Facts, RuleLimits, observation_in, answer_type_to, names_absent, Done, Event, Machine, SentFrame, start, number_of, number_of-fits, refusal, after, Leads, item_numbered, HaveNoRestart, kept, CpuFrame, frame_heard, frames_at, due_after, ArePrompt, IsWithinRanges, SuitModule, command_octets, AreLogged, AreTimesNear, Checker, FrameOutcome, IsPromptRun, IsRight, JudgesOn, Judging, Kept, LoadsAreSent, LogLine, LogPlace, LogStep, Logged, Marked, Missing, NotJudged, Nothing, ToCommand, checker_skipping, events_from_command, events_of, is_command, judging_anywhere, judging_below, judging_kept, judging_passed, judging_with, judging_with_line, loads_sent, log_from, logged_at, machine_at_command, outcome_in, outcomes_of, passes_over, taking, unjudged_by, AboveCommand, IsCalm, nat_tests}
use Rattle.fio_message.specs.declared.commands.Command.TheVariants as commands
use Rattle.fio_link.specs.declared.event.Event.TheVariants as events
use Rattle.fio_ends.specs.LinkLogs.{JudgeKeepsAll}
use Rattle.fio_ends.proofs.AllRules.{AllKnown, agrees_again, kept_again, none_in_frame}
use Rattle.fio_ends.proofs.BegunAgain.{Sends, Went, asks_begun, asks_further, went-again, went-on}
use Rattle.fio_ends.proofs.ClockKept.{clock_above}
use Rattle.fio_ends.proofs.ContentFrame.{Agrees}
use Rattle.fio_ends.proofs.ContentLines.{content_below}
use Rattle.fio_ends.proofs.ContentRuns.{content-event, content-poll, content-send}
use Rattle.fio_ends.proofs.ContentSteps.{IsKnown}
use Rattle.fio_ends.proofs.Following.{facts_below, Follows, follows-start, from_after, goes_on-same}
use Rattle.fio_ends.proofs.JudgeLost.{AreHeard, all_heard, sends_if}
use Rattle.fio_ends.proofs.JudgeStamps.{IsCalmOn, KeepsStamps, StampState, calm_on, lives_on, stamps_above, stamps_after, stamps_are_invariant, stamps_begin, stamps_heard}
use Rattle.fio_ends.proofs.JudgeSteps.{KeepsFrame, command_taken, frame_again, frame_kept, heard_passed, outcomes-append, passed, passed_is}
use Rattle.fio_ends.proofs.LaterLogs.{moved}
use Rattle.fio_ends.proofs.JumpedBlocks.{HasExcuses}
use Rattle.fio_ends.proofs.Lives.{loads_grow}
use Rattle.fio_ends.proofs.PromptRuns.{reaches}
use Rattle.fio_ends.proofs.Sends.{other_said, said_of}
use Rattle.fio_ends.proofs.StateKept.{state_above}
use Rattle.fio_ends.proofs.TimesKnown.{AsksTimes, TimeState, time_after}
use Rattle.fio_ends.proofs.CalmStamps.{HasStamps, heard_on, heard_stamps, polled_stamps, sent_stamps}

-- ---- a run

-- What is kept beside the lines of a log: of times and of stamps, the life at the latest frame, the facts of both checkers, the
-- machine, and the number that is due.
pub record Beside : Type 0 where
  pub times : TimeState
  pub stamps : StampState
  pub from : Life
  pub facts : Facts
  pub kept : ContentKept
  pub machine : Machine
  pub due : ℕ

abbrev pub below_frames : Beside → List CpuFrame → Beside
below_frames g frames = record g { facts = facts_below g.facts frames; kept = content_below g.kept frames }

right_of : (outcome : FrameOutcome) → outcome ≡ Kept → IsRight outcome
right_of outcome is = subst IsRight (sym is) tt

-- the judge below lines, and others below them
pub below_both : (judging : Judging) (lines more : List LogLine) → judging_below judging (lines ++ more) ≡ judging_below (judging_below judging lines) more
below_both judging [] more = refl
below_both judging (line ∷ lines) more = below_both (judging_with_line judging line) lines more

-- if a judge judges each frame at the end of a log, the next poll has the number that is due
abbrev pub EndsAt : ℕ → RuleLimits → Machine → Judging → Type 0
EndsAt first limits last judging = judging.checker.skips ≡ Nothing → JudgesOn limits (number_of first last.round) judging

pub ends_judging : (first : ℕ) (limits : RuleLimits) (last : Machine) (facts : Facts) (kept : ContentKept) (judging : Judging) → judging.checker ≡ taking limits facts
    → judging.content ≡ record { begun = true; kept = kept } → ((due : ℕ) → number_due facts ≡ Some due → due ≡ number_of first last.round) → EndsAt first limits last judging
ends_judging first limits last facts kept judging checker content due all = grind (arith, nat_tests, number_due)

-- lines of which each frame keeps all rules, to the end of a log
abbrev pub RightTo : ℕ → RuleLimits → Machine → Judging → List LogLine → Type 0
RightTo first limits last judging lines = AllByRecursion IsRight (outcomes_of judging lines) × EndsAt first limits last (judging_below judging lines)

right_both : (first : ℕ) (limits : RuleLimits) (last : Machine) (judging : Judging) (front rest : List LogLine) → AllByRecursion IsRight (outcomes_of judging front)
    → RightTo first limits last (judging_below judging front) rest → RightTo first limits last judging (front ++ rest)
right_both first limits last judging front rest above below =
    (outcomes-append IsRight front rest judging above below.0, subst (EndsAt first limits last) (sym (below_both judging front rest)) below.1)

-- no load takes effect
pub none_loaded : (settings : Settings) (range : AreInRange settings) (first : ℕ) (later : List Event) (machine last : Machine) (most : ℕ) → Leads settings first machine later last → HaveNoRestart later
    → loads_of (life_of last.history) ≤ most → LoadsAreSent settings first most machine later
none_loaded settings range first [] machine last most leads none few = tt
none_loaded settings range first (event ∷ later) machine last most leads none few =
    let grown = loads_grow (life_of machine.history) (life_of last.history) (lives_on settings range first machine (event ∷ later) machine last leads none) in (
      omega (arith, grown, few),
      none_loaded settings range first later (after settings first machine event) last (most + loads_sent event) leads.1 none.1 (omega (arith, few)),
    )

module _ (settings : Settings) (range : AreInRange settings) (first : ℕ) (limits : RuleLimits) (suit : SuitModule settings limits) (begin : Machine) where
  -- an event later
  abbrev pub later : Beside → Event → Beside
  later g event = record g {
    times = time_after settings g.times g.machine event;
    stamps = stamps_after first g.stamps g.machine event;
    from = from_after g.machine g.from event;
    machine = after settings first g.machine event;
    due = due_after g.machine g.due event;
  }

  abbrev pub step : Beside → Event → Beside
  step g event = below_frames (later g event) (frames_at first g.machine event)

  abbrev pub Stamped : StampState → Life → Machine → ContentFacts → Type 0
  Stamped = KeepsStamps settings range first begin

  -- what is known of a log
  pub record Knows (g : Beside) : Type 0 where
    pub known : IsKnown settings first begin g.from g.machine
    pub follows : Follows settings first g.from g.machine g.due g.facts
    pub agrees : Agrees settings first g.machine g.facts g.kept
    pub content : AllKnown settings begin None g.times g.from g.machine g.kept.facts
    pub stamps : Stamped g.stamps g.from g.machine g.kept.facts

  -- what is asked of the rest of it
  pub record Rest (times : TimeState) (machine : Machine) (due : ℕ) (last : Machine) (rest : List Event) : Type 0 where
    pub asks : AsksTimes settings first begin None times machine rest
    pub calm : IsCalmOn settings range first begin machine rest
    pub leads : Leads settings first machine rest last
    pub none : HaveNoRestart rest
    pub within : AllByRecursion IsWithinRanges rest
    pub prompt : ArePrompt settings first machine due rest
    pub steady : loads_of (life_of last.history) ≡ loads_of (life_of begin.history)

  pub rest_on : (times : TimeState) (machine : Machine) (due : ℕ) (last : Machine) (event : Event) (rest : List Event) → Rest times machine due last (event ∷ rest)
      → Rest (time_after settings times machine event) (after settings first machine event) (due_after machine due event) last rest
  rest_on times machine due last event rest r = record {
    asks = asks_further settings range first begin false None times machine event rest r.asks;
    calm = calm_on settings range first begin machine event rest r.calm;
    leads = r.leads.1;
    none = r.none.1;
    within = r.within.1;
    prompt = r.prompt.1;
    steady = r.steady;
  }

  -- an event of it
  pub record Goes (n : Beside) (frames : List CpuFrame) : Type 0 where
    pub went : Went settings first begin None n.times n.from n.due n.facts n.kept frames n.machine
    pub knows : Knows (below_frames n frames)

  with_stamps : (n : Beside) (frames : List CpuFrame) → Went settings first begin None n.times n.from n.due n.facts n.kept frames n.machine
      → Stamped n.stamps n.from n.machine (content_below n.kept frames).facts → Goes n frames
  with_stamps n frames w stamps =
      record { went = w; knows = record { known = w.known; follows = w.follows; agrees = w.content.agrees; content = w.content.holds; stamps = stamps } }

  pub goes : (g : Beside) (last : Machine) (event : Event) (rest : List Event) → Knows g → Rest g.times g.machine g.due last (event ∷ rest) → Goes (later g event) (frames_at first g.machine event)
  goes g last event rest k r = with_stamps (later g event) (frames_at first g.machine event)
      (went-on settings range first begin false None g.times g.from g.machine g.due g.facts k.known k.follows g.kept k.agrees k.content event rest r.leads.0 r.none.0 r.within.0 r.prompt.0 r.asks)
      (content-event settings range first begin Done StampState (stamps_above settings range first begin) (stamps_after first) (λ s machine rest. IsCalmOn settings range first begin machine rest) Stamped
      (stamps_are_invariant settings range first begin) g.stamps g.from g.machine g.due g.facts g.kept k.known k.follows k.agrees k.stamps event r.leads.0 r.none.0 r.within.0 r.prompt.0 rest r.calm).holds

  -- each frame is judged, and no stamp was set back
  pub record IsCalmly (g : Beside) (judging : Judging) : Type 0 where
    pub knows : Knows g
    pub checker_is : judging.checker ≡ taking limits g.facts
    pub content_is : judging.content ≡ record { begun = true; kept = g.kept }
    pub has : HasStamps judging g.facts.polled g.stamps

  -- what an event keeps
  pub record KeepsCalm (g : Beside) (judging : Judging) (lines : List LogLine) : Type 0 where
    pub right : AllByRecursion IsRight (outcomes_of judging lines)
    pub there : IsCalmly g (judging_below judging lines)

  -- below one frame
  one_frame : (at : LogPlace) (n : Beside) (judging : Judging) (frame : CpuFrame)
      → KeepsFrame limits judging at frame (facts_with n.facts (observation_in frame.from_cpu frame.octets)) (kept_with n.kept frame.from_cpu frame.octets) → Goes n (frame ∷ [])
      → HasStamps (judging_kept judging frame.from_cpu frame.octets) (facts_with n.facts (observation_in frame.from_cpu frame.octets)).polled n.stamps
      → KeepsCalm (below_frames n (frame ∷ [])) judging (logged_at at frame ∷ [])
  one_frame at n judging frame k w has = record {
    right = (right_of (outcome_in judging at frame.from_cpu frame.octets) k.outcome, tt);
    there = record {
      knows = w.knows;
      checker_is = k.checker;
      content_is = k.content;
      has = subst (λ j. HasStamps j (facts_with n.facts (observation_in frame.from_cpu frame.octets)).polled n.stamps) (sym k.is) has;
    };
  }

  module _ (at : LogPlace) (judging : Judging) (n : Beside) (s : StampState) (checker_is : judging.checker ≡ taking limits n.facts)
      (content_is : judging.content ≡ record { begun = true; kept = n.kept }) (h : HasStamps judging n.facts.polled s) where
    -- an event without a frame
    calm_none : Goes (record n { stamps = s }) [] → KeepsCalm (record n { stamps = s }) judging []
    calm_none w = record { right = tt; there = record { knows = w.knows; checker_is = checker_is; content_is = content_is; has = h } }

    abbrev heard_by : Option SentFrame → Beside
    heard_by found = record n { stamps = stamps_heard s (option_and_then (λ (frame : SentFrame). answer_in frame.octets) found) }

    -- one with an answer
    calm_heard : (found : Option SentFrame) → Goes (heard_by found) (frame_heard found) → KeepsCalm (below_frames (heard_by found) (frame_heard found)) judging (map (logged_at at) (frame_heard found))
    calm_heard None w = calm_none w
    calm_heard (Some sent_frame) w =
        let frame : CpuFrame = record { from_cpu = false; octets = sent_frame.octets } in
        one_frame at (heard_by (Some sent_frame)) judging frame
        (frame_kept limits judging at frame n.facts n.kept checker_is content_is (heard_on judging s n.facts.polled h (answer_in sent_frame.octets) w.knows.stamps.none)
        (w.went.rules limits suit).0 (none_in_frame n.kept frame [] w.went.content.keep)) w (heard_stamps judging s n.facts sent_frame.octets h)

    -- one with a command
    calm_sent : (octets : List ℕ) → Goes n (record { from_cpu = true; octets = octets } ∷ [])
        → HasStamps (judging_kept judging true octets) (facts_with n.facts (observation_in true octets)).polled n.stamps
        → KeepsCalm (below_frames n (record { from_cpu = true; octets = octets } ∷ [])) judging (logged_at at (record { from_cpu = true; octets = octets }) ∷ [])
    calm_sent octets w has =
        let frame : CpuFrame = record { from_cpu = true; octets = octets } in
        one_frame at n judging frame (frame_kept limits judging at frame n.facts n.kept checker_is content_is refl (w.went.rules limits suit).0 (none_in_frame n.kept frame [] w.went.content.keep)) w has

  -- an event
  calm_step : (at : LogPlace) (g : Beside) (judging : Judging) → (j : IsCalmly g judging) → (event : Event) → refusal g.machine event ≡ None → IsWithinRanges event
      → Goes (later g event) (frames_at first g.machine event) → KeepsCalm (step g event) judging (map (logged_at at) (frames_at first g.machine event))
  calm_step at g judging j events.Poll fine within w =
      let number = number_of first g.machine.round in
      let fits : number < 256 = omega (arith, number_of-fits first g.machine.round) in
      calm_sent at judging (later g events.Poll) g.stamps j.checker_is j.content_is j.has (command_octets (commands.Poll number)) w
      (polled_stamps judging g.stamps g.facts (command_octets (commands.Poll number)) number (ap (λ (c : Checker). c.facts) j.checker_is) (said_of (commands.Poll number) fits) j.has)
  calm_step at g judging j (events.Send command) fine within w =
      calm_sent at judging (later g (events.Send command)) g.stamps j.checker_is j.content_is j.has (command_octets command) w
      (sent_stamps judging g.stamps g.facts (command_octets command) (answer_type_to command) (names_absent command) (said_of command within ∙ other_said command fine) j.has)
  calm_step at g judging j (events.ToCpu index) fine within w = calm_heard at judging (later g (events.ToCpu index)) g.stamps j.checker_is j.content_is j.has (item_numbered g.machine.to_cpu index) w
  calm_step at g judging j (events.ToModule index) fine within w = calm_none at judging (later g (events.ToModule index)) g.stamps j.checker_is j.content_is j.has w
  calm_step at g judging j (events.Scan raw) fine within w = calm_none at judging (later g (events.Scan raw)) g.stamps j.checker_is j.content_is j.has w
  calm_step at g judging j events.LineSync fine within w = calm_none at judging (later g events.LineSync) g.stamps j.checker_is j.content_is j.has w
  calm_step at g judging j (events.Raise mask) fine within w = calm_none at judging (later g (events.Raise mask)) g.stamps j.checker_is j.content_is j.has w
  calm_step at g judging j events.Restart fine within w = calm_none at judging (later g events.Restart) g.stamps j.checker_is j.content_is j.has w

  -- all events
  calm_all : (steps : List LogStep) (g : Beside) (last : Machine) (judging : Judging) → IsCalmly g judging → Rest g.times g.machine g.due last (events_of steps) → AreLogged steps
      → RightTo first limits last judging (log_from settings first g.machine steps)
  calm_all [] g last judging j r logged =
      (tt, ends_judging first limits last g.facts g.kept judging j.checker_is j.content_is (λ n is. j.knows.follows.number n is ∙ ap (λ (m : Machine). number_of first m.round) (sym r.leads)))
  calm_all (Logged at event ∷ steps) g last judging j r logged =
      let lines = map (logged_at at) (frames_at first g.machine event) in
      let k = calm_step at g judging j event r.leads.0 r.within.0 (goes g last event (events_of steps) j.knows r) in
      right_both first limits last judging lines (log_from settings first (after settings first g.machine event) steps) k.right
      (calm_all steps (step g event) last (judging_below judging lines) k.there (rest_on g.times g.machine g.due last event (events_of steps) r) logged)
  calm_all (Missing event ∷ steps) g last judging j r logged = absurd logged
  calm_all (Marked ∷ steps) g last judging j r logged = absurd logged

  -- a log from a command on at which both checkers begin anew
  module _ (g : Beside) (last : Machine) (steps : List LogStep) (at : LogPlace) (judging : Judging) (skips : Skips) (excuses : ℕ) (known : IsKnown settings first begin (life_of g.machine.history) g.machine)
      (f : Follows settings first g.from g.machine g.due g.facts) (has : HasExcuses (loads_of (life_of begin.history) + g.times.sent) (loads_of (life_of g.machine.history)) excuses)
      (stamped : Stamped g.stamps (life_of g.machine.history) g.machine (kept_again excuses).facts) (same : HasStamps judging None g.stamps) (checker_is : judging.checker ≡ checker_skipping skips limits)
      (above : checking_above judging skips ≡ record { begun = false; kept = kept_again excuses }) (logged : AreLogged steps) where
    abbrev anew : Beside
    anew = record g { facts = no_facts; kept = kept_again excuses }

    frame_anew : (event : Event) (octets : List ℕ) → passes_over (checker_skipping skips limits) true (observation_in true octets) ≡ false → Rest g.times g.machine g.due last (event ∷ events_of steps)
        → Goes (later anew event) (record { from_cpu = true; octets = octets } ∷ [])
        → HasStamps (judging_kept judging true octets) (facts_with no_facts (observation_in true octets)).polled (stamps_after first g.stamps g.machine event)
        → (frames_at first g.machine event ≡ record { from_cpu = true; octets = octets } ∷ []) → RightTo first limits last judging (log_from settings first g.machine (Logged at event ∷ steps))
    frame_anew event octets over r w stamps_are is =
        let frame : CpuFrame = record { from_cpu = true; octets = octets } in
        let rest = log_from settings first (after settings first g.machine event) steps in
        let k = one_frame at (later anew event) judging frame
        (frame_again limits judging at octets skips (kept_again excuses) checker_is above over (w.went.rules limits suit).0 (none_in_frame (kept_again excuses) frame [] w.went.content.keep)) w stamps_are in
        subst (λ frames. RightTo first limits last judging (map (logged_at at) frames ++ rest)) (sym is)
        (right_both first limits last judging (logged_at at frame ∷ []) rest k.right
        (calm_all steps (below_frames (later anew event) (frame ∷ [])) last (judging_below judging (logged_at at frame ∷ [])) k.there (rest_on g.times g.machine g.due last event (events_of steps) r) logged))

    pub begins_anew : (event : Event) → Sends event → AllByRecursion (λ (frame : CpuFrame). passes_over (checker_skipping skips limits) true (observation_in true frame.octets) ≡ false) (frames_at first g.machine event)
        → Rest g.times g.machine g.due last (event ∷ events_of steps) → RightTo first limits last judging (log_from settings first g.machine (Logged at event ∷ steps))
    begins_anew events.Poll sends over r =
        let number = number_of first g.machine.round in
        let fits : number < 256 = omega (arith, number_of-fits first g.machine.round) in
        let octets = command_octets (commands.Poll number) in
        frame_anew events.Poll octets over.0 r
        (with_stamps (later anew events.Poll) (record { from_cpu = true; octets = octets } ∷ [])
        (went-again settings range first begin false None g.times g.from g.machine g.due g.facts known f excuses has events.Poll tt r.leads.0 r.within.0)
        (content-poll settings range first begin Done StampState (stamps_above settings range first begin) (stamps_after first) (λ s machine rest. IsCalmOn settings range first begin machine rest) Stamped
        (stamps_are_invariant settings range first begin) g.stamps (life_of g.machine.history) g.machine no_facts (kept_again excuses) known (agrees_again settings range first begin false None g.machine excuses) stamped).holds)
        (polled_stamps judging g.stamps no_facts octets number (ap (λ (c : Checker). c.facts) checker_is) (said_of (commands.Poll number) fits) same) refl
    begins_anew (events.Send command) sends over r =
        let octets = command_octets command in
        let event = events.Send command in
        frame_anew (events.Send command) octets over.0 r
        (with_stamps (later anew (events.Send command)) (record { from_cpu = true; octets = octets } ∷ [])
        (went-again settings range first begin false None g.times g.from g.machine g.due g.facts known f excuses has (events.Send command) tt r.leads.0 r.within.0)
        (content-send settings range first begin Done StampState (stamps_above settings range first begin) (stamps_after first) (λ s machine rest. IsCalmOn settings range first begin machine rest) Stamped
        (stamps_are_invariant settings range first begin) g.stamps (life_of g.machine.history) g.machine no_facts (kept_again excuses) known (agrees_again settings range first begin false None g.machine excuses) stamped command r.leads.0 r.within.0).holds)
        (sent_stamps judging g.stamps no_facts octets (answer_type_to command) (names_absent command) (said_of command r.within.0 ∙ other_said command r.leads.0) same) refl
    begins_anew (events.Scan raw) sends over r = absurd sends
    begins_anew events.LineSync sends over r = absurd sends
    begins_anew (events.Raise mask) sends over r = absurd sends
    begins_anew (events.ToModule index) sends over r = absurd sends
    begins_anew (events.ToCpu index) sends over r = absurd sends
    begins_anew events.Restart sends over r = absurd sends

-- ---- from its first line on

-- what is heard above the first command
heard_above : (limits : RuleLimits) (judging : Judging) → judging.checker ≡ checker_skipping ToCommand limits → (at : LogPlace) (frames : List CpuFrame) → AreHeard frames
    → AllByRecursion IsRight (outcomes_of judging (map (logged_at at) frames)) × (judging_below judging (map (logged_at at) frames) ≡ judging)
heard_above limits judging checker at [] heard = (tt, refl)
heard_above limits judging checker at (frame ∷ frames) heard =
    let over : passes_over judging.checker frame.from_cpu (observation_in frame.from_cpu frame.octets) ≡ true =
    ap (λ b. passes_over judging.checker b (observation_in b frame.octets)) heard.0
    ∙ ap (λ c. passes_over c false (observation_in false frame.octets)) checker ∙ heard_passed ToCommand limits (λ nothing. absurd (cc nothing)) (answer_in frame.octets) in
    let outcome : outcome_in judging at frame.from_cpu frame.octets ≡ NotJudged AboveCommand =
    passed_is judging at frame.from_cpu frame.octets over ∙ ap (λ (c : Checker). NotJudged (unjudged_by c.skips)) checker in
    let j = passed judging at frame.from_cpu frame.octets over in
    let same : judging_with judging at frame.from_cpu frame.octets ≡ judging = j.is ∙ ap (λ b. judging_passed judging b frame.octets) heard.0 in
    let below = heard_above limits judging checker at frames heard.1 in (
      (
        subst IsRight (sym outcome) tt,
        subst (λ j. AllByRecursion IsRight (outcomes_of j (map (logged_at at) frames))) (sym same) below.0,
      ),
      ap (λ j. judging_below j (map (logged_at at) frames)) same ∙ below.1,
    )

all_taken : (first : ℕ) (limits : RuleLimits) (machine : Machine) (event : Event) → Sends event
    → AllByRecursion (λ (frame : CpuFrame). passes_over (checker_skipping ToCommand limits) true (observation_in true frame.octets) ≡ false) (frames_at first machine event)
all_taken first limits machine events.Poll sends = (command_taken limits (observation_in true (command_octets (commands.Poll (number_of first machine.round)))), tt)
all_taken first limits machine (events.Send command) sends = (command_taken limits (observation_in true (command_octets command)), tt)
all_taken first limits machine other sends = absurd sends

module _ (settings : Settings) (range : AreInRange settings) (first : ℕ) (limits : RuleLimits) (suit : SuitModule settings limits) (last : Machine) where
  abbrev AtStart : Judging
  AtStart = judging_anywhere limits

  abbrev AllRight : Machine → List LogStep → Type 0
  AllRight machine steps = RightTo first limits last AtStart (log_from settings first machine steps)

  abbrev Asked : Machine → List Event → Type 0
  Asked machine events = IsCalm machine last × AreTimesNear false settings first machine events last

  -- its first command
  calm_begins : (at : LogPlace) (event : Event) (steps : List LogStep) (before : List Event) (machine : Machine) → Sends event → IsPromptRun settings first (before ++ event ∷ events_of steps) last
      → Leads settings first start before machine → Asked machine (event ∷ events_of steps) → AreLogged steps → AllRight machine (Logged at event ∷ steps)
  calm_begins at event steps before machine sends run leads asked logged =
      let r = reaches settings range first before (event ∷ events_of steps) [] start machine last 0 no_facts (kept settings range first [] start refl tt) (follows-start settings first)
      leads run.is_run run.no_restart run.within run.prompt in
      let now = life_of machine.history in
      let same = asked.0.no_loads in
      begins_anew settings range first limits suit machine
      (record { times = record { clock = clock_above false; state = state_above; sent = 0 }; stamps = stamps_above settings range first machine; from = r.from; facts = r.facts; kept = kept_again 0; machine = machine; due = r.due })
      last steps at AtStart ToCommand 0 (record { is_kept = r.is_kept; begun = goes_on-same now now refl; rounds = omega arith; now = goes_on-same now now refl }) r.follows (record { enough = inr (omega arith) })
      (stamps_begin settings range first machine now machine (kept_again 0).facts) (record { latest = refl; asked = refl; polled = refl }) refl refl logged event sends (all_taken first limits machine event sends)
      (record {
        asks = asks_begun false settings first machine last 0 (event ∷ events_of steps) r.no_restart r.leads
            (none_loaded settings range first (event ∷ events_of steps) machine last (loads_of now + 0) r.leads r.no_restart (omega (arith, same))) asked.1;
        calm = record { last = last; leads = r.leads; none = r.no_restart; steady = asked.0.no_loads; short = asked.0.short };
        leads = r.leads;
        none = r.no_restart;
        within = r.within;
        prompt = r.prompt;
        steady = same;
      })

  -- what is above it
  pub calm_above : (steps : List LogStep) (before : List Event) (machine : Machine) → IsPromptRun settings first (before ++ events_of steps) last → Leads settings first start before machine → AreLogged steps
      → Asked (machine_at_command settings first machine (events_of steps)) (events_from_command (events_of steps)) → AllRight machine steps
  calm_above [] before machine run leads logged asked = (tt, λ all. absurd (let is : ToCommand ≡ Nothing = all in cc is))
  calm_above (Missing event ∷ steps) before machine run leads logged asked = absurd logged
  calm_above (Marked ∷ steps) before machine run leads logged asked = absurd logged
  calm_above (Logged at event ∷ steps) before machine run leads logged asked =
      by (is_command event) refl
      (λ asked. (let m = moved settings first last before (events_of steps) event machine run leads in
      calm_above steps (before ++ event ∷ []) (after settings first machine event) m.run m.leads logged asked))
    where
      asked_if : (sends : Bool) → is_command event ≡ sends
          → Asked (if sends then machine else machine_at_command settings first (after settings first machine event) (events_of steps))
          (if sends then event ∷ events_of steps else events_from_command (events_of steps))
      asked_if sends is = subst (λ b. Asked (if b then machine else machine_at_command settings first (after settings first machine event) (events_of steps))
          (if b then event ∷ events_of steps else events_from_command (events_of steps))) is asked

      by : (sends : Bool) → is_command event ≡ sends
          → (Asked (machine_at_command settings first (after settings first machine event) (events_of steps)) (events_from_command (events_of steps)) → AllRight (after settings first machine event) steps)
          → AllRight machine (Logged at event ∷ steps)
      by true is further = calm_begins at event steps before machine (sends_if event is) run leads (asked_if true is) logged
      by false is further =
          let heard = heard_above limits AtStart refl at (frames_at first machine event) (all_heard first machine event is) in
          right_both first limits last AtStart (map (logged_at at) (frames_at first machine event)) (log_from settings first (after settings first machine event) steps) heard.0
          (subst (λ j. RightTo first limits last j (log_from settings first (after settings first machine event) steps)) (sym heard.1) (further (asked_if false is)))

pub judge_keeps_all : JudgeKeepsAll
unfolding JudgeKeepsAll
judge_keeps_all settings limits first before steps machine last range suit run leads logged calm near =
    (calm_above settings range first limits suit last steps before machine run leads logged (calm, near)).0
