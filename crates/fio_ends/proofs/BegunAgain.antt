-- The checkers begin anew at any command of a prompt run, below loads of the counter that may take effect, and go on.
use Rattle.fio_ends.proofs.Names.{◌≡◌, ◌+◌, inr, ℕ, Bool, false, true, List, [], ◌∷◌, ◌++◌, map, Option, None, refl, ap, ap₂, sym, subst, arith, AllByRecursion, option_map, if◌then◌else◌, Life, life_of, loads_of, Settings, AreInRange, ContentKept, kept_with, no_facts, Done, Facts, RuleLimits, Event, Machine, start, refusal, after, Leads, IsNotRestart, HaveNoRestart, kept, kept_all, CpuFrame, TranscriptLine, cpu_frame_on, frames_at, frames_from, due_after, ArePrompt, IsPrompt, IsWithinRanges, SuitModule, AreTimesNear, AreUnderWay, HaveFrames, IsPromptRun, checking_with, content_found, found_first, found_in_frame, found_on, from_first_command, option_or, scans_above, nat_tests}
use Rattle.fio_link.specs.declared.event.Event.TheVariants as events
use Rattle.fio_ends.specs.LinkLogs.{AccusesNoneBelowLoads}
use Rattle.fio_ends.proofs.AllRules.{AllKeep, AllKnown, OfEach, agrees_again, again_known, all-event, all-poll, all-send, both_follow, done_is, each_follows, kept_again, none_in_frame, order_is}
use Rattle.fio_ends.proofs.ClockKept.{clock_above}
use Rattle.fio_ends.proofs.ContentFrame.{Agrees}
use Rattle.fio_ends.proofs.ContentLines.{FramesKeep, content_below, frames_keep}
use Rattle.fio_ends.proofs.ContentRuns.{begun_after, rounds_after}
use Rattle.fio_ends.proofs.ContentSteps.{IsKnown}
use Rattle.fio_ends.proofs.Following.{Follows, facts_below, follows-start, from_after, goes_on-same, may_begin}
use Rattle.fio_ends.proofs.GoodLines.{KeepRules}
use Rattle.fio_ends.proofs.LaterLogs.{from_any}
use Rattle.fio_ends.proofs.PromptRuns.{BeginsWithCommand, ReachesLater, keeps-event, reaches}
use Rattle.fio_ends.proofs.Sends.{sends-other, sends-poll}
use Rattle.fio_ends.proofs.StateKept.{state_above}
use Rattle.fio_ends.proofs.JumpedBlocks.{HasExcuses}
use Rattle.fio_ends.proofs.TimesKnown.{AsksTimes, TimeState, time_after}

-- what an event of a run keeps: its frames break no rule, and all is known below them
pub record Went (settings : Settings) (first : ℕ) (begin : Machine) (above : Option ℕ) (s : TimeState) (from : Life) (due : ℕ) (facts : Facts) (kept : ContentKept)
    (frames : List CpuFrame) (machine : Machine) : Type 0 where
  pub rules : (limits : RuleLimits) → SuitModule settings limits → KeepRules limits facts frames
  pub follows : Follows settings first from machine due (facts_below facts frames)
  pub content : AllKeep settings first begin above s from facts kept frames machine
  pub known : IsKnown settings first begin from machine

-- an event in a log is a command of the CPU's end
abbrev pub Sends : Event → Type 0
Sends events.Poll = Unit {0}
Sends (events.Send command) = Unit {0}
Sends other = ⊥

module _ (settings : Settings) (range : AreInRange settings) (first : ℕ) (begin : Machine) (begun : Bool) (above : Option ℕ) where
  -- the time is not begun anew: what is asked of it goes on
  pub asks_further : (s : TimeState) (machine : Machine) (event : Event) (rest : List Event) → AsksTimes settings first begin above s machine (event ∷ rest)
      → AsksTimes settings first begin above (time_after settings s machine event) (after settings first machine event) rest
  asks_further s machine event rest asks = (order_is settings range first begin begun above).goes_on s machine event rest asks

  -- a machine of a run stays known
  pub known_after : (from : Life) (machine : Machine) (event : Event) (due : ℕ) (facts : Facts) → IsKnown settings first begin from machine → refusal machine event ≡ None → IsNotRestart event
      → Follows settings first (from_after machine from event) (after settings first machine event) due facts
      → IsKnown settings first begin (from_after machine from event) (after settings first machine event)
  known_after from machine event due facts known fine none follows = record {
    is_kept = kept_all settings range first (event ∷ []) machine (after settings first machine event) (none, tt) (fine, refl) known.is_kept;
    begun = begun_after settings range first begin Done (Unit {0}) tt (λ state machine event. tt) (λ state machine later. Unit {0}) (λ state from machine facts. Unit {0})
        (done_is settings range first begin begun above) from machine event known.begun known.now;
    rounds = rounds_after settings range first begin Done (Unit {0}) tt (λ state machine event. tt) (λ state machine later. Unit {0}) (λ state from machine facts. Unit {0})
        (done_is settings range first begin begun above) machine event known.rounds;
    now = follows.now;
  }

  module _ (s : TimeState) (from : Life) (machine : Machine) (due : ℕ) (facts : Facts) (known : IsKnown settings first begin from machine)
      (f : Follows settings first from machine due facts) where
    -- any event
    pub went-on : (kept : ContentKept) → Agrees settings first machine facts kept → AllKnown settings begin above s from machine kept.facts
        → (event : Event) (rest : List Event) → refusal machine event ≡ None → IsNotRestart event → IsWithinRanges event → IsPrompt machine due event
        → AsksTimes settings first begin above s machine (event ∷ rest)
        → Went settings first begin above (time_after settings s machine event) (from_after machine from event) (due_after machine due event) facts kept (frames_at first machine event)
        (after settings first machine event)
    went-on kept a p event rest fine none within prompt asks =
        let here = keeps-event settings range first from machine due facts known.is_kept f event fine none within prompt in
        record {
          rules = here.rules;
          follows = here.follows;
          content = all-event settings range first begin begun above s from machine facts kept known a p due f event fine none within prompt rest asks;
          known = known_after from machine event (due_after machine due event) (facts_below facts (frames_at first machine event)) known fine none here.follows;
        }

  -- a command at which the checkers begin anew
  pub went-again : (s : TimeState) (from : Life) (machine : Machine) (due : ℕ) (facts : Facts) → IsKnown settings first begin (life_of machine.history) machine
      → Follows settings first from machine due facts → (excuses : ℕ)
      → HasExcuses (loads_of (life_of begin.history) + s.sent) (loads_of (life_of machine.history)) excuses
      → (event : Event) → Sends event → refusal machine event ≡ None → IsWithinRanges event
      → Went settings first begin above (time_after settings s machine event) (life_of machine.history) (due_after machine due event) no_facts (kept_again excuses) (frames_at first machine event)
      (after settings first machine event)
  went-again s from machine due facts known f excuses has event sends fine within = by event sends fine within
    where
      now : Life
      now = life_of machine.history

      p : AllKnown settings begin above s now machine (kept_again excuses).facts
      p = again_known settings range first begin begun above s machine excuses known.begun has

      a : Agrees settings first machine no_facts (kept_again excuses)
      a = agrees_again settings range first begin begun above machine excuses

      by : (event : Event) → Sends event → refusal machine event ≡ None → IsWithinRanges event
          → Went settings first begin above (time_after settings s machine event) now (due_after machine due event) no_facts (kept_again excuses) (frames_at first machine event)
          (after settings first machine event)
      by events.Poll sends fine within =
          let here = sends-poll settings first machine no_facts (may_begin settings first from machine due facts f) in
          record {
            rules = here.rules;
            follows = here.follows;
            content = all-poll settings range first begin begun above s now machine no_facts (kept_again excuses) known a p;
            known = known_after now machine events.Poll 0 _ known fine tt here.follows;
          }
      by (events.Send command) sends fine within =
          let here = sends-other settings first machine no_facts (may_begin settings first from machine due facts f) command fine within in
          record {
            rules = here.rules;
            follows = here.follows;
            content = all-send settings range first begin begun above s now machine no_facts (kept_again excuses) known a p command fine within;
            known = known_after now machine (events.Send command) 0 _ known fine tt here.follows;
          }
      by (events.Scan raw) sends fine within = absurd sends
      by events.LineSync sends fine within = absurd sends
      by (events.Raise mask) sends fine within = absurd sends
      by (events.ToModule index) sends fine within = absurd sends
      by (events.ToCpu index) sends fine within = absurd sends
      by events.Restart sends fine within = absurd sends

  -- ---- all events

  pub all_keep_all : (s : TimeState) (later : List Event) (from : Life) (machine last : Machine) (due : ℕ) (facts : Facts) (kept : ContentKept) → IsKnown settings first begin from machine
      → Follows settings first from machine due facts → Agrees settings first machine facts kept → AllKnown settings begin above s from machine kept.facts
      → Leads settings first machine later last → HaveNoRestart later → AllByRecursion IsWithinRanges later
      → ArePrompt settings first machine due later → AsksTimes settings first begin above s machine later
      → OfEach (λ rule. FramesKeep rule kept (frames_from settings first machine later))
  all_keep_all s [] from machine last due facts kept known f a p leads none within prompt asks =
      record { order = tt; fresh = tt; alternate = tt; apart = tt; ignored = tt; clock = tt; done = tt; accepted = tt; cleared = tt; watchdog = tt; state = tt }
  all_keep_all s (event ∷ later) from machine last due facts kept known f a p leads none within prompt asks =
      let frames = frames_at first machine event in
      let next = after settings first machine event in
      let went = went-on s from machine due facts known f kept a p event later leads.0 none.0 within.0 prompt.0 asks in
      both_follow (λ rule. FramesKeep rule kept frames) (λ rule. FramesKeep rule (content_below kept frames) (frames_from settings first next later))
      (λ rule. FramesKeep rule kept (frames ++ frames_from settings first next later))
      (λ rule. frames_keep rule kept frames (frames_from settings first next later)) went.content.keep
      (all_keep_all (time_after settings s machine event) later (from_after machine from event) next last (due_after machine due event) (facts_below facts frames) (content_below kept frames)
      went.known went.follows went.content.agrees went.content.holds leads.1 none.1 within.1 prompt.1 (asks_further s machine event later asks))

-- ---- what a checker of content finds

-- in frames that keep all rules nothing
none_judging : (lines : List TranscriptLine) (kept : ContentKept) → OfEach (λ rule. FramesKeep rule kept (map cpu_frame_on lines)) → found_first (record { begun = true; kept = kept }) lines ≡ None
none_judging [] kept keep = refl
none_judging (line ∷ lines) kept keep =
    by line.from_cpu (none_in_frame kept (cpu_frame_on line) (map cpu_frame_on lines) keep)
    (none_judging lines (kept_with kept line.from_cpu line.octets)
    (each_follows (λ rule. FramesKeep rule kept (map cpu_frame_on (line ∷ lines))) (λ rule. FramesKeep rule (kept_with kept line.from_cpu line.octets) (map cpu_frame_on lines)) (λ rule keep. keep.1) keep))
  where
    by : (sent : Bool) → content_found kept sent line.octets ≡ None → found_first (record { begun = true; kept = kept_with kept sent line.octets }) lines ≡ None
        → option_or (option_map (found_on line.number) (found_in_frame (record { begun = true; kept = kept }) sent line.octets))
        (found_first (checking_with (record { begun = true; kept = kept }) sent line.octets) lines) ≡ None
    by true none rest = ap₂ option_or (ap (option_map (found_on line.number)) none) rest
    by false none rest = ap₂ option_or (ap (option_map (found_on line.number)) none) rest

-- above the first command it passes over what is heard
none_above : (lines : List TranscriptLine) (kept : ContentKept) → found_first (record { begun = true; kept = kept }) (from_first_command lines) ≡ None
    → found_first (record { begun = false; kept = kept }) lines ≡ None
none_above [] kept none = refl
none_above (line ∷ lines) kept none = by line.from_cpu refl (none_above lines kept) none
  where
    by : (sent : Bool) → line.from_cpu ≡ sent
        → (found_first (record { begun = true; kept = kept }) (from_first_command lines) ≡ None → found_first (record { begun = false; kept = kept }) lines ≡ None)
        → found_first (record { begun = true; kept = kept }) (if sent then line ∷ lines else from_first_command lines) ≡ None
        → option_or (option_map (found_on line.number) (found_in_frame (record { begun = false; kept = kept }) sent line.octets))
        (found_first (checking_with (record { begun = false; kept = kept }) sent line.octets) lines) ≡ None
    by true is rest none = subst (λ sent. option_or (option_map (found_on line.number) (found_in_frame (record { begun = true; kept = kept }) sent line.octets))
        (found_first (checking_with (record { begun = true; kept = kept }) sent line.octets) lines) ≡ None) is none
    by false is rest none = rest none

-- ---- a log that begins anywhere

-- what is asked of the time from its first command on
pub asks_begun : (begun : Bool) (settings : Settings) (first : ℕ) (machine last : Machine) (loads : ℕ) (later : List Event) → HaveNoRestart later → Leads settings first machine later last
    → AreUnderWay loads settings first machine later → AreTimesNear begun settings first machine later last
    → AsksTimes settings first machine (scans_above begun) (record { clock = clock_above begun; state = state_above; sent = loads }) machine later
asks_begun begun settings first machine last loads later none leads under_way near = grind (arith, nat_tests)

module _ (settings : Settings) (range : AreInRange settings) (first : ℕ) (loads : ℕ) where
  begun_again : (later before : List Event) (machine last : Machine) → IsPromptRun settings first (before ++ later) last → Leads settings first start before machine → BeginsWithCommand later
      → AreUnderWay loads settings first machine later × AreTimesNear false settings first machine later last
      → (lines : List TranscriptLine) → HaveFrames lines (frames_from settings first machine later)
      → found_first (record { begun = true; kept = kept_again loads }) lines ≡ None
  begun_again later before machine last run leads begins holds lines has =
      let r = reaches settings range first before later [] start machine last 0 no_facts (kept settings range first [] start refl tt) (follows-start settings first)
      leads run.is_run run.no_restart run.within run.prompt in
      none_judging lines (kept_again loads) (subst (λ frames. OfEach (λ rule. FramesKeep rule (kept_again loads) frames)) (sym has) (by later begins r holds))
    where
      s : TimeState
      s = record { clock = clock_above false; state = state_above; sent = loads }

      below : (event : Event) (rest : List Event) → Sends event → ReachesLater settings range first machine last (event ∷ rest)
          → AreUnderWay loads settings first machine (event ∷ rest) × AreTimesNear false settings first machine (event ∷ rest) last
          → OfEach (λ rule. FramesKeep rule (kept_again loads) (frames_from settings first machine (event ∷ rest)))
      below event rest sends r holds =
          let frames = frames_at first machine event in
          let next = after settings first machine event in
          let known : IsKnown settings first machine (life_of machine.history) machine = record {
            is_kept = r.is_kept;
            begun = goes_on-same _ _ refl;
            rounds = omega arith;
            now = goes_on-same _ _ refl;
          } in
          let asks = asks_begun false settings first machine last loads (event ∷ rest) r.no_restart r.leads holds.0 holds.1 in
          let went = went-again settings range first machine false None s r.from machine r.due r.facts known r.follows loads
          (record { enough = inr (omega arith) }) event sends r.leads.0 r.within.0 in
          both_follow (λ rule. FramesKeep rule (kept_again loads) frames) (λ rule. FramesKeep rule (content_below (kept_again loads) frames) (frames_from settings first next rest))
          (λ rule. FramesKeep rule (kept_again loads) (frames ++ frames_from settings first next rest))
          (λ rule. frames_keep rule (kept_again loads) frames (frames_from settings first next rest)) went.content.keep
          (all_keep_all settings range first machine false None (time_after settings s machine event) rest _ next last _ _ (content_below (kept_again loads) frames)
          went.known went.follows went.content.agrees went.content.holds r.leads.1 r.no_restart.1 r.within.1 r.prompt.1
          (asks_further settings range first machine false None s machine event rest asks))

      by : (later : List Event) → BeginsWithCommand later → ReachesLater settings range first machine last later
          → AreUnderWay loads settings first machine later × AreTimesNear false settings first machine later last
          → OfEach (λ rule. FramesKeep rule (kept_again loads) (frames_from settings first machine later))
      by [] begins r holds = absurd begins
      by (events.Poll ∷ rest) begins r holds = below events.Poll rest tt r holds
      by (events.Send command ∷ rest) begins r holds = below (events.Send command) rest tt r holds
      by (other ∷ rest) begins r holds = absurd begins

pub accuses_none_below_loads : AccusesNoneBelowLoads
unfolding AccusesNoneBelowLoads
accuses_none_below_loads loads settings first before later machine last lines log =
    let range = log.in_range in
    none_above lines (kept_again loads)
    (from_any settings first last (λ lines. found_first (record { begun = true; kept = kept_again loads }) lines ≡ None)
    (λ machine later. AreUnderWay loads settings first machine later × AreTimesNear false settings first machine later last)
    (λ before later machine run leads begins holds lines has. begun_again settings range first loads later before machine last run leads begins holds lines has)
    refl later before machine log.run log.leads (log.under_way, log.near) lines log.has)
