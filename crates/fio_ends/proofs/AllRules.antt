-- All rules on content at once, along a prompt run.
use Rattle.fio_ends.proofs.Names.{◌≡◌, ◌+◌, ℕ, Bool, true, false, List, [], ◌∷◌, Option, None, refl, ap, ap₂, option_map, IsCommand, Life, life_of, loads_of, Settings, AreInRange, ContentFacts, ContentKept, content_with, no_content, ContentEvent, no_facts, ContentRule, Accepted, Alternate, Apart, Cleared, Clock, Done, Fresh, Ignored, Order, State, Watchdog, Facts, Event, Machine, number_of, sending_refusal, refusal, after, after_sending, IsNotRestart, CpuFrame, frames_at, IsPrompt, IsWithinRanges, command_octets, Command, breach_among, content_found, option_or, arith, nat_tests}
use Rattle.fio_message.specs.declared.commands.Command.TheVariants as commands
use Rattle.fio_link.specs.declared.event.Event.TheVariants as events
use Rattle.fio_ends.proofs.AlternateKept.{FollowHolds, alternate_is_invariant}
use Rattle.fio_ends.proofs.AlwaysKept.{always-begins}
use Rattle.fio_ends.proofs.AnswersKept.{KeepsWatchdog, accepted_heard, cleared_heard, done_heard, stateless, watchdog_is_invariant}
use Rattle.fio_ends.proofs.Asked.{asked-now}
use Rattle.fio_ends.proofs.BlockPlaces.{ends_within}
use Rattle.fio_ends.proofs.ContentFrame.{Agrees, KeepsContent}
use Rattle.fio_ends.proofs.ContentLines.{EventsKeep, FramesKeep, content_below}
use Rattle.fio_ends.proofs.ContentRuns.{content-event, content-poll, content-send}
use Rattle.fio_ends.proofs.ContentSteps.{IsInvariant, IsKnown}
use Rattle.fio_ends.proofs.FaultsOfLogs.{none_broken}
use Rattle.fio_ends.proofs.FirstPolls.{polls_begin}
use Rattle.fio_ends.proofs.Following.{Follows, GoesOn, facts_below, from_after, goes_on-same}
use Rattle.fio_ends.proofs.IgnoredKept.{ignored_is_invariant}
use Rattle.fio_ends.proofs.Shut.{ShutHolds}
use Rattle.fio_ends.proofs.JumpedBlocks.{HasExcuses}
use Rattle.fio_ends.proofs.TimesKept.{times_are_invariant}
use Rattle.fio_ends.proofs.TimesKnown.{AsksTimes, KeepsTimed, TimeState, time_above, time_after, timeless_timed}

-- ---- each of the rules

-- this holds of each rule on content
pub record OfEach (P : ContentRule → Type 0) : Type 0 where
  pub order : P Order
  pub fresh : P Fresh
  pub alternate : P Alternate
  pub apart : P Apart
  pub ignored : P Ignored
  pub clock : P Clock
  pub done : P Done
  pub accepted : P Accepted
  pub cleared : P Cleared
  pub watchdog : P Watchdog
  pub state : P State

pub each_follows : (P Q : ContentRule → Type 0) → ((rule : ContentRule) → P rule → Q rule) → OfEach P → OfEach Q
each_follows P Q follows all = grind (arith, nat_tests)

pub both_follow : (P Q R : ContentRule → Type 0) → ((rule : ContentRule) → P rule → Q rule → R rule) → OfEach P → OfEach Q → OfEach R
both_follow P Q R follows one other = grind (arith, nat_tests)

-- events that keep all rules break none
none_among : (facts : ContentFacts) (items : ℕ) (found : List ContentEvent) → OfEach (λ rule. EventsKeep rule facts found) → breach_among facts items found ≡ None
none_among facts items [] all = refl
none_among facts items (event ∷ found) all =
    ap₂ option_or
    (ap (option_map _) (none_broken facts event (record {
      order = all.order.0;
      fresh = all.fresh.0;
      alternate = all.alternate.0;
      apart = all.apart.0;
      ignored = all.ignored.0;
      clock = all.clock.0;
      done = all.done.0;
      accepted = all.accepted.0;
      cleared = all.cleared.0;
      watchdog = all.watchdog.0;
      state = all.state.0;
    })))
    (none_among (content_with facts event) _ found
    (each_follows (λ rule. EventsKeep rule facts (event ∷ found)) (λ rule. EventsKeep rule (content_with facts event) found) (λ rule keep. keep.1) all))

-- so nothing is found in a frame
pub none_in_frame : (kept : ContentKept) (frame : CpuFrame) (more : List CpuFrame) → OfEach (λ rule. FramesKeep rule kept (frame ∷ more))
    → content_found kept frame.from_cpu frame.octets ≡ None
none_in_frame kept frame more all = grind (arith, each_follows, none_among)

-- ---- what is known for all rules

-- above a log, or where it goes on, below so many loads that may take effect
abbrev pub content_again : ℕ → ContentFacts
content_again excuses = record no_content { excuses = excuses }

abbrev pub kept_again : ℕ → ContentKept
kept_again excuses = record { number = None; facts = content_again excuses }

pub record AllKnown (settings : Settings) (begin : Machine) (above : Option ℕ) (s : TimeState) (from : Life) (machine : Machine) (facts : ContentFacts) : Type 0 where
  pub timed : KeepsTimed settings begin above s from machine facts
  pub watchdog : KeepsWatchdog from facts
  pub follow : FollowHolds settings machine facts
  pub shut : ShutHolds settings machine facts

-- what an event keeps of them
pub record AllKeep (settings : Settings) (first : ℕ) (begin : Machine) (above : Option ℕ) (s : TimeState) (from : Life) (facts : Facts) (kept : ContentKept)
    (frames : List CpuFrame) (machine : Machine) : Type 0 where
  pub keep : OfEach (λ rule. FramesKeep rule kept frames)
  pub holds : AllKnown settings begin above s from machine (content_below kept frames).facts
  pub agrees : Agrees settings first machine (facts_below facts frames) (content_below kept frames)

module _ (settings : Settings) (range : AreInRange settings) (first : ℕ) (begin : Machine) (begun : Bool) (above : Option ℕ) where
  abbrev pub Timed : TimeState → Life → Machine → ContentFacts → Type 0
  Timed = KeepsTimed settings begin above

  abbrev pub TimeInvariant : ContentRule → Type 0
  TimeInvariant rule = IsInvariant settings first begin rule TimeState (time_above begun) (time_after settings) (AsksTimes settings first begin above) Timed

  pub order_is : TimeInvariant Order
  order_is = times_are_invariant settings range first begin above begun Order (λ facts event k. k.order)

  fresh_is : TimeInvariant Fresh
  fresh_is = times_are_invariant settings range first begin above begun Fresh (λ facts event k. k.fresh)

  apart_is : TimeInvariant Apart
  apart_is = times_are_invariant settings range first begin above begun Apart (λ facts event k. k.apart)

  clock_is : TimeInvariant Clock
  clock_is = times_are_invariant settings range first begin above begun Clock (λ facts event k. k.clock)

  state_is : TimeInvariant State
  state_is = times_are_invariant settings range first begin above begun State (λ facts event k. k.state)

  abbrev pub Stateless : ContentRule → Type 0
  Stateless rule = IsInvariant settings first begin rule (Unit {0}) tt (λ state machine event. tt) (λ state machine later. Unit {0}) (λ state from machine facts. Unit {0})

  pub done_is : Stateless Done
  done_is = stateless Done (λ facts input low wide status stamp level. (refl, tt, tt)) (λ facts answer. refl) done_heard settings first begin

  accepted_is : Stateless Accepted
  accepted_is = stateless Accepted (λ facts input low wide status stamp level. (refl, tt, tt)) (λ facts answer. refl) accepted_heard settings first begin

  cleared_is : Stateless Cleared
  cleared_is = stateless Cleared (λ facts input low wide status stamp level. (refl, tt, tt)) (λ facts answer. refl) cleared_heard settings first begin

  module _ (s : TimeState) (from : Life) (machine : Machine) (facts : Facts) (kept : ContentKept) (known : IsKnown settings first begin from machine) (a : Agrees settings first machine facts kept)
      (p : AllKnown settings begin above s from machine kept.facts) where
    -- a step of each invariant is one of all of them
    all_of : (event : Event) (then : Life) (frames : List CpuFrame) (later : Machine)
        → ((rule : ContentRule) → TimeInvariant rule → KeepsContent settings rule (Timed (time_after settings s machine event) then) first facts kept frames later)
        → ((rule : ContentRule) → Stateless rule → KeepsContent settings rule (λ machine facts. Unit {0}) first facts kept frames later)
        → KeepsContent settings Watchdog (λ machine facts. KeepsWatchdog then facts) first facts kept frames later
        → KeepsContent settings Alternate (FollowHolds settings) first facts kept frames later
        → KeepsContent settings Ignored (ShutHolds settings) first facts kept frames later
        → AllKeep settings first begin above (time_after settings s machine event) then facts kept frames later
    all_of event then frames later timed answers watchdog follow shut =
        let clock = timed Clock clock_is in
        record {
          keep = record {
            order = (timed Order order_is).keep;
            fresh = (timed Fresh fresh_is).keep;
            alternate = follow.keep;
            apart = (timed Apart apart_is).keep;
            ignored = shut.keep;
            clock = clock.keep;
            done = (answers Done done_is).keep;
            accepted = (answers Accepted accepted_is).keep;
            cleared = (answers Cleared cleared_is).keep;
            watchdog = watchdog.keep;
            state = (timed State state_is).keep;
          };
          holds = record { timed = clock.holds; watchdog = watchdog.holds; follow = follow.holds; shut = shut.holds };
          agrees = clock.agrees;
        }

    pub all-poll : AllKeep settings first begin above (time_after settings s machine events.Poll) (life_of machine.history) facts kept
        (record { from_cpu = true; octets = command_octets (commands.Poll (number_of first machine.round)) } ∷ []) (after_sending machine (commands.Poll (number_of first machine.round)))
    all-poll =
        all_of events.Poll (life_of machine.history) _ _
        (λ rule i. content-poll settings range first begin rule TimeState (time_above begun) (time_after settings) (AsksTimes settings first begin above) Timed i s from machine facts kept known a p.timed)
        (λ rule i. content-poll settings range first begin rule (Unit {0}) tt (λ state machine event. tt) (λ state machine later. Unit {0}) (λ state from machine facts. Unit {0}) i tt from machine facts kept known a tt)
        (content-poll settings range first begin Watchdog (Unit {0}) tt (λ state machine event. tt) (λ state machine later. Unit {0}) (λ state from machine facts. KeepsWatchdog from facts)
        (watchdog_is_invariant settings first begin) tt from machine facts kept known a p.watchdog)
        (content-poll settings range first begin Alternate (Unit {0}) tt (λ state machine event. tt) (λ state machine later. Unit {0}) (λ state from machine facts. FollowHolds settings machine facts)
        (alternate_is_invariant settings range first begin) tt from machine facts kept known a p.follow)
        (content-poll settings range first begin Ignored (Unit {0}) tt (λ state machine event. tt) (λ state machine later. Unit {0}) (λ state from machine facts. ShutHolds settings machine facts)
        (ignored_is_invariant settings range first begin) tt from machine facts kept known a p.shut)

    pub all-send : (command : Command) → sending_refusal command ≡ None → IsCommand command
        → AllKeep settings first begin above (time_after settings s machine (events.Send command)) (life_of machine.history) facts kept
        (record { from_cpu = true; octets = command_octets command } ∷ []) (after_sending machine command)
    all-send command fine within =
        all_of (events.Send command) (life_of machine.history) _ _
        (λ rule i. content-send settings range first begin rule TimeState (time_above begun) (time_after settings) (AsksTimes settings first begin above) Timed i s from machine facts kept known a p.timed command fine within)
        (λ rule i. content-send settings range first begin rule (Unit {0}) tt (λ state machine event. tt) (λ state machine later. Unit {0}) (λ state from machine facts. Unit {0}) i tt from machine facts kept known a tt command fine within)
        (content-send settings range first begin Watchdog (Unit {0}) tt (λ state machine event. tt) (λ state machine later. Unit {0}) (λ state from machine facts. KeepsWatchdog from facts)
        (watchdog_is_invariant settings first begin) tt from machine facts kept known a p.watchdog command fine within)
        (content-send settings range first begin Alternate (Unit {0}) tt (λ state machine event. tt) (λ state machine later. Unit {0}) (λ state from machine facts. FollowHolds settings machine facts)
        (alternate_is_invariant settings range first begin) tt from machine facts kept known a p.follow command fine within)
        (content-send settings range first begin Ignored (Unit {0}) tt (λ state machine event. tt) (λ state machine later. Unit {0}) (λ state from machine facts. ShutHolds settings machine facts)
        (ignored_is_invariant settings range first begin) tt from machine facts kept known a p.shut command fine within)

    -- each event
    pub all-event : (due : ℕ) → Follows settings first from machine due facts
        → (event : Event) → refusal machine event ≡ None → IsNotRestart event → IsWithinRanges event → IsPrompt machine due event
        → (rest : List Event) → AsksTimes settings first begin above s machine (event ∷ rest)
        → AllKeep settings first begin above (time_after settings s machine event) (from_after machine from event) facts kept (frames_at first machine event) (after settings first machine event)
    all-event due f event fine none within prompt rest asks =
        all_of event (from_after machine from event) (frames_at first machine event) (after settings first machine event)
        (λ rule i. content-event settings range first begin rule TimeState (time_above begun) (time_after settings) (AsksTimes settings first begin above) Timed i s from machine due facts kept known f a p.timed
        event fine none within prompt rest asks)
        (λ rule i. content-event settings range first begin rule (Unit {0}) tt (λ state machine event. tt) (λ state machine later. Unit {0}) (λ state from machine facts. Unit {0}) i tt from machine due facts kept known f a tt
        event fine none within prompt rest tt)
        (content-event settings range first begin Watchdog (Unit {0}) tt (λ state machine event. tt) (λ state machine later. Unit {0}) (λ state from machine facts. KeepsWatchdog from facts)
        (watchdog_is_invariant settings first begin) tt from machine due facts kept known f a p.watchdog event fine none within prompt rest tt)
        (content-event settings range first begin Alternate (Unit {0}) tt (λ state machine event. tt) (λ state machine later. Unit {0}) (λ state from machine facts. FollowHolds settings machine facts)
        (alternate_is_invariant settings range first begin) tt from machine due facts kept known f a p.follow event fine none within prompt rest tt)
        (content-event settings range first begin Ignored (Unit {0}) tt (λ state machine event. tt) (λ state machine later. Unit {0}) (λ state from machine facts. ShutHolds settings machine facts)
        (ignored_is_invariant settings range first begin) tt from machine due facts kept known f a p.shut event fine none within prompt rest tt)

  -- ---- where nothing is known of what is above, but how many loads may take effect

  pub again_known : (s : TimeState) (machine : Machine) (excuses : ℕ) → GoesOn (life_of begin.history) (life_of machine.history)
      → HasExcuses (loads_of (life_of begin.history) + s.sent) (loads_of (life_of machine.history)) excuses
      → AllKnown settings begin above s (life_of machine.history) machine (content_again excuses)
  again_known s machine excuses since has =
      let life = life_of machine.history in
      let always = always-begins settings range first machine in
      let recorded = ends_within settings life machine.round in
      record {
        timed = record {
          always = record { bright = always.bright; both = always.both; least = always.least; watch = always.watch };
          asked_clock = asked-now s.clock.asked machine;
          asked_state = asked-now s.state.asked machine;
          recorded = recorded;
          base = machine.history;
          since = since;
          upto = goes_on-same life life refl;
          has = has;
          timed = λ steady. timeless_timed settings _ above s life machine (content_again excuses)
              (record { clock = refl; heard = refl; timely = refl; seen = refl; timed = λ input. refl; shown = λ input. refl; unlogged = λ input. refl })
              (record { bright = always.bright; both = always.both; least = always.least; watch = always.watch }) recorded;
        };
        watchdog = λ is. absurd (cc is);
        follow = λ input low. record { open_ones = λ is none. absurd (cc is); watched_ones = λ watched is. absurd (cc is) };
        shut = always.both;
      }

  pub agrees_again : (machine : Machine) (excuses : ℕ) → Agrees settings first machine no_facts (kept_again excuses)
  agrees_again machine excuses = record {
    number = λ polled is. absurd (cc is);
    unpolled = λ is. refl;
    awaits = λ code command is. absurd (cc is);
    polls = polls_begin settings machine.to_module machine.polls machine.last_to_module machine.round (life_of machine.history) false (λ input. false);
  }
