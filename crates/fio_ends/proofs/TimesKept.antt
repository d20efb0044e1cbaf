-- The rules on time never accuse: a breach shows that the counter jumped since times were forgotten last, and no more loads take
-- effect than are sent.
use Rattle.fio_ends.proofs.Names.{log_of, blocks_in, end_of_blocks, ◌≡◌, ◌∙◌, ◌+◌, ◌<◌, ◌≤◌, inl, inr, ℕ, Bool, true, false, List, [], ◌∷◌, length, Option, Some, refl, ap, sym, subst, arith, fold, ◌==◌, eqb_tells, slice_get, Answer, Command, Block, IsCommand, command_in, Settings, AreInRange, Life, life_of, life_after_command, loads_of, MadeBlock, ContentFacts, content_with, content_step, no_content, ContentEvent, Heard, Sent, events_of_block, items_of_block, ContentRule, Apart, Clock, Fresh, Order, State, Event, SentFrame, Machine, start, after, after_sending, after_delivery_to_module, after_taken, Leads, HaveNoRestart, HasNearTimes, History, KeepsRule, LoadsAreSent, block_answer, content_begun, forgetting, loads_sent, one_excuse_more, scans_above, sent_step, without_excuse, ContentNeverAccuses, nat_tests}
use Rattle.fio_message.specs.declared.commands.Command.TheVariants as commands
use Rattle.fio_link.specs.declared.event.Event.TheVariants as events
use Rattle.fio_ends.proofs.ContentHeld.{timed_never_accuses}
use Rattle.fio_ends.proofs.AlwaysKept.{Always, always_begun, always-begins, always-happens, always-hears, always-receives, always-sends, always-takes}
use Rattle.fio_ends.proofs.ApartKept.{apart_begun, apart-happens, apart-hears, apart-receives, apart-sends, apart-takes}
use Rattle.fio_ends.proofs.ApartTimes.{AreNearByInput, front_asked}
use Rattle.fio_ends.proofs.Asked.{asked-happens, asked-now, asked-receives}
use Rattle.fio_ends.proofs.BlockPlaces.{end_at, ends_within}
use Rattle.fio_ends.proofs.ClockKept.{clock_begun, clock-hears, clock-sends, clock-takes}
use Rattle.fio_ends.proofs.ContentFrame.{heard_keeps}
use Rattle.fio_ends.proofs.ContentLines.{EachKeeps}
use Rattle.fio_ends.proofs.ContentSteps.{HearsAnswer, IsInvariant, IsKnown, IsPastBus, IsSending, PollsKnown, Takes, past_cases}
use Rattle.fio_ends.proofs.FloorBlocks.{KeepsFloorRules}
use Rattle.fio_ends.proofs.FloorsKept.{floor_begun, floor-happens, floor-receives, floor-takes}
use Rattle.fio_ends.proofs.Following.{GoesOn, goes_on-both, goes_on-same}
use Rattle.fio_ends.proofs.Lives.{loads_grow}
use Rattle.fio_ends.proofs.SettledAgain.{made_then}
use Rattle.fio_ends.proofs.Stamps.{ClockState, IsAsked, KeepsClock, clock_after}
use Rattle.fio_ends.proofs.StateHeard.{hears_any}
use Rattle.fio_ends.proofs.StateKept.{state_begun, state-happens, state-receives, state-sends, state-takes}
use Rattle.fio_ends.proofs.StateKnown.{state_after}
use Rattle.fio_ends.proofs.Steady.{steady_above}
use Rattle.fio_ends.proofs.Taken.{asked_of, asks_on, blocks_stay}
use Rattle.fio_ends.proofs.Timeless.{KeepsTimeRules, WouldKeep, all_keep, both_keep, keeps, none_excused, not_excused}
use Rattle.fio_ends.proofs.JumpedBlocks.{HasExcuses, Jumped, answer_jumped, as_many, block_excuses, items_jumped, one_more, some_left, NotYet, Used}
use Rattle.fio_ends.proofs.TimesKnown.{TimeState, time_after, time_above, AsksTimes, Timed, at_life, KeepsTimed, timeless_timed, goes_on-command, past_life, no_loads_past}

module _ (settings : Settings) (range : AreInRange settings) (first : ℕ) (begin : Machine) (above : Option ℕ) where
  abbrev began : ℕ
  began = loads_of (life_of begin.history)

  abbrev P : TimeState → Life → Machine → ContentFacts → Type 0
  P = KeepsTimed settings begin above

  -- of each life at which times were forgotten last
  known_at : (base : History) (from : Life) (machine : Machine) → GoesOn (life_of base) from → IsKnown settings first begin from machine → IsKnown settings first (at_life begin base) from machine
  known_at base from machine upto known = record { is_kept = known.is_kept; begun = upto; rounds = known.rounds; now = known.now }

  -- where no more loads are sent
  still_has : (s more jumps excuses : ℕ) → more ≡ 0 → HasExcuses (began + s) jumps excuses → HasExcuses (began + (s + more)) jumps excuses
  still_has s more jumps excuses none has =
      (let same : (began + s) + more ≡ began + (s + more) = omega arith in subst (λ n. HasExcuses n jumps excuses) same (as_many (began + s) more jumps excuses none has))

  -- ---- a scan, a line sync or raised flags

  recorded-past : (from : Life) (machine : Machine) (event : Event) → IsPastBus event → end_at settings (life_of machine.history) machine.round ≤ length (log_of from)
      → end_at settings (life_of (after settings first machine event).history) (after settings first machine event).round ≤ length (log_of from)
  recorded-past from machine event past recorded = grind arith

  clock-past : (life : Life) (c : ClockState) (from : Life) (machine : Machine) (facts : ContentFacts) (event : Event) → IsPastBus event → KeepsClock life c from machine facts
      → KeepsClock life (clock_after c machine event) from (after settings first machine event) facts
  clock-past life c from machine facts event past p = past_cases (λ event. KeepsClock life (clock_after c machine event) from (after settings first machine event) facts)
      (λ raw. record { stamped = p.stamped }) (record { stamped = p.stamped }) (λ mask. record { stamped = p.stamped }) event past

  times-happen : (s : TimeState) (from : Life) (machine : Machine) (facts : ContentFacts) (event : Event) → IsKnown settings first begin from machine → IsPastBus event → P s from machine facts
      → P (time_after settings s machine event) from (after settings first machine event) facts
  times-happen s from machine facts event known past p =
      let later = after settings first machine event in
      let base = at_life begin p.base in
      let to_now = goes_on-both (life_of p.base) from (life_of machine.history) p.upto known.now in
      record {
        always = always-happens settings range first begin machine facts event past p.always;
        asked_clock = asked-happens settings first s.clock.asked from machine event past p.asked_clock;
        asked_state = asked-happens settings first s.state.asked from machine event past p.asked_state;
        recorded = recorded-past from machine event past p.recorded;
        base = p.base;
        since = p.since;
        upto = p.upto;
        has = still_has s.sent (loads_sent event) (loads_of (life_of p.base)) facts.excuses (no_loads_past event past) p.has;
        timed = λ steady.
            (let t = p.timed (steady_above (life_of p.base) (life_of machine.history) (life_of later.history) to_now (past_life settings first machine event past) steady) in
            record {
              clock = clock-past (life_of p.base) s.clock from machine facts event past t.clock;
              floor = floor-happens settings range first base above machine facts event past t.floor;
              apart = apart-happens settings range first base above machine facts event past t.apart;
              state = state-happens settings range first base above s.state from machine facts event past t.state;
            });
      }

  -- ---- a command is sent

  abbrev pub loads_by : Command → ℕ
  loads_by (commands.LoadCounter load) = 1
  loads_by command = 0

  pub sends_loads : (machine : Machine) (event : Event) (command : Command) → IsSending first machine event command → loads_sent event ≡ loads_by command
  sends_loads machine event command may = grind arith

  pub sent_has : (facts : ContentFacts) (command : Command) (s jumps : ℕ) → HasExcuses (began + s) jumps facts.excuses
      → HasExcuses (began + (s + loads_by command)) jumps (content_step facts (Sent command)).excuses
  sent_has facts (commands.LoadCounter load) s jumps has =
      (let same : (began + s) + 1 ≡ began + (s + 1) = omega arith in subst (λ n. HasExcuses n jumps (one_excuse_more facts.excuses)) same (one_more (began + s) jumps facts.excuses has))
  sent_has facts other s jumps has = still_has s 0 jumps facts.excuses refl has

  times-send : (s : TimeState) (from : Life) (machine : Machine) (facts : ContentFacts) (event : Event) (command : Command) → IsKnown settings first begin from machine
      → IsSending first machine event command → IsCommand command → P s from machine facts
      → P (time_after settings s machine event) (life_of machine.history) (after_sending machine command) (content_with facts (Sent command))
  times-send s from machine facts event command known may within p =
      let base = at_life begin p.base in
      let known_base = known_at p.base from machine p.upto known in
      let same = sent_step facts command in
      record {
        always = always-sends settings range first begin machine facts command within p.always;
        asked_clock = asked-now (clock_after s.clock machine event).asked (after_sending machine command);
        asked_state = asked-now (state_after settings s.state machine event).asked (after_sending machine command);
        recorded = ends_within settings (life_of machine.history) machine.round;
        base = p.base;
        since = p.since;
        upto = goes_on-both (life_of p.base) from (life_of machine.history) p.upto known.now;
        has = subst (λ n. HasExcuses (began + (s.sent + n)) (loads_of (life_of p.base)) (content_with facts (Sent command)).excuses) (sym (sends_loads machine event command may))
            (subst (λ (f : ContentFacts). HasExcuses (began + (s.sent + loads_by command)) (loads_of (life_of p.base)) f.excuses) (sym same)
            (sent_has facts command s.sent (loads_of (life_of p.base)) p.has));
        timed = λ steady.
            (let t = p.timed steady in
            subst (Timed settings base above (time_after settings s machine event) (life_of machine.history) (after_sending machine command)) (sym same)
            (record {
              clock = clock-sends settings first base s.clock from machine facts event command known_base may t.clock;
              floor = record { full = t.floor.full; floor = t.floor.floor };
              apart = apart-sends settings range first base above machine facts command within t.apart;
              state = state-sends settings range first base above s.state from machine facts event command known_base may within t.state;
            }));
      }

  -- ---- the module receives a frame

  times-receive : (s : TimeState) (from : Life) (machine : Machine) (facts : ContentFacts) (place : ℕ) (frame : SentFrame) → IsKnown settings first begin from machine
      → machine.last_to_module < place + 1 → slice_get machine.to_module place ≡ Some frame
      → (place + 1 ≡ length machine.to_module → (command : Command) × (command_in frame.octets ≡ Some command)) → P s from machine facts
      → P (time_after settings s machine (events.ToModule (place + 1))) from (after_delivery_to_module settings machine (place + 1) (Some frame)) facts
  times-receive s from machine facts place frame known new at reads p =
      let now = life_of machine.history in
      let command = command_in frame.octets in
      let later = life_after_command command now in
      let base = at_life begin p.base in
      let known_base = known_at p.base from machine p.upto known in
      let k = known.is_kept in
      let few : machine.round ≤ length (blocks_in settings machine) = omega (arith, k.always.answers.behind, k.one_life.made) in
      let upto : end_at settings later machine.round ≡ end_at settings now machine.round = ap end_of_blocks (blocks_stay settings now command machine.round few) in
      let to_now = goes_on-both (life_of p.base) from now p.upto known.now in
      record {
        always = always-receives settings range first begin machine facts place frame k new at p.always;
        asked_clock = asked-receives settings first s.clock.asked from machine place frame reads p.asked_clock;
        asked_state = asked-receives settings first s.state.asked from machine place frame reads p.asked_state;
        recorded = (let r = p.recorded in omega (arith, r, upto));
        base = p.base;
        since = p.since;
        upto = p.upto;
        has = still_has s.sent 0 (loads_of (life_of p.base)) facts.excuses refl p.has;
        timed = λ steady.
            (let t = p.timed (steady_above (life_of p.base) now later to_now (goes_on-command now now command (goes_on-same now now refl)) steady) in
            record {
              clock = record { stamped = t.clock.stamped };
              floor = floor-receives settings range first base above machine facts place frame k t.floor;
              apart = apart-receives settings range first base above machine facts place frame k new at t.apart;
              state = state-receives settings range first base above s.state from machine facts place frame known_base new at t.state;
            });
      }

  -- ---- the CPU hears an answer

  module _ (s : TimeState) (from : Life) (machine : Machine) (facts : ContentFacts) (place : ℕ) (rest : List Event) (known : IsKnown settings first begin from machine)
      (asks : AsksTimes settings first begin above s machine (events.ToCpu (place + 1) ∷ rest)) (p : P s from machine facts) where
    abbrev now : Life
    now = life_of machine.history

    abbrev base : Machine
    base = at_life begin p.base

    known_base : IsKnown settings first base from machine
    known_base = known_at p.base from machine p.upto known

    to_now : GoesOn (life_of p.base) now
    to_now = goes_on-both (life_of p.base) from now p.upto known.now

    abbrev next : TimeState
    next = time_after settings s machine (events.ToCpu (place + 1))

    -- what is known below, where no load took effect since times were forgotten
    below_steady : (later : Machine) (facts_below : ContentFacts) → later.history ≡ machine.history → Always settings later facts_below → facts_below.excuses ≡ facts.excuses
        → Timed settings base above next now later facts_below → P next now later facts_below
    below_steady later facts_below same always excuses timed = record {
      always = always;
      asked_clock = subst (λ h. IsAsked next.clock.asked (life_of h) later) same (asked-now next.clock.asked later);
      asked_state = subst (λ h. IsAsked next.state.asked (life_of h) later) same (asked-now next.state.asked later);
      recorded = subst (λ h. end_at settings (life_of later.history) later.round ≤ length (log_of (life_of h))) same (ends_within settings (life_of later.history) later.round);
      base = p.base;
      since = p.since;
      upto = to_now;
      has = subst (HasExcuses (began + next.sent) (loads_of (life_of p.base))) (sym excuses) (still_has s.sent 0 (loads_of (life_of p.base)) facts.excuses refl p.has);
      timed = λ steady. timed;
    }

    -- and where one did
    below_jump : (later : Machine) (facts_below : ContentFacts) → later.history ≡ machine.history → Always settings later facts_below → (loads_of now ≡ loads_of (life_of p.base) → ⊥)
        → Jumped (began + s.sent) (loads_of (life_of p.base)) (loads_of now) facts_below → P next now later facts_below
    below_jump later facts_below same always apart (NotYet some has) = record {
      always = always;
      asked_clock = subst (λ h. IsAsked next.clock.asked (life_of h) later) same (asked-now next.clock.asked later);
      asked_state = subst (λ h. IsAsked next.state.asked (life_of h) later) same (asked-now next.state.asked later);
      recorded = subst (λ h. end_at settings (life_of later.history) later.round ≤ length (log_of (life_of h))) same (ends_within settings (life_of later.history) later.round);
      base = p.base;
      since = p.since;
      upto = to_now;
      has = still_has s.sent 0 (loads_of (life_of p.base)) facts_below.excuses refl has;
      timed = λ steady. absurd (apart (ap (λ h. loads_of (life_of h)) (sym same) ∙ steady));
    }
    below_jump later facts_below same always apart (Used timeless has) = record {
      always = always;
      asked_clock = subst (λ h. IsAsked next.clock.asked (life_of h) later) same (asked-now next.clock.asked later);
      asked_state = subst (λ h. IsAsked next.state.asked (life_of h) later) same (asked-now next.state.asked later);
      recorded = recorded;
      base = machine.history;
      since = goes_on-both (life_of begin.history) (life_of p.base) now p.since to_now;
      upto = goes_on-same now now refl;
      has = still_has s.sent 0 (loads_of now) facts_below.excuses refl has;
      timed = λ steady. timeless_timed settings (at_life begin machine.history) above next now later facts_below timeless always recorded;
    }
      where
        recorded : end_at settings (life_of later.history) later.round ≤ length (log_of now)
        recorded = subst (λ h. end_at settings (life_of later.history) later.round ≤ length (log_of (life_of h))) same (ends_within settings (life_of later.history) later.round)

    jumps : (loads_of now ≡ loads_of (life_of p.base) → ⊥) → loads_of (life_of p.base) + 1 ≤ loads_of now
    jumps apart = (let low = loads_grow (life_of p.base) now to_now in omega (arith, low, apart))

    left : (loads_of now ≡ loads_of (life_of p.base) → ⊥) → (facts.excuses == 0) ≡ false
    left apart = some_left (began + s.sent) (loads_of (life_of p.base)) (loads_of now) facts.excuses (jumps apart) asks.loads.0 p.has

    times-hear : (command : Command) (answer : Answer) → HearsAnswer settings from machine facts place command answer
        → KeepsTimeRules facts (Heard answer) × P next now (record machine { last_to_cpu = place + 1 }) (content_with facts (Heard answer))
    times-hear command answer h =
        let later = record machine { last_to_cpu = place + 1 } in
        let always = always-hears settings range first begin from machine facts place command answer h p.always in
        elim (eqb_tells (loads_of now) (loads_of (life_of p.base))) as (λ _. KeepsTimeRules facts (Heard answer) × P next now later (content_with facts (Heard answer))) [
          | inl steady ↦
              let t = p.timed steady.1 in
              let clock = clock-hears settings first base s.clock from machine facts place rest command answer known_base h asks.stamps p.asked_clock steady.1 t.clock in
              let state = hears_any settings first base above s.state from machine facts place command answer known_base h t.state p.asked_state steady.1 in
              let would : WouldKeep facts (Heard answer) = record {
                order = (heard_keeps (without_excuse facts) answer).order;
                fresh = (heard_keeps (without_excuse facts) answer).fresh;
                apart = (heard_keeps (without_excuse facts) answer).apart;
                clock = clock.0;
                state = state.0;
              } in
              let same : content_with facts (Heard answer) ≡ content_step facts (Heard answer) = ap (λ b. forgetting b (content_step facts (Heard answer))) (not_excused facts (Heard answer) would) in (
                keeps facts (Heard answer) would,
                below_steady later (content_with facts (Heard answer)) refl always (ap (λ (f : ContentFacts). f.excuses) same)
                    (subst (Timed settings base above next now later) (sym same)
                    (record {
                      clock = clock.1;
                      floor = record { full = t.floor.full; floor = t.floor.floor };
                      apart = apart-hears settings range first base above from machine facts place command answer h t.apart;
                      state = state.1;
                    })),
              )
          | inr apart ↦
              let jumped = answer_jumped (began + s.sent) (loads_of (life_of p.base)) (loads_of now) (jumps apart.1) facts answer (left apart.1) p.has in
              (jumped.0, below_jump later (content_with facts (Heard answer)) refl always apart.1 jumped.1)
        ]

    times-take : (number : ℕ) (answer : Block) (block : MadeBlock) → Takes settings first from machine place number answer block → PollsKnown settings machine facts
        → EachKeeps KeepsTimeRules content_with facts (events_of_block answer) × P next now (after_taken machine place answer) (fold content_with facts (events_of_block answer))
    times-take number answer block t polls =
        let later = after_taken machine place answer in
        let events = events_of_block answer in
        let made = made_then settings range first begin from machine place number answer block known t facts polls in
        let always = always-takes settings range first begin from machine place number answer block known t facts made p.always in
        elim (eqb_tells (loads_of now) (loads_of (life_of p.base))) as (λ _. EachKeeps KeepsTimeRules content_with facts events × P next now later (fold content_with facts events)) [
          | inl steady ↦
              let timed = p.timed steady.1 in
              let asked = asked_of settings range first base (AreNearByInput above) (front_asked above) from machine place number answer block rest known_base t
              (record { last = asks.taken.last; leads = asks.taken.leads; none = asks.taken.none; asked = asks.taken.asked }) in
              let clock = clock-takes settings first base s.clock from machine facts place rest number answer block known_base t asks.stamps p.asked_clock steady.1 timed.clock in
              let floor = floor-takes settings range first base above from machine facts place number answer block known_base t asked.blocks_near steady.1 timed.floor in
              let apart = apart-takes settings range first base above from machine facts place number answer block known_base t asked steady.1 made timed.apart in
              let state = state-takes settings range first base above s.state from machine facts place rest number answer block known_base t asked.blocks_near asks.states steady.1 made p.always.bright timed.state in
              let clock_floor = both_keep (λ facts. KeepsRule Clock (without_excuse facts)) KeepsFloorRules facts events clock.0 floor.0 in
              let apart_state = both_keep (λ facts. KeepsRule Apart (without_excuse facts)) (λ facts. KeepsRule State (without_excuse facts)) facts events apart.0 state.0 in
              let four = both_keep (λ facts event. KeepsRule Clock (without_excuse facts) event × KeepsFloorRules facts event)
              (λ facts event. KeepsRule Apart (without_excuse facts) event × KeepsRule State (without_excuse facts) event) facts events clock_floor apart_state in
              let would = all_keep (λ facts event. (KeepsRule Clock (without_excuse facts) event × KeepsFloorRules facts event) × (KeepsRule Apart (without_excuse facts) event × KeepsRule State (without_excuse facts) event))
              WouldKeep content_step (λ facts event k. record { order = k.0.1.0; fresh = k.0.1.1; apart = k.1.0; clock = k.0.0; state = k.1.1 }) facts events four in
              let none = none_excused facts events would in (
                none.0,
                below_steady later (fold content_with facts events) refl always (ap (λ (f : ContentFacts). f.excuses) none.1 ∙ block_excuses facts answer)
                    (subst (Timed settings base above next now later) (sym none.1) (record { clock = clock.1; floor = floor.1; apart = apart.1; state = state.1 })),
              )
          | inr apart ↦
              let heard = answer_jumped (began + s.sent) (loads_of (life_of p.base)) (loads_of now) (jumps apart.1) facts (block_answer answer) (left apart.1) p.has in
              let items = items_jumped (began + s.sent) (loads_of (life_of p.base)) (loads_of now) (jumps apart.1) (items_of_block answer) (content_with facts (Heard (block_answer answer))) answer.status answer.stamp heard.1 in
              ((heard.0, items.0), below_jump later (fold content_with facts events) refl always apart.1 items.1)
        ]

  -- ---- the invariant

  pub times_are_invariant : (begun : Bool) (rule : ContentRule) → ((facts : ContentFacts) (event : ContentEvent) → KeepsTimeRules facts event → KeepsRule rule facts event)
      → IsInvariant settings first begin rule TimeState (time_above begun) (time_after settings) (AsksTimes settings first begin above) (KeepsTimed settings begin above)
  times_are_invariant begun rule picks = record {
    goes_on = λ s machine event rest a. record {
      taken = asks_on settings first begin (AreNearByInput above) machine event rest a.taken;
      stamps = a.stamps.1;
      states = a.states.1;
      loads = (let same : (began + s.sent) + loads_sent event ≡ began + (s.sent + loads_sent event) = omega arith in
          subst (λ n. LoadsAreSent settings first n (after settings first machine event) rest) same a.loads.1);
    };
    begins = λ known.
        (let always = always-begins settings range first begin in
        let recorded = ends_within settings (life_of begin.history) begin.round in
        record {
          always = always;
          asked_clock = asked-now 0 begin;
          asked_state = asked-now 0 begin;
          recorded = recorded;
          base = begin.history;
          since = goes_on-same (life_of begin.history) (life_of begin.history) refl;
          upto = goes_on-same (life_of begin.history) (life_of begin.history) refl;
          has = record { enough = inr (omega arith) };
          timed = λ steady. timeless_timed settings (at_life begin begin.history) above (time_above begun) (life_of begin.history) begin no_content
              (record { clock = refl; heard = refl; timely = refl; seen = refl; timed = λ input. refl; shown = λ input. refl; unlogged = λ input. refl }) always recorded;
        });
    happens = λ s from machine facts event rest known past asks p. times-happen s from machine facts event known past p;
    sends = times-send;
    receives = times-receive;
    hears = λ s from machine facts place rest command answer known h asks p.
        (let step = times-hear s from machine facts place rest known asks p command answer h in (picks facts (Heard answer) step.0, step.1));
    takes = λ s from machine facts place rest number answer block known t polls asks p.
        (let step = times-take s from machine facts place rest known asks p number answer block t polls in
        (all_keep KeepsTimeRules (KeepsRule rule) content_with picks facts (events_of_block answer) step.0, step.1));
  }

-- at the start of both ends
pub times_begun : (settings : Settings) → KeepsTimed settings start (scans_above true) (time_above true) [] start content_begun
times_begun settings = record {
  always = always_begun settings;
  asked_clock = asked-now 0 start;
  asked_state = asked-now 0 start;
  recorded = omega arith;
  base = [];
  since = goes_on-same [] [] refl;
  upto = goes_on-same [] [] refl;
  has = record { enough = inr (omega arith) };
  timed = λ steady. record { clock = clock_begun; floor = floor_begun settings; apart = apart_begun settings; state = state_begun settings };
}

-- ---- the rules

either : {A : Type 0} → (begun : Bool) → (begun ≡ false → A) → (begun ≡ true → A) → A
either true at_command at_start = at_start refl
either false at_command at_start = at_command refl

asks_first : (begun : Bool) (settings : Settings) (first : ℕ) (machine last : Machine) (later : List Event) → HaveNoRestart later → Leads settings first machine later last
    → (begun ≡ true → LoadsAreSent settings first (loads_of (life_of machine.history)) machine later) → HasNearTimes begun settings first machine later last
    → AsksTimes settings first machine (scans_above begun) (time_above begun) machine later
asks_first begun settings first machine last later none leads loads premise = grind (arith, nat_tests, loads_of, life_of, either)

time_rule_never_accuses : (rule : ContentRule) → ((facts : ContentFacts) (event : ContentEvent) → KeepsTimeRules facts event → KeepsRule rule facts event) → ContentNeverAccuses rule HasNearTimes
time_rule_never_accuses rule picks = timed_never_accuses rule TimeState time_above time_after HasNearTimes
    (λ begun settings first begin. AsksTimes settings first begin (scans_above begun)) (λ begun settings first begin. KeepsTimed settings begin (scans_above begun))
    asks_first
    (λ begun settings first begin range. times_are_invariant settings range first begin (scans_above begun) begun rule picks)
    (λ settings first. times_begun settings)

pub order_never_accuses : ContentNeverAccuses Order HasNearTimes
order_never_accuses = time_rule_never_accuses Order (λ facts event k. k.order)

pub fresh_never_accuses : ContentNeverAccuses Fresh HasNearTimes
fresh_never_accuses = time_rule_never_accuses Fresh (λ facts event k. k.fresh)

pub apart_never_accuses : ContentNeverAccuses Apart HasNearTimes
apart_never_accuses = time_rule_never_accuses Apart (λ facts event k. k.apart)

pub clock_never_accuses : ContentNeverAccuses Clock HasNearTimes
clock_never_accuses = time_rule_never_accuses Clock (λ facts event k. k.clock)

pub state_never_accuses : ContentNeverAccuses State HasNearTimes
state_never_accuses = time_rule_never_accuses State (λ facts event k. k.state)
