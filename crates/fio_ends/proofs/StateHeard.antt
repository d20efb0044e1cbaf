-- An answer that is no block keeps the rule `state`; one with the states is what the record comes to.
use Rattle.fio_ends.proofs.Names.{◌==◌, ◌≡◌, slice_get_within, ◌++◌, ◌∙◌, ◌+◌, ℕ, Bool, true, false, ◌∷◌, length, Option, Some, None, refl, ap, sym, subst, arith, if◌then◌else◌, list_any, slice_get, same_Some, length-append, Answer, Command, answered_block, Settings, Life, Commanded, life_of, log_of, log_of-with_command, loads_of, observation_of, answer_type_to, is_absent, MadeBlock, blocks_in, ContentFacts, content_step, Heard, Machine, State, KeepsRule, Seen, broken_state, counter_of, frame_at_place, is_some, option_and_then, scans_left, scans_seen, states_heard, steady_state, without_excuse, first_differing}
use Rattle.fio_message.specs.declared.answers.Answer.TheVariants as answers
use Rattle.fio_message.specs.declared.commands.Command.TheVariants as commands
use Rattle.fio_check.specs.declared.observation.Observation.TheVariants as seen
use Rattle.fio_link.specs.declared.event.Event.TheVariants as events
use Rattle.fio_ends.proofs.Answered.{Says, says_of, states_of}
use Rattle.fio_ends.proofs.BlockPlaces.{end_at, ends_within}
use Rattle.fio_ends.proofs.Stamps.{IsAsked}
use Rattle.fio_ends.proofs.Steady.{IsSteady}
use Rattle.fio_ends.proofs.Clocks.{counter_is_clock}
use Rattle.fio_ends.proofs.ContentSteps.{HearsAnswer, IsKnown}
use Rattle.fio_ends.proofs.ContentLines.{none_comes}
use Rattle.fio_ends.proofs.Following.{goes_on-both}
use Rattle.fio_ends.proofs.Lives.{goes_on-since, loads_grow, log_grows}
use Rattle.fio_ends.proofs.SeenStates.{WatchAt, watch_asked, watch_since}
use Rattle.fio_ends.proofs.Shown.{GoesFrom, goes-now}
use Rattle.fio_ends.proofs.Watching.{state_of}
use Rattle.fio_ends.proofs.StateKnown.{IsPending, IsSeen, KeepsState, StateState, state_after}

module _ (settings : Settings) (first : ℕ) (begin : Machine) (above : Option ℕ) where
  abbrev begin_life : Life
  begin_life = life_of begin.history

  -- the answer with the states says those of the life
  states_say : (life : Life) (command : Command) (inputs stamp : ℕ) → Says life command (answers.FilteredInputs inputs stamp)
      → (command ≡ commands.FilteredInputs) × (inputs ≡ states_of life) × (stamp ≡ counter_of life)
  states_say life other inputs stamp says = grind arith

  pub state_kept : (facts : ContentFacts) (answer : Answer) (seen : Option Seen) → broken_state facts (Heard answer) seen ≡ None
  state_kept facts answer None = refl
  state_kept facts answer (Some seen) = none_comes (facts.excuses == 0) (first_differing facts seen)

  module _ (state : StateState) (from : Life) (machine : Machine) (facts : ContentFacts) (place : ℕ) (command : Command) (answer : Answer)
      (known : IsKnown settings first begin from machine) (h : HearsAnswer settings from machine facts place command answer)
      (p : KeepsState settings begin above state from machine facts) (received : IsAsked state.asked from machine) (steady : IsSteady begin_life (life_of machine.history)) where
    abbrev heard_now : Life
    heard_now = life_of machine.history

    abbrev recorded_now : ℕ
    recorded_now = end_at settings heard_now machine.round

    abbrev Known : Seen → Type 0
    Known seen = IsSeen begin_life heard_now (scans_seen settings machine state.asked state.seen (events.ToCpu (place + 1))) recorded_now (content_step facts (Heard answer)) seen

    abbrev taken_of : Option Answer → Option MadeBlock
    taken_of found = option_and_then (λ block. slice_get (blocks_in settings machine) machine.round) (answered_block found)

    -- by the answer
    scans_then : scans_seen settings machine state.asked state.seen (events.ToCpu (place + 1))
        ≡ (if is_some (states_heard (Heard answer)) then Some state.asked else scans_left (taken_of (Some answer)) state.seen)
    scans_then = grind (arith, frame_at_place)

    -- no states
    abbrev old_states : is_some (states_heard (Heard answer)) ≡ false → answered_block (Some answer) ≡ None → (seen : Seen) → facts.seen ≡ Some seen → Known seen
    old_states none no_block seen is =
        let s = p.seen seen is in
        record {
          life = s.life;
          begun = s.begun;
          goes_on = goes_on-both s.life from heard_now s.goes_on known.now;
          stamp = s.stamp;
          levels = s.levels;
          left_is = scans_then ∙ ap (λ heard. if heard then Some state.asked else scans_left (taken_of (Some answer)) state.seen) none
              ∙ ap (λ block. scans_left (option_and_then (λ block. slice_get (blocks_in settings machine) machine.round) block) state.seen) no_block ∙ s.left_is;
          watch = s.watch;
        }

    -- these states
    abbrev new_states : (inputs stamp : ℕ) → answer ≡ answers.FilteredInputs inputs stamp → Known (record { stamp = stamp; levels = inputs })
    new_states inputs stamp is =
        let says = states_say h.life command inputs stamp (subst (Says h.life command) is (says_of settings from machine facts place command answer h)) in
        let begun = goes_on-both begin_life from h.life known.begun h.goes_on in
        let upto = goes_on-since command h.life heard_now h.since in
        let low = loads_grow begin_life h.life begun in
        let high = loads_grow h.life heard_now upto in
        let loads : loads_of h.life ≡ loads_of begin_life = omega (arith, steady, low, high) in
        let asked = received h.received command h.life h.since h.goes_on in
        let some : is_some (states_heard (Heard answer)) ≡ true = ap (λ a. is_some (states_heard (Heard a))) is in
        let grown = log_grows from h.life h.goes_on in
        let longer = ap length grown.1 ∙ length-append (log_of from) grown.0 in
        let recorded = p.recorded in
        let logged : log_of (Commanded command ∷ h.life) ≡ log_of h.life = log_of-with_command (Some command) h.life in
        record {
          life = h.life;
          begun = begun;
          goes_on = upto;
          stamp = says.2 ∙ counter_is_clock begin_life h.life begun loads;
          levels = says.1;
          left_is = scans_then ∙ ap (λ heard. if heard then Some state.asked else scans_left (taken_of (Some answer)) state.seen) some ∙ ap Some asked;
          watch = λ input inside.
              (let k = p.watch input inside in
              let w : WatchAt heard_now recorded_now input facts.clear (facts.inputs input).hidden (steady_state (facts.inputs input).watched) =
              record { open_ones = λ is none. (k.open_ones is none).1; watched_ones = λ level is. (k.watched_ones level is).1 } in
              let w_asked = watch_since recorded_now input facts.clear (facts.inputs input).hidden (steady_state (facts.inputs input).watched) inside h.since.more (Commanded command ∷ h.life) h.since.none
              (omega (arith, recorded, longer, ap length logged))
              (subst (λ life. WatchAt life recorded_now input facts.clear (facts.inputs input).hidden (steady_state (facts.inputs input).watched)) h.since.is w) in
              watch_asked recorded_now input facts.clear (facts.inputs input).hidden (steady_state (facts.inputs input).watched) inside h.life
              (subst (λ c. WatchAt (Commanded c ∷ h.life) recorded_now input facts.clear (facts.inputs input).hidden (steady_state (facts.inputs input).watched)) says.0 w_asked));
        }

    -- states that are above what follows the answer, below a clear block, and the record has nothing later
    record HearsStates (seen : Seen) : Type 0 where
      pub states : Known seen
      pub timely : facts.timely ≡ true
      pub pending : IsPending heard_now machine.to_module machine.last_to_module recorded_now (content_step facts (Heard answer)) states.life

    old_heard : is_some (states_heard (Heard answer)) ≡ false → answered_block (Some answer) ≡ None → (seen : Seen) → facts.seen ≡ Some seen → HearsStates seen
    old_heard none no_block seen is = record {
      states = old_states none no_block seen is;
      timely = p.seen_timely seen is;
      pending = (let w = p.pending seen is in record { inside = w.inside; goes_on = w.goes_on; tells = w.tells });
    }

    new_heard : (inputs stamp : ℕ) → answer ≡ answers.FilteredInputs inputs stamp → facts.timely ≡ true → HearsStates (record { stamp = stamp; levels = inputs })
    new_heard inputs stamp is timely =
        let says = states_say h.life command inputs stamp (subst (Says h.life command) is (says_of settings from machine facts place command answer h)) in
        let grown = log_grows from h.life h.goes_on in
        let longer = ap length grown.1 ∙ length-append (log_of from) grown.0 in
        record {
          states = new_states inputs stamp is;
          timely = timely;
          pending = record {
            inside = (let recorded = p.recorded in omega (arith, recorded, longer));
            goes_on = goes_on-since command h.life heard_now h.since;
            tells = λ input low un. record {
              names = λ frame_place frame high at. absurd (omega (arith, h.received, high, slice_get_within machine.to_module frame_place frame at));
              goes = subst (λ life. GoesFrom life (length (log_of h.life)) input (state_of input h.life)) (sym (h.since.is ∙ ap (λ c. h.since.more ++ (Commanded c ∷ h.life)) says.0))
                  (goes-now input low h.life h.since.more h.since.none);
            };
          };
        }

    heard_states : (inputs stamp : ℕ) → answer ≡ answers.FilteredInputs inputs stamp → (timely : Bool) → facts.timely ≡ timely
        → (seen : Seen) → (if timely then Some (record { stamp = stamp; levels = inputs }) else None) ≡ Some seen → HearsStates seen
    heard_states inputs stamp is false timely_is seen still = absurd (cc still)
    heard_states inputs stamp is true timely_is seen still = subst HearsStates (same_Some _ _ still) (new_heard inputs stamp is timely_is)

    state-hears : ((seen : Seen) → (content_step facts (Heard answer)).seen ≡ Some seen → HearsStates seen)
        → KeepsRule State (without_excuse facts) (Heard answer)
        × KeepsState settings begin above (state_after settings state machine (events.ToCpu (place + 1))) heard_now (record machine { last_to_cpu = place + 1 }) (content_step facts (Heard answer))
    state-hears seen = (
      state_kept (without_excuse facts) answer facts.seen,
      record {
        full = p.full;
        seen_timely = λ states is. (seen states is).timely;
        below = p.below;
        watch = p.watch;
        recorded = ends_within settings heard_now machine.round;
        seen = λ states is. (seen states is).states;
        pending = λ states is. (seen states is).pending;
        shown = λ input low. (let k = p.shown input low in record { shown = k.shown; unlogged = k.unlogged });
      },
    )

  pub hears_any : (state : StateState) (from : Life) (machine : Machine) (facts : ContentFacts) (place : ℕ) (command : Command) (answer : Answer)
      → IsKnown settings first begin from machine → HearsAnswer settings from machine facts place command answer → KeepsState settings begin above state from machine facts
      → IsAsked state.asked from machine → IsSteady begin_life (life_of machine.history)
      → KeepsRule State (without_excuse facts) (Heard answer)
      × KeepsState settings begin above (state_after settings state machine (events.ToCpu (place + 1))) (life_of machine.history) (record machine { last_to_cpu = place + 1 }) (content_step facts (Heard answer))
  hears_any state from machine facts place command (answers.FilteredInputs inputs stamp) known h p received steady =
      state-hears state from machine facts place command (answers.FilteredInputs inputs stamp) known h p received steady
      (λ seen still. heard_states state from machine facts place command (answers.FilteredInputs inputs stamp) known h p received steady inputs stamp refl facts.timely refl seen still)
  hears_any state from machine facts place command (answers.Block count entries status stamp) known h p received steady =
      let said = ap (observation_of None) (sym h.spells) ∙ h.heard_as.heard in
      let never : seen.Block count status (length entries.items) (list_any (λ entry. is_absent entry.input) entries.items) ≡ seen.Answer (answer_type_to command) h.heard_as.accepted = said in
      absurd (cc never)
  hears_any state from machine facts place command other known h p received steady =
      state-hears state from machine facts place command other known h p received steady
      (λ seen still. old_heard state from machine facts place command other known h p received steady refl refl seen still)
