-- The rule `state` never accuses: where the record comes to the states that were asked for, it has all entries up to them and
-- none later.
use Rattle.fio_ends.proofs.Names.{fold, ◌++◌, MadeBlock, Block, events_of_block, ◌≡◌, command_octets, length-append, log_of, ◌∙◌, ◌+◌, ◌<◌, ◌≤◌, ◌||◌, ℕ, Bool, true, false, List, [], ◌∷◌, length, Option, Some, None, refl, ap, sym, subst, arith, if◌then◌else◌, slice_get, Command, command_in, IsCommand, Settings, AreInRange, Life, Occurrence, Scanned, LineSynced, Raised, Commanded, life_of, life_after_command, blocks_in, end_of_blocks, ContentFacts, InputAbove, InputItem, Sent, Event, SentFrame, Machine, start, after, after_sending, after_delivery_to_module, after_taken, State, BlocksAreNear, KeepsRule, StatesAreNear, block_answer, blocks_taken, content_begun, content_step, ignores, input_with_item, item_for, item_parts, items_sent, scans_above, steady_state, unnamed, without_excuse, Seen, nat_tests}
use Rattle.fio_link.specs.declared.event.Event.TheVariants as events
use Rattle.fio_ends.proofs.SteadyKept.{still_steady, watch_begun, watch-happens, watch-receives, watch-sends}
use Rattle.fio_ends.proofs.BlockPlaces.{end_at, ends_within}
use Rattle.fio_ends.proofs.BlockWalk.{gap_keeps, walk}
use Rattle.fio_ends.proofs.ContentSteps.{IsKnown, IsPastBus, IsSending, Takes, past_cases}
use Rattle.fio_ends.proofs.ContentLines.{EachKeeps}
use Rattle.fio_ends.proofs.Following.{GoesOn, IsNoCommand, goes_on-both, goes_on-more}
use Rattle.fio_ends.proofs.Fulls.{full_begun, full-happens, full-receives}
use Rattle.fio_ends.proofs.SeenStates.{WatchAt}
use Rattle.fio_ends.proofs.SettledAgain.{MadeThen}
use Rattle.fio_ends.proofs.Steady.{IsSteady}
use Rattle.fio_ends.proofs.Taken.{blocks_stay}
use Rattle.fio_ends.proofs.StateBlocks.{block_heard, state_walk}
use Rattle.fio_ends.proofs.StateEnds.{takes_block}
use Rattle.fio_ends.proofs.StateHeard.{state_kept}
use Rattle.fio_ends.proofs.StateRests.{KeepsRest}
use Rattle.fio_ends.proofs.ContentBegun.{begun_input}
use Rattle.fio_ends.proofs.Lives.{log_grows}
use Rattle.fio_ends.proofs.Sends.{read_back}
use Rattle.fio_ends.proofs.Shown.{KeepsShown, tells-quiet, tells-received, tells-sent, shown-quiet, shown-received, shown-sent}
use Rattle.fio_ends.proofs.Watching.{state_of}
use Rattle.fio_ends.proofs.StateKnown.{IsPending, KeepsState, StateState, state_after}

module _ (settings : Settings) (range : AreInRange settings) (first : ℕ) (begin : Machine) (above : Option ℕ) where
  abbrev begin_life : Life
  begin_life = life_of begin.history

  -- ---- the invariant

  -- the log of an earlier life is no longer
  shorter : (life now : Life) → GoesOn life now → length (log_of life) ≤ length (log_of now)
  shorter life now g = (let grown = log_grows life now g in omega (arith, ap length grown.1, length-append (log_of life) grown.0))

  still-pending : (machine : Machine) (facts : ContentFacts) (occurrence : Occurrence) → IsNoCommand occurrence → (life : Life)
      → IsPending (life_of machine.history) machine.to_module machine.last_to_module (end_at settings (life_of machine.history) machine.round) facts life
      → IsPending (occurrence ∷ life_of machine.history) machine.to_module machine.last_to_module (end_at settings (life_of machine.history) machine.round) facts life
  still-pending machine facts occurrence quiet life w = record {
    inside = w.inside;
    goes_on = goes_on-more life (life_of machine.history) occurrence w.goes_on;
    tells = λ input low un. tells-quiet input low (life_of machine.history) machine.to_module machine.last_to_module (length (log_of life)) (state_of input life) occurrence quiet
        (shorter life (life_of machine.history) w.goes_on) (w.tells input low un);
  }

  goes_on-command : (life now : Life) (command : Option Command) → GoesOn life now → GoesOn life (life_after_command command now)
  goes_on-command life now None g = g
  goes_on-command life now (Some command) g = goes_on-more life now (Commanded command) g

  -- an input of which no item was sent with a command: it has none of it
  untouched : (above : InputAbove) (item : Option InputItem) → (input_with_item (unnamed above) item).touched ≡ false → (item ≡ None) × (above.touched ≡ false)
  untouched above None un = (refl, un)
  untouched above (Some item) un = absurd (cc un)

  pub state-happens : (state : StateState) (from : Life) (machine : Machine) (facts : ContentFacts) (event : Event) → IsPastBus event → KeepsState settings begin above state from machine facts
      → KeepsState settings begin above (state_after settings state machine event) from (after settings first machine event) facts
  state-happens state from machine facts event past p =
      let now = life_of machine.history in
      let upto = end_at settings now machine.round in
      let pending = λ (occurrence : Occurrence) (none : IsNoCommand occurrence) (seen : Seen) (is : facts.seen ≡ Some seen). still-pending machine facts occurrence none (p.seen seen is).life (p.pending seen is) in
      let shown = λ (occurrence : Occurrence) (none : IsNoCommand occurrence) (input : ℕ) (low : input < 64).
      shown-quiet input low now machine.to_module machine.last_to_module upto (facts.inputs input) occurrence none (ends_within settings now machine.round) (p.shown input low) in
      past_cases (λ event. KeepsState settings begin above (state_after settings state machine event) from (after settings first machine event) facts)
      (λ raw. record {
        full = full-happens settings range first begin above machine facts (events.Scan raw) tt p.full;
        watch = watch-happens settings range first begin machine facts (events.Scan raw) tt p.watch;
        seen_timely = p.seen_timely;
        below = p.below;
        recorded = p.recorded;
        seen = p.seen;
        pending = pending (Scanned raw) tt;
        shown = shown (Scanned raw) tt;
      })
      (record {
        full = full-happens settings range first begin above machine facts events.LineSync tt p.full;
        watch = watch-happens settings range first begin machine facts events.LineSync tt p.watch;
        seen_timely = p.seen_timely;
        below = p.below;
        recorded = p.recorded;
        seen = p.seen;
        pending = pending LineSynced tt;
        shown = shown LineSynced tt;
      })
      (λ mask. record {
        full = full-happens settings range first begin above machine facts (events.Raise mask) tt p.full;
        watch = watch-happens settings range first begin machine facts (events.Raise mask) tt p.watch;
        seen_timely = p.seen_timely;
        below = p.below;
        recorded = p.recorded;
        seen = p.seen;
        pending = pending (Raised mask) tt;
        shown = shown (Raised mask) tt;
      }) event past

  -- ---- a command is sent

  sent_seen : (state : StateState) (machine : Machine) (event : Event) (command : Command) → IsSending first machine event command
      → (state_after settings state machine event).seen ≡ state.seen
  sent_seen state machine event command may = grind arith

  watch_items : (life : Life) (upto input : ℕ) (clear hidden ignoring : Bool) (watched : Option Bool) → WatchAt life upto input clear hidden watched
      → WatchAt life upto input clear (ignoring || hidden) (if ignoring then None else watched)
  watch_items life upto input clear hidden true watched w = record { open_ones = λ is none. absurd (cc none); watched_ones = λ level is. absurd (cc is) }
  watch_items life upto input clear hidden false watched w = w

  watch_item : (life : Life) (upto input : ℕ) (clear : Bool) (above : InputAbove) (item : Option InputItem) → WatchAt life upto input clear above.hidden (steady_state above.watched)
      → WatchAt life upto input clear (input_with_item (unnamed above) item).hidden (steady_state (input_with_item (unnamed above) item).watched)
  watch_item life upto input clear above item w =
      let below = watch_items life upto input clear above.hidden (ignores item) (steady_state above.watched) w in
      record { open_ones = λ is none. below.open_ones is (sym (item_parts above item).hidden ∙ none); watched_ones = λ level is. below.watched_ones level (still_steady above item level is) }

  pub state-sends : (state : StateState) (from : Life) (machine : Machine) (facts : ContentFacts) (event : Event) (command : Command) → IsKnown settings first begin from machine
      → IsSending first machine event command → IsCommand command → KeepsState settings begin above state from machine facts
      → KeepsState settings begin above (state_after settings state machine event) (life_of machine.history) (after_sending machine command) (content_step facts (Sent command))
  state-sends state from machine facts event command known may within p = record {
    full = p.full;
    seen_timely = p.seen_timely;
    below = p.below;
    watch = λ input low. (let k = watch-sends settings range first begin machine facts command within p.watch input low in record { open_ones = k.open_ones; watched_ones = k.watched_ones });
    recorded = ends_within settings (life_of machine.history) machine.round;
    seen = λ seen is.
        (let s = p.seen seen is in
        record {
          life = s.life;
          begun = s.begun;
          goes_on = goes_on-both s.life from (life_of machine.history) s.goes_on known.now;
          stamp = s.stamp;
          levels = s.levels;
          left_is = sent_seen state machine event command may ∙ s.left_is;
          watch = λ input low. watch_item s.life (end_at settings (life_of machine.history) machine.round) input facts.clear (facts.inputs input)
              (item_for input (items_sent command)) (s.watch input low);
        });
    pending = λ seen is.
        (let w = p.pending seen is in
        record {
          inside = w.inside;
          goes_on = w.goes_on;
          tells = λ input low un.
              (let none = untouched (facts.inputs input) (item_for input (items_sent command)) un in
              tells-sent input low (life_of machine.history) machine.to_module machine.last_to_module (length (log_of (p.seen seen is).life)) (state_of input (p.seen seen is).life)
              (record { octets = command_octets command; round = machine.round }) command (read_back command within) none.0 (w.tells input low none.1));
        });
    shown = λ input low. shown-sent input low (life_of machine.history) machine.to_module machine.last_to_module (end_at settings (life_of machine.history) machine.round) (facts.inputs input)
        (record { octets = command_octets command; round = machine.round }) command (item_for input (items_sent command)) (read_back command within) refl (p.shown input low);
  }

  -- ---- the module receives a frame

  pub state-receives : (state : StateState) (from : Life) (machine : Machine) (facts : ContentFacts) (place : ℕ) (frame : SentFrame) → IsKnown settings first begin from machine
      → machine.last_to_module < place + 1 → slice_get machine.to_module place ≡ Some frame
      → KeepsState settings begin above state from machine facts
      → KeepsState settings begin above (state_after settings state machine (events.ToModule (place + 1))) from (after_delivery_to_module settings machine (place + 1) (Some frame)) facts
  state-receives state from machine facts place frame known new at p =
      let now = life_of machine.history in
      let command = command_in frame.octets in
      let k = known.is_kept in
      let few : machine.round ≤ length (blocks_in settings machine) = omega (arith, k.always.answers.behind, k.one_life.made) in
      let upto : end_at settings (life_after_command command now) machine.round ≡ end_at settings now machine.round =
      ap end_of_blocks (blocks_stay settings now command machine.round few) in
      record {
        full = full-receives settings range first begin above machine facts place frame k p.full;
        seen_timely = p.seen_timely;
        below = λ clear. (let b = p.below clear in (omega (arith, b.0, upto), b.1));
        watch = watch-receives settings range first begin machine facts place frame k new at p.watch;
        recorded = (let r = p.recorded in omega (arith, r, upto));
        seen = λ seen is.
            (let s = p.seen seen is in
            record {
              life = s.life;
              begun = s.begun;
              goes_on = s.goes_on;
              stamp = s.stamp;
              levels = s.levels;
              left_is = s.left_is;
              watch = λ input low. subst (λ n. WatchAt s.life n input facts.clear (facts.inputs input).hidden (steady_state (facts.inputs input).watched)) (sym upto) (s.watch input low);
            });
        pending = λ seen is.
            (let w = p.pending seen is in
            record {
              inside = omega (arith, upto, w.inside);
              goes_on = goes_on-command (p.seen seen is).life now command w.goes_on;
              tells = λ input low un. tells-received input low now machine.to_module machine.last_to_module (length (log_of (p.seen seen is).life)) (state_of input (p.seen seen is).life) place frame (omega arith) at (w.tells input low un);
            });
        shown = λ input low. subst (λ n. KeepsShown (life_after_command command now) machine.to_module (place + 1) n input (facts.inputs input)) (sym upto)
            (shown-received input low now machine.to_module machine.last_to_module (end_at settings now machine.round) (facts.inputs input) place frame (omega arith) at (p.shown input low));
      }

  -- the CPU takes a block
  pub state-takes : (state : StateState) (from : Life) (machine : Machine) (facts : ContentFacts) (place : ℕ) (rest : List Event) (number : ℕ) (answer : Block) (block : MadeBlock)
      → (known : IsKnown settings first begin from machine) (t : Takes settings first from machine place number answer block)
      → BlocksAreNear above (blocks_taken settings begin machine ++ block ∷ []) → StatesAreNear settings first machine state.asked state.seen (events.ToCpu (place + 1) ∷ rest)
      → IsSteady begin_life (life_of machine.history) → MadeThen settings (life_of machine.history) block facts → (facts.timely ≡ true → facts.clear ≡ true)
      → KeepsState settings begin above state from machine facts
      → EachKeeps (λ facts. KeepsRule State (without_excuse facts)) content_step facts (events_of_block answer)
      × KeepsState settings begin above (state_after settings state machine (events.ToCpu (place + 1))) (life_of machine.history) (after_taken machine place answer) (fold content_step facts (events_of_block answer))
  state-takes state from machine facts place rest number answer block known t near states steady made bright p =
      let takes = takes_block settings range first begin above state from machine place number answer block known t near steady in
      walk (λ facts. KeepsRule State (without_excuse facts)) content_step (λ facts. gap_keeps State (without_excuse facts)) settings (life_of machine.history) machine.round answer block
      (KeepsRest settings begin above state from machine block)
      (λ facts. KeepsState settings begin above (state_after settings state machine (events.ToCpu (place + 1))) (life_of machine.history) (after_taken machine place answer) facts)
      (state_walk settings range first begin above state from machine place number answer block known t near steady)
      t.made t.carried facts (state_kept settings first begin above (without_excuse facts) (block_answer answer) facts.seen)
      (block_heard settings range first begin above state from machine place number answer block known t near steady facts made bright p (λ scans is. states.0 scans block is takes))

-- what the rule reads above a log
abbrev pub state_above : StateState
state_above = record { asked = 0; seen = None }

-- at the start of both ends no states are asked for yet
pub state_begun : (settings : Settings) → KeepsState settings start (scans_above true) state_above [] start content_begun
state_begun settings = grind (arith, nat_tests, full_begun, watch_begun, begun_input)
