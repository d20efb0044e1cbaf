-- An entry of a block that the CPU takes keeps the rule `state`, and what is known of the states that were asked for.
use Rattle.fio_ends.proofs.Names.{◌≡◌, is_some_and, beq, ◌∙◌, ◌+◌, ◌++◌, [], ◌<◌, ◌≤◌, ◌&&◌, ◌||◌, ◌⊎◌, inl, inr, ℕ, Bool, true, false, not, List, ◌∷◌, length, Option, Some, None, refl, ap, sym, subst, arith, if◌then◌else◌, ◌==◌, nat_lt, nat_tests, eqb_tells, slice_get, slice_get_within, same_Some, length-append, Block, Settings, AreInRange, Life, life_of, log_of, scans_of, Transition, entry_of, MadeBlock, ContentFacts, InputAbove, option_and_then, content_step, ContentEvent, Machine, State, BlocksAreNear, KeepsRule, Seen, blocks_taken, broken_state, cases_lt, coming, if_comes, input_coming, input_with_entry, is_later, is_later_among, is_shown_otherwise, scans_within, seen_below, steady_state, watched_now, without_excuse, wide_time_of, is_set}
use Rattle.fio_ends.proofs.SteadyKept.{steady_now, watch_entry}
use Rattle.fio_ends.proofs.BlockWalk.{entry_event}
use Rattle.fio_ends.proofs.Clocks.{clock, later_clock, offset_of}
use Rattle.fio_ends.proofs.ContentSteps.{IsKnown, Takes}
use Rattle.fio_ends.proofs.BlockTimes.{entry_time, made_with_entry}
use Rattle.fio_ends.proofs.Following.{GoesOn, goes_on-both}
use Rattle.fio_ends.proofs.Lives.{log_grows}
use Rattle.fio_ends.proofs.SeenStates.{WatchAt, watch_another, watch_own}
use Rattle.fio_ends.proofs.Steady.{IsSteady}
use Rattle.fio_ends.proofs.StateKnown.{IsSeen, StateState}
use Rattle.fio_ends.proofs.StateRule.{keeps_state, not_later, states_bit}
use Rattle.fio_ends.proofs.Shown.{KeepsShown, TellsFrom, shown-comes, shown-entry, shown-other}
use Rattle.fio_ends.proofs.Watching.{input_at, or_right, state_of}
use Rattle.fio_ends.proofs.StateRests.{KeepsRest, SeenRest, logged_after, logged_in, seen_with, watched_then}

module _ (settings : Settings) (range : AreInRange settings) (first : ℕ) (begin : Machine) (above : Option ℕ) where
  abbrev begin_life : Life
  begin_life = life_of begin.history

  module _ (state : StateState) (from : Life) (machine : Machine) (place number : ℕ) (answer : Block) (block : MadeBlock)
      (known : IsKnown settings first begin from machine) (t : Takes settings first from machine place number answer block)
      (blocks_near : BlocksAreNear above (blocks_taken settings begin machine ++ block ∷ [])) (steady : IsSteady begin_life (life_of machine.history)) where
    abbrev now : Life
    now = life_of machine.history

    abbrev offset : ℕ
    offset = offset_of begin_life

    abbrev Known : ℕ → ContentFacts → Seen → Type 0
    Known = IsSeen begin_life from state.seen

    abbrev Rest : ℕ → List Transition → ContentFacts → Type 0
    Rest = KeepsRest settings begin above state from machine block

    abbrev SeenYet : ℕ → List Transition → ContentFacts → Seen → Type 0
    SeenYet = SeenRest now machine.to_module machine.last_to_module begin_life state from block

    -- the life of the states, and now
    since_states : (life : Life) → GoesOn life from → GoesOn life now
    since_states life g = goes_on-both life from now g known.now

    module _ (k : ℕ) (transition : Transition) (rest : List Transition) (facts : ContentFacts) (at : slice_get block.transitions k ≡ Some transition)
        (logged : slice_get (log_of now) (block.start + k) ≡ Some transition) (q : Rest (block.start + k) (transition ∷ rest) facts) where
      abbrev pub wide : ℕ
      wide = wide_time_of answer.stamp (entry_of transition).stamp

      abbrev pub event : ContentEvent
      event = entry_event answer.stamp transition

      -- if it comes to states above which an input is watched, it was logged later
      comes_later : (seen : Seen) (r : SeenYet (block.start + k) (transition ∷ rest) facts seen) → facts.timely ≡ true → is_later wide seen.stamp ≡ true
          → length (log_of r.is_seen.life) ≤ block.start + k
      comes_later seen r clear comes =
          let s = r.is_seen in
          elim (cases_lt (block.start + k) (length (log_of s.life))) as (λ _. length (log_of s.life) ≤ block.start + k) [
            | inl inside ↦
                let b = q.below clear in
                let time = entry_time settings first begin from machine place number answer block known t r.brief steady k (block.start + k) transition at logged b.0 b.1 in
                let there = logged_in now s.life (since_states s.life s.goes_on) (block.start + k) transition logged inside in
                let scans = scans_within s.life (block.start + k) transition there in
                let never : is_later wide seen.stamp ≡ false =
                ap (λ w. is_later w seen.stamp) time ∙ ap (is_later (clock offset transition.scans)) s.stamp ∙ not_later offset transition.scans (scans_of s.life) scans r.near.0.after in
                absurd (cc (never, comes))
            | inr later ↦ later
          ]

      -- one that was logged later comes to them
      later_comes : (seen : Seen) (r : SeenYet (block.start + k) (transition ∷ rest) facts seen) → length (log_of r.is_seen.life) ≤ block.start + k
          → is_later wide seen.stamp ≡ true
      later_comes seen r later =
          let s = r.is_seen in
          let scans = logged_after now s.life (since_states s.life s.goes_on) (block.start + k) transition logged later in
          let grown = log_grows begin_life s.life s.begun in
          let low : length (log_of begin_life) ≤ block.start + k = omega (arith, later, ap length grown.1, length-append (log_of begin_life) grown.0) in
          let few = made_with_entry settings first begin from machine place number answer block known t k (slice_get_within block.transitions k transition at) low in
          let time = entry_time settings first begin from machine place number answer block known t r.brief steady k (block.start + k) transition at logged low few in
          ap (λ w. is_later w seen.stamp) time ∙ ap (is_later (clock offset transition.scans)) s.stamp ∙ later_clock offset (scans_of s.life) transition.scans scans r.near.0.before

      entry_keeps : (seen : Option Seen) → facts.seen ≡ seen → broken_state (without_excuse facts) event seen ≡ None
      entry_keeps None is = refl
      entry_keeps (Some seen) is = keeps_state (without_excuse facts) event seen (λ comes input level low watched.
          (let r = q.seen seen is in
          watched_then begin_life from state.seen (block.start + k) facts seen r.is_seen input level low (comes_later seen r r.timely comes) watched))

      touched_by : (own : Bool) (above : InputAbove) → (if own then input_with_entry facts transition.level wide above else above).touched ≡ above.touched
      touched_by true above = refl
      touched_by false above = refl

      -- what the states say of an input, if the record comes to them with the entry, and if not
      shown_here : (above : Option Seen) → facts.seen ≡ above → (input : ℕ) → input < 64
          → KeepsShown now machine.to_module machine.last_to_module (block.start + k) input (input_coming input (option_and_then (if_comes event) above) (facts.inputs input))
      shown_here None is input low = (let k = q.shown input low in record { shown = k.shown; unlogged = k.unlogged })
      shown_here (Some seen) is input low = by (is_later wide seen.stamp) refl
        where
          by : (comes : Bool) → is_later wide seen.stamp ≡ comes
              → KeepsShown now machine.to_module machine.last_to_module (block.start + k) input (input_coming input (if comes then Some seen else None) (facts.inputs input))
          by false comes = (let k = q.shown input low in record { shown = k.shown; unlogged = k.unlogged })
          by true comes =
              let r = q.seen seen is in
              let later = comes_later seen r r.timely comes in
              let inside = r.pending.inside in
              let here : length (log_of r.is_seen.life) ≡ block.start + k = omega (arith, later, inside) in
              let level : state_of input r.is_seen.life ≡ is_set seen.levels input = sym (states_bit r.is_seen.life input low) ∙ ap (λ levels. is_set levels input) (sym r.is_seen.levels) in
              shown-comes input low now machine.to_module machine.last_to_module (block.start + k) (facts.inputs input) seen
              (λ un. subst (TellsFrom now machine.to_module machine.last_to_module (block.start + k) input) level
              (subst (λ n. TellsFrom now machine.to_module machine.last_to_module n input (state_of input r.is_seen.life)) here (r.pending.tells input low un)))
              (q.shown input low)

      shown_now : (input : ℕ) → input < 64
          → KeepsShown now machine.to_module machine.last_to_module (block.start + k) input (input_coming input (coming facts event) (facts.inputs input))
      shown_now = shown_here facts.seen refl

      shown_rule : is_shown_otherwise transition.level (input_coming transition.input (coming facts event) (facts.inputs transition.input)) ≡ false
      shown_rule =
          let low = input_at now (block.start + k) transition logged in
          shown-entry transition.input low now machine.to_module machine.last_to_module (block.start + k) _ transition logged refl (shown_now transition.input low)

      -- below the entry
      shown_next : (input : ℕ) → input < 64 → KeepsShown now machine.to_module machine.last_to_module ((block.start + k) + 1) input ((content_step facts event).inputs input)
      shown_next input low = by (eqb_tells input transition.input)
        where
          own : transition.input ≡ input → KeepsShown now machine.to_module machine.last_to_module ((block.start + k) + 1) input (input_with_entry facts transition.level wide (input_coming input (coming facts event) (facts.inputs input)))
          own same = record {
            shown = λ level is. absurd (cc is);
            unlogged = λ is.
                (let none = shown-entry input low now machine.to_module machine.last_to_module (block.start + k) (input_coming input (coming facts event) (facts.inputs input)) transition logged same (shown_now input low) in
                let above = input_coming input (coming facts event) (facts.inputs input) in
                absurd (cc (or_right (is_some_and above.shown (beq transition.level)) above.unlogged none, is)));
          }

          by : (((input == transition.input) ≡ true) × (input ≡ transition.input)) ⊎ (((input == transition.input) ≡ false) × (input ≡ transition.input → ⊥))
              → KeepsShown now machine.to_module machine.last_to_module ((block.start + k) + 1) input ((content_step facts event).inputs input)
          by (inl same) =
              let met : (input == transition.input && nat_lt input 64) ≡ true = (let s : input ≡ transition.input = same.1 in grind (arith, nat_tests)) in
              subst (λ b. KeepsShown now machine.to_module machine.last_to_module ((block.start + k) + 1) input (if b then input_with_entry facts transition.level wide (input_coming input (coming facts event) (facts.inputs input)) else input_coming input (coming facts event) (facts.inputs input))) (sym met)
              (own (sym same.1))
          by (inr apart) =
              let met : (input == transition.input && nat_lt input 64) ≡ false = ap (λ b. b && nat_lt input 64) apart.0 in
              subst (λ b. KeepsShown now machine.to_module machine.last_to_module ((block.start + k) + 1) input (if b then input_with_entry facts transition.level wide (input_coming input (coming facts event) (facts.inputs input)) else input_coming input (coming facts event) (facts.inputs input))) (sym met)
              (shown-other input low now machine.to_module machine.last_to_module (block.start + k) _ transition logged (λ is. apart.1 (sym is)) (shown_now input low))

      -- the states are still above the next entry
      seen_next : (seen : Seen) → SeenYet (block.start + k) (transition ∷ rest) facts seen → is_later wide seen.stamp ≡ false
          → SeenYet (block.start + (k + 1)) rest (content_step facts event) seen
      seen_next seen r still =
          let s = r.is_seen in
          let inside : block.start + k < length (log_of s.life) =
          elim (cases_lt (block.start + k) (length (log_of s.life))) as (λ _. block.start + k < length (log_of s.life)) [
            | inl inside ↦ inside
            | inr later ↦ (let comes = later_comes seen r later in absurd (cc (comes, still)))
          ] in
          let there = logged_in now s.life (since_states s.life s.goes_on) (block.start + k) transition logged inside in
          let scans = scans_within s.life (block.start + k) transition there in
          record {
            is_seen = seen_with begin_life from state.seen (block.start + k) (block.start + (k + 1)) facts (content_step facts event) seen s
                (λ input low.
                (let next_place : (block.start + k) + 1 ≡ block.start + (k + 1) = omega arith in
                subst (λ n. WatchAt s.life n input facts.clear ((content_step facts event).inputs input).hidden (steady_state ((content_step facts event).inputs input).watched)) next_place
                (by s.life there input (s.watch input low) (eqb_tells input transition.input) low)));
            brief = r.brief;
            timely = r.timely;
            pending = record {
              inside = omega (arith, inside);
              goes_on = r.pending.goes_on;
              tells = λ input low un. r.pending.tells input low (sym (touched_by (input == transition.input && nat_lt input 64) (input_coming input (coming facts event) (facts.inputs input))) ∙ un);
            };
            near = r.near.1 scans;
            later = ap (λ b. b || is_later_among (scans_of s.life) rest) (sym (no-less (scans_of s.life) transition.scans scans)) ∙ r.later;
            made = r.made;
          }
        where
          no-less : (n m : ℕ) → m ≤ n → nat_lt n m ≡ false
          no-less n m less = grind (arith, nat_tests)

          steady_own : (life : Life) (upto input : ℕ) (clear : Bool) → WatchAt life upto input clear (facts.inputs input).hidden (if clear && not (facts.inputs input).hidden then Some transition.level else None)
              → WatchAt life upto input clear (facts.inputs input).hidden (steady_state (watched_now clear transition.level (facts.inputs input)))
          steady_own life upto input clear w = record {
            open_ones = w.open_ones;
            watched_ones = λ level is. w.watched_ones level (steady_now clear transition.level level (facts.inputs input) is);
          }

          by : (life : Life) → slice_get (log_of life) (block.start + k) ≡ Some transition → (input : ℕ)
              → WatchAt life (block.start + k) input facts.clear (facts.inputs input).hidden (steady_state (facts.inputs input).watched)
              → (((input == transition.input) ≡ true) × (input ≡ transition.input)) ⊎ (((input == transition.input) ≡ false) × (input ≡ transition.input → ⊥)) → input < 64
              → WatchAt life ((block.start + k) + 1) input facts.clear
              (if input == transition.input && nat_lt input 64 then input_with_entry facts transition.level wide (input_coming input (coming facts event) (facts.inputs input)) else input_coming input (coming facts event) (facts.inputs input)).hidden
              (steady_state (if input == transition.input && nat_lt input 64 then input_with_entry facts transition.level wide (input_coming input (coming facts event) (facts.inputs input)) else input_coming input (coming facts event) (facts.inputs input)).watched)
          by life there input w (inl same) low =
              let met : (input == transition.input && nat_lt input 64) ≡ true = (let s : input ≡ transition.input = same.1 in grind (arith, nat_tests)) in
              subst (λ b. WatchAt life ((block.start + k) + 1) input facts.clear
              (if b then input_with_entry facts transition.level wide (input_coming input (coming facts event) (facts.inputs input)) else input_coming input (coming facts event) (facts.inputs input)).hidden
              (steady_state (if b then input_with_entry facts transition.level wide (input_coming input (coming facts event) (facts.inputs input)) else input_coming input (coming facts event) (facts.inputs input)).watched)) (sym met)
              (steady_own life ((block.start + k) + 1) input facts.clear
              (watch_own life (block.start + k) input transition facts.clear (facts.inputs input).hidden (steady_state (facts.inputs input).watched) there (sym same.1) w))
          by life there input w (inr apart) low =
              let met : (input == transition.input && nat_lt input 64) ≡ false = ap (λ b. b && nat_lt input 64) apart.0 in
              subst (λ b. WatchAt life ((block.start + k) + 1) input facts.clear
              (if b then input_with_entry facts transition.level wide (input_coming input (coming facts event) (facts.inputs input)) else input_coming input (coming facts event) (facts.inputs input)).hidden
              (steady_state (if b then input_with_entry facts transition.level wide (input_coming input (coming facts event) (facts.inputs input)) else input_coming input (coming facts event) (facts.inputs input)).watched)) (sym met)
              (watch_another life (block.start + k) input transition facts.clear (facts.inputs input).hidden (steady_state (facts.inputs input).watched) there (λ is. apart.1 (sym is)) w)

      still_seen : (above : Option Seen) → facts.seen ≡ above → (seen : Seen) → seen_below event above ≡ Some seen → SeenYet (block.start + (k + 1)) rest (content_step facts event) seen
      still_seen None is seen still = absurd (cc still)
      still_seen (Some above) is seen still = by (is_later wide above.stamp) refl still
        where
          by : (later : Bool) → is_later wide above.stamp ≡ later → (if later then None else Some above) ≡ Some seen → SeenYet (block.start + (k + 1)) rest (content_step facts event) seen
          by true later still = absurd (cc still)
          by false later still =
              let same : above ≡ seen = same_Some _ _ still in
              subst (SeenYet (block.start + (k + 1)) rest (content_step facts event)) same (seen_next above (q.seen above is) later)

      pub entry_step : KeepsRule State (without_excuse facts) event × Rest (block.start + (k + 1)) rest (content_step facts event)
      entry_step = (
        (entry_keeps facts.seen refl, shown_rule),
        record {
          full = q.full;
          made = q.made;
          bright = q.bright;
          below = λ clear. (let b = q.below clear in (omega (arith, b.0), b.1));
          watch = λ input low. (let k = watch_entry settings range first begin from machine place number answer block known t k transition rest facts at logged q.watch input low in record { open_ones = k.open_ones; watched_ones = k.watched_ones });
          seen = λ seen still. still_seen facts.seen refl seen still;
          shown = (let next_place : (block.start + k) + 1 ≡ block.start + (k + 1) = omega arith in
              λ input low. subst (λ n. KeepsShown now machine.to_module machine.last_to_module n input ((content_step facts event).inputs input)) next_place (shown_next input low));
        },
      )
