-- The events of a block that the CPU takes keep the rule `state`, and what is known of the states that were asked for.
use Rattle.fio_ends.proofs.Names.{◌≡◌, ◌+◌, ◌++◌, ◌≤◌, ℕ, Bool, true, false, List, [], ◌∷◌, Option, Some, None, refl, arith, if◌then◌else◌, Block, Settings, AreInRange, Life, life_of, scans_of, Transition, MadeBlock, ContentFacts, content_step, Heard, Recorded, Gap, Machine, after_taken, State, BlocksAreNear, IsNearStates, KeepsRule, Seen, block_answer, blocks_taken, is_aging, without_excuse}
use Rattle.fio_link.specs.declared.event.Event.TheVariants as events
use Rattle.fio_ends.proofs.SteadyKept.{watch_gap}
use Rattle.fio_ends.proofs.BlockPlaces.{end_at}
use Rattle.fio_ends.proofs.BlockWalk.{IsWalk}
use Rattle.fio_ends.proofs.ContentSteps.{IsKnown, Takes}
use Rattle.fio_ends.proofs.Fulls.{waits_briefly}
use Rattle.fio_ends.proofs.Shut.{silent-further}
use Rattle.fio_ends.proofs.SettledAgain.{MadeThen}
use Rattle.fio_ends.proofs.Steady.{IsSteady}
use Rattle.fio_ends.proofs.StateKnown.{KeepsState, StateState, state_after}
use Rattle.fio_ends.proofs.StateRests.{KeepsRest, seen_with}
use Rattle.fio_ends.proofs.StateEntries.{entry_step}
use Rattle.fio_ends.proofs.StateEnds.{end_keeps, ended}

module _ (settings : Settings) (range : AreInRange settings) (first : ℕ) (begin : Machine) (above : Option ℕ) where
  abbrev begin_life : Life
  begin_life = life_of begin.history

  module _ (state : StateState) (from : Life) (machine : Machine) (place number : ℕ) (answer : Block) (block : MadeBlock)
      (known : IsKnown settings first begin from machine) (t : Takes settings first from machine place number answer block)
      (blocks_near : BlocksAreNear above (blocks_taken settings begin machine ++ block ∷ [])) (steady : IsSteady begin_life (life_of machine.history)) where
    abbrev now : Life
    now = life_of machine.history

    abbrev Rest : ℕ → List Transition → ContentFacts → Type 0
    Rest = KeepsRest settings begin above state from machine block

    -- a gap mark
    gap_step : (facts : ContentFacts) → end_at settings now machine.round ≤ block.start → Rest (end_at settings now machine.round) block.transitions facts
        → Rest block.start block.transitions (content_step facts (Recorded Gap))
    gap_step facts forward q = record {
      full = q.full;
      made = q.made;
      bright = q.bright;
      below = λ clear. (let b = q.below clear in (omega (arith, b.0, forward), b.1));
      watch = λ input low. (let k = watch_gap settings range first begin from machine place number answer block known t facts forward q.watch input low in record { open_ones = k.open_ones; watched_ones = k.watched_ones });
      seen = λ seen is. absurd (cc is);
      shown = λ input low. record {
        shown = λ level is. absurd (cc is);
        unlogged = λ is. (let u = (q.shown input low).unlogged is in (u.0, silent-further now (end_at settings now machine.round) block.start input forward u.1));
      };
    }

    -- the block
    pub state_walk : IsWalk (λ facts. KeepsRule State (without_excuse facts)) content_step settings now machine.round answer block Rest
        (KeepsState settings begin above (state_after settings state machine (events.ToCpu (place + 1))) now (after_taken machine place answer))
    state_walk = record {
      gap = gap_step;
      entry = entry_step settings range first begin above state from machine place number answer block known t blocks_near steady;
      ended = λ facts q. (end_keeps settings range first begin above state from machine place number answer block known t blocks_near steady facts q facts.seen refl, ended settings range first begin above state from machine place number answer block known t blocks_near steady facts q);
    }

    -- states that are above the block's items: the block was made soon
    still_heard : (aging : Bool) (above seen : Option Seen) (states : Seen) → (if aging then None else above) ≡ Some states → (aging ≡ false) × (above ≡ Some states)
    still_heard true above seen states is = absurd (cc is)
    still_heard false above seen states is = (refl, is)

    -- the block is heard
    pub block_heard : (facts : ContentFacts) → MadeThen settings now block facts → (facts.timely ≡ true → facts.clear ≡ true) → KeepsState settings begin above state from machine facts
        → ((scans : ℕ) → state.seen ≡ Some scans → IsNearStates scans block)
        → Rest (end_at settings now machine.round) block.transitions (content_step facts (Heard (block_answer answer)))
    block_heard facts made bright p near = record {
      full = p.full;
      made = made;
      bright = bright;
      below = p.below;
      watch = p.watch;
      seen = λ seen is.
          (let still = still_heard (is_aging facts (Some answer.stamp)) facts.seen facts.seen seen is in
          let s = p.seen seen still.1 in
          let timely = p.seen_timely seen still.1 in
          let n = near (scans_of s.life) s.left_is in
          record {
            is_seen = seen_with begin_life from state.seen (end_at settings now machine.round) (end_at settings now machine.round) facts
                (content_step facts (Heard (block_answer answer))) seen s s.watch;
            brief = waits_briefly settings range first begin above from machine place number answer block known t blocks_near steady facts (p.full timely) still.0;
            timely = timely;
            pending = (let w = p.pending seen still.1 in record { inside = w.inside; goes_on = w.goes_on; tells = w.tells });
            near = n.entries;
            later = refl;
            made = n.made;
          });
      shown = λ input low. (let k = p.shown input low in record { shown = k.shown; unlogged = k.unlogged });
    }
