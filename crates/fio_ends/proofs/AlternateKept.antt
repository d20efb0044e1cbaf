-- The rule `alternate` never accuses: an entry that is watched is a change from the state of the latest one of its input.
use Rattle.fio_ends.proofs.Names.{◌≡◌, ◌≢◌, ◌∙◌, ◌+◌, ◌<◌, ◌≤◌, ◌&&◌, ◌||◌, inl, inr, ℕ, Bool, true, false, not, List, [], ◌∷◌, ◌++◌, length, Option, Some, None, option_map, option_and_then, refl, ap, sym, subst, arith, if◌then◌else◌, ◌==◌, beq, slice_get, eqb_tells, nat_lt, nat_tests, is_some_and, same_Some, Command, Block, InputItem, command_in, command_octets, IsCommand, says_again, says_more, Settings, AreInRange, Life, Occurrence, Scanned, LineSynced, Raised, life_of, life_after_command, log_of, Transition, entry_of, MadeBlock, blocks_in, ContentFacts, InputAbove, content_with, Ended, Recorded, Sent, Gap, Event, SentFrame, Machine, start, after, after_sending, after_delivery_to_module, after_taken, Alternate, IsKept, Always, KeepsRule, WatchedState, block_answer, coming, content_begun, end_of_blocks, ignores, input_below_clear, input_coming, input_ended, input_with_entry, input_with_item, item_for, items_sent, opens, settled_now, unnamed, wide_time_of, shaded, unless_shaded, ContentNeverAccuses}
use Rattle.fio_message.specs.declared.commands.Command.TheVariants as commands
use Rattle.fio_ends.proofs.BlockPlaces.{end_at, ends_within, is_next}
use Rattle.fio_ends.proofs.BlockWalk.{IsWalk, entry_event, gap_keeps, walk}
use Rattle.fio_ends.proofs.ContentBegun.{begun_input}
use Rattle.fio_ends.proofs.ContentSteps.{IsInvariant, IsKnown, IsPastBus, Takes, past_cases}
use Rattle.fio_ends.proofs.ContentFrame.{heard_keeps}
use Rattle.fio_ends.proofs.ContentHeld.{content_never_accuses}
use Rattle.fio_ends.proofs.Following.{IsNoCommand}
use Rattle.fio_ends.proofs.Reopening.{IsFollowed, MayBeFollowed, followed-entry, followed-open, followed-other, followed-quiet, followed-received, followed-shut, may_be-entry, may_be-further, may_be-now, may_be-open, may_be-quiet, may_be-received, may_be-shut}
use Rattle.fio_ends.proofs.Sends.{read_back}
use Rattle.fio_ends.proofs.Shut.{KeepsShutBy}
use Rattle.fio_ends.proofs.SettledAgain.{MadeThen, made_then, settles_open}
use Rattle.fio_ends.proofs.SteadyKept.{NoneIgnores, again_open, clear_open, watched_below}
use Rattle.fio_ends.proofs.Taken.{blocks_stay}
use Rattle.fio_ends.proofs.Watching.{KeepsOpen, NoneHidden, input_at, none_hidden-now}

-- what is known of the changes of an input that are still to be recorded, by what is known of content
pub record KeepsFollowed (life : Life) (frames : List SentFrame) (last upto input : ℕ) (clear : Bool) (above : InputAbove) : Type 0 where
  pub open_ones : clear ≡ true → above.reopened ≡ false → MayBeFollowed life frames last upto input above.hidden
  pub watched_ones : (watched : WatchedState) → above.watched ≡ Some watched → IsFollowed life frames last upto input watched.shaded watched.level

-- the same of each input of a machine
abbrev pub FollowHolds : Settings → Machine → ContentFacts → Type 0
FollowHolds settings machine facts =
    (input : ℕ) → input < 64
    → KeepsFollowed (life_of machine.history) machine.to_module machine.last_to_module (end_at settings (life_of machine.history) machine.round) input facts.clear (facts.inputs input)

-- ---- a command is sent

module _ (life : Life) (frames : List SentFrame) (last upto input : ℕ) (clear : Bool) (f : SentFrame) (command : Command) (reads : command_in f.octets ≡ Some command) where
  keeps_open : ignores (item_for input (items_sent command)) ≡ false → KeepsOpen input (command_in f.octets)
  keeps_open none items spells =
      let same : command ≡ commands.ConfigureInputs items = same_Some _ _ (sym reads ∙ spells) in
      ap (λ c. ignores (item_for input (items_sent c))) (sym same) ∙ none

  keeps_shut : opens (item_for input (items_sent command)) ≡ false → KeepsShutBy input (command_in f.octets)
  keeps_shut none items spells =
      let same : command ≡ commands.ConfigureInputs items = same_Some _ _ (sym reads ∙ spells) in
      ap (λ c. opens (item_for input (items_sent c))) (sym same) ∙ none

  -- an item that ignores the input
  ignore-sent : (above : InputAbove) (item : InputItem) → item.ignore ≡ true → item_for input (items_sent command) ≡ Some item
      → KeepsFollowed life frames last upto input clear above → KeepsFollowed life (frames ++ f ∷ []) last upto input clear (input_with_item (unnamed above) (Some item))
  ignore-sent above item ignored is k = rw ignored (record {
    open_ones = λ on none. may_be-shut life frames last upto input f this above.hidden true (λ no. absurd (cc no)) (λ on. refl) (k.open_ones on none);
    watched_ones = λ watched at. by above.watched refl watched at;
  })
    where
      this : KeepsShutBy input (command_in f.octets)
      this = keeps_shut (ap opens is ∙ ap not ignored)

      by : (before : Option WatchedState) → above.watched ≡ before → (watched : WatchedState) → option_map shaded before ≡ Some watched
          → IsFollowed life (frames ++ f ∷ []) last upto input watched.shaded watched.level
      by None same watched at = absurd (cc at)
      by (Some state) same watched at =
          subst (λ (w : WatchedState). IsFollowed life (frames ++ f ∷ []) last upto input w.shaded w.level) (same_Some _ _ at)
          (followed-shut life frames last upto input f this state.shaded true (λ no. absurd (cc no)) (λ on. refl) state.level (k.watched_ones state same))

  -- an item that opens it
  open-sent : (above : InputAbove) (item : InputItem) → item.ignore ≡ false → item_for input (items_sent command) ≡ Some item
      → KeepsFollowed life frames last upto input clear above → KeepsFollowed life (frames ++ f ∷ []) last upto input clear (input_with_item (unnamed above) (Some item))
  open-sent above item opened is k = rw opened (record {
    open_ones = λ on none. by-hidden above.hidden refl on none;
    watched_ones = λ watched at. by above.watched refl watched at;
  })
    where
      this : KeepsOpen input (command_in f.octets)
      this = keeps_open (ap ignores is ∙ opened)

      by-hidden : (hidden : Bool) → above.hidden ≡ hidden → clear ≡ true → (hidden || above.reopened) ≡ false → MayBeFollowed life (frames ++ f ∷ []) last upto input hidden
      by-hidden true at on none = absurd (cc none)
      by-hidden false at on none = may_be-open life frames last upto input f this (subst (MayBeFollowed life frames last upto input) at (k.open_ones on none))

      by-shade : (state : WatchedState) → above.watched ≡ Some state → (shade : Bool) → state.shaded ≡ shade → (watched : WatchedState)
          → (if shade then None else Some state) ≡ Some watched → IsFollowed life (frames ++ f ∷ []) last upto input watched.shaded watched.level
      by-shade state same true shade watched at = absurd (cc at)
      by-shade state same false shade watched at =
          subst (λ (w : WatchedState). IsFollowed life (frames ++ f ∷ []) last upto input w.shaded w.level) (same_Some _ _ at)
          (subst (λ s. IsFollowed life (frames ++ f ∷ []) last upto input s state.level) (sym shade)
          (followed-open life frames last upto input f this state.level (subst (λ s. IsFollowed life frames last upto input s state.level) shade (k.watched_ones state same))))

      by : (before : Option WatchedState) → above.watched ≡ before → (watched : WatchedState) → option_and_then unless_shaded before ≡ Some watched
          → IsFollowed life (frames ++ f ∷ []) last upto input watched.shaded watched.level
      by None same watched at = absurd (cc at)
      by (Some state) same watched at = by-shade state same state.shaded refl watched at

  pub item-sent : (above : InputAbove) (item : Option InputItem) → item_for input (items_sent command) ≡ item
      → KeepsFollowed life frames last upto input clear above → KeepsFollowed life (frames ++ f ∷ []) last upto input clear (input_with_item (unnamed above) item)
  item-sent above None is k =
      let shut = keeps_shut (ap opens is) in
      let opened = keeps_open (ap ignores is) in
      record {
        open_ones = λ on none. may_be-shut life frames last upto input f shut above.hidden above.hidden (λ no. (no, opened)) (λ on. on) (k.open_ones on none);
        watched_ones = λ watched at.
            followed-shut life frames last upto input f shut watched.shaded watched.shaded (λ no. (no, opened)) (λ on. on) watched.level (k.watched_ones watched at);
      }
  item-sent above (Some item) is k = by item.ignore refl
    where
      by : (ignore : Bool) → item.ignore ≡ ignore → KeepsFollowed life (frames ++ f ∷ []) last upto input clear (input_with_item (unnamed above) (Some item))
      by true ignored = ignore-sent above item ignored is k
      by false opened = open-sent above item opened is k

-- ---- the CPU takes a block

-- an entry of an input, or of another
module _ (life : Life) (frames : List SentFrame) (last upto : ℕ) (transition : Transition) (at : slice_get (log_of life) upto ≡ Some transition) where
  entry-own : (input : ℕ) (facts : ContentFacts) (wide : ℕ) (above : InputAbove) → transition.input ≡ input → KeepsFollowed life frames last upto input facts.clear above
      → KeepsFollowed life frames last (upto + 1) input facts.clear (input_with_entry facts transition.level wide above)
  entry-own input facts wide above same k = record {
    open_ones = λ on none. inl (transition.level, may_be-entry life frames last upto input transition at above.hidden same (k.open_ones on none));
    watched_ones = λ watched now. by facts.clear refl above.reopened refl watched now;
  }
    where
      by : (clear : Bool) → facts.clear ≡ clear → (reopened : Bool) → above.reopened ≡ reopened → (watched : WatchedState)
          → (if clear && not reopened then Some (record { level = transition.level; shaded = above.hidden }) else None) ≡ Some watched
          → IsFollowed life frames last (upto + 1) input watched.shaded watched.level
      by false on reopened none watched now = absurd (cc now)
      by true on true none watched now = absurd (cc now)
      by true on false none watched now =
          subst (λ (w : WatchedState). IsFollowed life frames last (upto + 1) input w.shaded w.level) (same_Some _ _ now)
          (may_be-entry life frames last upto input transition at above.hidden same (k.open_ones on none))

  entry-other : (input : ℕ) (clear : Bool) (above : InputAbove) → transition.input ≢ input → KeepsFollowed life frames last upto input clear above
      → KeepsFollowed life frames last (upto + 1) input clear above
  entry-other input clear above apart k = record {
    open_ones = λ on none. may_be-further life frames last upto (upto + 1) input above.hidden (omega arith) (k.open_ones on none);
    watched_ones = λ watched is. followed-other life frames last upto input transition at watched.shaded watched.level apart (k.watched_ones watched is);
  }

differs : (level : Bool) (before : Bool) → level ≡ not before → beq level before ≡ false
differs level before is = grind arith

none_same : (level : Bool) (watched : Option WatchedState) → ((before : WatchedState) → watched ≡ Some before → level ≡ not before.level)
    → is_some_and watched (λ before. beq level before.level) ≡ false
none_same level None changed = refl
none_same level (Some before) changed = differs level before.level (changed before refl)

module _ (settings : Settings) (range : AreInRange settings) (first : ℕ) (begin : Machine) where
  module _ (from : Life) (machine : Machine) (place number : ℕ) (answer : Block) (block : MadeBlock)
      (known : IsKnown settings first begin from machine) (t : Takes settings first from machine place number answer block) where
    abbrev now : Life
    now = life_of machine.history

    -- what is kept between the entries
    abbrev pub Follow : ℕ → List Transition → ContentFacts → Type 0
    Follow upto rest facts = (input : ℕ) → input < 64 → KeepsFollowed now machine.to_module machine.last_to_module upto input facts.clear (facts.inputs input)

    follow_gap : (facts : ContentFacts) → end_at settings now machine.round ≤ block.start → Follow (end_at settings now machine.round) block.transitions facts
        → Follow block.start block.transitions (content_with facts (Recorded Gap))
    follow_gap facts forward q = λ input low.
        (let k = q input low in
        record {
          open_ones = λ on none. may_be-further now machine.to_module machine.last_to_module (end_at settings now machine.round) block.start input (facts.inputs input).hidden forward (k.open_ones on none);
          watched_ones = λ watched is. absurd (cc is);
        })

    follow_entry : (k : ℕ) (transition : Transition) (rest : List Transition) (facts : ContentFacts) → slice_get block.transitions k ≡ Some transition
        → slice_get (log_of now) (block.start + k) ≡ Some transition → Follow (block.start + k) (transition ∷ rest) facts
        → KeepsRule Alternate facts (entry_event answer.stamp transition)
        × Follow (block.start + (k + 1)) rest (content_with facts (entry_event answer.stamp transition))
    follow_entry k transition rest facts at logged q =
        let input_low : transition.input < 64 = input_at now (block.start + k) transition logged in
        let wide = wide_time_of answer.stamp (entry_of transition).stamp in (
          none_same transition.level (facts.inputs transition.input).watched
              (λ before is. (followed-entry now machine.to_module machine.last_to_module (block.start + k) transition.input transition logged before.shaded before.level refl
              ((q transition.input input_low).watched_ones before is)).0),
          λ input low.
              (let next_place : (block.start + k) + 1 ≡ block.start + (k + 1) = omega arith in
              let above = input_coming input (coming facts (entry_event answer.stamp transition)) (facts.inputs input) in
              let new = input_with_entry facts transition.level wide above in
              let k : KeepsFollowed now machine.to_module machine.last_to_module (block.start + (k + 1)) input facts.clear (if (input == transition.input) && nat_lt input 64 then new else above) =
              subst (λ upto. KeepsFollowed now machine.to_module machine.last_to_module upto input facts.clear (if (input == transition.input) && nat_lt input 64 then new else above)) next_place
              (elim (eqb_tells input transition.input) as (λ _. KeepsFollowed now machine.to_module machine.last_to_module ((block.start + k) + 1) input facts.clear
              (if (input == transition.input) && nat_lt input 64 then new else above)) [
                | inl same ↦
                    let met : ((input == transition.input) && nat_lt input 64) ≡ true = (let s : input ≡ transition.input = same.1 in grind (arith, nat_tests)) in
                    subst (λ b. KeepsFollowed now machine.to_module machine.last_to_module ((block.start + k) + 1) input facts.clear (if b then new else above)) (sym met)
                    (entry-own now machine.to_module machine.last_to_module (block.start + k) transition logged input facts wide above (sym same.1) (record { open_ones = (q input low).open_ones; watched_ones = (q input low).watched_ones }))
                | inr apart ↦
                    let met : ((input == transition.input) && nat_lt input 64) ≡ false = ap (λ b. b && nat_lt input 64) apart.0 in
                    subst (λ b. KeepsFollowed now machine.to_module machine.last_to_module ((block.start + k) + 1) input facts.clear (if b then new else above)) (sym met)
                    (entry-other now machine.to_module machine.last_to_module (block.start + k) transition logged input facts.clear above (λ is. apart.1 (sym is)) (record { open_ones = (q input low).open_ones; watched_ones = (q input low).watched_ones }))
              ]) in
              record { open_ones = k.open_ones; watched_ones = k.watched_ones }),
        )

    follow_settled : (input : ℕ) (settling : Bool) (clear : Bool) (above : InputAbove)
        → (settling ≡ true → NoneIgnores machine.to_module machine.last_to_module input × NoneHidden now block.end input)
        → KeepsFollowed now machine.to_module machine.last_to_module block.end input clear above
        → KeepsFollowed now machine.to_module machine.last_to_module block.end input clear (input_ended settling above)
    follow_settled input true clear above opens k = record {
      open_ones = λ on none. (let o = opens refl in may_be-now now machine.to_module machine.last_to_module block.end input (input_below_clear above (settled_now above)).hidden o.0 o.1);
      watched_ones = λ watched is. k.watched_ones watched (sym (watched_below above (settled_now above)) ∙ is);
    }
    follow_settled input false clear above opens k = k

    follow_ended : (facts : ContentFacts) → MadeThen settings now block facts → (more again : Bool) → says_more answer.status ≡ more → says_again answer.status ≡ again
        → Follow block.end [] facts → Follow block.end [] (content_with facts (Ended answer.status answer.stamp))
    follow_ended facts made true again more_is again_is q = rw more_is (λ input low. record { open_ones = (q input low).open_ones; watched_ones = (q input low).watched_ones })
    follow_ended facts made false true more_is again_is q = rw (more_is, again_is) (λ input low.
        (let k = follow_settled input (facts.clear && not (facts.since_poll input)) facts.clear (input_coming input (coming facts (Ended answer.status answer.stamp)) (facts.inputs input))
        (λ is. (let s = settles_open facts.clear (facts.since_poll input) is in
        again_open settings range first begin from machine place number answer block known t input low facts.since_poll (made s.0) s.1 (sym t.carried.more ∙ more_is)))
        (record { open_ones = (q input low).open_ones; watched_ones = (q input low).watched_ones }) in
        record { open_ones = k.open_ones; watched_ones = k.watched_ones }))
    follow_ended facts made false false more_is again_is q = rw (more_is, again_is) (λ input low.
        (let above = input_coming input (coming facts (Ended answer.status answer.stamp)) (facts.inputs input) in
        let item = settled_now above in
        let k = q input low in
        let opened = clear_open settings range first begin from machine place number answer block known t input low (sym t.carried.more ∙ more_is) again_is in
        record {
          open_ones = λ on none. may_be-now now machine.to_module machine.last_to_module block.end input (input_below_clear above item).hidden opened.0 opened.1;
          watched_ones = λ watched is. k.watched_ones watched (sym (watched_below above item) ∙ is);
        }))

    -- and what is known of when the block was made
    abbrev pub FollowMade : ℕ → List Transition → ContentFacts → Type 0
    FollowMade upto rest facts = Follow upto rest facts × MadeThen settings now block facts

    follow_walk : IsWalk (KeepsRule Alternate) content_with settings now machine.round answer block FollowMade (FollowHolds settings (after_taken machine place answer))
    follow_walk = record {
      gap = λ facts forward q. (follow_gap facts forward q.0, q.1);
      entry = λ k transition rest facts at logged q. (let e = follow_entry k transition rest facts at logged q.0 in (e.0, (e.1, q.1)));
      ended = λ facts q. (
        tt,
        (let upto = (is_next settings now machine.round block t.made).ends in
            subst (λ n. (input : ℕ) → input < 64 → KeepsFollowed now machine.to_module machine.last_to_module n input (content_with facts (Ended answer.status answer.stamp)).clear
            ((content_with facts (Ended answer.status answer.stamp)).inputs input)) upto
            (follow_ended facts q.1 (says_more answer.status) (says_again answer.status) refl refl q.0)),
      );
    }

  -- ---- the invariant

  quiet : (machine : Machine) (facts : ContentFacts) (occurrence : Occurrence) → IsNoCommand occurrence → FollowHolds settings machine facts → (input : ℕ) → input < 64
      → KeepsFollowed (occurrence ∷ life_of machine.history) machine.to_module machine.last_to_module (end_at settings (life_of machine.history) machine.round) input facts.clear (facts.inputs input)
  quiet machine facts occurrence silent p input low =
      let now = life_of machine.history in
      let upto = end_at settings now machine.round in
      let within = ends_within settings now machine.round in
      let k = p input low in
      record {
        open_ones = λ on none. may_be-quiet machine.to_module machine.last_to_module upto input (facts.inputs input).hidden low now occurrence silent within (k.open_ones on none);
        watched_ones = λ watched is. followed-quiet machine.to_module machine.last_to_module upto input watched.shaded low now occurrence silent within watched.level (k.watched_ones watched is);
      }

  follow-happens : (machine : Machine) (facts : ContentFacts) (event : Event) → IsPastBus event → FollowHolds settings machine facts
      → FollowHolds settings (after settings first machine event) facts
  follow-happens machine facts event past p = past_cases (λ event. FollowHolds settings (after settings first machine event) facts)
      (λ raw. quiet machine facts (Scanned raw) tt p) (quiet machine facts LineSynced tt p) (λ mask. quiet machine facts (Raised mask) tt p) event past

  follow-sends : (machine : Machine) (facts : ContentFacts) (command : Command) → IsCommand command → FollowHolds settings machine facts
      → FollowHolds settings (after_sending machine command) (content_with facts (Sent command))
  follow-sends machine facts command within p = λ input low.
      (let k = item-sent (life_of machine.history) machine.to_module machine.last_to_module (end_at settings (life_of machine.history) machine.round) input facts.clear
      (record { octets = command_octets command; round = machine.round }) command (read_back command within) (facts.inputs input) (item_for input (items_sent command)) refl (p input low) in
      record { open_ones = k.open_ones; watched_ones = k.watched_ones })

  follow-receives : (machine : Machine) (facts : ContentFacts) (place : ℕ) (frame : SentFrame) → IsKept settings first machine → machine.last_to_module < place + 1
      → slice_get machine.to_module place ≡ Some frame → FollowHolds settings machine facts
      → FollowHolds settings (after_delivery_to_module settings machine (place + 1) (Some frame)) facts
  follow-receives machine facts place frame k new at p = λ input low.
      (let now = life_of machine.history in
      let command = command_in frame.octets in
      let few : machine.round ≤ length (blocks_in settings machine) = omega (arith, k.always.answers.behind, k.one_life.made) in
      let upto : end_at settings (life_after_command command now) machine.round ≡ end_at settings now machine.round =
      ap end_of_blocks (blocks_stay settings now command machine.round few) in
      let known = p input low in
      subst (λ n. KeepsFollowed (life_after_command command now) machine.to_module (place + 1) n input facts.clear (facts.inputs input)) (sym upto)
      (record {
        open_ones = λ on none. may_be-received machine.to_module machine.last_to_module (end_at settings now machine.round) input (facts.inputs input).hidden low now place frame (omega arith) at (known.open_ones on none);
        watched_ones = λ watched is.
            followed-received machine.to_module machine.last_to_module (end_at settings now machine.round) input watched.shaded low now place frame (omega arith) at watched.level (known.watched_ones watched is);
      }))

  pub alternate_is_invariant : IsInvariant settings first begin Alternate (Unit {0}) tt (λ state machine event. tt) (λ state machine later. Unit {0})
      (λ state from machine facts. FollowHolds settings machine facts)
  alternate_is_invariant = record {
    goes_on = λ state machine event rest holds. tt;
    begins = λ known input low. record { open_ones = λ is none. absurd (cc is); watched_ones = λ watched is. absurd (cc is) };
    happens = λ state from machine facts event rest known past holds p. follow-happens machine facts event past p;
    sends = λ state from machine facts event command known may within p. follow-sends machine facts command within p;
    receives = λ state from machine facts place frame known new at reads p. follow-receives machine facts place frame known.is_kept new at p;
    hears = λ state from machine facts place rest command answer known h holds p. (
      (heard_keeps facts answer).alternate,
      λ input low. (let k = p input low in record { open_ones = k.open_ones; watched_ones = k.watched_ones }),
    );
    takes = λ state from machine facts place rest number answer block known t polls holds p.
        walk (KeepsRule Alternate) content_with (gap_keeps Alternate) settings (life_of machine.history) machine.round answer block (FollowMade from machine place number answer block known t)
        (FollowHolds settings (after_taken machine place answer)) (follow_walk from machine place number answer block known t)
        t.made t.carried facts ((heard_keeps facts (block_answer answer)).alternate)
        (λ input low. (let k = p input low in record { open_ones = k.open_ones; watched_ones = k.watched_ones }), made_then settings range first begin from machine place number answer block known t facts polls);
  }

-- at the start of both ends no change is hidden
pub follow_begun : (settings : Settings) → FollowHolds settings start content_begun
follow_begun settings input low = grind (arith, nat_tests, begun_input, may_be-now, none_hidden-now)

pub alternate_never_accuses : ContentNeverAccuses Alternate Always
alternate_never_accuses = content_never_accuses Alternate (Unit {0}) tt (λ state machine event. tt)
    (λ settings first begin state from machine facts. FollowHolds settings machine facts)
    (λ settings first begin range. alternate_is_invariant settings range first begin)
    (λ settings first. follow_begun settings)
