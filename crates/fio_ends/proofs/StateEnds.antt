-- The end of a block that the CPU takes keeps the rule `state`, and what is known of the states that were asked for.
use Rattle.fio_ends.proofs.Names.{◌≡◌, ◌∙◌, ◌+◌, ◌<◌, ◌≤◌, ◌&&◌, ◌||◌, inl, inr, ℕ, zero, suc, Bool, true, false, not, List, [], ◌∷◌, ◌++◌, length, Option, Some, None, refl, ap, sym, subst, arith, if◌then◌else◌, nat_lt, nat_tests, slice_get, slice_get_within, same_Some, Answer, Block, answer_in, answered_block, block_in, says_again, says_more, Settings, AreInRange, Life, life_of, log_of, scans_of, Transition, MadeBlock, blocks_of, blocks_in, ContentFacts, InputAbove, content_step, Ended, Heard, ContentEvent, SentFrame, Machine, after_taken, AreNear, BlocksAreNear, Seen, SentItem, block_taken, blocks_taken, blocks_without_more_take_all, broken_state, cases_lt, comes_to, comes_with, coming, frame_at_place, hears_states, if_comes, input_below_clear, input_coming, input_ended, is_before, is_some, option_and_then, scans_left, scans_seen, scans_within, seen_below, settled_now, states_heard, steady_state, without_excuse, settles, ended_input, is_set}
use Rattle.fio_link.specs.declared.event.Event.TheVariants as events
use Rattle.fio_ends.proofs.SteadyKept.{KeepsWatch, watch_ended, watched_below}
use Rattle.fio_ends.proofs.BlockPlaces.{ends_within, is_next}
use Rattle.fio_ends.proofs.Clocks.{clock, not_before, offset_of}
use Rattle.fio_ends.proofs.ContentSteps.{IsKnown, Takes}
use Rattle.fio_ends.proofs.BlockTimes.{block_time, clear_block, made_later}
use Rattle.fio_ends.proofs.Fulls.{full_ended}
use Rattle.fio_ends.proofs.Following.{GoesOn, goes_on-both}
use Rattle.fio_ends.proofs.Lives.{log_grows, made_since, scans_grow}
use Rattle.fio_ends.proofs.SeenStates.{WatchAt}
use Rattle.fio_ends.proofs.SettledAgain.{IsLeftBetween, IsMadeThen, hidden-since, left_between, made_ends, settles_open}
use Rattle.fio_ends.proofs.Steady.{IsSteady}
use Rattle.fio_ends.proofs.StateKnown.{IsPending, IsSeen, KeepsState, StateState, state_after}
use Rattle.fio_ends.proofs.Shown.{GoesFrom, KeepsShown, TellsFrom, goes-then, shown-comes}
use Rattle.fio_ends.proofs.Watching.{NoneHidden, none_hidden-now, state_of}
use Rattle.fio_ends.proofs.StateRule.{before_clock, keeps_state, states_bit}
use Rattle.fio_ends.proofs.StateRests.{KeepsRest, SeenRest, logged_after, seen_with, watched_then}

module _ (settings : Settings) (range : AreInRange settings) (first : ℕ) (begin : Machine) (above : Option ℕ) where
  abbrev begin_life : Life
  begin_life = life_of begin.history

  module _ (state : StateState) (from : Life) (machine : Machine) (place number : ℕ) (answer : Block) (block : MadeBlock)
      (known : IsKnown settings first begin from machine) (t : Takes settings first from machine place number answer block)
      (blocks_near : BlocksAreNear above (blocks_taken settings begin machine ++ block ∷ [])) (steady : IsSteady begin_life (life_of machine.history)) where
    abbrev now : Life
    now = life_of machine.history

    abbrev offset : ℕ
    offset = offset_of begin_life

    abbrev Known : ℕ → ContentFacts → Seen → Type 0
    Known = IsSeen begin_life from state.seen

    abbrev Rest : ℕ → List Transition → ContentFacts → Type 0
    Rest = KeepsRest settings begin above state from machine block

    abbrev SeenYet : ℕ → List Transition → ContentFacts → Seen → Type 0
    SeenYet = SeenRest now machine.to_module machine.last_to_module begin_life state from block

    -- the life of the states, and now
    since_states : (life : Life) → GoesOn life from → GoesOn life now
    since_states life g = goes_on-both life from now g known.now

    -- no states are heard with a block
    no_states : (found : Option Answer) (heard : Block) → answered_block found ≡ Some heard → option_and_then (λ answer. states_heard (Heard answer)) found ≡ None
    no_states found heard is = grind arith

    hears_none : hears_states machine (events.ToCpu (place + 1)) ≡ false
    hears_none =
        ap (λ found. is_some (option_and_then (λ (frame : SentFrame). option_and_then (λ answer. states_heard (Heard answer)) (answer_in frame.octets)) found))
        (frame_at_place machine.to_cpu place ∙ t.heard.at_place)
        ∙ ap is_some (no_states (answer_in t.heard.frame.octets) answer t.heard.spells)

    pub takes_block : block_taken settings machine (events.ToCpu (place + 1)) ≡ Some block
    takes_block =
        ap (option_and_then (λ (frame : SentFrame). option_and_then (λ block. slice_get (blocks_in settings machine) machine.round) (block_in frame.octets)))
        (frame_at_place machine.to_cpu place ∙ t.heard.at_place)
        ∙ ap (option_and_then (λ block. slice_get (blocks_in settings machine) machine.round)) t.heard.spells ∙ t.made

    -- one at a place of a list
    one_at : (xs : List Transition) (k : ℕ) → k < length xs → (x : Transition) × (slice_get xs k ≡ Some x)
    one_at [] k inside = absurd (omega (arith, inside))
    one_at (x ∷ xs) zero inside = (x, refl)
    one_at (x ∷ xs) (suc k) inside = one_at xs k (omega (arith, inside))

    stays_there : (xs ys : List Transition) (k : ℕ) (x : Transition) → slice_get xs k ≡ Some x → slice_get (xs ++ ys) k ≡ Some x
    stays_there [] ys k x is = absurd (cc is)
    stays_there (y ∷ xs) ys zero x is = is
    stays_there (y ∷ xs) ys (suc k) x is = stays_there xs ys k x is

    module _ (facts : ContentFacts) (q : Rest block.end [] facts) where
      abbrev pub event_end : ContentEvent
      event_end = Ended answer.status answer.stamp

      -- a block without C that was made no earlier than the states took all that was logged then
      took_all : (life : Life) → GoesOn life now → length (blocks_of settings begin_life) ≤ machine.round → block.more ≡ false → scans_of life ≤ block.scans → length (log_of life) ≤ block.end
      took_all life g few whole no_earlier =
          let m = made_since settings begin_life now machine.round block (goes_on-both begin_life from now known.begun known.now) few t.made in
          let took = blocks_without_more_take_all settings m.life (ap (λ (b : MadeBlock). b.more) (sym m.is) ∙ whole) in
          let ends : block.end ≡ length (log_of m.life) = ap (λ (b : MadeBlock). b.end) m.is ∙ took in
          let scans : block.scans ≡ scans_of m.life = ap (λ (b : MadeBlock). b.scans) m.is in
          elim (cases_lt block.end (length (log_of life))) as (λ _. length (log_of life) ≤ block.end) [
            | inl less ↦
                let one = one_at (log_of life) block.end less in
                let grown = log_grows life now g in
                let there : slice_get (log_of now) block.end ≡ Some one.0 =
                ap (λ log. slice_get log block.end) grown.1 ∙ stays_there (log_of life) grown.0 block.end one.0 one.1 in
                let low = scans_within life block.end one.0 one.1 in
                let high = logged_after now m.life m.upto block.end one.0 there (omega (arith, ends)) in
                absurd (omega (arith, low, high, scans, no_earlier))
            | inr all ↦ all
          ]

      -- whether its stamp is before the states
      no_before : (seen : Seen) (s : Known block.end facts seen) → length (blocks_of settings begin_life) ≤ machine.round → AreNear (scans_of s.life) block.scans
          → scans_of s.life ≤ block.scans → is_before answer.stamp seen.stamp ≡ false
      no_before seen s few near no_earlier =
          let time = block_time settings first begin from machine place number answer block known t steady few in
          ap (λ stamp. is_before stamp seen.stamp) time ∙ ap (is_before (clock offset block.scans)) s.stamp ∙ not_before offset (scans_of s.life) block.scans no_earlier near.before

      is_earlier : (seen : Seen) (s : Known block.end facts seen) → length (blocks_of settings begin_life) ≤ machine.round → AreNear (scans_of s.life) block.scans
          → block.scans < scans_of s.life → is_before answer.stamp seen.stamp ≡ true
      is_earlier seen s few near earlier =
          let time = block_time settings first begin from machine place number answer block known t steady few in
          ap (λ stamp. is_before stamp seen.stamp) time ∙ ap (is_before (clock offset block.scans)) s.stamp ∙ before_clock offset block.scans (scans_of s.life) earlier near.after

      near_block : (seen : Seen) (r : SeenYet block.end [] facts seen) → block.more ≡ false → AreNear (scans_of r.is_seen.life) block.scans
      near_block seen r whole = r.made (sym r.later) whole

      comes_whole : (more before : Bool) → (not more && not before) ≡ true → (more ≡ false) × (before ≡ false)
      comes_whole more before is = grind arith

      pub end_keeps : (seen : Option Seen) → facts.seen ≡ seen → broken_state (without_excuse facts) event_end seen ≡ None
      end_keeps None is = refl
      end_keeps (Some seen) is = keeps_state (without_excuse facts) event_end seen (λ comes input level low watched.
          (let r = q.seen seen is in
          let s = r.is_seen in
          let both = comes_whole (says_more answer.status) (is_before answer.stamp seen.stamp) comes in
          let whole : block.more ≡ false = sym t.carried.more ∙ both.0 in
          let few = (q.below r.timely).1 in
          let near = near_block seen r whole in
          let no_earlier : scans_of s.life ≤ block.scans =
          elim (cases_lt block.scans (scans_of s.life)) as (λ _. scans_of s.life ≤ block.scans) [
            | inl earlier ↦ (let before = is_earlier seen s few near earlier in absurd (cc (before, both.1)))
            | inr le ↦ le
          ] in
          watched_then begin_life from state.seen block.end facts seen s input level low (took_all s.life (since_states s.life s.goes_on) few whole no_earlier) watched))

      -- the states are still above what follows the block
      pub record StillSeen (below : ContentFacts) (seen : Seen) : Type 0 where
        pub is_seen : Known block.end below seen
        pub timely : below.timely ≡ true
        pub pending : IsPending now machine.to_module machine.last_to_module block.end below is_seen.life
        pub stays : comes_with (scans_of is_seen.life) block ≡ false

      same_seen : (below : ContentFacts) (seen : Seen) (r : SeenYet block.end [] facts seen) → ((input : ℕ) → input < 64
          → WatchAt r.is_seen.life block.end input below.clear (below.inputs input).hidden (steady_state (below.inputs input).watched))
          → (facts.timely ≡ true → below.timely ≡ true)
          → ((input : ℕ) → input < 64 → (below.inputs input).touched ≡ false → TellsFrom now machine.to_module machine.last_to_module (length (log_of r.is_seen.life)) input (state_of input r.is_seen.life))
          → (not block.more && nat_lt (scans_of r.is_seen.life) block.scans) ≡ false → StillSeen below seen
      same_seen below seen r watch bright tells stays =
          let s = r.is_seen in
          record {
            is_seen = seen_with begin_life from state.seen block.end block.end facts below seen s watch;
            timely = bright r.timely;
            pending = record { inside = r.pending.inside; goes_on = r.pending.goes_on; tells = tells };
            stays = ap (λ b. b || (not block.more && nat_lt (scans_of s.life) block.scans)) (sym r.later) ∙ stays;
          }

      -- a block that comes to no states is not made later
      not_later_made : (seen : Seen) (r : SeenYet block.end [] facts seen) → block.more ≡ false → is_before answer.stamp seen.stamp ≡ true
          → nat_lt (scans_of r.is_seen.life) block.scans ≡ false
      not_later_made seen r whole before =
          let s = r.is_seen in
          elim (cases_lt (scans_of s.life) block.scans) as (λ _. nat_lt (scans_of s.life) block.scans ≡ false) [
            | inl later ↦
                let grown = scans_grow begin_life s.life s.begun in
                let few = made_later settings first begin from machine place number answer block known t (omega (arith, later, grown)) in
                let none = no_before seen s few (near_block seen r whole) (omega (arith, later)) in
                absurd (cc (none, before))
            | inr le ↦ no-less (scans_of s.life) block.scans le
          ]
        where
          no-less : (n m : ℕ) → m ≤ n → nat_lt n m ≡ false
          no-less n m less = grind (arith, nat_tests)

      before_if : (before : Bool) (above seen : Seen) → (if not before then None else Some above) ≡ Some seen → (before ≡ true) × (above ≡ seen)
      before_if true above seen is = (refl, same_Some _ _ is)
      before_if false above seen is = absurd (cc is)

      -- with C
      still_more : says_more answer.status ≡ true → (below : ContentFacts) → ((life : Life) (input : ℕ) → input < 64 → WatchAt life block.end input facts.clear (facts.inputs input).hidden (steady_state (facts.inputs input).watched)
          → WatchAt life block.end input below.clear (below.inputs input).hidden (steady_state (below.inputs input).watched))
          → (facts.timely ≡ true → below.timely ≡ true) → ((input : ℕ) → (below.inputs input).touched ≡ false → (facts.inputs input).touched ≡ false)
          → (above : Option Seen) → facts.seen ≡ above → (seen : Seen) → seen_below event_end above ≡ Some seen → StillSeen below seen
      still_more more below same bright untouched None is seen still = absurd (cc still)
      still_more more below same bright untouched (Some above) is seen still =
          let r = q.seen above is in
          let held : block.more ≡ true = sym t.carried.more ∙ more in
          let left : Some above ≡ Some seen = rw more at still in
          subst (StillSeen below) (same_Some _ _ left)
          (same_seen below above r (λ input low. same r.is_seen.life input low (r.is_seen.watch input low)) bright (λ input low un. r.pending.tells input low (untouched input un)) (ap (λ m. not m && nat_lt (scans_of r.is_seen.life) block.scans) held))

      -- one that is sent again, without C
      module _ (more : says_more answer.status ≡ false) (r_above : Seen) (is : facts.seen ≡ Some r_above) (earlier : is_before answer.stamp r_above.stamp ≡ true) where
        abbrev r : SeenYet block.end [] facts r_above
        r = q.seen r_above is

        whole : block.more ≡ false
        whole = sym t.carried.more ∙ more

        -- it was made before the states
        made_before : block.scans < scans_of r.is_seen.life
        made_before = elim (cases_lt block.scans (scans_of r.is_seen.life)) as (λ _. block.scans < scans_of r.is_seen.life) [
          | inl less ↦ less
          | inr le ↦ (let none = no_before r_above r.is_seen (q.below r.timely).1 (near_block r_above r whole) (omega (arith, le)) in absurd (cc (none, earlier)))
        ]

        m : IsMadeThen settings now facts.since_poll block
        m = q.made (q.bright r.timely)

        between : IsLeftBetween m.life r.is_seen.life now facts.since_poll
        between = left_between settings now r.is_seen.life facts.since_poll block m (since_states r.is_seen.life r.is_seen.goes_on) made_before

        -- what is known of an input then, by whether it is settled
        watch_then : (input : ℕ) → input < 64 → (settling : Bool) → (settling ≡ true → facts.since_poll input ≡ false) → (above : InputAbove)
            → WatchAt r.is_seen.life block.end input facts.clear above.hidden (steady_state above.watched)
            → WatchAt r.is_seen.life block.end input facts.clear (input_ended settling above).hidden (steady_state (input_ended settling above).watched)
        watch_then input low false free above w = w
        watch_then input low true free above w = record {
          open_ones = λ on none.
              (let ends = made_ends input low settings now facts.since_poll block m whole in
              subst (λ life. NoneHidden life block.end input) (sym between.is)
              (hidden-since input low between.before m.life block.end (between.none_before input (free refl)) (omega (arith, ends)) (none_hidden-now m.life block.end input ends)));
          watched_ones = λ level at. w.watched_ones level (ap steady_state (sym (watched_below above (settled_now above))) ∙ at);
        }

        tells_then : (input : ℕ) → input < 64 → (settling : Bool) → (settling ≡ true → facts.since_poll input ≡ false) → (above : InputAbove)
            → (above.touched ≡ false → TellsFrom now machine.to_module machine.last_to_module (length (log_of r.is_seen.life)) input (state_of input r.is_seen.life))
            → (input_ended settling above).touched ≡ false → TellsFrom now machine.to_module machine.last_to_module (length (log_of r.is_seen.life)) input (state_of input r.is_seen.life)
        tells_then input low false free above tells un = tells un
        tells_then input low true free above tells un = record {
          names = λ place frame high there. absurd (omega (arith, t.received, slice_get_within machine.to_module place frame there));
          goes = subst (λ life. GoesFrom life (length (log_of r.is_seen.life)) input (state_of input r.is_seen.life)) (sym between.now_is)
              (goes-then input low between.more r.is_seen.life (between.none_more input (free refl)));
        }

      still_again : says_more answer.status ≡ false → says_again answer.status ≡ true
          → (above : Option Seen) → facts.seen ≡ above → (seen : Seen) → seen_below event_end above ≡ Some seen → StillSeen (content_step facts event_end) seen
      still_again more again None is seen still = absurd (cc still)
      still_again more again (Some above) is seen still =
          let left : (if not (is_before answer.stamp above.stamp) then None else Some above) ≡ Some seen = rw more at still in
          let b = before_if (is_before answer.stamp above.stamp) above seen left in
          let found = q.seen above is in
          let w : block.more ≡ false = sym t.carried.more ∙ more in
          subst (StillSeen (content_step facts event_end)) b.1 (rw (more, again)
          (same_seen _ above found
          (λ input low. watch_then more above is b.0 input low (facts.clear && not (facts.since_poll input)) (λ settling. (settles_open facts.clear (facts.since_poll input) settling).1)
          (input_coming input (coming facts event_end) (facts.inputs input)) (found.is_seen.watch input low))
          (λ clear. clear)
          (λ input low un. tells_then more above is b.0 input low (facts.clear && not (facts.since_poll input)) (λ settling. (settles_open facts.clear (facts.since_poll input) settling).1)
          (input_coming input (coming facts event_end) (facts.inputs input)) (λ un. found.pending.tells input low un) un)
          (ap (λ m. not m && nat_lt (scans_of found.is_seen.life) block.scans) w ∙ not_later_made above found w b.0)))

      -- a clear block comes to them
      clear_comes : says_more answer.status ≡ false → says_again answer.status ≡ false → (below : ContentFacts)
          → (above : Option Seen) → facts.seen ≡ above → (seen : Seen) → seen_below event_end above ≡ Some seen → StillSeen below seen
      clear_comes more again below None is seen still = absurd (cc still)
      clear_comes more again below (Some above) is seen still =
          let r = q.seen above is in
          let s = r.is_seen in
          let whole : block.more ≡ false = sym t.carried.more ∙ more in
          let c = clear_block settings first begin from machine place number answer block known t whole again in
          let first_grown = scans_grow s.life from s.goes_on in
          let grown = scans_grow from t.life t.goes_on in
          let none = no_before above s c.blocks (near_block above r whole) (omega (arith, c.scans, first_grown, grown)) in
          let left : (if not (is_before answer.stamp above.stamp) then None else Some above) ≡ Some seen = rw more at still in
          let b = before_if (is_before answer.stamp above.stamp) above seen left in
          absurd (cc (none, b.0))

      -- what is known below the end of the block
      pub record EndedParts (below : ContentFacts) : Type 0 where
        pub below_timely : below.timely ≡ true → (length (log_of begin_life) ≤ block.end) × (length (blocks_of settings begin_life) ≤ machine.round)
        pub seen : (seen : Seen) → below.seen ≡ Some seen → StillSeen below seen

      ended_parts : (more again : Bool) → says_more answer.status ≡ more → says_again answer.status ≡ again → EndedParts (content_step facts event_end)
      ended_parts true again more_is again_is = rw more_is (record {
        below_timely = q.below;
        seen = λ seen still. still_more more_is _ (λ life input low w. record { open_ones = w.open_ones; watched_ones = w.watched_ones }) (λ clear. clear) (λ input un. un) facts.seen refl seen still;
      })
      ended_parts false true more_is again_is = rw (more_is, again_is) (record {
        below_timely = q.below;
        seen = λ seen still. rw (more_is, again_is) at (still_again more_is again_is facts.seen refl seen still);
      })
      ended_parts false false more_is again_is =
          let c = clear_block settings first begin from machine place number answer block known t (sym t.carried.more ∙ more_is) again_is in
          rw (more_is, again_is) (record {
            below_timely = λ timely. (c.log, c.blocks);
            seen = λ seen still. clear_comes more_is again_is _ facts.seen refl seen still;
          })

      left_then : (scans : ℕ) → state.seen ≡ Some scans → comes_with scans block ≡ false
          → scans_seen settings machine state.asked state.seen (events.ToCpu (place + 1)) ≡ Some scans
      left_then scans is stays =
          ap (λ heard. if heard then Some state.asked else scans_left (block_taken settings machine (events.ToCpu (place + 1))) state.seen) hears_none
          ∙ ap (λ taken. scans_left taken state.seen) takes_block ∙ ap (scans_left (Some block)) is ∙ ap (λ comes. if comes then None else Some scans) stays

      -- what the states say of an input, if the record comes to them at the end, and if not
      shown_here : (above : Option Seen) → facts.seen ≡ above → (input : ℕ) → input < 64
          → KeepsShown now machine.to_module machine.last_to_module block.end input (input_coming input (option_and_then (if_comes event_end) above) (facts.inputs input))
      shown_here None is input low = (let k = q.shown input low in record { shown = k.shown; unlogged = k.unlogged })
      shown_here (Some seen) is input low = by (comes_to seen event_end) refl
        where
          by : (comes : Bool) → comes_to seen event_end ≡ comes
              → KeepsShown now machine.to_module machine.last_to_module block.end input (input_coming input (if comes then Some seen else None) (facts.inputs input))
          by false comes = (let k = q.shown input low in record { shown = k.shown; unlogged = k.unlogged })
          by true comes =
              let r = q.seen seen is in
              let s = r.is_seen in
              let both = comes_whole (says_more answer.status) (is_before answer.stamp seen.stamp) comes in
              let whole : block.more ≡ false = sym t.carried.more ∙ both.0 in
              let few = (q.below r.timely).1 in
              let near = near_block seen r whole in
              let no_earlier : scans_of s.life ≤ block.scans =
              elim (cases_lt block.scans (scans_of s.life)) as (λ _. scans_of s.life ≤ block.scans) [
                | inl earlier ↦ (let before = is_earlier seen s few near earlier in absurd (cc (before, both.1)))
                | inr le ↦ le
              ] in
              let all = took_all s.life (since_states s.life s.goes_on) few whole no_earlier in
              let inside = r.pending.inside in
              let here : length (log_of s.life) ≡ block.end = omega (arith, all, inside) in
              let level : state_of input s.life ≡ is_set seen.levels input = sym (states_bit s.life input low) ∙ ap (λ levels. is_set levels input) (sym s.levels) in
              shown-comes input low now machine.to_module machine.last_to_module block.end (facts.inputs input) seen
              (λ un. subst (TellsFrom now machine.to_module machine.last_to_module block.end input) level
              (subst (λ n. TellsFrom now machine.to_module machine.last_to_module n input (state_of input s.life)) here (r.pending.tells input low un)))
              (q.shown input low)

      shown_below : (above : InputAbove) (item : Option SentItem) (input : ℕ) → KeepsShown now machine.to_module machine.last_to_module block.end input above
          → KeepsShown now machine.to_module machine.last_to_module block.end input (input_below_clear above item)
      shown_below above None input k = record { shown = k.shown; unlogged = k.unlogged }
      shown_below above (Some item) input k = record { shown = k.shown; unlogged = k.unlogged }

      shown_end : (settling : Bool) (above : InputAbove) (input : ℕ) → KeepsShown now machine.to_module machine.last_to_module block.end input above
          → KeepsShown now machine.to_module machine.last_to_module block.end input (input_ended settling above)
      shown_end true above input k = shown_below above (settled_now above) input k
      shown_end false above input k = k

      pub ended : KeepsState settings begin above (state_after settings state machine (events.ToCpu (place + 1))) now (after_taken machine place answer) (content_step facts event_end)
      ended =
          let parts = ended_parts (says_more answer.status) (says_again answer.status) refl refl in
          let upto = (is_next settings now machine.round block t.made).ends in
          record {
            full = full_ended settings range first begin above from machine place number answer block known t blocks_near steady facts q.full;
            seen_timely = λ seen is. (parts.seen seen is).timely;
            below = λ timely. (let b = parts.below_timely timely in (omega (arith, b.0, upto), omega (arith, b.1)));
            watch = subst (λ n. (input : ℕ) → input < 64 → KeepsWatch now machine.to_module machine.last_to_module n input (content_step facts event_end).clear
                ((content_step facts event_end).inputs input).hidden (steady_state ((content_step facts event_end).inputs input).watched)) upto
                (watch_ended settings range first begin from machine place number answer block known t facts q.made (says_more answer.status) (says_again answer.status) refl refl q.watch);
            recorded = ends_within settings now (machine.round + 1);
            seen = λ seen is.
                (let still = parts.seen seen is in
                let s = still.is_seen in
                record {
                  life = s.life;
                  begun = s.begun;
                  goes_on = since_states s.life s.goes_on;
                  stamp = s.stamp;
                  levels = s.levels;
                  left_is = left_then (scans_of s.life) s.left_is still.stays;
                  watch = λ input low.
                      subst (λ n. WatchAt s.life n input (content_step facts event_end).clear ((content_step facts event_end).inputs input).hidden (steady_state ((content_step facts event_end).inputs input).watched))
                      upto (s.watch input low);
                });
            pending = λ seen is.
                (let w = (parts.seen seen is).pending in
                record { inside = omega (arith, w.inside, upto); goes_on = w.goes_on; tells = w.tells });
            shown = λ input low. subst (λ n. KeepsShown now machine.to_module machine.last_to_module n input ((content_step facts event_end).inputs input)) upto
                (subst (KeepsShown now machine.to_module machine.last_to_module block.end input) (sym (ended_input facts answer.status answer.stamp input))
                (shown_end (settles facts input event_end) (input_coming input (coming facts event_end) (facts.inputs input)) input (shown_here facts.seen refl input low)));
          }
