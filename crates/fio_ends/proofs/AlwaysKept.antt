-- What is kept along a log of configurations and of the changes of inputs, whatever times are.
use Rattle.fio_ends.proofs.Names.{List, ◌≡◌, ◌∙◌, ◌+◌, ◌<◌, ◌≤◌, ◌&&◌, ℕ, Bool, true, false, if◌then◌else◌, not, [], ◌∷◌, length, Some, None, refl, ap, sym, subst, arith, nat_lt, ◌==◌, fold, slice_get, Answer, Command, Block, IsCommand, command_in, says_again, says_more, Settings, AreInRange, Life, life_of, life_after_command, log_of, Transition, MadeBlock, blocks_in, end_of_blocks, ContentFacts, content_with, no_content, ContentEvent, Ended, Heard, Recorded, Gap, Sent, events_of_block, Event, SentFrame, Machine, start, after, after_sending, after_delivery_to_module, after_taken, IsKept, entry_of, below_clear, block_answer, coming, content_begun, input_coming, is_clear_end, steady_state, wide_time_of, is_excused}
use Rattle.fio_ends.proofs.ApartBlocks.{least_settled, logged_again, logged_clear, settle_least}
use Rattle.fio_ends.proofs.ApartKept.{least-happens, least-sends, least_begun}
use Rattle.fio_ends.proofs.ApartTimes.{least_by}
use Rattle.fio_ends.proofs.BlockPlaces.{end_at, is_next}
use Rattle.fio_ends.proofs.BlockWalk.{IsWalk, entry_event, walk}
use Rattle.fio_ends.proofs.ContentSteps.{HearsAnswer, IsKnown, IsPastBus, Takes}
use Rattle.fio_ends.proofs.IgnoredKept.{both_begun, both_ended, both_entry, both_gap, both-happens, both-receives, both-sends, item-heard}
use Rattle.fio_ends.proofs.LeastFilters.{KeepsLeast, least-begins, least-further, least-received}
use Rattle.fio_ends.proofs.SettledAgain.{MadeThen, settles_open}
use Rattle.fio_ends.proofs.Shut.{KeepsBoth, ShutHolds}
use Rattle.fio_ends.proofs.SteadyKept.{KeepsWatch, WatchHolds, watch_begun, watch_ended, watch_entry, watch_gap, watch-happens, watch-receives, watch-sends}
use Rattle.fio_ends.proofs.Taken.{blocks_stay}

pub record Always (settings : Settings) (machine : Machine) (facts : ContentFacts) : Type 0 where
  pub bright : facts.timely ≡ true → facts.clear ≡ true
  pub both : ShutHolds settings machine facts
  pub least : (input : ℕ) → input < 64
      → KeepsLeast (life_of machine.history) machine.to_module machine.last_to_module (end_at settings (life_of machine.history) machine.round) input (facts.inputs input).least
  pub watch : WatchHolds settings machine facts

-- times that are known below an event were known above it, if it says nothing of them
still_timely : (forgets timely : Bool) → (not forgets && timely) ≡ true → timely ≡ true
still_timely true timely is = absurd (cc is)
still_timely false timely is = is

-- a clear block is above the end of a block below which times are known
bright_below : (clear : Bool) (ended : ContentFacts) (stamp : ℕ) → (ended.timely ≡ true → ended.clear ≡ true)
    → (if clear then below_clear ended stamp else ended).timely ≡ true → (if clear then below_clear ended stamp else ended).clear ≡ true
bright_below true ended stamp bright is = refl
bright_below false ended stamp bright is = bright is

module _ (settings : Settings) (range : AreInRange settings) (first : ℕ) (begin : Machine) where
  -- ---- the CPU takes a block

  module _ (from : Life) (machine : Machine) (place number : ℕ) (answer : Block) (block : MadeBlock)
      (known : IsKnown settings first begin from machine) (t : Takes settings first from machine place number answer block) where
    abbrev now : Life
    now = life_of machine.history

    record Rest (upto : ℕ) (rest : List Transition) (facts : ContentFacts) : Type 0 where
      pub made : MadeThen settings now block facts
      pub bright : facts.timely ≡ true → facts.clear ≡ true
      pub both : (input : ℕ) → input < 64 → KeepsBoth now machine.to_module machine.last_to_module upto input (facts.inputs input)
      pub least : (input : ℕ) → input < 64 → KeepsLeast now machine.to_module machine.last_to_module upto input (facts.inputs input).least
      pub watch : (input : ℕ) → input < 64
          → KeepsWatch now machine.to_module machine.last_to_module upto input facts.clear (facts.inputs input).hidden (steady_state (facts.inputs input).watched)

    abbrev AnyEvent : ContentFacts → ContentEvent → Type 0
    AnyEvent facts event = Unit {0}

    gap_step : (facts : ContentFacts) → end_at settings now machine.round ≤ block.start → Rest (end_at settings now machine.round) block.transitions facts
        → Rest block.start block.transitions (content_with facts (Recorded Gap))
    gap_step facts forward q = record {
      made = q.made;
      bright = λ is. q.bright (still_timely (is_excused facts (Recorded Gap)) facts.timely is);
      both = both_gap settings range first begin from machine place number answer block known t facts forward q.both;
      least = λ input low. least-further machine.to_module machine.last_to_module (end_at settings now machine.round) input (facts.inputs input).least low now block.start forward (q.least input low);
      watch = watch_gap settings range first begin from machine place number answer block known t facts forward q.watch;
    }

    entry_step : (k : ℕ) (transition : Transition) (rest : List Transition) (facts : ContentFacts) → slice_get block.transitions k ≡ Some transition
        → slice_get (log_of now) (block.start + k) ≡ Some transition → Rest (block.start + k) (transition ∷ rest) facts
        → AnyEvent facts (entry_event answer.stamp transition) × Rest (block.start + (k + 1)) rest (content_with facts (entry_event answer.stamp transition))
    entry_step k transition rest facts at logged q = (
      tt,
      record {
        made = q.made;
        bright = λ is. q.bright (still_timely (is_excused facts (entry_event answer.stamp transition)) facts.timely is);
        both = (both_entry settings range first begin from machine place number answer block known t k transition rest facts at logged q.both).1;
        least = λ input low.
            subst (KeepsLeast now machine.to_module machine.last_to_module (block.start + (k + 1)) input)
            (sym (least_by ((input == transition.input) && nat_lt input 64) facts transition.level (wide_time_of answer.stamp (entry_of transition).stamp)
            (input_coming input (coming facts (entry_event answer.stamp transition)) (facts.inputs input))))
            (least-further machine.to_module machine.last_to_module (block.start + k) input (facts.inputs input).least low now (block.start + (k + 1)) (omega arith) (q.least input low));
        watch = watch_entry settings range first begin from machine place number answer block known t k transition rest facts at logged q.watch;
      },
    )

    least_ended : (facts : ContentFacts) (more again : Bool) → says_more answer.status ≡ more → says_again answer.status ≡ again → Rest block.end [] facts
        → (input : ℕ) → input < 64 → KeepsLeast now machine.to_module machine.last_to_module block.end input ((content_with facts (Ended answer.status answer.stamp)).inputs input).least
    least_ended facts true again more_is again_is q = rw more_is q.least
    least_ended facts false true more_is again_is q = rw (more_is, again_is) (λ input low.
        (let above = input_coming input (coming facts (Ended answer.status answer.stamp)) (facts.inputs input) in
        let k = q.both input low in
        let all : block.more ≡ false = sym t.carried.more ∙ more_is in
        least_settled settings range first begin None from machine place number answer block known t input low (facts.clear && not (facts.since_poll input)) above
        (λ is. (let s = settles_open facts.clear (facts.since_poll input) is in
        logged_again settings range first begin None from machine place number answer block known t input low facts.since_poll (q.made s.0) s.1 all))
        (record { item = k.item; shut = k.shut }) (q.least input low)))
    least_ended facts false false more_is again_is q = rw (more_is, again_is) (λ input low.
        (let above = input_coming input (coming facts (Ended answer.status answer.stamp)) (facts.inputs input) in
        let k = q.both input low in
        settle_least settings range first begin None from machine place number answer block known t input low
        (logged_clear settings range first begin None from machine place number answer block known t input low (sym t.carried.more ∙ more_is) again_is) above above.taken refl above.item refl
        (record { item = k.item; shut = k.shut }) (q.least input low)))

    ended_step : (facts : ContentFacts) → Rest block.end [] facts → Always settings (after_taken machine place answer) (content_with facts (Ended answer.status answer.stamp))
    ended_step facts q =
        let below = content_with facts (Ended answer.status answer.stamp) in
        let upto = (is_next settings now machine.round block t.made).ends in
        record {
          bright = λ is. bright_below (is_clear_end (Ended answer.status answer.stamp)) _ answer.stamp q.bright (still_timely (is_excused facts (Ended answer.status answer.stamp)) _ is);
          both = subst (λ n. (input : ℕ) → input < 64 → KeepsBoth now machine.to_module machine.last_to_module n input (below.inputs input)) upto
              (both_ended settings range first begin from machine place number answer block known t facts q.made (says_more answer.status) (says_again answer.status) refl refl q.both);
          least = subst (λ n. (input : ℕ) → input < 64 → KeepsLeast now machine.to_module machine.last_to_module n input (below.inputs input).least) upto
              (least_ended facts (says_more answer.status) (says_again answer.status) refl refl q);
          watch = subst (λ n. (input : ℕ) → input < 64 → KeepsWatch now machine.to_module machine.last_to_module n input below.clear (below.inputs input).hidden (steady_state (below.inputs input).watched)) upto
              (watch_ended settings range first begin from machine place number answer block known t facts q.made (says_more answer.status) (says_again answer.status) refl refl q.watch);
        }

    always_walk : IsWalk AnyEvent content_with settings now machine.round answer block Rest (Always settings (after_taken machine place answer))
    always_walk = record { gap = gap_step; entry = entry_step; ended = λ facts q. (tt, ended_step facts q) }

    pub always-takes : (facts : ContentFacts) → MadeThen settings now block facts → Always settings machine facts → Always settings (after_taken machine place answer) (fold content_with facts (events_of_block answer))
    always-takes facts made p = (walk AnyEvent content_with (λ facts. tt) settings now machine.round answer block Rest (Always settings (after_taken machine place answer)) always_walk t.made t.carried facts tt
        (record {
          made = made;
          bright = λ is. p.bright (still_timely (is_excused facts (Heard (block_answer answer))) facts.timely is);
          both = λ input low. (let k = p.both input low in record { item = record { taken_one = k.item.taken_one; sent_last = λ is. absurd (cc is) }; shut = k.shut });
          least = p.least;
          watch = p.watch;
        })).1

  -- ---- other events

  pub always-begins : Always settings begin no_content
  always-begins = record {
    bright = λ is. absurd (cc is);
    both = λ input low. record {
      item = record { taken_one = λ is. absurd (cc is); sent_last = λ is. absurd (cc is) };
      shut = λ is. absurd (cc is);
    };
    least = λ input low. least-begins (life_of begin.history) begin.to_module begin.last_to_module (end_at settings (life_of begin.history) begin.round) input;
    watch = λ input low. record { open_ones = λ is none. absurd (cc is); watched_ones = λ level is. absurd (cc is) };
  }

  pub always-happens : (machine : Machine) (facts : ContentFacts) (event : Event) → IsPastBus event → Always settings machine facts → Always settings (after settings first machine event) facts
  always-happens machine facts event past p = record {
    bright = p.bright;
    both = both-happens settings range first begin machine facts event past p.both;
    least = least-happens settings range first begin None machine facts event past p.least;
    watch = watch-happens settings range first begin machine facts event past p.watch;
  }

  pub always-sends : (machine : Machine) (facts : ContentFacts) (command : Command) → IsCommand command → Always settings machine facts
      → Always settings (after_sending machine command) (content_with facts (Sent command))
  always-sends machine facts command within p = record {
    bright = λ is. p.bright (still_timely (is_excused facts (Sent command)) facts.timely is);
    both = both-sends settings range first begin machine facts command within p.both;
    least = least-sends settings range first begin None machine facts command within p.least;
    watch = watch-sends settings range first begin machine facts command within p.watch;
  }

  pub always-receives : (machine : Machine) (facts : ContentFacts) (place : ℕ) (frame : SentFrame) → IsKept settings first machine → machine.last_to_module < place + 1
      → slice_get machine.to_module place ≡ Some frame → Always settings machine facts
      → Always settings (after_delivery_to_module settings machine (place + 1) (Some frame)) facts
  always-receives machine facts place frame k new at p =
      let now = life_of machine.history in
      let command = command_in frame.octets in
      let later = life_after_command command now in
      let few : machine.round ≤ length (blocks_in settings machine) = omega (arith, k.always.answers.behind, k.one_life.made) in
      let upto : end_at settings later machine.round ≡ end_at settings now machine.round = ap end_of_blocks (blocks_stay settings now command machine.round few) in
      record {
        bright = p.bright;
        both = both-receives settings range first begin machine facts place frame k new at p.both;
        least = λ input low.
            subst (λ n. KeepsLeast later machine.to_module (place + 1) n input (facts.inputs input).least) (sym upto)
            (least-received machine.to_module machine.last_to_module (end_at settings now machine.round) input (facts.inputs input).least low now place frame (omega (arith, new)) at (p.least input low));
        watch = watch-receives settings range first begin machine facts place frame k new at p.watch;
      }

  pub always-hears : (from : Life) (machine : Machine) (facts : ContentFacts) (place : ℕ) (command : Command) (answer : Answer) → HearsAnswer settings from machine facts place command answer
      → Always settings machine facts → Always settings (record machine { last_to_cpu = place + 1 }) (content_with facts (Heard answer))
  always-hears from machine facts place command answer h p = record {
    bright = λ is. p.bright (still_timely (is_excused facts (Heard answer)) facts.timely is);
    both = λ input low. (let k = p.both input low in
        record { item = item-heard settings range first begin from machine facts place command answer h input low k.item; shut = k.shut });
    least = p.least;
    watch = p.watch;
  }

-- at the start of both ends
pub always_begun : (settings : Settings) → Always settings start content_begun
always_begun settings = record { bright = λ is. refl; both = both_begun settings; least = least_begun; watch = watch_begun settings }
