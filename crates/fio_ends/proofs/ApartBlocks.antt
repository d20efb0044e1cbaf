-- The entries of a block that the CPU takes are far enough from those of their inputs above.
use Rattle.fio_ends.proofs.Names.{◌||◌, ◌≡◌, ◌∙◌, ◌+◌, ◌<◌, ◌≤◌, ◌&&◌, inl, inr, ℕ, Bool, true, false, not, List, [], ◌∷◌, ◌++◌, length, Option, Some, None, refl, ap, sym, subst, arith, append-nil, if◌then◌else◌, ◌==◌, slice_get, slice_get_within, eqb_tells, nat_lt, nat_tests, Block, says_again, says_more, Settings, AreInRange, Life, Occurrence, Commanded, FilterPair, AllByRecursion, life_of, log_of, Transition, entry_of, MadeBlock, ContentFacts, InputAbove, content_step, Ended, Recorded, Gap, Machine, after_taken, Apart, length-append, InputsAreNear, IsWithinAge, KeepsRule, SentItem, blocks_taken, coming, filter_towards, input_below_clear, input_coming, input_ended, input_with_entry, latest_with, milliseconds_between, settled_now, without_excuse, wide_time_of, is_too_near}
use Rattle.fio_message.specs.declared.commands.Command.TheVariants as commands
use Rattle.fio_ends.proofs.Ahead.{log_ahead}
use Rattle.fio_ends.proofs.BlockPlaces.{end_at, is_next}
use Rattle.fio_ends.proofs.BlockWalk.{IsWalk, entry_event}
use Rattle.fio_ends.proofs.Clocks.{clock, offset_of}
use Rattle.fio_ends.proofs.ContentSteps.{IsKnown, Takes}
use Rattle.fio_ends.proofs.EntryTimes.{WaitBriefly, clear_few, end_is, entry_time, made}
use Rattle.fio_ends.proofs.Fulls.{KeepsFull, full_ended}
use Rattle.fio_ends.proofs.Shut.{KeepsBoth}
use Rattle.fio_ends.proofs.IgnoredKept.{Both, both_ended, both_entry, both_gap}
use Rattle.fio_ends.proofs.LeastFilters.{AreNoMore, IsLoggedWith, KeepsLeast, least-further, logged_left}
use Rattle.fio_ends.proofs.Lives.{log_grows, logged_since}
use Rattle.fio_ends.proofs.MadeNow.{made_now}
use Rattle.fio_ends.proofs.Settled.{setting_of}
use Rattle.fio_ends.proofs.SettledAgain.{IsMadeThen, MadeThen, made_ends, setting-unnamed, settles_open}
use Rattle.fio_ends.proofs.FirstPolls.{LeavesInput, leaves_quiet}
use Rattle.fio_ends.proofs.Spaced.{spaced}
use Rattle.fio_ends.proofs.Steady.{IsSteady}
use Rattle.fio_ends.proofs.Taken.{taken_with}
use Rattle.fio_ends.proofs.Watching.{input_at}
use Rattle.fio_ends.proofs.Floors.{or_true}
use Rattle.fio_ends.proofs.ApartTimes.{AreNearByInput, IsTimed, KeepsApart, KeepsTimes, ahead_of, entries_in, entries_with, far_enough, if_clear, latest_after, latest_after-append, least_by, none_near, none_yet, timed-later, times-later, towards}

module _ (settings : Settings) (range : AreInRange settings) (first : ℕ) (begin : Machine) (above : Option ℕ) where
  abbrev begin_life : Life
  begin_life = life_of begin.history

  module _ (from : Life) (machine : Machine) (place number : ℕ) (answer : Block) (block : MadeBlock)
      (known : IsKnown settings first begin from machine) (t : Takes settings first from machine place number answer block) where
    abbrev heard_now : Life
    heard_now = life_of machine.history

    -- the changes of an input that are still to be recorded were logged with the filters that it has now
    abbrev LoggedNow : ℕ → Type 0
    LoggedNow input = (filters : FilterPair) → AreNoMore filters (setting_of input heard_now) → (j : ℕ) (transition : Transition) → block.end ≤ j
        → slice_get (log_of heard_now) j ≡ Some transition → transition.input ≡ input → IsLoggedWith filters heard_now transition

    logged_then : (input : ℕ) → input < 64 → (life : Life) (more : List Occurrence) → heard_now ≡ more ++ life → AllByRecursion (LeavesInput input) more
        → block.end ≡ length (log_of life) → LoggedNow input
    logged_then input low life more is leaves ends filters no_more j transition high there of_input =
        subst (λ life. IsLoggedWith filters life transition) (sym is)
        (logged_left input low filters life (subst (AreNoMore filters) (ap (setting_of input) is ∙ setting-unnamed input low more life leaves) no_more) more leaves j transition (omega (arith, ends, high))
        (ap (λ life. slice_get (log_of life) j) (sym is) ∙ there) of_input)

    pub logged_clear : (input : ℕ) → input < 64 → block.more ≡ false → says_again answer.status ≡ false → LoggedNow input
    logged_clear input low all anew =
        logged_then input low (Commanded (commands.Poll number) ∷ t.life) t.since.more t.since.is (leaves_quiet input t.since.more t.since.none)
        ((made_now settings first begin from machine place number answer block known t anew).took all)

    pub logged_again : (input : ℕ) → input < 64 → (since : ℕ → Bool) → IsMadeThen settings heard_now since block → since input ≡ false → block.more ≡ false → LoggedNow input
    logged_again input low since m free all = logged_then input low m.life m.more m.now_is (m.none input free) (made_ends input low settings heard_now since block m all)

    -- at a block that settles the input the filters of an item that was taken are those in force
    pub settle_least : (input : ℕ) → input < 64 → LoggedNow input → (above : InputAbove) (taken : Bool) → above.taken ≡ taken
        → (item : Option SentItem) → above.item ≡ item
        → KeepsBoth heard_now machine.to_module machine.last_to_module block.end input above
        → KeepsLeast heard_now machine.to_module machine.last_to_module block.end input above.least
        → KeepsLeast heard_now machine.to_module machine.last_to_module block.end input (input_below_clear above (if taken then item else None)).least
    settle_least input low logged above false is item item_is both k = k
    settle_least input low logged above true is None item_is both k = k
    settle_least input low logged above true is (Some item) item_is both k =
        let has = (both.item.taken_one is item item_is).1 in
        let filters : AreNoMore item.filters (setting_of input heard_now) = record { leading = omega (arith, has.leading); trailing = omega (arith, has.trailing) } in
        record {
          now = filters;
          coming = λ place frame high there. absurd (omega (arith, t.received, slice_get_within machine.to_module place frame there));
          logged = λ j transition high there of_input. logged item.filters filters j transition high there of_input;
        }

    pub least_settled : (input : ℕ) → input < 64 → (settling : Bool) (above : InputAbove) → (settling ≡ true → LoggedNow input)
        → KeepsBoth heard_now machine.to_module machine.last_to_module block.end input above
        → KeepsLeast heard_now machine.to_module machine.last_to_module block.end input above.least
        → KeepsLeast heard_now machine.to_module machine.last_to_module block.end input (input_ended settling above).least
    least_settled input low true above logged both k = settle_least input low (logged refl) above above.taken refl above.item refl both k
    least_settled input low false above logged both k = k

  module _ (from : Life) (machine : Machine) (place number : ℕ) (answer : Block) (block : MadeBlock)
      (known : IsKnown settings first begin from machine) (t : Takes settings first from machine place number answer block)
      (asked : AreNearByInput above (blocks_taken settings begin machine ++ block ∷ [])) (steady : IsSteady (life_of begin.history) (life_of machine.history))
      (heard : ContentFacts) (brief : heard.timely ≡ true → heard.aged ≡ false → WaitBriefly block) where
    abbrev now : Life
    now = life_of machine.history

    abbrev latest_above : ℕ → Option ℕ
    latest_above = latest_after none_yet (entries_in (blocks_taken settings begin machine))

    -- what is kept between the entries
    pub record KeepsRest (upto : ℕ) (rest : List Transition) (facts : ContentFacts) : Type 0 where
      pub timely_is : facts.timely ≡ heard.timely
      pub aged_is : facts.aged ≡ heard.aged
      pub full : KeepsFull settings begin above machine facts
      pub made : MadeThen settings now block facts
      pub both : Both settings range first begin from machine place number answer block known t upto rest facts
      pub least : (input : ℕ) → input < 64 → KeepsLeast now machine.to_module machine.last_to_module upto input (facts.inputs input).least
      pub latest : ℕ → Option ℕ
      pub near : InputsAreNear latest rest
      pub latest_is : latest_after latest rest ≡ latest_after latest_above block.transitions
      pub times : KeepsTimes settings begin_life now upto machine.round latest facts

    gap_step : (facts : ContentFacts) → end_at settings now machine.round ≤ block.start → KeepsRest (end_at settings now machine.round) block.transitions facts
        → KeepsRest block.start block.transitions (content_step facts (Recorded Gap))
    gap_step facts forward q = record {
      timely_is = q.timely_is;
      aged_is = q.aged_is;
      full = q.full;
      made = q.made;
      both = λ input low. (let k = (both_gap settings range first begin from machine place number answer block known t facts forward q.both) input low in record { item = k.item; shut = k.shut });
      least = λ input low. least-further machine.to_module machine.last_to_module (end_at settings now machine.round) input (facts.inputs input).least low now block.start forward (q.least input low);
      latest = q.latest;
      near = q.near;
      latest_is = q.latest_is;
      times =
          (let k = times-later settings begin_life now now [] (end_at settings now machine.round) block.start machine.round q.latest q.latest facts (sym (append-nil (log_of now))) forward refl q.times in
          record { clear = k.clear; timed = k.timed });
    }

    -- an entry is far enough from the latest one of its input
    entry_far : (k upto : ℕ) (transition : Transition) (rest : List Transition) (facts : ContentFacts) → slice_get block.transitions k ≡ Some transition
        → slice_get (log_of now) upto ≡ Some transition → KeepsRest upto (transition ∷ rest) facts
        → facts.timely ≡ true → facts.aged ≡ false → (time : ℕ) → (facts.inputs transition.input).timed ≡ Some time
        → is_too_near (record { level = transition.level; wide = wide_time_of answer.stamp (entry_of transition).stamp }) (facts.inputs transition.input).least time ≡ false
    entry_far k upto transition rest facts at logged q clear young time is =
        let low = input_at now upto transition logged in
        let found = q.times.timed transition.input low time is in
        let c = q.times.clear found.0 in
        let e = found.1 in
        let wide = entry_time settings first begin from machine place number answer block known t (brief (sym q.timely_is ∙ clear) (sym q.aged_is ∙ young)) steady k upto transition at logged c.0 c.1 in
        let w = (q.least transition.input low).logged upto transition (omega arith) logged refl in
        let older = logged_since [] now e.place e.transition (record { more = now; is = sym (append-nil now) }) (omega arith) e.at in
        let less : e.transition.scans < transition.scans = ahead_of e.transition transition (log_ahead now e.place upto e.transition transition e.below e.at logged) e.of_input in
        let apart = spaced now older.raw w.raw older.life w.life e.transition transition older.upto w.upto older.of_scan w.of_scan (sym e.of_input) less in
        let least = towards transition.level (facts.inputs transition.input).least transition.input w.life w.filters in
        let near : IsWithinAge (Some e.transition.scans) transition.scans = subst (λ l. IsWithinAge l transition.scans) e.latest_is q.near.0 in
        subst (λ wide. nat_lt (milliseconds_between time wide) (filter_towards transition.level (facts.inputs transition.input).least) ≡ false) (sym wide)
        (subst (λ earlier. nat_lt (milliseconds_between earlier (clock (offset_of begin_life) transition.scans)) (filter_towards transition.level (facts.inputs transition.input).least) ≡ false) (sym e.time_is)
        (far_enough (offset_of begin_life) e.transition.scans transition.scans (filter_towards transition.level (facts.inputs transition.input).least) (omega arith) (omega (arith, near))))

    entry_step : (k : ℕ) (transition : Transition) (rest : List Transition) (facts : ContentFacts) → slice_get block.transitions k ≡ Some transition
        → slice_get (log_of now) (block.start + k) ≡ Some transition → KeepsRest (block.start + k) (transition ∷ rest) facts
        → KeepsRule Apart (without_excuse facts) (entry_event answer.stamp transition)
        × KeepsRest (block.start + (k + 1)) rest (content_step facts (entry_event answer.stamp transition))
    entry_step k transition rest facts at logged q =
        let upto = block.start + k in
        let further = block.start + (k + 1) in
        let wide = wide_time_of answer.stamp (entry_of transition).stamp in
        let both = both_entry settings range first begin from machine place number answer block known t k transition rest facts at logged q.both in (
          none_near (is_too_near (record { level = transition.level; wide = wide }) (facts.inputs transition.input).least) facts.timely facts.aged (facts.inputs transition.input).timed
              (λ timely young time found. entry_far k upto transition rest facts at logged q timely young time found),
          record {
            timely_is = q.timely_is;
            aged_is = q.aged_is;
            full = q.full;
            made = q.made;
            both = λ input low. (let k = (both.1) input low in record { item = k.item; shut = k.shut });
            least = λ input low.
                subst (KeepsLeast now machine.to_module machine.last_to_module further input)
                (sym (least_by ((input == transition.input) && nat_lt input 64) facts transition.level wide (input_coming input (coming facts (entry_event answer.stamp transition)) (facts.inputs input))))
                (least-further machine.to_module machine.last_to_module upto input (facts.inputs input).least low now further (omega arith) (q.least input low));
            latest = latest_with q.latest transition;
            near = q.near.1;
            latest_is = q.latest_is;
            times =
                (let c = q.times in
                record {
                  clear = λ is. (let was = c.clear is in (omega (arith, was.0), was.1));
                  timed = λ input low time is.
                      elim (eqb_tells input transition.input) as (λ _. (facts.timely ≡ true) × IsTimed (offset_of begin_life) now further input (latest_with q.latest transition input) time) [
                        | inl same ↦
                            let there : nat_lt input 64 ≡ true = grind (arith, nat_tests) in
                            let met : ((input == transition.input) && nat_lt input 64) ≡ true = ap (λ b. b && nat_lt input 64) same.0 ∙ there in
                            let now_timed : (if facts.timely && not facts.aged then Some wide else None) ≡ Some time =
                            sym (ap (λ (b : Bool). (if b then input_with_entry facts transition.level wide (input_coming input (coming facts (entry_event answer.stamp transition)) (facts.inputs input)) else input_coming input (coming facts (entry_event answer.stamp transition)) (facts.inputs input)).timed) met) ∙ is in
                            let parts = if_clear facts.timely facts.aged wide time now_timed in
                            let was = c.clear parts.0 in (
                              parts.0,
                              record {
                                place = upto;
                                transition = transition;
                                at = logged;
                                of_input = sym same.1;
                                below = omega arith;
                                time_is = sym parts.2 ∙ entry_time settings first begin from machine place number answer block known t (brief (sym q.timely_is ∙ parts.0) (sym q.aged_is ∙ parts.1)) steady k upto transition at logged was.0 was.1;
                                latest_is = ap (λ (b : Bool). if b then Some transition.scans else q.latest input) same.0;
                              },
                            )
                        | inr apart ↦
                            let met : ((input == transition.input) && nat_lt input 64) ≡ false = ap (λ b. b && nat_lt input 64) apart.0 in
                            let was_timed : (facts.inputs input).timed ≡ Some time =
                            sym (ap (λ (b : Bool). (if b then input_with_entry facts transition.level wide (input_coming input (coming facts (entry_event answer.stamp transition)) (facts.inputs input)) else input_coming input (coming facts (entry_event answer.stamp transition)) (facts.inputs input)).timed) met) ∙ is in
                            let before = c.timed input low time was_timed in (
                              before.0,
                              timed-later (offset_of begin_life) now now [] upto further input (q.latest input) (latest_with q.latest transition input) time
                                  (sym (append-nil (log_of now))) (omega arith) (ap (λ (b : Bool). if b then Some transition.scans else q.latest input) apart.0) before.1,
                            )
                      ];
                });
          },
        )

    timed_below : (above : InputAbove) (item : Option SentItem) → (input_below_clear above item).timed ≡ above.timed
    timed_below above None = refl
    timed_below above (Some item) = refl

    timed_ended : (settling : Bool) (above : InputAbove) → (input_ended settling above).timed ≡ above.timed
    timed_ended true above = timed_below above (settled_now above)
    timed_ended false above = refl

    -- what is kept below the end of the block
    record KeepsEnd (facts : ContentFacts) : Type 0 where
      pub full : KeepsFull settings begin above (after_taken machine place answer) facts
      pub both : Both settings range first begin from machine place number answer block known t block.end [] facts
      pub least : (input : ℕ) → input < 64 → KeepsLeast now machine.to_module machine.last_to_module block.end input (facts.inputs input).least
      pub times : KeepsTimes settings begin_life now block.end (machine.round + 1) (latest_after latest_above block.transitions) facts

    times_next : (facts : ContentFacts) (latest : ℕ → Option ℕ) → latest ≡ latest_after latest_above block.transitions → KeepsTimes settings begin_life now block.end machine.round latest facts
        → KeepsTimes settings begin_life now block.end (machine.round + 1) (latest_after latest_above block.transitions) facts
    times_next facts latest same k = record {
      clear = λ is. (let c = k.clear is in (c.0, omega (arith, c.1)));
      timed = λ input low time is.
          (let e = k.timed input low time is in (
            e.0,
            timed-later (offset_of begin_life) now now [] block.end block.end input (latest input) (latest_after latest_above block.transitions input) time
                (sym (append-nil (log_of now))) (omega arith) (sym (ap (λ (f : ℕ → Option ℕ). f input) same)) e.1,
          ));
    }

    ended_full : (facts : ContentFacts) → KeepsRest block.end [] facts
        → KeepsFull settings begin above (after_taken machine place answer) (content_step facts (Ended answer.status answer.stamp))
    ended_full facts q = full_ended settings range first begin above from machine place number answer block known t asked.blocks_near steady facts q.full

    end_step : (facts : ContentFacts) (more again : Bool) → says_more answer.status ≡ more → says_again answer.status ≡ again → KeepsRest block.end [] facts
        → KeepsEnd (content_step facts (Ended answer.status answer.stamp))
    end_step facts true again more_is again_is q =
        rw more_is (record { full = rw more_is at (ended_full facts q); both = λ input low. (let k = q.both input low in record { item = k.item; shut = k.shut }); least = q.least; times = (let k = times_next facts q.latest q.latest_is q.times in record { clear = k.clear; timed = k.timed }) })
    end_step facts false true more_is again_is q =
        let all : block.more ≡ false = sym t.carried.more ∙ more_is in
        let both = both_ended settings range first begin from machine place number answer block known t facts q.made false true more_is again_is q.both in
        rw (more_is, again_is) (record {
          full = rw (more_is, again_is) at (ended_full facts q);
          both = λ input low. (let k = (rw (more_is, again_is) at both) input low in record { item = k.item; shut = k.shut });
          least = λ input low. (let above = input_coming input (coming facts (Ended answer.status answer.stamp)) (facts.inputs input) in
              let k = q.both input low in
              least_settled from machine place number answer block known t input low (facts.clear && not (facts.since_poll input)) above
              (λ is. (let s = settles_open facts.clear (facts.since_poll input) is in logged_again from machine place number answer block known t input low facts.since_poll (q.made s.0) s.1 all))
              (record { item = k.item; shut = k.shut }) (q.least input low));
          times = (let k = times_next facts q.latest q.latest_is q.times in record {
            clear = k.clear;
            timed = λ input low time is. k.timed input low time
                (sym (timed_ended (facts.clear && not (facts.since_poll input)) (input_coming input (coming facts (Ended answer.status answer.stamp)) (facts.inputs input))) ∙ is);
          });
        })
    end_step facts false false more_is again_is q =
        let all : block.more ≡ false = sym t.carried.more ∙ more_is in
        let both = both_ended settings range first begin from machine place number answer block known t facts q.made false false more_is again_is q.both in
        let few = clear_few settings first begin from machine place number answer block known t again_is in
        let ends = end_is settings first begin from machine place number answer block known t few all in
        let m = made settings first begin from machine place number answer block known t few in
        let grown = log_grows begin_life m.life m.begun in
        rw (more_is, again_is) (record {
          full = rw (more_is, again_is) at (ended_full facts q);
          both = λ input low. (let k = (rw (more_is, again_is) at both) input low in record { item = k.item; shut = k.shut });
          least = λ input low. (let above = input_coming input (coming facts (Ended answer.status answer.stamp)) (facts.inputs input) in
              let k = q.both input low in
              settle_least from machine place number answer block known t input low (logged_clear from machine place number answer block known t input low all again_is) above above.taken refl above.item refl
              (record { item = k.item; shut = k.shut }) (q.least input low));
          times = record {
            clear = λ is. (omega (arith, ends, ap length grown.1, length-append (log_of begin_life) grown.0), omega (arith, few));
            timed = λ input low time is.
                (let e = (times_next facts q.latest q.latest_is q.times).timed input low time
                (sym (timed_below (input_coming input (coming facts (Ended answer.status answer.stamp)) (facts.inputs input)) (settled_now (facts.inputs input))) ∙ is) in
                (ap (λ b. facts.block_heard || b) e.0 ∙ or_true facts.block_heard, e.1));
          };
        })

    apart_last : (facts : ContentFacts) → KeepsEnd facts → KeepsApart settings begin above (after_taken machine place answer) facts
    apart_last facts e =
        let upto = (is_next settings now machine.round block t.made).ends in
        let taken : latest_after none_yet (entries_in (blocks_taken settings begin (after_taken machine place answer))) ≡ latest_after latest_above block.transitions =
        ap (λ blocks. latest_after none_yet (entries_in blocks)) (taken_with settings range first begin (AreNearByInput above) machine place answer block known.rounds t.made)
        ∙ ap (latest_after none_yet) (entries_with (blocks_taken settings begin machine) block)
        ∙ latest_after-append none_yet (entries_in (blocks_taken settings begin machine)) block.transitions in
        record {
          full = e.full;
          both = λ input low. subst (λ n. KeepsBoth now machine.to_module machine.last_to_module n input (facts.inputs input)) upto (e.both input low);
          least = λ input low. subst (λ n. KeepsLeast now machine.to_module machine.last_to_module n input (facts.inputs input).least) upto (e.least input low);
          times =
              times-later settings begin_life now now [] block.end (end_at settings now (machine.round + 1)) (machine.round + 1) (latest_after latest_above block.transitions)
              (latest_after none_yet (entries_in (blocks_taken settings begin (after_taken machine place answer)))) facts (sym (append-nil (log_of now))) (omega (arith, upto)) taken e.times;
        }

    pub apart_walk : IsWalk (λ facts. KeepsRule Apart (without_excuse facts)) content_step settings now machine.round answer block KeepsRest (KeepsApart settings begin above (after_taken machine place answer))
    apart_walk = record {
      gap = gap_step;
      entry = entry_step;
      ended = λ facts q. (
        tt,
        apart_last (content_step facts (Ended answer.status answer.stamp)) (end_step facts (says_more answer.status) (says_again answer.status) refl refl q),
      );
    }
