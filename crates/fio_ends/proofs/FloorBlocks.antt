-- The entries of a block that the CPU takes come after the floor, and are the floor of those after them.
use Rattle.fio_ends.proofs.Names.{◌≡◌, ◌∙◌, ◌+◌, ◌≤◌, ℕ, Bool, true, false, List, [], ◌∷◌, ◌++◌, length, Option, Some, None, refl, ap, sym, subst, arith, if◌then◌else◌, slice_get, Block, says_again, says_more, Settings, AreInRange, Life, life_of, scans_of, log_of, Transition, entry_of, MadeBlock, blocks_of, ContentFacts, content_step, Ended, Recorded, Machine, after_taken, Order, Fresh, ContentEvent, loads_of, same_Some, Gap, each-at, BlockTimely, BlocksAreNear, Floor, IsNear, IsTimely, KeepsRule, blocks_taken, blocks_timely, is_out_of_order, is_stale, scans_below, without_excuse, wide_time_of}
use Rattle.fio_ends.proofs.Ahead.{log_ahead}
use Rattle.fio_ends.proofs.BlockPlaces.{end_at, is_next}
use Rattle.fio_ends.proofs.BlockWalk.{IsWalk, entry_event}
use Rattle.fio_ends.proofs.Clocks.{IsClocked, block_stamped, clock, offset_of}
use Rattle.fio_ends.proofs.Following.{GoesOn}
use Rattle.fio_ends.proofs.Fulls.{IsFull, KeepsFull, full_ended, near_last, scans_after, scans_after-append}
use Rattle.fio_ends.proofs.Lives.{logged_since, scans_grow}
use Rattle.fio_ends.proofs.ContentSteps.{IsKnown, Takes}
use Rattle.fio_ends.proofs.EntryTimes.{WaitBriefly}
use Rattle.fio_ends.proofs.EntryTimes as times
use Rattle.fio_ends.proofs.Steady.{IsSteady}
use Rattle.fio_ends.proofs.Taken.{taken_with}
use Rattle.fio_ends.proofs.Floors.{IsBehind, IsFloor, KeepsFloor, behind, floor-same, none_breaks}

-- an event keeps both rules, whatever loads of the counter excuse
abbrev pub KeepsFloorRules : ContentFacts → ContentEvent → Type 0
KeepsFloorRules facts event = KeepsRule Order (without_excuse facts) event × KeepsRule Fresh (without_excuse facts) event

-- ---- the CPU takes a block

module _ (settings : Settings) (range : AreInRange settings) (first : ℕ) (begin : Machine) (above : Option ℕ) where
  abbrev begin_life : Life
  begin_life = life_of begin.history

  module _ (from : Life) (machine : Machine) (place number : ℕ) (answer : Block) (block : MadeBlock)
      (known : IsKnown settings first begin from machine) (t : Takes settings first from machine place number answer block)
      (asked : BlocksAreNear above (blocks_taken settings begin machine ++ block ∷ [])) where
    abbrev now : Life
    now = life_of machine.history

    abbrev g : GoesOn begin_life now
    g = times.since_begin settings first begin from machine place number answer block known t

    abbrev before_block : Option ℕ
    before_block = scans_after above (blocks_taken settings begin machine)

    abbrev Full : Option ℕ → Type 0
    Full full = IsFull settings begin_life now (end_at settings now machine.round) machine.round before_block full

    -- what is kept between the entries of the block, where it was heard below these facts
    pub record KeepsRest (heard : ContentFacts) (upto : ℕ) (rest : List Transition) (facts : ContentFacts) : Type 0 where
      pub timely_is : facts.timely ≡ heard.timely
      pub full_is : facts.full ≡ heard.full
      pub aged_is : facts.aged ≡ heard.aged
      pub floor : heard.timely ≡ true → (f : Floor) → facts.floor ≡ Some f → IsFloor (offset_of begin_life) now upto before_block f
      pub forward : end_at settings now machine.round ≤ upto

    -- the time of an entry
    module _ (steady : loads_of now ≡ loads_of begin_life) (k upto : ℕ) (transition : Transition)
        (at : slice_get block.transitions k ≡ Some transition) (logged : slice_get (log_of now) upto ≡ Some transition) (full : Option ℕ) (f : Full full)
        (low : end_at settings now machine.round ≤ upto) (brief : WaitBriefly block) where
      entry_clocked : IsClocked begin_life now g steady transition
      entry_clocked = times.entry_clocked settings first begin from machine place number answer block known t brief steady k upto transition at logged (omega (arith, low, f.log)) f.blocks

      entry_time : wide_time_of answer.stamp (entry_of transition).stamp ≡ clock (offset_of begin_life) transition.scans
      entry_time = times.entry_time settings first begin from machine place number answer block known t brief steady k upto transition at logged (omega (arith, low, f.log)) f.blocks

      -- it is the floor of those that are still to be recorded
      entry_floor : (floor : Floor) → Some (record { time = wide_time_of answer.stamp (entry_of transition).stamp; input = Some transition.input }) ≡ Some floor
          → IsFloor (offset_of begin_life) now (upto + 1) before_block floor
      entry_floor floor is =
          subst (IsFloor (offset_of begin_life) now (upto + 1) before_block) (same_Some _ _ is)
          (record {
            scans = transition.scans;
            time = entry_time;
            low = λ scans is.
                (let same : f.scans ≡ scans = same_Some _ _ (sym f.before_is ∙ is) in
                let later = f.ahead upto transition low logged in
                omega (arith, same, later));
            within = entry_clocked.upto;
            ahead = λ j later high there. log_ahead now upto j transition later (omega arith) logged there;
          })

      -- and it comes after the floor above
      entry_behind : (floor : Floor) → IsFloor (offset_of begin_life) now upto before_block floor
          → IsBehind floor transition.input (wide_time_of answer.stamp (entry_of transition).stamp)
      entry_behind floor found =
          let timely = each-at BlockTimely (blocks_of settings now) machine.round block (blocks_timely settings now) t.made in
          let within = (each-at (IsTimely block.stamp block.scans block.loads) block.transitions k transition timely at).scanned_before in
          let close : IsNear (Some f.scans) block.scans = subst (λ b. IsNear b block.scans) f.before_is (near_last above (blocks_taken settings begin machine) block asked) in
          let low_scans = found.low f.scans f.before_is in
          subst (λ wide. IsBehind floor transition.input wide) (sym entry_time)
          (subst (λ time. IsBehind (record { time = time; input = floor.input }) transition.input (clock (offset_of begin_life) transition.scans)) (sym found.time)
          (behind (offset_of begin_life) floor.input found.scans transition (found.ahead upto transition (omega arith) logged)
          (omega (arith, close, within, low_scans))))

    -- a block without C that was made since the log began is the floor of those that are still to be recorded
    module _ (steady : loads_of now ≡ loads_of begin_life) (few : length (blocks_of settings begin_life) ≤ machine.round) (all : block.more ≡ false) where
      end_floor : (before : Option ℕ) → before ≡ Some block.scans → (floor : Floor) → Some (record { time = answer.stamp; input = None }) ≡ Some floor
          → IsFloor (offset_of begin_life) now block.end before floor
      end_floor before at floor is =
          let m = times.made settings first begin from machine place number answer block known t few in
          let ends = times.end_is settings first begin from machine place number answer block known t few all in
          let stamped = block_stamped begin_life now g steady settings block m in
          let scans : block.scans ≡ scans_of m.life = ap (λ (b : MadeBlock). b.scans) m.is in
          subst (IsFloor (offset_of begin_life) now block.end before) (same_Some _ _ is)
          (record {
            scans = block.scans;
            time = t.carried.stamp ∙ stamped.stamp;
            low = λ full is. (let same : block.scans ≡ full = same_Some _ _ (sym at ∙ is) in omega (arith, same));
            within = stamped.upto;
            ahead = λ j later high there.
                (let l = logged_since m.life now j later m.upto (omega (arith, ends)) there in
                let since = scans_grow m.life l.life l.begun in
                let scans_then = ap (λ (t : Transition). t.scans) l.of_scan.is in
                omega arith);
          })

    -- a clear block was made since the log began
    clear_few : says_again answer.status ≡ false → length (blocks_of settings begin_life) ≤ machine.round
    clear_few = times.clear_few settings first begin from machine place number answer block known t

    -- ---- event by event

    module _ (steady : IsSteady begin_life now) (heard : ContentFacts) (full : heard.timely ≡ true → Full heard.full)
        (brief : heard.timely ≡ true → heard.aged ≡ false → WaitBriefly block) where
      -- what holds of the machine then
      abbrev Last : ContentFacts → Type 0
      Last facts = KeepsFloor settings begin above (after_taken machine place answer) facts

      abbrev Rest : ℕ → List Transition → ContentFacts → Type 0
      Rest = KeepsRest heard

      gap_step : (facts : ContentFacts) → end_at settings now machine.round ≤ block.start
          → Rest (end_at settings now machine.round) block.transitions facts
          → Rest block.start block.transitions (content_step facts (Recorded Gap))
      gap_step facts forward q = record {
        timely_is = q.timely_is;
        full_is = q.full_is;
        aged_is = q.aged_is;
        floor = λ clear f at. floor-same (offset_of begin_life) now now (end_at settings now machine.round) block.start before_block before_block f refl refl forward refl (q.floor clear f at);
        forward = forward;
      }

      entry_step : (k : ℕ) (transition : Transition) (rest : List Transition) (facts : ContentFacts) → slice_get block.transitions k ≡ Some transition
          → slice_get (log_of now) (block.start + k) ≡ Some transition → Rest (block.start + k) (transition ∷ rest) facts
          → KeepsFloorRules facts (entry_event answer.stamp transition)
          × Rest (block.start + (k + 1)) rest (content_step facts (entry_event answer.stamp transition))
      entry_step k transition rest facts at logged q = (
        (
          none_breaks (is_out_of_order transition.input wide) facts.timely facts.aged facts.floor (λ timely young f at_floor. (behind_floor timely young f at_floor).in_order),
          none_breaks (is_stale wide) facts.timely facts.aged facts.floor (λ timely young f at_floor. (behind_floor timely young f at_floor).fresh),
        ),
        record {
          timely_is = q.timely_is;
          full_is = q.full_is;
          aged_is = q.aged_is;
          floor = λ clear f at_floor. by_age clear facts.aged refl f at_floor;
          forward = omega (arith, q.forward);
        },
      )
        where
          wide : ℕ
          wide = wide_time_of answer.stamp (entry_of transition).stamp

          behind_floor : facts.timely ≡ true → facts.aged ≡ false → (f : Floor) → facts.floor ≡ Some f → IsBehind f transition.input wide
          behind_floor timely young f at_floor =
              let below : heard.timely ≡ true = sym q.timely_is ∙ timely in
              entry_behind steady k (block.start + k) transition at logged heard.full (full below) q.forward (brief below (sym q.aged_is ∙ young)) f (q.floor below f at_floor)

          by_age : heard.timely ≡ true → (aged : Bool) → facts.aged ≡ aged → (f : Floor)
              → (if aged then None else Some (record { time = wide_time_of answer.stamp (entry_of transition).stamp; input = Some transition.input })) ≡ Some f
              → IsFloor (offset_of begin_life) now (block.start + (k + 1)) before_block f
          by_age clear true old f at_floor = absurd (cc at_floor)
          by_age clear false young f at_floor =
              let next_place : (block.start + k) + 1 ≡ block.start + (k + 1) = omega arith in
              subst (λ upto. IsFloor (offset_of begin_life) now upto before_block f) next_place
              (entry_floor steady k (block.start + k) transition at logged heard.full (full clear) q.forward (brief clear (sym q.aged_is ∙ young)) f at_floor)

      -- below the last entry
      taken : scans_after above (blocks_taken settings begin (after_taken machine place answer)) ≡ scans_below before_block block
      taken = ap (scans_after above) (taken_with settings range first begin (BlocksAreNear above) machine place answer block known.rounds t.made)
          ∙ scans_after-append above (blocks_taken settings begin machine) block

      ends : block.end ≡ end_at settings now (machine.round + 1)
      ends = (is_next settings now machine.round block t.made).ends

      still_full : (facts : ContentFacts) {upto : ℕ} → Rest upto [] facts → KeepsFull settings begin above machine facts
      still_full facts q clear = subst (IsFull settings begin_life now (end_at settings now machine.round) machine.round before_block) (sym q.full_is) (full (sym q.timely_is ∙ clear))

      whole : (floor : Floor) → block.more ≡ false → length (blocks_of settings begin_life) ≤ machine.round → loads_of now ≡ loads_of begin_life
          → Some (record { time = answer.stamp; input = None }) ≡ Some floor
          → IsFloor (offset_of begin_life) now (end_at settings now (machine.round + 1)) (scans_after above (blocks_taken settings begin (after_taken machine place answer))) floor
      whole floor all few same at =
          let point = taken ∙ ap (λ (m : Bool). if m then before_block else Some block.scans) all in
          floor-same (offset_of begin_life) now now block.end (end_at settings now (machine.round + 1)) _ _ floor refl refl (omega (arith, ends)) refl
          (end_floor same few all (scans_after above (blocks_taken settings begin (after_taken machine place answer))) point floor at)

      after_floor : (facts : ContentFacts) (more again : Bool) → says_more answer.status ≡ more → says_again answer.status ≡ again → Rest block.end [] facts
          → (content_step facts (Ended answer.status answer.stamp)).timely ≡ true → (f : Floor) → (content_step facts (Ended answer.status answer.stamp)).floor ≡ Some f
          → IsFloor (offset_of begin_life) now (end_at settings now (machine.round + 1)) (scans_after above (blocks_taken settings begin (after_taken machine place answer))) f
      after_floor facts true again more_is again_is q = rw more_is (λ clear f at.
          floor-same (offset_of begin_life) now now block.end (end_at settings now (machine.round + 1)) before_block _ f refl refl (omega (arith, ends))
          (taken ∙ ap (λ (m : Bool). if m then before_block else Some block.scans) (sym t.carried.more ∙ more_is))
          (q.floor (sym q.timely_is ∙ clear) f at))
      after_floor facts false true more_is again_is q = rw (more_is, again_is) (λ clear f at.
          whole f (sym t.carried.more ∙ more_is) (full (sym q.timely_is ∙ clear)).blocks steady at)
      after_floor facts false false more_is again_is q = rw (more_is, again_is) (λ clear f at.
          whole f (sym t.carried.more ∙ more_is) (clear_few again_is) steady at)

      after_block : (facts : ContentFacts) → Rest block.end [] facts → Last (content_step facts (Ended answer.status answer.stamp))
      after_block facts q = record {
        full = full_ended settings range first begin above from machine place number answer block known t asked steady facts (still_full facts q);
        floor = after_floor facts (says_more answer.status) (says_again answer.status) refl refl q;
      }

      pub floor_walk : IsWalk KeepsFloorRules content_step settings now machine.round answer block Rest Last
      floor_walk = record {
        gap = gap_step;
        entry = entry_step;
        ended = λ facts q. ((tt, tt), after_block facts q);
      }
