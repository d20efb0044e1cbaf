-- The times of recorded items.
use Rattle.std.proofs.lemmas.Bool.Decides.{nat_tests}
use Rattle.fio_link.proofs.Names.{◌≡◌, ℕ, zero, suc, ◌+◌, ◌-◌, ◌%◌, ◌^◌, ◌<◌, ◌≤◌, Bool, true, false, List, [], ◌∷◌, ◌++◌, map, Option, Some, None, refl, arith, if◌then◌else◌, flat_map, AllByRecursion, AllZip, Command, asked_number, one_more_if_loaded, is_reported, Settings, Life, Scanned, LineSynced, Commanded, counter_events, scans_of, loads_of, filter_events, Transition, entry_of, log_of, transition_at, MadeBlock, blocks_of, next_block, item_of, sources_of, IsInTime, IsTimed}
use Rattle.std.specs.Prelude.{unwrap_or}
use Rattle.fio_message.specs.declared.commands.Command.TheVariants.{LoadCounter}
use Rattle.fio_input.specs.Counter.{loaded_number, ticks_unless_loaded, ticks_after_load}
use Rattle.fio_input.specs.Widening.{wide_time_of}
use Rattle.fio_input.proofs.Times.{wide_time_of_only}
use Rattle.fio_module.specs.Life.{counter_of}
use Rattle.fio_module.specs.Log.{transitions_below}
use Rattle.fio_cpu.specs.declared.record.Item.TheVariants as items
use Rattle.fio_link.specs.Claims.{Loss, From}
use Rattle.fio_link.proofs.MadeBlocks.{each-append, each-take, each-drop, each-map, each_block}
use Rattle.fio_link.proofs.OneLife.{recorded_of}

-- the counter, after these scans and loads, is ahead of that at the transition by the scans since then, if none loaded since
pub record IsTimely (counter scans loads : ℕ) (transition : Transition) : Type 0 where
  pub fits : transition.counter < 2 ^ 32
  pub scanned_before : transition.scans ≤ scans
  pub loaded_before : transition.loads ≤ loads
  pub on : loads ≡ transition.loads → counter ≡ (transition.counter + (scans - transition.scans)) % 2 ^ 32

-- a transition that is timely at the end of a life
abbrev Timely : Life → Transition → Type 0
Timely life transition = IsTimely (counter_of life) (scans_of life) (loads_of life) transition

-- it is so after a scan
timely-scan : (life : Life) (raw : ℕ) (t : Transition) → Timely life t → Timely (Scanned raw ∷ life) t
timely-scan life raw t p = grind (arith, nat_tests)

-- after a line sync, whether it loads or not
timely-sync : (life : Life) (t : Transition) (asked : Option ℕ) → Timely life t
    → let before = counter_events life in
    IsTimely
    ((unwrap_or asked (loaded_number before) + ticks_unless_loaded asked (ticks_after_load before)) % 2 ^ 32)
    (scans_of life) (one_more_if_loaded asked (loads_of life)) t
timely-sync life t None p = p
timely-sync life t (Some number) p = grind (arith, nat_tests)

-- after a command
timely-command : (life : Life) (command : Command) (t : Transition) → Timely life t
    → Timely (Commanded command ∷ life) t
timely-command life (LoadCounter load) t p = p
timely-command life other t p = p

-- a new transition is
timely-new : (reported : Bool) (life : Life) (input : ℕ)
    → AllByRecursion (Timely life) (if reported then transition_at life input ∷ [] else [])
timely-new true life input = grind (arith, nat_tests)
timely-new false life input = tt

-- those of a scan are
timely-below : (count raw : ℕ) (life : Life)
    → AllByRecursion (Timely (Scanned raw ∷ life)) (transitions_below count raw life)
unfolding transitions_below
timely-below zero raw life = tt
timely-below (suc input) raw life =
    each-append (Timely (Scanned raw ∷ life)) (transitions_below input raw life) _ (timely-below input raw life)
    (timely-new (is_reported input raw (filter_events life)) (Scanned raw ∷ life) input)

-- all transitions of a life are timely
log_timely : (life : Life) → AllByRecursion (Timely life) (log_of life)
log_timely [] = tt
log_timely (Scanned raw ∷ life) =
    each-append (Timely (Scanned raw ∷ life)) (log_of life) _
    (each-map (Timely life) (Timely (Scanned raw ∷ life)) (timely-scan life raw) (log_of life) (log_timely life))
    (timely-below 64 raw life)
log_timely (LineSynced ∷ life) =
    each-map (Timely life) (Timely (LineSynced ∷ life))
    (λ t p. timely-sync life t (asked_number (counter_events life)) p) (log_of life) (log_timely life)
log_timely (Commanded command ∷ life) =
    each-map (Timely life) (Timely (Commanded command ∷ life)) (timely-command life command) (log_of life) (log_timely life)
log_timely (other ∷ life) = log_timely life

-- the transitions of a block are timely at its making
abbrev pub BlockTimely : MadeBlock → Type 0
BlockTimely block = AllByRecursion (IsTimely block.stamp block.scans block.loads) block.transitions

-- the block that a new poll makes next
next_timely : (settings : Settings) (life : Life) → BlockTimely (next_block settings life)
next_timely settings life = grind (arith, nat_tests, each-take, each-drop, log_timely)

-- each block of a life
pub blocks_timely : (settings : Settings) (life : Life)
    → AllByRecursion BlockTimely (blocks_of settings life)
blocks_timely settings life = each_block BlockTimely settings (next_timely settings) life

-- a counter that lies fewer than 2 ^ 16 steps back is found from its low 16 bits
widened_back : (counter age : ℕ) → counter < 2 ^ 32 → age < 2 ^ 16
    → counter ≡ wide_time_of ((counter + age) % 2 ^ 32) (counter % 2 ^ 16)
widened_back counter age fits recent =
    wide_time_of_only ((counter + age) % 2 ^ 32) (counter % 2 ^ 16) counter (omega arith) (omega arith)
    (record { in_range = fits; same_low = refl; age = age; is_recent = recent; stamped = refl })

-- the widened time of an entry is its counter, if the transition is in time
pub wide_time : (block : MadeBlock) (t : Transition) → IsTimely block.stamp block.scans block.loads t
    → IsInTime t block
    → wide_time_of block.stamp (t.counter % 2 ^ 16) ≡ t.counter
wide_time block t p q = grind (arith, nat_tests, widened_back)

-- two pairs of lists that agree one by one
zip-append : {A B : Type 0} (R : A → B → Type 0) (xs ys : List A) (us vs : List B) → AllZip R xs us
    → AllZip R ys vs → AllZip R (xs ++ ys) (us ++ vs)
zip-append R [] ys [] vs p q = q
zip-append R [] ys (u ∷ us) vs p q = absurd p
zip-append R (x ∷ xs) ys [] vs p q = absurd p
zip-append R (x ∷ xs) ys (u ∷ us) vs p q = (p.0, zip-append R xs ys us vs p.1 q)

-- the entries of a block, one by one
entries_timed : (block : MadeBlock) (ts : List Transition)
    → AllByRecursion (IsTimely block.stamp block.scans block.loads) ts
    → AllZip IsTimed (map (item_of block.stamp) (map entry_of ts)) (map (λ t. From t block) ts)
entries_timed block [] p = tt
entries_timed block (t ∷ ts) p = ((refl, λ q. wide_time block t p.0 q), entries_timed block ts p.1)

-- with its gap mark, if it has one
marked_timed : (lost : Bool) (block : MadeBlock) → BlockTimely block
    → AllZip IsTimed ((if lost then items.Gap ∷ [] else []) ++ map (item_of block.stamp) (map entry_of block.transitions))
    ((if lost then Loss ∷ [] else []) ++ map (λ t. From t block) block.transitions)
marked_timed true block p = (tt, entries_timed block block.transitions p)
marked_timed false block p = entries_timed block block.transitions p

-- the items of blocks are from their sources, with their times
pub blocks_timed : (blocks : List MadeBlock) → AllByRecursion BlockTimely blocks
    → AllZip IsTimed (flat_map recorded_of blocks) (flat_map sources_of blocks)
blocks_timed [] p = tt
blocks_timed (block ∷ blocks) p =
    zip-append IsTimed (recorded_of block) (flat_map recorded_of blocks) (sources_of block) (flat_map sources_of blocks)
    (marked_timed block.lost block p.0) (blocks_timed blocks p.1)
