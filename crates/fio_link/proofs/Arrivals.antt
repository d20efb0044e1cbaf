-- What blocks hold that a module makes while it is kept up with.
use Rattle.std.proofs.lemmas.Bool.Decides.{nat_tests}
use Rattle.fio_link.proofs.Names.{◌≡◌, ℕ, zero, suc, ◌+◌, ◌-◌, ◌*◌, ◌≤◌, Bool, true, false, List, [], ◌∷◌, ◌++◌, length, take, drop, map, Option, Some, None, refl, ap, sym, subst, ◌∙◌, arith, length-drop, if◌then◌else◌, AllByRecursion, flat_map, map-append, drop-append-le, Poll, asked_number, one_more_if_loaded, is_reported, Settings, Life, Scanned, LineSynced, Commanded, counter_events, loads_of, filter_events, Transition, entry_of, log_of, transition_at, MadeBlock, newest_poll, is_new, blocks_of, next_block, newest_end, waiting_from, AtEachTime, scans_behind, IsYoung, holds_now, ends-grow, log-grown, item_of, IsInTime, EntryPiece, piece_of, timed_item}
use Rattle.std.proofs.Math.Seq.{drop-length}
use Rattle.std.proofs.lemmas.List.{drop-take}
use Rattle.fio_message.specs.declared.commands.Command.TheVariants as commands
use Rattle.fio_module.specs.Log.{transitions_below}
use Rattle.fio_module.specs.KeepingUp.{KeepsUp}
use Rattle.fio_module.proofs.ListParts.{each-front, each-back}
use Rattle.fio_module.proofs.Stretches.{transitions_in, IsPunctual, HasMade, has_made, each-push}
use Rattle.fio_link.proofs.MadeBlocks.{each-append, each-take, each-map}
use Rattle.fio_link.proofs.OneLife.{recorded_of}
use Rattle.fio_link.proofs.Times.{BlockTimely, IsTimely, blocks_timely, wide_time}

-- the blocks of a life were made after no more loads than it has
loads-later : (life : Life) (asked : Option ℕ) (loads : ℕ) → loads ≤ one_more_if_loaded asked loads
loads-later life None loads = omega arith
loads-later life (Some number) loads = omega arith

abbrev HasLoads : ℕ → MadeBlock → Type 0
HasLoads most block = block.loads ≤ most

loads-poll : (settings : Settings) (life : Life) (number : ℕ) (new : Bool)
    → AllByRecursion (HasLoads (loads_of life)) (blocks_of settings life)
    → AllByRecursion (HasLoads (loads_of life))
    (if new then blocks_of settings life ++ next_block settings life ∷ [] else blocks_of settings life)
loads-poll settings life number true all = grind (arith, nat_tests, each-push)
loads-poll settings life number false all = all

blocks_have_loads : (settings : Settings) (life : Life)
    → AllByRecursion (HasLoads (loads_of life)) (blocks_of settings life)
blocks_have_loads settings [] = tt
blocks_have_loads settings (LineSynced ∷ life) =
    let more = loads-later life (asked_number (counter_events life)) (loads_of life) in
    each-map (HasLoads (loads_of life)) (HasLoads (loads_of (LineSynced ∷ life))) (λ block low. omega arith)
    (blocks_of settings life) (blocks_have_loads settings life)
blocks_have_loads settings (Commanded (Poll number) ∷ life) =
    loads-poll settings life number (is_new (newest_poll life) number) (blocks_have_loads settings life)
blocks_have_loads settings (Commanded (commands.LoadCounter load) ∷ life) = blocks_have_loads settings life
blocks_have_loads settings (other ∷ life) = blocks_have_loads settings life

-- the loads of a life never get fewer
loads-grown : (later life : Life) → loads_of life ≤ loads_of (later ++ life)
loads-grown [] life = omega arith
loads-grown (LineSynced ∷ later) life =
    let rest = loads-grown later life in
    let more = loads-later life (asked_number (counter_events (later ++ life))) (loads_of (later ++ life)) in
    omega arith
loads-grown (Commanded (commands.LoadCounter load) ∷ later) life = loads-grown later life
loads-grown (other ∷ later) life = loads-grown later life

-- what was logged since a time was logged after at least that many loads
abbrev HasLoadsSince : ℕ → Transition → Type 0
HasLoadsSince least transition = least ≤ transition.loads

since-new : (least : ℕ) (reported : Bool) (life : Life) (input : ℕ) → least ≤ loads_of life
    → AllByRecursion (HasLoadsSince least) (if reported then transition_at life input ∷ [] else [])
since-new least true life input more = (more, tt)
since-new least false life input more = tt

since-below : (least count raw : ℕ) (life : Life) → least ≤ loads_of (Scanned raw ∷ life)
    → AllByRecursion (HasLoadsSince least) (transitions_below count raw life)
unfolding transitions_below
since-below least zero raw life more = tt
since-below least (suc input) raw life more =
    each-append (HasLoadsSince least) (transitions_below input raw life) _ (since-below least input raw life more)
    (since-new least (is_reported input raw (filter_events life)) (Scanned raw ∷ life) input more)

logged_since : (later life : Life)
    → AllByRecursion (HasLoadsSince (loads_of life)) (drop (length (log_of life)) (log_of (later ++ life)))
logged_since [] life = subst (AllByRecursion (HasLoadsSince (loads_of life))) (sym (drop-length (log_of life))) tt
logged_since (Scanned raw ∷ later) life =
    let here = later ++ life in
    let parts = drop-append-le (length (log_of life)) (log_of here) (transitions_below 64 raw here) (log-grown later life) in
    subst (AllByRecursion (HasLoadsSince (loads_of life))) (sym parts)
    (each-append (HasLoadsSince (loads_of life)) (drop (length (log_of life)) (log_of here)) (transitions_below 64 raw here)
    (logged_since later life) (since-below (loads_of life) 64 raw here (loads-grown later life)))
logged_since (other ∷ later) life = logged_since later life

-- an entry in time is recorded with its counter
timed_entry : (block : MadeBlock) (t : Transition) → IsTimely block.stamp block.scans block.loads t → IsInTime t block
    → item_of block.stamp (entry_of t) ≡ timed_item t
timed_entry block t timely in_time = grind (arith, nat_tests, wide_time)

-- those of a block
timed_entries : (block : MadeBlock) (limit least : ℕ) (ts : List Transition) → limit ≤ 65537 → block.loads ≤ least
    → AllByRecursion (IsTimely block.stamp block.scans block.loads) ts
    → AllByRecursion (λ (t : Transition). block.scans + 2 ≤ t.scans + limit) ts
    → AllByRecursion (HasLoadsSince least) ts
    → map (item_of block.stamp) (map entry_of ts) ≡ map timed_item ts
timed_entries block limit least [] few low timely young loads = refl
timed_entries block limit least (t ∷ ts) few low timely young loads =
    let scanned = young.0 in
    let before = timely.0.loaded_before in
    let since = loads.0 in
    let here = timed_entry block t timely.0 (record { few_scans = omega arith; no_load = omega arith }) in
    ap (λ item. item ∷ map (item_of block.stamp) (map entry_of ts)) here
    ∙ ap (λ its. timed_item t ∷ its) (timed_entries block limit least ts few low timely.1 young.1 loads.1)

-- what a block is in the record, without times
pub got_entries : (stamp : ℕ) (ts : List Transition)
    → map piece_of (map (item_of stamp) (map entry_of ts)) ≡ map (λ transition. EntryPiece (entry_of transition)) ts
got_entries stamp [] = refl
got_entries stamp (t ∷ ts) = ap (λ ps. EntryPiece (entry_of t) ∷ ps) (got_entries stamp ts)

-- a block before which nothing was lost has no gap mark in the record
no_mark : (block : MadeBlock) → block.lost ≡ false
    → recorded_of block ≡ map (item_of block.stamp) (map entry_of block.transitions)
no_mark block none = grind (arith, nat_tests)

-- what such blocks are in the record
got_punctual : (most filter : ℕ) (blocks : List MadeBlock) → AllByRecursion (IsPunctual most filter) blocks
    → map piece_of (flat_map recorded_of blocks) ≡ map (λ transition. EntryPiece (entry_of transition)) (transitions_in blocks)
got_punctual most filter [] all = refl
got_punctual most filter (block ∷ blocks) all =
    map-append piece_of (recorded_of block) (flat_map recorded_of blocks)
    ∙ ap (λ its. map piece_of its ++ map piece_of (flat_map recorded_of blocks)) (no_mark block all.0.not_lost)
    ∙ ap (λ ps. ps ++ map piece_of (flat_map recorded_of blocks)) (got_entries block.stamp block.transitions)
    ∙ ap (λ ps. map (λ transition. EntryPiece (entry_of transition)) block.transitions ++ ps) (got_punctual most filter blocks all.1)
    ∙ sym (map-append (λ transition. EntryPiece (entry_of transition)) block.transitions (transitions_in blocks))

timed_punctual : (most filter least : ℕ) (blocks : List MadeBlock) → most + filter ≤ 65537
    → AllByRecursion (IsPunctual most filter) blocks → AllByRecursion BlockTimely blocks
    → AllByRecursion (HasLoads least) blocks → AllByRecursion (HasLoadsSince least) (transitions_in blocks)
    → flat_map recorded_of blocks ≡ map timed_item (transitions_in blocks)
timed_punctual most filter least [] few all timely low loads = refl
timed_punctual most filter least (block ∷ blocks) few all timely low loads =
    let here = each-front (HasLoadsSince least) block.transitions (transitions_in blocks) loads in
    let rest = each-back (HasLoadsSince least) block.transitions (transitions_in blocks) loads in
    ap (λ its. its ++ flat_map recorded_of blocks) (no_mark block all.0.not_lost)
    ∙ ap (λ its. its ++ flat_map recorded_of blocks)
    (timed_entries block (most + filter) least block.transitions few low.0 timely.0 all.0.young here)
    ∙ ap (λ its. map timed_item block.transitions ++ its) (timed_punctual most filter least blocks few all.1 timely.1 low.1 rest)
    ∙ sym (map-append timed_item block.transitions (transitions_in blocks))

-- What is in blocks since a time, while a module is kept up with.
module _ (settings : Settings) (opened filter scans most : ℕ) (life later : Life)
    (ends : newest_end settings life ≡ length (log_of life)) (keeps : AtEachTime (KeepsUp settings opened filter scans life) later)
    (near : AtEachTime (λ l. scans_behind scans l life ≤ most) later) where
  abbrev now : Life
  now = later ++ life

  -- the transitions logged since then, through the end of the newest block
  abbrev pub in_blocks : List Transition
  in_blocks = drop (length (log_of life)) (take (newest_end settings now) (log_of now))

  pub made_since : HasMade settings filter most life later
  made_since = has_made settings opened filter scans most life later keeps near

  -- the transitions of the blocks made since are those that they hold of the log
  are_logged : transitions_in made_since.made ≡ in_blocks
  are_logged = made_since.entries ∙ ap (λ n. drop n (take (newest_end settings now) (log_of now))) ends

  -- what those blocks are in the record
  pub whole_since : map piece_of (flat_map recorded_of made_since.made) ≡ map (λ transition. EntryPiece (entry_of transition)) in_blocks
  whole_since = grind (arith, nat_tests, got_punctual, made_since, are_logged)

  -- each of them was logged after at least as many loads as there had been
  logged_loads : AllByRecursion (HasLoadsSince (loads_of life)) in_blocks
  logged_loads =
      let start = length (log_of life) in
      let end = newest_end settings now in
      let grown = ends-grow settings later life in
      let some : end ≡ start + (end - start) = omega (arith, ends) in
      let parts : drop start (take end (log_of now)) ≡ take (end - start) (drop start (log_of now)) =
      ap (λ n. drop start (take n (log_of now))) some ∙ drop-take start (end - start) (log_of now) in
      subst (AllByRecursion (HasLoadsSince (loads_of life))) (sym parts)
      (each-take (HasLoadsSince (loads_of life)) (end - start) (drop start (log_of now)) (logged_since later life))

  -- what holds of all blocks holds of those made since
  of_made : (P : MadeBlock → Type 0) → AllByRecursion P (blocks_of settings now) → AllByRecursion P made_since.made
  of_made P all = each-back P (blocks_of settings life) made_since.made (subst (AllByRecursion P) made_since.blocks all)

  pub times_since : loads_of now ≡ loads_of life → most + filter ≤ 65537
      → flat_map recorded_of made_since.made ≡ map timed_item in_blocks
  times_since none few =
      let low = subst (λ n. AllByRecursion (HasLoads n) (blocks_of settings now)) none (blocks_have_loads settings now) in
      let loads = subst (AllByRecursion (HasLoadsSince (loads_of life))) (sym are_logged) logged_loads in
      timed_punctual most filter (loads_of life) made_since.made few made_since.punctual
      (of_made BlockTimely (blocks_timely settings now)) (of_made (HasLoads (loads_of life)) low) loads
      ∙ ap (map timed_item) are_logged

  -- what holds now
  keeps_now : KeepsUp settings opened filter scans life later
  keeps_now = holds_now (KeepsUp settings opened filter scans life) later keeps

  -- what waits begins at the end of the newest block
  pub waits_from_end : waiting_from settings now ≡ newest_end settings now
  waits_from_end = omega (arith, keeps_now.few_beyond)

  -- and is young
  pub young_now : AllByRecursion (IsYoung (scans_behind scans later life) filter now) (drop (newest_end settings now) (log_of now))
  young_now = grind (arith, nat_tests, waits_from_end, keeps_now)

  -- few remain at the end of a clean round
  pub few_left : (length (log_of now) - newest_end settings now) * filter
      ≤ opened * (scans_behind scans later life + (filter - 1))
  few_left = grind (arith, nat_tests, length-drop, waits_from_end, keeps_now)
