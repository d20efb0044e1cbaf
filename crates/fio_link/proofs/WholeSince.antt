-- Since a settled point nothing is lost unless the buffer was full.
use Rattle.std.proofs.lemmas.Bool.Decides.{nat_tests}
use Rattle.fio_link.proofs.Names.{◌≡◌, ℕ, suc, ◌+◌, ◌-◌, ◌≤◌, Bool, true, false, List, [], ◌∷◌, ◌++◌, length, take, drop, map, slice_get, refl, ap, sym, subst, ◌∙◌, arith, append_assoc, append-nil, AllByRecursion, flat_map, map-append, Poll, Settings, AreInRange, Life, Commanded, life_of, Transition, entry_of, log_of, MadeBlock, newest_poll, is_new, blocks_of, next_block, last_end, newest_end, FewBeyond, holds_now, blocks_new, blocks_old, blocks_follow, FollowOneAnother, nothing_left, Machine, EntryPiece, piece_of, pieces_of, blocks_in, next_round, end_recorded, IsSettled}
use Rattle.std.proofs.lemmas.List.{append_cancel_left, drop-take, take-map, drop-map}
use Rattle.std.proofs.lemmas.Simd.{map-map}
use Rattle.fio_module.proofs.ListParts.{each-push, get_from_back}
use Rattle.fio_module.proofs.Losses.{next_not_lost}
use Rattle.fio_module.proofs.Outages.{outage_is_ridden_out}
use Rattle.fio_input.specs.FiltersThatDiffer.{Plan}
use Rattle.fio_module.proofs.FiltersThatDiffer.{polled_for_each_loses_none, each_few}
use Rattle.fio_link.specs.WholeSince.{GainsAllWhere, StaysFew, IsRoomyOutage, IsOftenForEach}
use Rattle.fio_link.proofs.MadeBlocks.{each-take, each-append}
use Rattle.fio_link.proofs.PieceLaws.{blocks_pieces, follow-take, contains_found, get_in_take}
use Rattle.fio_link.proofs.WholeRecords.{IsEntry, part_of_entries}
use Rattle.fio_link.proofs.OneLife.{record_of}
use Rattle.fio_link.proofs.WholeLives.{got_blocks}
use Rattle.fio_link.proofs.Settled.{IsOpen, at_base, along, count_blocks}
use Rattle.fio_link.proofs.RestartLosses.{follow-behind}

abbrev NotLost : MadeBlock → Type 0
NotLost block = block.lost ≡ false

-- the blocks made while few are beyond
made-poll : (settings : Settings) (later life : Life) (number : ℕ) (new : Bool) → is_new (newest_poll (later ++ life)) number ≡ new
    → FewBeyond settings (later ++ life)
    → (more : List MadeBlock) × (blocks_of settings (later ++ life) ≡ blocks_of settings life ++ more) × AllByRecursion NotLost more
    → (more : List MadeBlock) × (blocks_of settings (Commanded (Poll number) ∷ (later ++ life)) ≡ blocks_of settings life ++ more) × AllByRecursion NotLost more
made-poll settings later life number true is few rest =
    let next = next_block settings (later ++ life) in (
      rest.0 ++ next ∷ [],
      blocks_new settings (later ++ life) number is ∙ ap (λ bs. bs ++ next ∷ []) rest.1
          ∙ append_assoc (blocks_of settings life) rest.0 (next ∷ []),
      each-push NotLost rest.0 next rest.2 (next_not_lost settings (later ++ life) few),
    )
made-poll settings later life number false is few rest = (rest.0, blocks_old settings (later ++ life) number is ∙ rest.1, rest.2)

made : (settings : Settings) (later life : Life) → StaysFew settings life later
    → (more : List MadeBlock) × (blocks_of settings (later ++ life) ≡ blocks_of settings life ++ more) × AllByRecursion NotLost more
made settings [] life few = ([], sym (append-nil (blocks_of settings life)), tt)
made settings (Commanded (Poll number) ∷ later) life few =
    made-poll settings later life number (is_new (newest_poll (later ++ life)) number) refl
    (holds_now (λ l. FewBeyond settings (l ++ life)) later few.1) (made settings later life few.1)
made settings (other ∷ later) life few = made settings later life few.1

ends-append : (before n : ℕ) (blocks more : List MadeBlock)
    → last_end before (take (length blocks + n) (blocks ++ more)) ≡ last_end (last_end before blocks) (take n more)
ends-append before n [] more = let same : 0 + n ≡ n = omega arith in ap (λ k. last_end before (take k more)) same
ends-append before n (block ∷ blocks) more =
    let one_more : suc (length blocks) + n ≡ suc (length blocks + n) = omega arith in
    ap (λ k. last_end before (take k (block ∷ (blocks ++ more)))) one_more ∙ ends-append block.end n blocks more

-- the pieces of blocks that lost none are entries
pieces-entries : (ts : List Transition) → AllByRecursion IsEntry (map (λ transition. EntryPiece (entry_of transition)) ts)
pieces-entries [] = tt
pieces-entries (t ∷ ts) = (tt, pieces-entries ts)

pieces-kept : (block : MadeBlock) → NotLost block → AllByRecursion IsEntry (pieces_of block)
pieces-kept block kept = grind (arith, nat_tests, pieces-entries)

blocks-kept : (blocks : List MadeBlock) → AllByRecursion NotLost blocks → AllByRecursion IsEntry (flat_map pieces_of blocks)
blocks-kept [] all = tt
blocks-kept (block ∷ blocks) all =
    each-append IsEntry (pieces_of block) (flat_map pieces_of blocks) (pieces-kept block all.0) (blocks-kept blocks all.1)

-- a part of the log as entries
as_entries : (from to : ℕ) (log : List Transition) → from ≤ to
    → map EntryPiece (take (to - from) (drop from (map entry_of log))) ≡ map (λ transition. EntryPiece (entry_of transition)) (drop from (take to log))
as_entries from to log le =
    let n = to - from in
    let whole : from + n ≡ to = omega arith in
    ap (λ es. map EntryPiece (take n es)) (drop-map entry_of from log)
    ∙ ap (map EntryPiece) (take-map entry_of n (drop from log))
    ∙ map-map EntryPiece entry_of (take n (drop from log))
    ∙ ap (map (λ transition. EntryPiece (entry_of transition))) (sym (drop-take from n log) ∙ ap (λ k. drop from (take k log)) whole)

module _ (settings : Settings) (range : AreInRange settings) (first : ℕ) (machine : Machine) (o : IsOpen settings range first machine) where
  -- the record has gained everything if few lie beyond
  pub gains_all : GainsAllWhere StaysFew settings first machine
  gains_all some s now later t is few =
      let life = life_of machine.history in
      let before = blocks_in settings machine in
      let a = along settings range first machine machine now t.events t.no_restart t.leads (at_base settings range first machine o s.all_taken) in
      let m = made settings later life few in
      let rest = a.since.rest in
      let same : rest ≡ m.0 = append_cancel_left before rest m.0 (sym a.since.split ∙ ap (blocks_of settings) is ∙ m.1) in
      let kept = subst (AllByRecursion NotLost) (sym same) m.2 in
      let k = now.round - machine.round in
      let log = log_of (life_of now.history) in
      let start = newest_end settings life in
      let left : start ≡ length (log_of life) = nothing_left settings some life (ap length s.nothing_waits) in
      let follow = follow-behind log settings.per_block 0 before rest (subst (FollowOneAnother log settings.per_block 0) a.since.split (blocks_follow settings (life_of now.history))) in
      let end = last_end start (take k rest) in
      let count : length (blocks_in settings now) - (next_round now.polls - now.round) ≡ length before + k =
      (let c = count_blocks settings range first machine now a in omega (arith, s.all_taken.answered, a.since.started, a.is_open.always.answers.behind)) in
      let stands : end_recorded settings now ≡ end =
      ap (λ n. last_end 0 (take n (blocks_in settings now))) count
      ∙ ap (λ bs. last_end 0 (take (length before + k) bs)) a.since.split
      ∙ ends-append 0 k before rest in
      let pieces = blocks_pieces settings (life_of now.history) start (take k rest) (follow-take log settings.per_block start k rest follow)
      (λ i block found. contains_found (blocks_in settings now) (length before + i) block
      (ap (λ bs. slice_get bs (length before + i)) a.since.split ∙ get_from_back before rest i block (get_in_take k rest i block found))) in
      let part = part_of_entries settings (life_of now.history) start (flat_map pieces_of (take k rest)) end
      (blocks-kept (take k rest) (each-take NotLost k rest kept)) pieces in
      ap (map piece_of) a.since.kept
      ∙ map-append piece_of machine.items (record_of k rest)
      ∙ ap (λ ps. map piece_of machine.items ++ ps)
      (got_blocks (take k rest) ∙ part.1 ∙ as_entries start end log part.0
      ∙ ap (λ n. map (λ transition. EntryPiece (entry_of transition)) (drop n (take end log))) left
      ∙ ap (λ n. map (λ transition. EntryPiece (entry_of transition)) (drop (length (log_of life)) (take n log))) (sym stands))

  -- nothing waits, so few are beyond
  few_beyond : 1 ≤ settings.waiting → IsSettled settings first machine → FewBeyond settings (life_of machine.history)
  few_beyond some s = let left = nothing_left settings some (life_of machine.history) (ap length s.nothing_waits) in omega arith

  pub gains_all_after_outage : (opened filter : ℕ) → GainsAllWhere (IsRoomyOutage opened filter) settings first machine
  gains_all_after_outage opened filter some s now later t is outage =
      gains_all some s now later t is (outage_is_ridden_out settings opened filter (life_of machine.history) later outage (few_beyond some s))

  pub gains_all_for_each : (plan : Plan) (scans : ℕ) → GainsAllWhere (IsOftenForEach plan scans) settings first machine
  gains_all_for_each plan scans some s now later t is often =
      gains_all some s now later t is (each_few settings plan scans (life_of machine.history) later
      (polled_for_each_loses_none settings plan scans (life_of machine.history) later often).each)
