-- The record is what the CPU has taken of each life, with its times.
use Rattle.fio_link.proofs.Names.{◌≡◌, ℕ, Bool, true, false, List, [], ◌∷◌, ◌++◌, map, refl, ap, sym, subst, ◌∙◌, if◌then◌else◌, flat_map, AllByRecursion, AllZip, map-append, Settings, life_of, Transition, entry_of, MadeBlock, blocks_of, item_of, Machine, Gap, EntryPiece, piece_of, pieces_of, IsTimed, sources_of, past_lives, TakenLife, IsOneStretch, taken_in}
use Rattle.fio_cpu.specs.declared.record.Item.TheVariants as items
use Rattle.fio_link.specs.Restarts.{lives_of, TakesStretchOfEachLife}
use Rattle.fio_link.proofs.MadeBlocks.{each-append}
use Rattle.fio_link.proofs.OneLife.{recorded_of}
use Rattle.fio_link.proofs.Arrivals.{got_entries}
use Rattle.fio_link.proofs.Times.{BlockTimely, blocks_timely, blocks_timed}
use Rattle.fio_link.proofs.TakenSpans.{HasSpans}
use Rattle.fio_link.proofs.StretchesOfLives.{parts, are_parts, begins_at_start}
use Rattle.fio_link.proofs.RestartLosses.{each-behind, each-front, restarts_lose_few}

-- the entries of a block as pieces, with its gap mark
got_marked : (lost : Bool) (stamp : ℕ) (ts : List Transition)
    → map piece_of ((if lost then items.Gap ∷ [] else []) ++ map (item_of stamp) (map entry_of ts))
    ≡ (if lost then Gap ∷ [] else []) ++ map (λ transition. EntryPiece (entry_of transition)) ts
got_marked true stamp ts = ap (λ ps. Gap ∷ ps) (got_entries stamp ts)
got_marked false stamp ts = got_entries stamp ts

-- and of several blocks
pub got_blocks : (blocks : List MadeBlock)
    → map piece_of (flat_map recorded_of blocks) ≡ flat_map pieces_of blocks
got_blocks [] = refl
got_blocks (block ∷ blocks) =
    map-append piece_of (recorded_of block) (flat_map recorded_of blocks)
    ∙ ap (λ ps. ps ++ map piece_of (flat_map recorded_of blocks)) (got_marked block.lost block.stamp block.transitions)
    ∙ ap (λ ps. pieces_of block ++ ps) (got_blocks blocks)

-- the blocks taken are timely
taken_timely : (settings : Settings) (lives : List TakenLife) → AllByRecursion (IsOneStretch settings) lives
    → AllByRecursion BlockTimely (taken_in lives)
taken_timely settings [] stretches = tt
taken_timely settings (part ∷ lives) stretches =
    let all = subst (AllByRecursion BlockTimely) stretches.0.blocks (blocks_timely settings part.life) in
    let from = each-behind BlockTimely part.before (part.taken ++ part.after) all in
    each-append BlockTimely part.taken (taken_in lives) (each-front BlockTimely part.taken part.after from)
    (taken_timely settings lives stretches.1)

-- of each life the CPU has taken one stretch of its blocks
pub takes_stretches : (settings : Settings) (machine : Machine) → HasSpans settings machine → TakesStretchOfEachLife settings machine
takes_stretches settings machine o =
    let lives = lives_of machine.history in
    let same = o.blocks ∙ sym (map-append (blocks_of settings) (past_lives machine.history) (life_of machine.history ∷ [])) in
    let p = are_parts settings 0 0 _ machine.round lives o.spans same o.chain in
    let taken = parts 0 lives o.spans in
    let kept = o.kept ∙ ap (flat_map recorded_of) (sym p.blocks) in
    record {
      lives = taken;
      all = p.all;
      stretches = p.stretches;
      begins = begins_at_start lives o.spans;
      items = ap (map piece_of) kept ∙ got_blocks (taken_in taken);
      times = subst (λ items. AllZip IsTimed items (flat_map sources_of (taken_in taken))) (sym kept)
          (blocks_timed (taken_in taken) (taken_timely settings taken p.stretches));
      restarts = restarts_lose_few settings taken p.stretches p.restarts;
    }
