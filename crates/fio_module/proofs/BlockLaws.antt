-- Blocks follow one another through the transition log.
use Rattle.fio_module.proofs.Names.{◌≡◌, ℕ, ◌+◌, ◌-◌, ◌<◌, ◌≤◌, min, max, Bool, true, false, List, [], ◌∷◌, ◌++◌, length, refl, arith, length-append, if◌then◌else◌, nat_lt, take-append-le, drop-append-le, length-drop, nat_tests, Poll, Settings, Life, Scanned, Commanded, Transition, log_of, transitions_below, MadeBlock, newest_poll, is_new, blocks_of, newest_end, next_block, last_end, end_of_blocks, BlocksEndWithin, IsPartOf, FollowOneAnother, BlocksFollow, LossesLeaveMore}
use Rattle.fio_module.proofs.Ends.{last_end-append, end-within}

end_within-if : (new : Bool) (len : ℕ) (blocks : List MadeBlock) (block : MadeBlock)
    → end_of_blocks blocks ≤ len → block.end ≤ len → end_of_blocks (if new then blocks ++ block ∷ [] else blocks) ≤ len
end_within-if true len blocks block before within = rw last_end-append within
end_within-if false len blocks block before within = before

-- the newest block ends within the transition log
pub newest_end_within : (settings : Settings) (life : Life) → newest_end settings life ≤ length (log_of life)
newest_end_within settings [] = omega arith
newest_end_within settings (Commanded (Poll number) ∷ life) =
    let before = newest_end_within settings life in
    end_within-if (is_new (newest_poll life) number) (length (log_of life)) (blocks_of settings life)
    (next_block settings life) before
    (end-within (newest_end settings life) (length (log_of life)) settings.waiting settings.per_block before)
newest_end_within settings (Scanned raw ∷ life) =
    let before = newest_end_within settings life in
    omega (arith, length-append (log_of life) (transitions_below 64 raw life))
newest_end_within settings (other ∷ life) = newest_end_within settings life

-- the law of it
pub blocks_end_within : BlocksEndWithin
blocks_end_within = newest_end_within

-- a part of a log is a part of a longer one
part-longer : (log more : List Transition) (per_block : ℕ) (block : MadeBlock)
    → IsPartOf log per_block block → IsPartOf (log ++ more) per_block block
part-longer log more per_block block part = grind (arith, nat_tests, length-drop, length-append, take-append-le, drop-append-le)

follow-longer : (log more : List Transition) (per_block before : ℕ) (blocks : List MadeBlock)
    → FollowOneAnother log per_block before blocks → FollowOneAnother (log ++ more) per_block before blocks
follow-longer log more per_block before [] follow = tt
follow-longer log more per_block before (block ∷ blocks) follow =
    (follow.0, part-longer log more per_block block follow.1, follow-longer log more per_block block.end blocks follow.2)

follow-append : (log : List Transition) (per_block before : ℕ) (blocks : List MadeBlock) (block : MadeBlock)
    → FollowOneAnother log per_block before blocks → block.before ≡ last_end before blocks
    → IsPartOf log per_block block → FollowOneAnother log per_block before (blocks ++ block ∷ [])
follow-append log per_block before [] block follow begins part = (begins, part, tt)
follow-append log per_block before (first ∷ blocks) block follow begins part =
    (follow.0, follow.1, follow-append log per_block first.end blocks block follow.2 begins part)

follow-if : (new : Bool) (log : List Transition) (per_block : ℕ) (blocks : List MadeBlock) (block : MadeBlock)
    → FollowOneAnother log per_block 0 blocks → block.before ≡ end_of_blocks blocks → IsPartOf log per_block block
    → FollowOneAnother log per_block 0 (if new then blocks ++ block ∷ [] else blocks)
follow-if true log per_block blocks block follow begins part = follow-append log per_block 0 blocks block follow begins part
follow-if false log per_block blocks block follow begins part = follow

-- the block that a new poll makes is a part of the transition log
pub next_is_part : (settings : Settings) (life : Life)
    → IsPartOf (log_of life) settings.per_block (next_block settings life)
next_is_part settings life = grind (arith, nat_tests, newest_end_within)

-- the blocks follow one another through the present transition log
pub blocks_follow : BlocksFollow
blocks_follow settings [] = tt
blocks_follow settings (Commanded (Poll number) ∷ life) =
    follow-if (is_new (newest_poll life) number) (log_of life) settings.per_block (blocks_of settings life)
    (next_block settings life) (blocks_follow settings life) refl (next_is_part settings life)
blocks_follow settings (Scanned raw ∷ life) =
    follow-longer (log_of life) (transitions_below 64 raw life) settings.per_block 0 (blocks_of settings life)
    (blocks_follow settings life)
blocks_follow settings (other ∷ life) = blocks_follow settings life

lost_then_more : (before len limit count : ℕ) → count < limit → nat_lt before (max before (len - limit)) ≡ true
    → nat_lt count (len - max before (len - limit)) ≡ true
lost_then_more before len limit count fewer lost = grind (arith, nat_tests)

-- entries remain waiting after a block that follows a loss
pub losses_leave_more : LossesLeaveMore
losses_leave_more settings life fewer lost =
    lost_then_more (newest_end settings life) (length (log_of life)) settings.waiting settings.per_block fewer lost

takes_rest : (before len limit count : ℕ) → before ≤ len → nat_lt count (len - max before (len - limit)) ≡ false
    → max before (len - limit) + min count (len - max before (len - limit)) ≡ len
takes_rest before len limit count within fits = grind (arith, nat_tests)

-- a block without C takes all that waits
pub blocks_without_more_take_all : (settings : Settings) (life : Life) → (next_block settings life).more ≡ false
    → (next_block settings life).end ≡ length (log_of life)
blocks_without_more_take_all settings life fits = grind (arith, nat_tests, takes_rest, newest_end_within)
