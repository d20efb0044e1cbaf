-- The blocks of all lives, by places in the joined transition logs.
use Rattle.std.proofs.lemmas.Bool.Decides.{nat_tests}
use Rattle.fio_link.proofs.Names.{◌≡◌, ℕ, zero, suc, ◌+◌, ◌<◌, ◌≤◌, List, [], ◌∷◌, ◌++◌, length, map, Some, slice_get, refl, ap, sym, subst, ◌∙◌, arith, length-append, append_assoc, append-nil, AllByRecursion, command_in, Settings, Received, Restart, History, Life, life_of, Transition, log_of, whole_log, MadeBlock, blocks_of, last_end, newest_end, IsPartOf, FollowOneAnother, blocks_follow, blocks_end_within}
use Rattle.fio_module.specs.Life.{Scan}
use Rattle.fio_module.specs.Log.{transitions_below}
use Rattle.fio_module.proofs.LifeLaws.{log_of-with_command}
use Rattle.fio_link.proofs.Places.{get_before_push, get_behind}
use Rattle.fio_link.proofs.MadeBlocks.{each-append, each-map}
use Rattle.fio_link.proofs.PieceLaws.{part_stands, part_count}

-- the transition logs of the lives before the present one, joined
abbrev pub past_log : History → List Transition
past_log [] = []
past_log (Restart ∷ history) = whole_log history
past_log (other ∷ history) = past_log history

-- a block with its places counted from before the lives that went before
abbrev pub behind : ℕ → MadeBlock → MadeBlock
behind past block =
    record block { before = past + block.before; start = past + block.start; end = past + block.end }

-- the blocks of a life after those of the lives before it
abbrev pub joined : Settings → List MadeBlock → ℕ → Life → List MadeBlock
joined settings blocks past life = blocks ++ map (behind past) (blocks_of settings life)

-- the blocks of the lives before the present one
abbrev pub past_blocks : Settings → History → List MadeBlock
past_blocks settings [] = []
past_blocks settings (Restart ∷ history) =
    joined settings (past_blocks settings history) (length (past_log history)) (life_of history)
past_blocks settings (other ∷ history) = past_blocks settings history

-- the blocks of all lives
abbrev pub all_blocks : Settings → History → List MadeBlock
all_blocks settings history =
    joined settings (past_blocks settings history) (length (past_log history)) (life_of history)

-- the place from which the next block may take entries
abbrev pub reached : Settings → History → ℕ
reached settings history = length (past_log history) + newest_end settings (life_of history)

-- the log of the present life ends that of all lives
pub whole_log-split : (history : History) → whole_log history ≡ past_log history ++ log_of (life_of history)
whole_log-split [] = refl
whole_log-split (Scan raw ∷ history) =
    ap (λ log. log ++ transitions_below 64 raw (life_of history)) (whole_log-split history)
    ∙ append_assoc (past_log history) (log_of (life_of history)) (transitions_below 64 raw (life_of history))
whole_log-split (Received octets ∷ history) =
    whole_log-split history
    ∙ ap (λ log. past_log history ++ log) (sym (log_of-with_command (command_in octets) (life_of history)))
whole_log-split (Restart ∷ history) = sym (append-nil (whole_log history))
whole_log-split (other ∷ history) = whole_log-split history

-- blocks that lie one after another, from one place up to another
abbrev pub AreApart : ℕ → List MadeBlock → ℕ → Type 0
AreApart from [] to = from ≤ to
AreApart from (block ∷ blocks) to = (from ≤ block.start) × (block.start ≤ block.end) × AreApart block.end blocks to

-- blocks apart up to a place, and blocks apart from there on
apart-append : (from next to : ℕ) (xs ys : List MadeBlock) → AreApart from xs next → AreApart next ys to
    → AreApart from (xs ++ ys) to
apart-append from next to [] [] p q = omega arith
apart-append from next to [] (y ∷ ys) p q = let low : next ≤ y.start = q.0 in (omega arith, q.1, q.2)
apart-append from next to (x ∷ xs) ys p q = (p.0, p.1, apart-append x.end next to xs ys p.2 q)

-- blocks of a life that follow one another lie apart, after what came before
apart-follow : (log : List Transition) (per_block past before : ℕ) (blocks : List MadeBlock)
    → FollowOneAnother log per_block before blocks
    → AreApart (past + before) (map (behind past) blocks) (past + last_end before blocks)
apart-follow log per_block past before [] follow = omega arith
apart-follow log per_block past before (block ∷ blocks) follow =
    let begins : block.before ≡ before = follow.0 in
    let forward : block.before ≤ block.start = follow.1.forward in
    let ends : block.start ≤ block.end = follow.1.ends in
    (omega arith, omega arith, apart-follow log per_block past block.end blocks follow.2)

-- blocks that lie apart up to a place do so up to a later one
apart-more : (from to later : ℕ) (blocks : List MadeBlock) → to ≤ later → AreApart from blocks to
    → AreApart from blocks later
apart-more from to later [] le p = omega arith
apart-more from to later (block ∷ blocks) le p = (p.0, p.1, apart-more block.end to later blocks le p.2)

-- the blocks of a life lie apart, after those of the lives before it
apart-joined : (settings : Settings) (blocks : List MadeBlock) (past : ℕ) (life : Life)
    → AreApart 0 blocks past
    → AreApart 0 (joined settings blocks past life) (past + newest_end settings life)
apart-joined settings blocks past life apart =
    let here = apart-follow (log_of life) settings.per_block past 0 (blocks_of settings life) (blocks_follow settings life) in
    let none : past + 0 ≡ past = omega arith in
    apart-append 0 past (past + newest_end settings life) blocks (map (behind past) (blocks_of settings life)) apart
    (subst (λ n. AreApart n (map (behind past) (blocks_of settings life)) (past + newest_end settings life)) none here)

-- the blocks of the lives before the present one lie apart
past_apart : (settings : Settings) (history : History)
    → AreApart 0 (past_blocks settings history) (length (past_log history))
past_apart settings [] = omega arith
past_apart settings (Restart ∷ history) =
    let within : newest_end settings (life_of history) ≤ length (log_of (life_of history)) = blocks_end_within settings (life_of history) in
    let split : length (whole_log history) ≡ length (past_log history ++ log_of (life_of history)) = ap length (whole_log-split history) in
    apart-more 0 (reached settings history) (length (whole_log history)) (all_blocks settings history)
    (omega (arith, length-append (past_log history) (log_of (life_of history))))
    (apart-joined settings (past_blocks settings history) (length (past_log history)) (life_of history) (past_apart settings history))
past_apart settings (other ∷ history) = past_apart settings history

-- the blocks of all lives lie one after another, up to where the next may begin
pub blocks_apart : (settings : Settings) (history : History)
    → AreApart 0 (all_blocks settings history) (reached settings history)
blocks_apart settings history = grind (arith, nat_tests, apart-joined, past_apart)

-- each of them ends before the place up to which they lie
pub apart_within : (from to : ℕ) (blocks : List MadeBlock) (k : ℕ) (block : MadeBlock)
    → AreApart from blocks to
    → slice_get blocks k ≡ Some block → (from ≤ block.start) × (block.start ≤ block.end) × (block.end ≤ to)
apart_within from to [] k block apart is = absurd (cc is)
apart_within from to (first ∷ blocks) zero block apart is =
    let same : first ≡ block = cc in
    subst (λ (b : MadeBlock). (from ≤ b.start) × (b.start ≤ b.end) × (b.end ≤ to)) same (apart.0, apart.1, apart_to first.end to blocks apart.2)
  where
    apart_to : (from to : ℕ) (blocks : List MadeBlock) → AreApart from blocks to → from ≤ to
    apart_to from to [] apart = apart
    apart_to from to (block ∷ blocks) apart =
        let rest : block.end ≤ to = apart_to block.end to blocks apart.2 in
        let low : from ≤ block.start = apart.0 in
        let long : block.start ≤ block.end = apart.1 in
        omega arith
apart_within from to (first ∷ blocks) (suc k) block apart is =
    let rest = apart_within first.end to blocks k block apart.2 is in
    let after : first.end ≤ block.start = rest.0 in
    let low : from ≤ first.start = apart.0 in
    let long : first.start ≤ first.end = apart.1 in
    (omega arith, rest.1, rest.2)

-- an earlier one ends before a later one starts
pub apart_order : (from to : ℕ) (blocks : List MadeBlock) (j k : ℕ) (s t : MadeBlock)
    → AreApart from blocks to → j < k
    → slice_get blocks j ≡ Some s → slice_get blocks k ≡ Some t → s.end ≤ t.start
apart_order from to [] j k s t apart less p q = absurd (cc p)
apart_order from to (first ∷ blocks) zero zero s t apart less p q = absurd (omega arith)
apart_order from to (first ∷ blocks) zero (suc k) s t apart less p q =
    let same : first ≡ s = cc in
    let rest = apart_within first.end to blocks k t apart.2 q in
    subst (λ (b : MadeBlock). b.end ≤ t.start) same rest.0
apart_order from to (first ∷ blocks) (suc j) zero s t apart less p q = absurd (omega arith)
apart_order from to (first ∷ blocks) (suc j) (suc k) s t apart less p q =
    apart_order first.end to blocks j k s t apart.2 (omega arith) p q

-- the transitions of a block are in a log from its start up to its end
pub record StandsIn (log : List Transition) (block : MadeBlock) : Type 0 where
  pub count : block.start + length block.transitions ≡ block.end
  pub places : (i : ℕ) (t : Transition) → slice_get block.transitions i ≡ Some t
      → slice_get log (block.start + i) ≡ Some t

-- what is in a log is in a longer one
stands-more : (log more : List Transition) (block : MadeBlock) → StandsIn log block
    → StandsIn (log ++ more) block
stands-more log more block s = grind (arith, nat_tests, get_before_push)

-- a part of a life's log comes after the logs before it
stands-behind : (past log : List Transition) (per_block : ℕ) (block : MadeBlock)
    → IsPartOf log per_block block
    → StandsIn (past ++ log) (behind (length past) block)
stands-behind past log per_block block part =
    let count : block.start + length block.transitions ≡ block.end = part_count log per_block block part in
    record {
      count = omega arith;
      places = λ i t is.
          let shift : (length past + block.start) + i ≡ length past + (block.start + i) = omega arith in
          ap (slice_get (past ++ log)) shift
          ∙ get_behind past log (block.start + i) t (part_stands log per_block block part i t is);
    }

-- so does each of the blocks that follow one another
stand-follow : (past log : List Transition) (per_block before : ℕ) (blocks : List MadeBlock)
    → FollowOneAnother log per_block before blocks
    → AllByRecursion (StandsIn (past ++ log)) (map (behind (length past)) blocks)
stand-follow past log per_block before [] follow = tt
stand-follow past log per_block before (block ∷ blocks) follow =
    (stands-behind past log per_block block follow.1, stand-follow past log per_block block.end blocks follow.2)

-- the blocks of a life are in its log, joined to those before it
stand-joined : (settings : Settings) (blocks : List MadeBlock) (past : List Transition) (life : Life)
    → AllByRecursion (StandsIn past) blocks
    → AllByRecursion (StandsIn (past ++ log_of life)) (joined settings blocks (length past) life)
stand-joined settings blocks past life stand =
    each-append (StandsIn (past ++ log_of life)) blocks (map (behind (length past)) (blocks_of settings life))
    (each-map (StandsIn past) (StandsIn (past ++ log_of life)) (stands-more past (log_of life)) blocks stand)
    (stand-follow past (log_of life) settings.per_block 0 (blocks_of settings life) (blocks_follow settings life))

-- the blocks of the lives before the present one are in their logs
past_stand : (settings : Settings) (history : History)
    → AllByRecursion (StandsIn (past_log history)) (past_blocks settings history)
past_stand settings [] = tt
past_stand settings (Restart ∷ history) =
    subst (λ log. AllByRecursion (StandsIn log) (all_blocks settings history)) (sym (whole_log-split history))
    (stand-joined settings (past_blocks settings history) (past_log history) (life_of history) (past_stand settings history))
past_stand settings (other ∷ history) = past_stand settings history

-- the blocks of all lives are in the joined log
pub blocks_stand : (settings : Settings) (history : History)
    → AllByRecursion (StandsIn (whole_log history)) (all_blocks settings history)
blocks_stand settings history = grind (arith, nat_tests, whole_log-split, stand-joined, past_stand)
