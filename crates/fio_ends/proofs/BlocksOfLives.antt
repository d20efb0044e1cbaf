-- What the rules ask of blocks: how many entries each has, and that the one after a block with C has some.
use Rattle.fio_ends.proofs.Names.{◌≡◌, ◌∙◌, ◌+◌, ◌-◌, ◌<◌, ◌≤◌, inl, inr, ℕ, Bool, true, false, List, [], ◌∷◌, ◌++◌, length, drop, Option, Some, ap, sym, subst, arith, length-take, length-drop, length-append, if◌then◌else◌, nat_lt, slice_get, AllByRecursion, nat_tests, slice_get_within, Command, Poll, Settings, Life, Scanned, Commanded, life_after_command, log_of, MadeBlock, newest_poll, is_new, blocks_of, end_of_blocks, newest_end, next_block, start_after, count_from, last_end-append, get_after_push, get_before_push, HasInput, each_block, next_fits, min, transitions_below, losses_leave_more}

-- a block that keeps the limits: F implies C if more may wait than a block takes, C implies that it is full, and all its inputs
-- are there
pub record KeepsLimits (settings : Settings) (block : MadeBlock) : Type 0 where
  pub lost : settings.per_block < settings.waiting → block.lost ≡ true → block.more ≡ true
  pub more : block.more ≡ true → length block.transitions ≡ settings.per_block
  pub inputs : AllByRecursion HasInput block.transitions

full_if : (per_block left : ℕ) → nat_lt per_block left ≡ true → min per_block left ≡ per_block
full_if per_block left more = grind (arith, nat_tests)

-- the block that a new poll makes next keeps them
next_keeps : (settings : Settings) (life : Life) → KeepsLimits settings (next_block settings life)
next_keeps settings life =
    let log = log_of life in
    let start = start_after settings log (newest_end settings life) in
    let count = count_from settings log start in
    record {
      lost = losses_leave_more settings life;
      more = λ more.
          (let full : count ≡ settings.per_block = full_if settings.per_block (length log - start) more in
          let over : settings.per_block < length log - start = grind (arith, nat_tests) in
          omega (arith, length-take count (drop start log), length-drop start log));
      inputs = (next_fits settings life).inputs;
    }

-- and so does each block of a life
pub blocks_keep : (settings : Settings) (life : Life) → AllByRecursion (KeepsLimits settings) (blocks_of settings life)
blocks_keep settings life = each_block (KeepsLimits settings) settings (next_keeps settings) life

-- ---- after a block with C

-- the block after one with C has entries, and if the newest block has C, some may wait and the log goes on after it
pub record LeavesSome (settings : Settings) (blocks : List MadeBlock) (logged : ℕ) : Type 0 where
  pub next : (k : ℕ) (block later : MadeBlock) → slice_get blocks k ≡ Some block
      → slice_get blocks (k + 1) ≡ Some later → block.more ≡ true → 1 ≤ length later.transitions
  pub newest : (k : ℕ) (block : MadeBlock) → slice_get blocks k ≡ Some block → length blocks ≡ k + 1
      → block.more ≡ true → (1 ≤ settings.waiting) × (end_of_blocks blocks < logged)

leaves_longer : (settings : Settings) (blocks : List MadeBlock) (logged longer : ℕ) → logged ≤ longer → LeavesSome settings blocks logged
    → LeavesSome settings blocks longer
leaves_longer settings blocks logged longer le leaves = grind arith

module _ (settings : Settings) (some : 1 ≤ settings.per_block) (life : Life)
    (leaves : LeavesSome settings (blocks_of settings life) (length (log_of life))) where
  abbrev made : MadeBlock
  made = next_block settings life

  abbrev start : ℕ
  start = start_after settings (log_of life) (newest_end settings life)

  -- the next block takes some if some may wait and the log goes on after the newest
  takes_some : (1 ≤ settings.waiting) × (newest_end settings life < length (log_of life)) → 1 ≤ length made.transitions
  takes_some (room, less) =
      let log = log_of life in
      let count = count_from settings log start in
      omega (arith, length-take count (drop start log), length-drop start log)

  -- and if it has C, some may wait and the log goes on after it
  goes_on : made.more ≡ true → (1 ≤ settings.waiting) × (made.end < length (log_of life))
  goes_on more = grind arith

  leaves_new : LeavesSome settings (blocks_of settings life ++ made ∷ []) (length (log_of life))
  leaves_new =
      let blocks = blocks_of settings life in
      let count : length (blocks ++ made ∷ []) ≡ length blocks + 1 = length-append blocks (made ∷ []) in
      record {
        next = λ k block later at after more.
            elim (get_after_push blocks made (k + 1) later after) as (λ _. 1 ≤ length later.transitions) [
              | inl old ↦ elim (get_after_push blocks made k block at) as (λ _. 1 ≤ length later.transitions) [
                | inl older ↦ leaves.next k block later older old more
                | inr new ↦ absurd (omega (arith, new.0, slice_get_within blocks (k + 1) later old))
              ]
              | inr new ↦ elim (get_after_push blocks made k block at) as (λ _. 1 ≤ length later.transitions) [
                | inl older ↦
                    subst (λ (m : MadeBlock). 1 ≤ length m.transitions) (sym new.1)
                    (takes_some (leaves.newest k block older (sym new.0) more))
                | inr newer ↦ absurd (omega (arith, new.0, newer.0))
              ]
            ];
        newest = λ k block at last more.
            elim (get_after_push blocks made k block at) as (λ _. (1 ≤ settings.waiting) × (end_of_blocks (blocks ++ made ∷ []) < length (log_of life))) [
              | inl older ↦ absurd (omega (arith, slice_get_within blocks k block older))
              | inr new ↦
                  rw (last_end-append 0 blocks made)
                  (goes_on (ap (λ (m : MadeBlock). m.more) (sym new.1) ∙ more))
            ];
      }

  leaves_if : (new : Bool)
      → LeavesSome settings (if new then blocks_of settings life ++ made ∷ [] else blocks_of settings life) (length (log_of life))
  leaves_if true = leaves_new
  leaves_if false = leaves

-- so it is in each life
pub blocks_leave : (settings : Settings) → 1 ≤ settings.per_block → (life : Life)
    → LeavesSome settings (blocks_of settings life) (length (log_of life))
blocks_leave settings some [] =
    record { next = λ k block later at after more. absurd (cc at); newest = λ k block at last more. absurd (cc at) }
blocks_leave settings some (Commanded (Poll number) ∷ life) =
    leaves_if settings some life (blocks_leave settings some life) (is_new (newest_poll life) number)
blocks_leave settings some (Scanned raw ∷ life) =
    let longer : length (log_of life) ≤ length (log_of life ++ transitions_below 64 raw life) =
    omega (arith, length-append (log_of life) (transitions_below 64 raw life)) in
    leaves_longer settings (blocks_of settings life) (length (log_of life)) (length (log_of life ++ transitions_below 64 raw life)) longer
    (blocks_leave settings some life)
blocks_leave settings some (other ∷ life) = blocks_leave settings some life

-- ---- what holds stays

-- a block that was made stays where it is
made_stays : (new : Bool) (blocks : List MadeBlock) (added block : MadeBlock) (k : ℕ) → slice_get blocks k ≡ Some block
    → slice_get (if new then blocks ++ added ∷ [] else blocks) k ≡ Some block
made_stays true blocks added block k at = get_before_push blocks (added ∷ []) k block at
made_stays false blocks added block k at = at

pub blocks_stay : (settings : Settings) (life : Life) (command : Option Command) (k : ℕ) (block : MadeBlock)
    → slice_get (blocks_of settings life) k ≡ Some block
    → slice_get (blocks_of settings (life_after_command command life)) k ≡ Some block
blocks_stay settings life command k block at = grind (arith, made_stays)
