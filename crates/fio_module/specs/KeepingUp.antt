-- How late a transition can be in a block, if blocks keep up with the scans.
use Rattle.std.specs.Prelude.{ℕ, ◌+◌, ◌-◌, ◌*◌, ◌≤◌, [], ◌∷◌, ◌++◌, length, if◌then◌else◌}
use Rattle.std.specs.List.{AllByRecursion}
use Rattle.fio_message.specs.declared.commands.Command.TheVariants.{Poll}
use Rattle.fio_module.specs.Settings.{Settings, AreInRange, HasRoom}
use Rattle.fio_module.specs.Life.{Life, Scanned, Commanded, scans_of}
use Rattle.fio_module.specs.Log.{Transition}
use Rattle.fio_module.specs.Blocks.{newest_poll, is_new, waiting_of}
use Rattle.fio_module.specs.Delivery.{AtEachTime, FewBeyond, FewChange}
use Rattle.fio_message.specs.declared.limits.TheConstants.{INPUTS}

-- By how many scans the blocks are behind, counting what happened after `life`: each scan adds one, and each new block makes
-- up for `scans` of them, or for all if there are fewer.
abbrev pub scans_behind : ℕ → Life → Life → ℕ
scans_behind scans [] life = 0
scans_behind scans (Scanned raw ∷ later) life = scans_behind scans later life + 1
scans_behind scans (Commanded (Poll number) ∷ later) life =
    if is_new (newest_poll (later ++ life)) number
    then scans_behind scans later life - scans
    else scans_behind scans later life
scans_behind scans (other ∷ later) life = scans_behind scans later life

-- Kept up with: from a time on at which nothing waits, few change, each block makes up for `scans` scans, and the blocks are
-- never more than `most` scans behind.
pub record IsKeptUp (settings : Settings) (opened filter scans most : ℕ) (life later : Life)
    : Type 0 where
  pub few_change : FewChange settings opened filter scans life later
  pub behind : AtEachTime (λ l. scans_behind scans l life ≤ most) later
  -- the buffer has room for what the open inputs can report in `most` scans
  pub room : opened * (most + (filter - 1)) ≤ settings.waiting * filter

-- a transition belongs to one of the latest scans of a life: at most b + f - 2 scans came after its own, where b is `behind`
-- and f `filter`
abbrev pub IsYoung : ℕ → ℕ → Life → Transition → Type 0
IsYoung behind filter life transition =
    scans_of life + 2 ≤ transition.scans + (behind + filter)

-- What holds then, if the blocks are b scans behind, with k open inputs and filters of f: at most k (b + f - 1) / f entries
-- wait, none is pushed out, and none that waits is older than b + f - 2 scans.
pub record KeepsUp (settings : Settings) (opened filter scans : ℕ) (life later : Life)
    : Type 0 where
  pub few_wait :
      length (waiting_of settings (later ++ life)) * filter
      ≤ opened * (scans_behind scans later life + (filter - 1))
  pub few_beyond : FewBeyond settings (later ++ life)
  pub young :
      AllByRecursion (IsYoung (scans_behind scans later life) filter (later ++ life))
      (waiting_of settings (later ++ life))

-- If rounds keep up, the module keeps up at each time.
abbrev pub KeptUpKeepsUp : Type 0
KeptUpKeepsUp =
    (settings : Settings) (opened filter scans most : ℕ) (life later : Life) →
    AreInRange settings → 1 ≤ settings.waiting → IsKeptUp settings opened filter scans most life later →
    AtEachTime (KeepsUp settings opened filter scans life) later

-- If a block takes at least one entry for each input of the module, one block takes what the open inputs can report in f - 1
-- scans, and two blocks what they can report in f - 1 scans and the scans that a block makes up for, with f the filter.
abbrev pub BlocksTakeTheRest : Type 0
BlocksTakeTheRest =
    (settings : Settings) (opened filter scans : ℕ) →
    INPUTS ≤ settings.per_block → opened ≤ INPUTS → 1 ≤ filter →
    opened * scans ≤ settings.per_block * filter →
    (opened * (0 + (filter - 1)) ≤ 1 * (settings.per_block * filter))
    × (opened * (scans + (filter - 1)) ≤ 2 * (settings.per_block * filter))

-- If two blocks may wait, and one entry more for each input, the buffer has room for what the open inputs can report in twice
-- the scans that a block makes up for.
abbrev pub TwoBlocksAreRoom : Type 0
TwoBlocksAreRoom =
    (settings : Settings) (opened filter scans : ℕ) →
    HasRoom settings → opened ≤ INPUTS → 1 ≤ filter →
    opened * scans ≤ settings.per_block * filter →
    opened * (2 * scans + (filter - 1)) ≤ settings.waiting * filter
