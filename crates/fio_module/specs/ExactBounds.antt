-- The largest number of entries that wait, and their greatest age, in whole blocks and whole filter lengths.
use Rattle.std.specs.Prelude.{ℕ, ◌+◌, ◌-◌, ◌*◌, ◌/◌, ◌≤◌, ◌++◌, length}
use Rattle.std.specs.List.{AllByRecursion}
use Rattle.fio_module.specs.Settings.{Settings, AreInRange}
use Rattle.fio_module.specs.Life.{Life, scans_of}
use Rattle.fio_module.specs.Blocks.{waiting_of}
use Rattle.fio_module.specs.Delivery.{AtEachTime}
use Rattle.fio_module.specs.KeepingUp.{scans_behind, IsKeptUp}

-- For some number j of blocks, each of b entries and making up for s scans, with k open inputs, filters of f, and m scans
-- behind: the entries that wait and those of the j blocks are together no more than the open inputs can report in j s + m
-- scans, 1 + (j s + m - 1) / f each; and an entry that waits is at most j s + m - 1 - f (b j / k) scans old.
pub record KeepsUpExactly (settings : Settings) (opened filter scans : ℕ) (life later : Life)
    : Type 0 where
  pub blocks : ℕ
  pub few_wait :
      length (waiting_of settings (later ++ life)) + settings.per_block * blocks
      ≤ opened * (1 + (scans * blocks + scans_behind scans later life - 1) / filter)
  pub young :
      AllByRecursion
      (λ transition. scans_of (later ++ life) + 1
      + filter * (settings.per_block * blocks / opened)
      ≤ transition.scans + (scans * blocks + scans_behind scans later life))
      (waiting_of settings (later ++ life))

-- If rounds keep up, the module keeps up in this sense at each time.
abbrev pub KeptUpKeepsUpExactly : Type 0
KeptUpKeepsUpExactly =
    (settings : Settings) (opened filter scans most : ℕ) (life later : Life) →
    AreInRange settings → 1 ≤ settings.waiting → IsKeptUp settings opened filter scans most life later →
    AtEachTime (KeepsUpExactly settings opened filter scans life) later
