-- The limits of a module.
use Rattle.std.specs.Prelude.{ℕ, ◌&&◌, Bool, nat_le}
use Rattle.fio_message.specs.declared.limits.TheConstants.{BLOCK_ENTRIES}
use Rattle.fio_module.specs.declared.limits.TheConstants.{STANDARD_WAITING, MOST_WAITING}

-- the most entries that one block takes, and the most that wait
pub record Limits : Type 0 where
  pub per_block : ℕ
  pub waiting : ℕ

-- the limits of TEES 2009
abbrev pub standard_limits : Limits
standard_limits = record { per_block = BLOCK_ENTRIES; waiting = STANDARD_WAITING }

-- whether these are limits: a block takes 1 to 255 entries, and 1,024 to 8,192 may wait
abbrev pub are_limits : ℕ → ℕ → Bool
are_limits per_block waiting =
    nat_le 1 per_block && (nat_le per_block BLOCK_ENTRIES
    && (nat_le STANDARD_WAITING waiting && nat_le waiting MOST_WAITING))
