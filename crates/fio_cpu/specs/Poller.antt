-- The CPU's end, as contracts describe it.
use Rattle.std.specs.Prelude.{ℕ, List}
use Rattle.fio_cpu.specs.declared.record.Item.{Item}

-- its block number, and its record: what it has taken, in order
pub record Polling : Type 0 where
  pub number : ℕ
  pub items : List Item
