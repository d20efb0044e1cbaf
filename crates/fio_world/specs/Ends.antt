-- A world, as contracts describe it.
use Rattle.std.specs.Prelude.{ℕ, List}
use Rattle.fio_module.specs.declared.module.Module.{Module}
use Rattle.fio_cpu.specs.Poller.{Polling}

-- the two ends of a world and the frames between them
pub record Ends : Type 0 where
  pub module_end : Module
  pub poller_end : Polling
  -- the octets of all frames ever sent in each direction, oldest first
  pub to_module : List (List ℕ)
  pub to_cpu : List (List ℕ)
  -- the number delivered last in each direction, 0 for none
  pub last_to_module : ℕ
  pub last_to_cpu : ℕ
