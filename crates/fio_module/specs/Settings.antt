-- The settings that a module is made with.
use Rattle.std.specs.Prelude.{ℕ, ◌+◌, ◌*◌, ◌≤◌}
use Rattle.fio_module.specs.Limits.{Limits, standard_limits}
use Rattle.fio_message.specs.declared.limits.TheConstants.{BLOCK_ENTRIES, INPUTS}

-- the identification octet, the most entries of one block, and the most that wait
pub record Settings : Type 0 where
  pub id : ℕ
  pub per_block : ℕ
  pub waiting : ℕ

-- the settings of a module with this identification and these limits
abbrev pub settings_with : ℕ → Limits → Settings
settings_with id limits =
    record { id = id; per_block = limits.per_block; waiting = limits.waiting }

-- the settings if the caller gives no limits
abbrev pub standard_settings : ℕ → Settings
standard_settings id = settings_with id standard_limits

-- what holds of settings with any limits, standard or not, however many may wait
pub record AreInRange (settings : Settings) : Type 0 where
  pub id_fits : settings.id ≤ 255
  pub some_per_block : 1 ≤ settings.per_block
  pub few_per_block : settings.per_block ≤ BLOCK_ENTRIES

-- two blocks may wait, and one entry more for each input
abbrev pub HasRoom : Settings → Type 0
HasRoom settings = 2 * settings.per_block + INPUTS ≤ settings.waiting
