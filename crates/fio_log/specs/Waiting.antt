-- How many lines wait for their verdicts.
use Rattle.std.specs.Prelude.{◌≡◌, ℕ, ◌+◌, ◌≤◌, ◌<◌, false, true, length}
use Rattle.fio_guess.specs.declared.table.TheConstants.{LINES}
use Rattle.fio_log.specs.declared.teller.Teller.{Teller}

-- While the forms are not known, the lines without a verdict are in the window, which has few.
pub record Fills (teller : Teller) (read told : ℕ) : Type 0 where
  pub lines : teller.is_known ≡ false → read ≤ told + length teller.learning.window
  pub few : teller.is_known ≡ false → length teller.learning.window ≤ LINES

-- Once they are known, one line at most waits for the one below it.
abbrev pub WaitsForOne : Teller → ℕ → ℕ → Type 0
WaitsForOne teller read told = teller.is_known ≡ true → read ≤ told + 1

-- A teller has the same window, of the same lines.
pub record HasSameWindow (before after : Teller) : Type 0 where
  pub first : after.first ≡ before.first
  pub lines : after.lines ≡ before.lines
  pub window : after.learning.window ≡ before.learning.window

-- A teller knows the forms as before, and has the same window as long as it does not, or as long as the lines of the window have
-- their verdicts.
pub record KnowsAsBefore (before after : Teller) : Type 0 where
  pub known : after.is_known ≡ before.is_known
  pub window : before.is_known ≡ false → after.learning.window ≡ before.learning.window
  pub lines : 0 < after.first → HasSameWindow before after
