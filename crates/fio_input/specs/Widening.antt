-- Times of 32 bits from their low 16 bits.
use Rattle.std.specs.Prelude.{ℕ, ◌+◌, ◌-◌, ◌%◌, ◌^◌, ◌≡◌, ◌<◌}

-- the one number at or before the stamp, counting back modulo 2 ^ 32 by less than 2 ^ 16, that has
-- these low 16 bits
pub record IsWideTime (stamp low wide : ℕ) : Type 0 where
  pub in_range : wide < 2 ^ 32
  pub same_low : wide % 2 ^ 16 ≡ low
  pub age : ℕ
  pub is_recent : age < 2 ^ 16
  pub stamped : stamp ≡ (wide + age) % 2 ^ 32

-- that number: the stamp less its distance modulo 2 ^ 16 from the low bits, borrowing modulo 2 ^ 32
unfoldable pub wide_time_of : ℕ → ℕ → ℕ
wide_time_of stamp low = (stamp + 2 ^ 32 - (stamp + 2 ^ 16 - low) % 2 ^ 16) % 2 ^ 32
