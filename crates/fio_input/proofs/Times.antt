-- The 32-bit time of a stamp and 16 low bits.
use Rattle.fio_input.proofs.Names.{◌≡◌, ℕ, ◌+◌, ◌-◌, ◌%◌, ◌^◌, ◌<◌, arith}
use Rattle.fio_input.specs.Widening.{IsWideTime, wide_time_of}

-- the function gives such a time
pub IsWideTime-wide_time_of : (stamp low : ℕ) → stamp < 2 ^ 32 → low < 2 ^ 16 → IsWideTime stamp low (wide_time_of stamp low)
unfolding wide_time_of
IsWideTime-wide_time_of stamp low stamp_fits low_fits =
    record {
      in_range = omega arith;
      same_low = omega arith;
      age = (stamp + 2 ^ 16 - low) % 2 ^ 16;
      is_recent = omega arith;
      stamped = omega arith;
    }

-- and there is no other
pub wide_time_of_only : (stamp low wide : ℕ) → stamp < 2 ^ 32 → low < 2 ^ 16 → IsWideTime stamp low wide → wide ≡ wide_time_of stamp low
unfolding wide_time_of
wide_time_of_only stamp low wide stamp_fits low_fits w =
    let in_range = w.in_range in
    let same_low = w.same_low in
    let is_recent = w.is_recent in
    let stamped = w.stamped in
    omega arith
