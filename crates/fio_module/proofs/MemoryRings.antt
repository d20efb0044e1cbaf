-- Where a ring in the caller's memory begins.
use Rattle.fio_module.proofs.Names.{◌≡◌, ◌<◌, ◌≤◌, ℕ, arith, nat_tests, first_in}

pub first_in-at_most : (first room : ℕ) → first_in first room ≤ room
first_in-at_most first room = grind (arith, nat_tests)

pub first_in-inside : (first room : ℕ) → 0 < room → first_in first room < room
first_in-inside first room some = grind (arith, nat_tests)

pub first_in-same : (first room : ℕ) → first < room → first_in first room ≡ first
first_in-same first room inside = grind (arith, nat_tests)

-- this holds also if there is no room
pub first_in-next : (next room : ℕ) → next ≤ room → (0 < room → next < room) → first_in next room ≡ next
first_in-next next room few inside = grind (arith, nat_tests)
