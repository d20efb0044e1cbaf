-- A bit an octet.
use Rattle.std.proofs.Common.{◌≡◌, ℕ, zero, suc, ◌%◌, List, [], ◌∷◌, length, get_or, false, refl, ap}
use Rattle.std.specs.Prelude.{◌==◌}
use Rattle.fio_wire.specs.Bits.{lowest_bits}

pub length_bits : (line : List ℕ) → length (lowest_bits line) ≡ length line
length_bits [] = refl
length_bits (o ∷ os) = ap suc (length_bits os)

pub bit_at : (line : List ℕ) (i : ℕ) → get_or (lowest_bits line) i false ≡ (get_or line i 0 % 2 == 1)
bit_at [] i = refl
bit_at (o ∷ os) zero = refl
bit_at (o ∷ os) (suc i) = bit_at os i
