-- Whether there are octets.
use Rattle.std.proofs.Common.{◌≡◌, ◌≢◌, ℕ, true, false, List, [], ◌∷◌, refl}
use Rattle.fio_rows.specs.Lines.{are_none}

-- there are octets if they are not none
pub is_empty_some : (octets : List ℕ) → octets ≢ [] → are_none octets ≡ false
is_empty_some [] h = absurd (h refl)
is_empty_some (octet ∷ octets) h = refl

-- there are none
pub is_empty_none : (octets : List ℕ) → octets ≡ [] → are_none octets ≡ true
is_empty_none octets h = rw h refl
