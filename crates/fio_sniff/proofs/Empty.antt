-- Whether there are octets, by the clauses of `find`.
use Rattle.std.proofs.Common.{◌≡◌, ◌≢◌, ℕ, List, [], ◌∷◌, true, false, refl}
use Rattle.fio_rows.specs.Lines.{are_none}

pub empty_if_none : (octets : List ℕ) → octets ≡ [] → are_none octets ≡ true
empty_if_none [] none = refl
empty_if_none (octet ∷ octets) none = absurd (cc)

pub not_empty_if_some : (octets : List ℕ) → octets ≢ [] → are_none octets ≡ false
not_empty_if_some [] some = absurd (some refl)
not_empty_if_some (octet ∷ octets) some = refl
