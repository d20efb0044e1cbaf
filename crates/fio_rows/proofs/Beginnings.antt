-- The search for the next place where a stream goes on.
use Rattle.std.proofs.Common.{◌≡◌, ℕ, ◌+◌, ◌<◌, List, ◌∷◌, length, drop, get_or, refl, true, false, Some, add-one, subst, drop-cons}
use Rattle.fio_rows.specs.Dividing.{beginning_from, stream_goes_on}

-- the search goes past an octet with which the stream does not go on
pub beginning_past : (at octet : ℕ) (octets : List ℕ) → stream_goes_on (octet ∷ octets) ≡ false →
    beginning_from at (octet ∷ octets) ≡ beginning_from (at + 1) octets
unfolding beginning_from
beginning_past at octet octets h = rw h refl

-- the same at an index
pub beginning_past_index : (at : ℕ) (octets : List ℕ) → at < length octets → stream_goes_on (drop at octets) ≡ false →
    beginning_from at (drop at octets) ≡ beginning_from (at + 1) (drop (at + 1) octets)
beginning_past_index at octets l h =
    let e : drop at octets ≡ get_or octets at 0 ∷ drop (at + 1) octets = rw (add-one, drop-cons octets at 0) in
    let h' : stream_goes_on (get_or octets at 0 ∷ drop (at + 1) octets) ≡ false = subst (λ (x : List ℕ). stream_goes_on x ≡ false) e h in
    rw e (beginning_past at (get_or octets at 0) (drop (at + 1) octets) h')

-- the search ends at an octet with which the stream goes on
pub beginning_here : (at octet : ℕ) (octets : List ℕ) → stream_goes_on (octet ∷ octets) ≡ true →
    beginning_from at (octet ∷ octets) ≡ Some at
unfolding beginning_from
beginning_here at octet octets h = rw h refl

-- the same at an index
pub beginning_at_index : (at : ℕ) (octets : List ℕ) → at < length octets → stream_goes_on (drop at octets) ≡ true →
    beginning_from at (drop at octets) ≡ Some at
beginning_at_index at octets l h =
    let e : drop at octets ≡ get_or octets at 0 ∷ drop (at + 1) octets = rw (add-one, drop-cons octets at 0) in
    let h' : stream_goes_on (get_or octets at 0 ∷ drop (at + 1) octets) ≡ true = subst (λ (x : List ℕ). stream_goes_on x ≡ true) e h in
    rw e (beginning_here at (get_or octets at 0) (drop (at + 1) octets) h')
