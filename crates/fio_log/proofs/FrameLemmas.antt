-- The frames of a verdict, by their octets and where each ends.
use Rattle.std.proofs.Common.{◌≡◌, ◌≤◌, ◌+◌, ℕ, List, [], ◌∷◌, length, arith, refl, length-append}
use Rattle.std.proofs.lemmas.Grind.{common_steps}
use Rattle.std.specs.Prelude.{slice_range}
use Rattle.std.specs.List.{concat}
use Rattle.fio_guess.specs.Lines.{GoUp, parts_of}
use Rattle.fio_guess.proofs.Lines.{goes_up}

range_length : (text : List ℕ) (start end : ℕ) → start ≤ end → end ≤ length text → start + length (slice_range text start end) ≡ end
range_length text start end order within = grind (arith, common_steps)

-- each octet is in one frame
pub all_in_frames : (text : List ℕ) (start : ℕ) (ends : List ℕ) → GoUp start ends (length text)
    → start + length (concat (parts_of text start ends)) ≡ length text
all_in_frames text start [] up = omega arith
all_in_frames text start (end ∷ ends) up =
    let within : end ≤ length text = goes_up end ends (length text) up.1 in
    let first : start + length (slice_range text start end) ≡ end = range_length text start end up.0 within in
    let rest : end + length (concat (parts_of text end ends)) ≡ length text = all_in_frames text end ends up.1 in
    omega (arith, length-append (slice_range text start end) (concat (parts_of text end ends)))

-- without frames there are no octets
pub no_octets : (text ends : List ℕ) → GoUp 0 ends (length text) → parts_of text 0 ends ≡ [] → (length ends ≡ 0) × (length text ≡ 0)
no_octets text [] up none = (refl, omega arith)
no_octets text (end ∷ ends) up none = absurd (cc)
