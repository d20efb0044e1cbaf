-- The lines of a text, by the places where they end.
use Rattle.std.proofs.Common.{◌≡◌, ◌≤◌, ◌<◌, ◌+◌, ℕ, suc, List, [], ◌∷◌, ◌++◌, length, get_or, arith, refl, ap, zero}
use Rattle.std.specs.Prelude.{slice_range, sum_by}
use Rattle.std.proofs.lemmas.Grind.{common_steps}
use Rattle.fio_guess.specs.Lines.{parts_of, GoUp}

pub length-parts_of : (text : List ℕ) (start : ℕ) (ends : List ℕ) → length (parts_of text start ends) ≡ length ends
length-parts_of text start [] = refl
length-parts_of text start (end ∷ ends) = ap suc (length-parts_of text end ends)

pub goes_up : (first : ℕ) (places : List ℕ) (last : ℕ) → GoUp first places last → first ≤ last
goes_up first [] last up = omega arith
goes_up first (next ∷ places) last up = let later : next ≤ last = goes_up next places last up.1 in omega arith

pub sum_by-parts_of : (text : List ℕ) (start : ℕ) (ends : List ℕ) → GoUp start ends (length text) → start + sum_by length (parts_of text start ends) ≡ length text
sum_by-parts_of text start [] up = omega arith
sum_by-parts_of text start (end ∷ ends) up =
    let within : end ≤ length text = goes_up end ends (length text) up.1 in
    let later : end + sum_by length (parts_of text end ends) ≡ length text = sum_by-parts_of text end ends up.1 in
    grind (arith, common_steps)

pub GoUp-push : (first : ℕ) (places : List ℕ) (last next : ℕ) → GoUp first places last → last ≤ next → GoUp first (places ++ next ∷ []) next
GoUp-push first [] last next up above = (omega arith, refl)
GoUp-push first (place ∷ places) last next up above = (up.0, GoUp-push place places last next up.1 above)

pub slice_range-append : (text more : List ℕ) (start end : ℕ) → end ≤ length text → slice_range (text ++ more) start end ≡ slice_range text start end
slice_range-append text more start end within = grind (arith, common_steps)

pub slice_range-rest : (text more : List ℕ) (start end : ℕ) → start ≡ length text → end ≡ length text + length more → slice_range (text ++ more) start end ≡ more
slice_range-rest text more start end first last = grind (arith, common_steps)

pub parts_of-push : (text more : List ℕ) (start : ℕ) (ends : List ℕ) (next : ℕ) → GoUp start ends (length text) → next ≡ length text + length more → parts_of (text ++ more) start (ends ++ next ∷ []) ≡ parts_of text start ends ++ more ∷ []
parts_of-push text more start [] next up last = ap (λ line. line ∷ []) (slice_range-rest text more start next up last)
parts_of-push text more start (end ∷ ends) next up last =
    let within : end ≤ length text = goes_up end ends (length text) up.1 in
    let here : slice_range (text ++ more) start end ≡ slice_range text start end = slice_range-append text more start end within in
    let later : parts_of (text ++ more) end (ends ++ next ∷ []) ≡ parts_of text end ends ++ more ∷ [] = parts_of-push text more end ends next up.1 last in
    rw (here, later) refl

pub first_line : (text : List ℕ) (start : ℕ) (ends : List ℕ) → 0 < length ends → get_or (parts_of text start ends) 0 [] ≡ slice_range text start (get_or ends 0 0)
first_line text start [] some = absurd (omega arith)
first_line text start (end ∷ ends) some = refl

pub later_line : (text : List ℕ) (start : ℕ) (ends : List ℕ) (above at : ℕ) → at ≡ suc above → at < length ends → get_or (parts_of text start ends) at [] ≡ slice_range text (get_or ends above 0) (get_or ends at 0)
later_line text start [] above at is below = absurd (omega arith)
later_line text start (end ∷ ends) zero at is below = rw is (first_line text end ends (let below : at < suc (length ends) = below in omega arith))
later_line text start (end ∷ ends) (suc above) at is below = rw is (later_line text end ends above (suc above) refl (let below : at < suc (length ends) = below in omega arith))

pub first_within : (first : ℕ) (places : List ℕ) (last : ℕ) → GoUp first places last → 0 < length places → get_or places 0 0 ≤ last
first_within first [] last up some = absurd (omega arith)
first_within first (place ∷ places) last up some = goes_up place places last up.1

pub later_within : (first : ℕ) (places : List ℕ) (last above at : ℕ) → GoUp first places last → at ≡ suc above → at < length places → (get_or places above 0 ≤ get_or places at 0) × (get_or places at 0 ≤ last)
later_within first [] last above at up is below = absurd (omega arith)
later_within first (place ∷ []) last above at up is below = absurd (omega arith)
later_within first (place ∷ (next ∷ places)) last zero at up is below = rw is (up.1.0, goes_up next places last up.1.1)
later_within first (place ∷ (next ∷ places)) last (suc above) at up is below = rw is (later_within place (next ∷ places) last above (suc above) up.1 refl (let below : at < suc (suc (length places)) = below in omega arith))
