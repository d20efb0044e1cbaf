-- Frames that are end to end, one by one.
use Rattle.fio_world.proofs.Names.{◌≡◌, ℕ, zero, suc, ◌+◌, ◌-◌, ◌<◌, ◌≤◌, ◌==◌, true, List, [], ◌∷◌, ◌++◌, length, take, drop, Some, None, slice_get, get_or, refl, ap, sym, ◌∙◌, arith, take-append-le, drop-append-le, length-drop, take_all, item_numbered, between, frames_in, is_cut, are_short, start_at}
use Rattle.std.specs.Prelude.{nat_le}
use Rattle.std.proofs.lemmas.Bool.{and_parts, and_from, leb-true, le-leb, eqb-true, eq-eqb}
use Rattle.std.proofs.Math.Seq.{drop-append_seam}
use Rattle.fio_message.specs.declared.limits.TheConstants.{FRAME_OCTETS}

-- there is a frame for each end
pub length-frames : (octets : List ℕ) (start : ℕ) (ends : List ℕ) → length (frames_in octets start ends) ≡ length ends
length-frames octets start [] = refl
length-frames octets start (end ∷ ends) = ap suc (length-frames octets end ends)

-- the two halves of a cut
cut-head : (start end : ℕ) (ends : List ℕ) (last : ℕ) → is_cut start (end ∷ ends) last ≡ true → start ≤ end
cut-head start end ends last c = leb-true start end (and_parts (nat_le start end) (is_cut end ends last) c).0

cut-rest : (start end : ℕ) (ends : List ℕ) (last : ℕ) → is_cut start (end ∷ ends) last ≡ true → is_cut end ends last ≡ true
cut-rest start end ends last c = (and_parts (nat_le start end) (is_cut end ends last) c).1

-- a cut lies below its last place
pub cut-below : (start : ℕ) (ends : List ℕ) (last : ℕ) → is_cut start ends last ≡ true → start ≤ last
cut-below start [] last c = omega (arith, eqb-true start last c)
cut-below start (end ∷ ends) last c =
    omega (arith, cut-head start end ends last c, cut-below end ends last (cut-rest start end ends last c))

-- each frame starts at or before its end, and ends within the octets
pub cut-at : (start : ℕ) (ends : List ℕ) (last k : ℕ) → is_cut start ends last ≡ true → k < length ends → (start_at start ends k ≤ get_or ends k 0) × (get_or ends k 0 ≤ last)
cut-at start [] last k c h = absurd (omega (arith, h))
cut-at start (end ∷ ends) last zero c h =
    (cut-head start end ends last c, cut-below end ends last (cut-rest start end ends last c))
cut-at start (end ∷ ends) last (suc k) c h =
    cut-at end ends last k (cut-rest start end ends last c) (omega (arith, h))

-- the frame with a place lies between its start and its end
pub frame-at : (octets : List ℕ) (start : ℕ) (ends : List ℕ) (k : ℕ) → k < length ends → slice_get (frames_in octets start ends) k ≡ Some (between octets (start_at start ends k) (get_or ends k 0))
frame-at octets start [] k h = absurd (omega (arith, h))
frame-at octets start (end ∷ ends) zero h = refl
frame-at octets start (end ∷ ends) (suc k) h = frame-at octets end ends k (omega (arith, h))

-- a frame starts where the one before it ends
pub start-after : (start : ℕ) (ends : List ℕ) (k : ℕ) → k < length ends → start_at start ends (suc k) ≡ get_or ends k 0
start-after start [] k h = absurd (omega (arith, h))
start-after start (end ∷ ends) zero h = refl
start-after start (end ∷ ends) (suc k) h = start-after end ends k (omega (arith, h))

-- octets that are added change no frame
between-append : (octets more : List ℕ) (start end : ℕ) → start ≤ end → end ≤ length octets → between (octets ++ more) start end ≡ between octets start end
between-append octets more start end h low =
    ap (take (end - start)) (drop-append-le start octets more (omega (arith, h, low)))
    ∙ take-append-le (end - start) (drop start octets) more (omega (arith, low, h, length-drop start octets))

-- what is added is the last frame
last-between : (octets more : List ℕ) → between (octets ++ more) (length octets) (length octets + length more) ≡ more
last-between octets more =
    ap (take (length octets + length more - length octets)) (drop-append_seam octets more)
    ∙ take_all (length octets + length more - length octets) more (omega arith)

pub frames-append : (octets more : List ℕ) (start : ℕ) (ends : List ℕ) → is_cut start ends (length octets) ≡ true → frames_in (octets ++ more) start (ends ++ (length octets + length more) ∷ []) ≡ frames_in octets start ends ++ more ∷ []
frames-append octets more start [] c =
    let same : start ≡ length octets = eqb-true start (length octets) c in
    ap (λ s. between (octets ++ more) s (length octets + length more) ∷ []) same ∙ ap (λ f. f ∷ []) (last-between octets more)
frames-append octets more start (end ∷ ends) c =
    let rest = cut-rest start end ends (length octets) c in
    let low = cut-below end ends (length octets) rest in
    ap (λ f. f ∷ frames_in (octets ++ more) end (ends ++ (length octets + length more) ∷ [])) (between-append octets more start end (cut-head start end ends (length octets) c) low)
    ∙ ap (λ fs. between octets start end ∷ fs) (frames-append octets more end ends rest)

-- the cut with one more end
pub cut-append : (start : ℕ) (ends : List ℕ) (last next : ℕ) → is_cut start ends last ≡ true → last ≤ next → is_cut start (ends ++ next ∷ []) next ≡ true
cut-append start [] last next c h =
    and_from (nat_le start next) (next == next) (le-leb start next (omega (arith, eqb-true start last c, h))) (eq-eqb next next refl)
cut-append start (end ∷ ends) last next c h =
    and_from (nat_le start end) (is_cut end (ends ++ next ∷ []) next) (le-leb start end (cut-head start end ends last c)) (cut-append end ends last next (cut-rest start end ends last c) h)

-- the end that is read with a default of its own
pub end-read : (ends : List ℕ) (k end : ℕ) → k < length ends → end ≡ get_or ends k end → end ≡ get_or ends k 0
end-read [] k end h r = absurd (omega (arith, h))
end-read (first ∷ ends) zero end h r = r
end-read (first ∷ ends) (suc k) end h r = end-read ends k end (omega (arith, h)) r

-- no item has a place past the last
past_none : (frames : List (List ℕ)) (k : ℕ) → length frames ≤ k → None ≡ slice_get frames k
past_none [] k h = refl
past_none (frame ∷ frames) zero h = absurd (omega (arith, h))
past_none (frame ∷ frames) (suc k) h = past_none frames k (omega (arith, h))

pub none_past : (frames : List (List ℕ)) (index : ℕ) → length frames < index → None ≡ item_numbered frames index
none_past frames zero h = absurd (omega (arith, h))
none_past frames (suc k) h = past_none frames k (omega (arith, h))

-- one more short frame
pub short-push : (frames : List (List ℕ)) (frame : List ℕ) → are_short frames ≡ true → length frame ≤ FRAME_OCTETS
    → are_short (frames ++ frame ∷ []) ≡ true
short-push [] frame all short = and_from (nat_le (length frame) FRAME_OCTETS) true (le-leb (length frame) FRAME_OCTETS short) refl
short-push (first ∷ frames) frame all short =
    let parts = and_parts (nat_le (length first) FRAME_OCTETS) (are_short frames) all in
    and_from (nat_le (length first) FRAME_OCTETS) (are_short (frames ++ frame ∷ [])) parts.0 (short-push frames frame parts.1 short)

short-at : (frames : List (List ℕ)) (place : ℕ) (octets : List ℕ) → are_short frames ≡ true → slice_get frames place ≡ Some octets → length octets ≤ FRAME_OCTETS
short-at [] place octets all at = absurd (cc at)
short-at (first ∷ frames) zero octets all at =
    let same : first ≡ octets = cc at in
    let here = leb-true (length first) FRAME_OCTETS (and_parts (nat_le (length first) FRAME_OCTETS) (are_short frames) all).0 in
    rw same at here
short-at (first ∷ frames) (suc place) octets all at =
    short-at frames place octets (and_parts (nat_le (length first) FRAME_OCTETS) (are_short frames) all).1 at

-- each frame is short
pub short-numbered : (frames : List (List ℕ)) (index : ℕ) (octets : List ℕ) → are_short frames ≡ true → Some octets ≡ item_numbered frames index → length octets ≤ FRAME_OCTETS
short-numbered frames zero octets all at = absurd (cc at)
short-numbered frames (suc place) octets all at = short-at frames place octets all (sym at)
