-- The module's own frames among all, at their places.
use Rattle.std.proofs.lemmas.Bool.Decides.{nat_tests}
use Rattle.fio_link.proofs.Names.{◌≡◌, ℕ, zero, suc, ◌+◌, ◌≤◌, List, [], ◌∷◌, ◌++◌, length, map, Some, slice_get, refl, ap, arith}
use Rattle.fio_link.specs.Answered.{Makers, Own, Sent, frame_carried, own_frames}
use Rattle.fio_link.specs.Link.{SentFrame}

-- how many of the first frames are the module's own
abbrev pub rank : List Sent → ℕ → ℕ
rank [] count = 0
rank (frame ∷ sent) zero = 0
rank (Own frame ∷ sent) (suc count) = suc (rank sent count)
rank (Makers kind body round ∷ sent) (suc count) = rank sent count

-- none of no frames is
pub rank-zero : (sent : List Sent) → rank sent 0 ≡ 0
rank-zero [] = refl
rank-zero _ = refl

-- of more frames no fewer are
pub rank-mono : (sent : List Sent) (few more : ℕ) → few ≤ more → rank sent few ≤ rank sent more
rank-mono [] few more le = omega arith
rank-mono (Own frame ∷ sent) (suc few) (suc more) le = let rest = rank-mono sent few more (omega arith) in omega arith
rank-mono (Makers kind body round ∷ sent) (suc few) (suc more) le = rank-mono sent few more (omega arith)
rank-mono _ zero more le = omega arith
rank-mono _ (suc few) zero le = absurd (omega arith)

-- frames that follow change nothing
pub rank-append : (sent later : List Sent) (count : ℕ) → count ≤ length sent → rank (sent ++ later) count ≡ rank sent count
rank-append [] later zero le = rank-zero later
rank-append [] later (suc count) le = absurd (omega arith)
rank-append (Own frame ∷ sent) later (suc count) le = ap suc (rank-append sent later count (omega arith))
rank-append (Makers kind body round ∷ sent) later (suc count) le = rank-append sent later count (omega arith)
rank-append _ later zero le = refl

pub own-append : (sent later : List Sent) → own_frames (sent ++ later) ≡ own_frames sent ++ own_frames later
own-append [] later = refl
own-append (Own frame ∷ sent) later = ap (λ frames. frame ∷ frames) (own-append sent later)
own-append (Makers kind body round ∷ sent) later = own-append sent later

-- frames of the module alone
pub own-own : (frames : List SentFrame) → own_frames (map Own frames) ≡ frames
own-own [] = refl
own-own (frame ∷ frames) = ap (λ rest. frame ∷ rest) (own-own frames)

pub frames-own : (frames : List SentFrame) → map frame_carried (map Own frames) ≡ frames
frames-own [] = refl
frames-own (frame ∷ frames) = ap (λ rest. frame ∷ rest) (frames-own frames)

-- the module's own frame at a place is its own at the place among these
pub record IsOwnAt (sent : List Sent) (place : ℕ) (frame : SentFrame) : Type 0 where
  pub here : slice_get (own_frames sent) (rank sent place) ≡ Some frame
  pub one_more : rank sent (suc place) ≡ suc (rank sent place)

pub own_at : (sent : List Sent) (place : ℕ) (frame : SentFrame) → slice_get sent place ≡ Some (Own frame) → IsOwnAt sent place frame
own_at [] place frame is = absurd cc
own_at (Own other ∷ sent) zero frame is = grind (arith, nat_tests, rank-zero)
own_at (Own other ∷ sent) (suc place) frame is =
    let rest = own_at sent place frame is in record { here = rest.here; one_more = ap suc rest.one_more }
own_at (Makers kind body round ∷ sent) zero frame is = absurd cc
own_at (Makers kind body round ∷ sent) (suc place) frame is =
    let rest = own_at sent place frame is in record { here = rest.here; one_more = rest.one_more }
