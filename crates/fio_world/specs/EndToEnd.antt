-- Frames stored end to end, given where each ends.
use Rattle.std.specs.Prelude.{◌==◌, ◌&&◌, nat_le, ◌-◌, ℕ, zero, suc, Bool, List, [], ◌∷◌, length, take, drop}
use Rattle.fio_message.specs.declared.limits.TheConstants.{FRAME_OCTETS}
use Rattle.std.specs.List.{list_all}

-- the octets from index `start` up to but not including `end`
abbrev pub between : List ℕ → ℕ → ℕ → List ℕ
between octets start end = take (end - start) (drop start octets)

-- the frames that begin at `start` and end at these indexes
abbrev pub frames_in : List ℕ → ℕ → List ℕ → List (List ℕ)
frames_in octets start [] = []
frames_in octets start (end ∷ ends) = between octets start end ∷ frames_in octets end ends

-- the ends rise from `start` to `last`
abbrev pub is_cut : ℕ → List ℕ → ℕ → Bool
is_cut start [] last = start == last
is_cut start (end ∷ ends) last = nat_le start end && is_cut end ends last

-- each frame has at most `FRAME_OCTETS` octets
abbrev pub are_short : List (List ℕ) → Bool
are_short frames = list_all (λ frame. nat_le (length frame) FRAME_OCTETS) frames

-- the index at which a frame starts, given its index among the frames
abbrev pub start_at : ℕ → List ℕ → ℕ → ℕ
start_at start ends zero = start
start_at start [] (suc place) = start
start_at start (end ∷ ends) (suc place) = start_at end ends place

-- stored frames, as contracts describe them: their octets, and whether there is room for one more
pub record Stored : Type 0 where
  pub frames : List (List ℕ)
  pub has_room : Bool
