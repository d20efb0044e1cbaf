-- Frames, and the places where they are written.
use Rattle.std.specs.Prelude.{ℕ, ◌≤◌, List, [], length, slice_index, slice_index_or}
use Rattle.std.specs.List.{concat}
use Rattle.fio_log.specs.declared.places.Place.{Place}
use Rattle.fio_log.specs.declared.told.TheConstants.{TOLD_FRAMES, TOLD_OCTETS, TOLD_PLACES}

-- the frames of a verdict, and the places where they are written
pub record Frames : Type 0 where
  pub frames : List (List ℕ)
  pub places : List Place

-- There are few frames and places, and the frames have few octets: no more than are kept.
pub record AreFew (told : List (List ℕ)) (written : List Place) : Type 0 where
  pub frames : length told ≤ TOLD_FRAMES
  pub octets : length (concat told) ≤ TOLD_OCTETS
  pub places : length written ≤ TOLD_PLACES

-- the type of the first frame; 0 if there is none
abbrev pub code_of : List (List ℕ) → ℕ
code_of frames = slice_index (slice_index_or frames 0 []) 0
