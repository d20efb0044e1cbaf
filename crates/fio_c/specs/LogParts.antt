-- A part of a batch of the reader of logs: some of its lines, and blank ones in place of the others.
use Rattle.std.specs.Prelude.{ℕ, ◌==◌, List, [], ◌∷◌, ◌++◌, take, drop, slice_index, if◌then◌else◌}
use Rattle.fio_c.specs.Logs.{Content}
use Rattle.fio_c.specs.declared.log_batch.LogVerdict.{LogVerdict}

-- A mask has a number for each line: 1 takes it as it is, 2 as damaged, any other does not take it. The lines below those that it
-- has a number for are not taken.

-- a line in a part: without places; with no frame, if it is not taken as it is; then it is damaged and says no message, or blank
abbrev pub line_in_part : ℕ → LogVerdict → LogVerdict
line_in_part how verdict =
    if how == 1 then record verdict { places = 0 }
    else if how == 2 then record verdict { frames = 0; places = 0; kind = 4; reason = 2 }
    else record verdict { frames = 0; places = 0; kind = 0; reason = 0 }

-- the lines of a part: there are as many as in the batch
abbrev pub lines_in_part : List ℕ → List LogVerdict → List LogVerdict
lines_in_part mask [] = []
lines_in_part mask (verdict ∷ verdicts) = line_in_part (slice_index mask 0) verdict ∷ lines_in_part (drop 1 mask) verdicts

-- the frames of a part: those of the lines that are taken as they are
abbrev pub frames_in_part : List ℕ → List LogVerdict → List (List ℕ) → List (List ℕ)
frames_in_part mask [] frames = []
frames_in_part mask (verdict ∷ verdicts) frames =
    (if slice_index mask 0 == 1 then take verdict.frames frames else [])
    ++ frames_in_part (drop 1 mask) verdicts (drop verdict.frames frames)

-- the part of a batch that a mask takes
abbrev pub batch_part : List ℕ → Content → Content
batch_part mask content = record {
  verdicts = lines_in_part mask content.verdicts;
  frames = frames_in_part mask content.verdicts content.frames;
  places = [];
}
