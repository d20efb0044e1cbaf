-- What a mask takes of a batch of the reader of logs: the items of its lines alone.
use Rattle.std.specs.Prelude.{ℕ, ◌==◌, List, [], ◌∷◌, ◌++◌, take, drop, None, slice_index, if◌then◌else◌}
use Rattle.fio_c.specs.BatchItems.{BatchItem, frame_items}
use Rattle.fio_c.specs.Logs.{Content}
use Rattle.fio_c.specs.declared.log_batch.LogVerdict.{LogVerdict}

-- a line wherever it is, as it is without its number
abbrev pub anywhere : LogVerdict → LogVerdict
anywhere verdict = record verdict { line = 0; places = 0 }

-- a damaged line, of which nothing else is known
abbrev pub damaged_line : LogVerdict
damaged_line = record {
  line = 0;
  time = 0;
  frames = 0;
  places = 0;
  kind = 4;
  reason = 2;
  time_kind = 0;
  said = 0;
  address = 0;
  control = 0;
  header = 0;
  foreign = 0;
}

-- what is taken of a line: all of it, that it is damaged, or nothing
abbrev pub taken_of : ℕ → LogVerdict → List (List ℕ) → List BatchItem
taken_of how verdict frames =
    if how == 1 then (anywhere verdict, None) ∷ frame_items (anywhere verdict) frames
    else if how == 2 then (damaged_line, None) ∷ []
    else []

-- what is taken of lines, each with its own of the frames below it
abbrev pub taken_of_verdicts : List ℕ → List LogVerdict → List (List ℕ) → List BatchItem
taken_of_verdicts mask [] frames = []
taken_of_verdicts mask (verdict ∷ verdicts) frames =
    taken_of (slice_index mask 0) verdict (take verdict.frames frames)
    ++ taken_of_verdicts (drop 1 mask) verdicts (drop verdict.frames frames)

-- what a mask takes of a batch
abbrev pub taken_items : List ℕ → Content → List BatchItem
taken_items mask content = taken_of_verdicts mask content.verdicts content.frames
