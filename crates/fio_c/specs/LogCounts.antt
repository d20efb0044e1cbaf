-- What is counted of a log's frames as C sees it.
use Rattle.std.specs.Prelude.{ℕ, ◌==◌, List, [], ◌∷◌, Option, Some, None, if◌then◌else◌}
use Rattle.std.specs.List.{cons_option}
use Rattle.fio_check.specs.LineKinds.{events_below_frame, events_of_line}
use Rattle.fio_check.specs.LogCounts.{counted_lost, counts_with, time_to_frame}
use Rattle.fio_check.specs.LogJudges.{LogEvent}
use Rattle.fio_check.specs.declared.log_counts.LogCounts.{LogCounts}
use Rattle.fio_c.specs.BatchItems.{BatchItem}
use Rattle.fio_c.specs.LogJudges.{line_kind_of}
use Rattle.fio_c.specs.declared.log_batch.LogVerdict.{LogVerdict}

-- the time of a frame in microseconds, if it has one
abbrev pub time_in : ℕ → ℕ → Option ℕ
time_in has time = if has == 0 then None else Some time

-- ---- a batch of verdicts

-- the time of a verdict
abbrev pub time_of : LogVerdict → Option ℕ
time_of verdict = time_in verdict.time_kind verdict.time

-- a line that gives no frame: a frame may be lost where it says something to the judge of a log
abbrev pub counted_line : LogCounts → List LogEvent → LogCounts
counted_line counts [] = counts
counted_line counts (event ∷ events) = counted_lost counts

-- with an item more: the frames of a line that is none of frames are not counted
abbrev pub counts_with_item : LogCounts → BatchItem → LogCounts
counts_with_item counts (verdict, None) = counted_line counts (events_of_line (line_kind_of verdict))
counts_with_item counts (verdict, Some octets) =
    if verdict.kind == 1
    then counted_line (counts_with counts (time_of verdict) octets) (events_below_frame (line_kind_of verdict))
    else counts

-- how long the module took for the answer that an item is, if that is known
abbrev pub time_to_item : LogCounts → BatchItem → Option ℕ
time_to_item counts (verdict, None) = None
time_to_item counts (verdict, Some octets) =
    if verdict.kind == 1 then time_to_frame counts (time_of verdict) octets else None

-- the times of all answers of which that is known, in order
abbrev pub times_to_items : LogCounts → List BatchItem → List ℕ
times_to_items counts [] = []
times_to_items counts (item ∷ items) =
    cons_option (time_to_item counts item) (times_to_items (counts_with_item counts item) items)
