-- What the judge, the counts and the signs say of a part of a batch: what they say of the lines alone that its mask takes.
use Rattle.std.specs.Prelude.{◌≡◌, ℕ, Bool, List, fold, map}
use Rattle.std.specs.List.{flat_map}
use Rattle.fio_check.specs.LogJudges.{LogJudging}
use Rattle.fio_check.specs.declared.log_counts.LogCounts.{LogCounts}
use Rattle.fio_check.specs.declared.log_signs.LogSigns.{LogSigns}
use Rattle.fio_c.specs.BatchItems.{items_of_content}
use Rattle.fio_c.specs.LogCounts.{counts_with_item, times_to_items}
use Rattle.fio_c.specs.LogJudges.{log_below_item, outcomes_of_items}
use Rattle.fio_c.specs.LogParts.{batch_part}
use Rattle.fio_c.specs.LogSigns.{signs_with_item}
use Rattle.fio_c.specs.Logs.{Content, content_of, flat_told}
use Rattle.fio_c.specs.TakenLines.{taken_items, taken_of}
use Rattle.fio_c.specs.Told.{Told}

-- what it takes of lines that a reader returned, each of them with its number in the mask: nothing of those that it does not take
abbrev pub JoinsTaken : Type 0
JoinsTaken = (lines : List (ℕ × Told))
    → taken_items (map (λ line. line.0) lines) (content_of (map (λ line. line.1) lines))
    ≡ flat_map (λ line. taken_of line.0 (flat_told line.1) line.1.frames) lines

-- the judge below a part of a batch, and the outcomes of its frames
abbrev pub JudgesTaken : Type 0
JudgesTaken = (as_said : Bool) (judge : LogJudging) (mask : List ℕ) (content : Content)
    → (fold (log_below_item as_said) judge (items_of_content (batch_part mask content))
    ≡ fold (log_below_item as_said) judge (taken_items mask content))
    × (outcomes_of_items as_said judge (items_of_content (batch_part mask content))
    ≡ outcomes_of_items as_said judge (taken_items mask content))

-- the counts below it, and the times of its answers
abbrev pub CountsTaken : Type 0
CountsTaken = (counts : LogCounts) (mask : List ℕ) (content : Content)
    → (fold counts_with_item counts (items_of_content (batch_part mask content)) ≡ fold counts_with_item counts (taken_items mask content))
    × (times_to_items counts (items_of_content (batch_part mask content)) ≡ times_to_items counts (taken_items mask content))

-- the signs below it
abbrev pub SignsTaken : Type 0
SignsTaken = (as_said : Bool) (signs : LogSigns) (mask : List ℕ) (content : Content)
    → fold (signs_with_item as_said) signs (items_of_content (batch_part mask content))
    ≡ fold (signs_with_item as_said) signs (taken_items mask content)
