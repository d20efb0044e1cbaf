-- What a batch of the reader of logs says, one after another: each verdict, and below it each of its frames.
use Rattle.std.specs.Prelude.{ℕ, ◌+◌, ◌<◌, ◌^◌, List, [], ◌∷◌, ◌++◌, length, map, take, drop, Option, Some, None}
use Rattle.std.specs.List.{flat_map}
use Rattle.fio_c.specs.Logs.{Content, flat_told}
use Rattle.fio_c.specs.Told.{Told}
use Rattle.fio_c.specs.declared.log_batch.LogVerdict.{LogVerdict}

-- octets, one frame after the other, by how many octets each has; the last ones have what is left
abbrev pub frames_by_counts : List ℕ → List ℕ → List (List ℕ)
frames_by_counts [] octets = []
frames_by_counts (count ∷ counts) octets = take count octets ∷ frames_by_counts counts (drop count octets)

-- a verdict, or a frame with the verdict that it is of
abbrev pub BatchItem : Type 0
BatchItem = LogVerdict × Option (List ℕ)

-- these frames of a verdict
abbrev pub frame_items : LogVerdict → List (List ℕ) → List BatchItem
frame_items verdict frames = map (λ octets. (verdict, Some octets)) frames

-- verdicts, each with its own of the frames below it
abbrev pub items_of_verdicts : List LogVerdict → List (List ℕ) → List BatchItem
items_of_verdicts [] frames = []
items_of_verdicts (verdict ∷ verdicts) frames =
    (verdict, None) ∷ (frame_items verdict (take verdict.frames frames) ++ items_of_verdicts verdicts (drop verdict.frames frames))

-- what a batch says that has this content
abbrev pub items_of_content : Content → List BatchItem
items_of_content content = items_of_verdicts content.verdicts content.frames

-- verdicts with their frames, as a reader told them
abbrev pub items_of_told : List Told → List BatchItem
items_of_told told = flat_map (λ one. (flat_told one, None) ∷ frame_items (flat_told one) one.frames) told

-- how many of the items are frames
abbrev pub frame_count : List BatchItem → ℕ
frame_count [] = 0
frame_count ((verdict, None) ∷ items) = frame_count items
frame_count ((verdict, Some octets) ∷ items) = 1 + frame_count items

-- how many of them are verdicts
abbrev pub line_count : List BatchItem → ℕ
line_count [] = 0
line_count ((verdict, None) ∷ items) = 1 + line_count items
line_count ((verdict, Some octets) ∷ items) = line_count items

-- how many octets these frames have
abbrev pub octet_count : List BatchItem → ℕ
octet_count [] = 0
octet_count ((verdict, None) ∷ items) = octet_count items
octet_count ((verdict, Some octets) ∷ items) = length octets + octet_count items

-- the number of octets of each frame fits 16 bits
abbrev pub AreShort : List BatchItem → Type 0
AreShort [] = Unit {0}
AreShort ((verdict, None) ∷ items) = AreShort items
AreShort ((verdict, Some octets) ∷ items) = (length octets < 2 ^ 16) × AreShort items
