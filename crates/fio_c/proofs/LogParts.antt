-- What the part of a batch has, item by item.
use Rattle.std.proofs.Common.{◌≡◌, ℕ, suc, ◌+◌, ◌<◌, ◌≤◌, ◌^◌, ◌==◌, Bool, true, false, List, [], ◌∷◌, ◌++◌, length, map, get_or, take, drop, None, Some, refl, sym, ap, ◌∙◌, append-nil, arith, slice_index, if◌then◌else◌}
use Rattle.std.proofs.lemmas.List.{length-drop, length-take}
use Rattle.std.proofs.lemmas.List.Elements.{All-cons, All-drop, All-head, All-nil, All-tail, All-take}
use Rattle.std.proofs.lemmas.List.Sums.{sum_by-cons, sum_by-take-drop}
use Rattle.std.specs.List.{All, concat, sum_by}
use Rattle.fio_c.specs.BatchItems.{AreShort, BatchItem, frame_items, frames_by_counts, items_of_content, items_of_verdicts, line_count, octet_count}
use Rattle.fio_c.specs.LogParts.{frames_in_part, line_in_part, lines_in_part, batch_part}
use Rattle.fio_c.specs.Logs.{Content, Holds}
use Rattle.fio_c.specs.declared.log_batch.LogBatch.{LogBatch}
use Rattle.fio_c.specs.declared.log_batch.LogVerdict.{LogVerdict}

-- ---- lines and frames, by items

-- the lines of a part
abbrev pub lines_by_items : List ℕ → List BatchItem → List LogVerdict
lines_by_items mask [] = []
lines_by_items mask ((verdict, None) ∷ items) = line_in_part (slice_index mask 0) verdict ∷ lines_by_items (drop 1 mask) items
lines_by_items mask ((verdict, Some octets) ∷ items) = lines_by_items mask items

-- its frames, below a line that is taken as it is, or is not
abbrev pub frames_by_items : Bool → List ℕ → List BatchItem → List (List ℕ)
frames_by_items is_taken mask [] = []
frames_by_items is_taken mask ((verdict, None) ∷ items) = frames_by_items (slice_index mask 0 == 1) (drop 1 mask) items
frames_by_items true mask ((verdict, Some octets) ∷ items) = octets ∷ frames_by_items true mask items
frames_by_items false mask ((verdict, Some octets) ∷ items) = frames_by_items false mask items

no-lines : (mask : List ℕ) (verdict : LogVerdict) (frames : List (List ℕ)) (items : List BatchItem)
    → lines_by_items mask (frame_items verdict frames ++ items) ≡ lines_by_items mask items
no-lines mask verdict [] items = refl
no-lines mask verdict (frame ∷ frames) items = no-lines mask verdict frames items

pub lines_in : (mask : List ℕ) (verdicts : List LogVerdict) (frames : List (List ℕ))
    → lines_by_items mask (items_of_verdicts verdicts frames) ≡ lines_in_part mask verdicts
lines_in mask [] frames = refl
lines_in mask (verdict ∷ verdicts) frames =
    let rest = drop verdict.frames frames in
    ap (λ below. line_in_part (slice_index mask 0) verdict ∷ below)
    (no-lines (drop 1 mask) verdict (take verdict.frames frames) (items_of_verdicts verdicts rest) ∙ lines_in (drop 1 mask) verdicts rest)

own-frames : (is_taken : Bool) (mask : List ℕ) (verdict : LogVerdict) (frames : List (List ℕ)) (items : List BatchItem)
    → frames_by_items is_taken mask (frame_items verdict frames ++ items) ≡ (if is_taken then frames else []) ++ frames_by_items is_taken mask items
own-frames true mask verdict [] items = refl
own-frames false mask verdict [] items = refl
own-frames true mask verdict (frame ∷ frames) items = ap (λ below. frame ∷ below) (own-frames true mask verdict frames items)
own-frames false mask verdict (frame ∷ frames) items = own-frames false mask verdict frames items

-- below other frames than those of the items nothing is taken
frames-in : (is_taken : Bool) (mask : List ℕ) (verdicts : List LogVerdict) (frames : List (List ℕ))
    → frames_by_items is_taken mask (items_of_verdicts verdicts frames) ≡ frames_in_part mask verdicts frames
frames-in is_taken mask [] frames = refl
frames-in is_taken mask (verdict ∷ verdicts) frames =
    let rest = drop verdict.frames frames in
    let own = take verdict.frames frames in
    let is_own = slice_index mask 0 == 1 in
    own-frames is_own (drop 1 mask) verdict own (items_of_verdicts verdicts rest)
    ∙ ap (λ below. (if is_own then own else []) ++ below) (frames-in is_own (drop 1 mask) verdicts rest)

pub frames_in : (mask : List ℕ) (verdicts : List LogVerdict) (frames : List (List ℕ))
    → frames_by_items false mask (items_of_verdicts verdicts frames) ≡ frames_in_part mask verdicts frames
frames_in mask verdicts frames = frames-in false mask verdicts frames

-- ---- how many there are

lines-more : (verdict : LogVerdict) (frames : List (List ℕ)) (items : List BatchItem) → line_count (frame_items verdict frames ++ items) ≡ line_count items
lines-more verdict [] items = refl
lines-more verdict (frame ∷ frames) items = lines-more verdict frames items

-- as many lines as verdicts
pub count_lines : (verdicts : List LogVerdict) (frames : List (List ℕ)) → line_count (items_of_verdicts verdicts frames) ≡ length verdicts
count_lines [] frames = refl
count_lines (verdict ∷ verdicts) frames =
    let rest = drop verdict.frames frames in
    omega (arith, lines-more verdict (take verdict.frames frames) (items_of_verdicts verdicts rest), count_lines verdicts rest)

-- ---- what its items fit

octets-more : (verdict : LogVerdict) (frames : List (List ℕ)) (items : List BatchItem)
    → octet_count (frame_items verdict frames ++ items) ≡ sum_by length frames + octet_count items
octets-more verdict [] items = omega arith
octets-more verdict (frame ∷ frames) items = omega (arith, octets-more verdict frames items, sum_by-cons (length {A = ℕ}) frame frames)

count-octets : (verdicts : List LogVerdict) (frames : List (List ℕ)) → octet_count (items_of_verdicts verdicts frames) ≤ sum_by length frames
count-octets [] frames = omega arith
count-octets (verdict ∷ verdicts) frames =
    let rest = drop verdict.frames frames in
    omega (
      arith,
      octets-more verdict (take verdict.frames frames) (items_of_verdicts verdicts rest),
      count-octets verdicts rest,
      sum_by-take-drop (length {A = ℕ}) frames verdict.frames,
    )

cut-octets : (counts octets : List ℕ) → sum_by length (frames_by_counts counts octets) ≤ length octets
cut-octets [] octets = omega arith
cut-octets (count ∷ counts) octets =
    let rest = drop count octets in
    omega (
      arith,
      sum_by-cons (length {A = ℕ}) (take count octets) (frames_by_counts counts rest),
      cut-octets counts rest,
      length-take count octets,
      length-drop count octets,
    )

-- no more octets than there are
pub few_octets : (verdicts : List LogVerdict) (counts octets : List ℕ)
    → octet_count (items_of_verdicts verdicts (frames_by_counts counts octets)) ≤ length octets
few_octets verdicts counts octets =
    omega (arith, count-octets verdicts (frames_by_counts counts octets), cut-octets counts octets)

IsShort : List ℕ → Type 0
IsShort frame = length frame < 2 ^ 16

short-more : (verdict : LogVerdict) (frames : List (List ℕ)) (items : List BatchItem)
    → All IsShort frames → AreShort items → AreShort (frame_items verdict frames ++ items)
unfolding IsShort
short-more verdict [] items short below = below
short-more verdict (frame ∷ frames) items short below =
    (All-head IsShort frame frames short, short-more verdict frames items (All-tail IsShort frame frames short) below)

short-items : (verdicts : List LogVerdict) (frames : List (List ℕ)) → All IsShort frames → AreShort (items_of_verdicts verdicts frames)
short-items [] frames short = tt
short-items (verdict ∷ verdicts) frames short =
    let rest = drop verdict.frames frames in
    short-more verdict (take verdict.frames frames) (items_of_verdicts verdicts rest)
    (All-take IsShort verdict.frames frames short)
    (short-items verdicts rest (All-drop IsShort verdict.frames frames short))

short-frames : (counts octets : List ℕ) → ((i : ℕ) → get_or counts i 0 < 2 ^ 16) → All IsShort (frames_by_counts counts octets)
unfolding IsShort
short-frames [] octets each = All-nil IsShort
short-frames (count ∷ counts) octets each =
    All-cons IsShort (take count octets) (frames_by_counts counts (drop count octets))
    (omega (arith, length-take count octets, each 0))
    (short-frames counts (drop count octets) (λ i. each (suc i)))

-- frames whose counts have 16 bits
pub short_items : (verdicts : List LogVerdict) (counts octets : List ℕ) → ((i : ℕ) → get_or counts i 0 < 2 ^ 16)
    → AreShort (items_of_verdicts verdicts (frames_by_counts counts octets))
short_items verdicts counts octets each = short-items verdicts (frames_by_counts counts octets) (short-frames counts octets each)

-- ---- the part, once no item is left

pub all_held : (mask : List ℕ) (items : List BatchItem) (content above : Content) (part : LogBatch) (is_taken : Bool) (line : ℕ) (left : List BatchItem)
    → left ≡ [] → items ≡ items_of_content content → Holds part above
    → above.verdicts ++ lines_by_items (drop line mask) left ≡ lines_by_items mask items
    → above.frames ++ frames_by_items is_taken (drop line mask) left ≡ frames_by_items false mask items
    → above.places ≡ []
    → Holds part (batch_part mask content)
all_held mask items content above part is_taken line left none is holds verdicts frames places =
    let lines : above.verdicts ≡ lines_in_part mask content.verdicts =
    sym (append-nil above.verdicts)
    ∙ ap (λ rest. above.verdicts ++ lines_by_items (drop line mask) rest) (sym none)
    ∙ verdicts ∙ ap (lines_by_items mask) is ∙ lines_in mask content.verdicts content.frames in
    let own : above.frames ≡ frames_in_part mask content.verdicts content.frames =
    sym (append-nil above.frames)
    ∙ ap (λ rest. above.frames ++ frames_by_items is_taken (drop line mask) rest) (sym none)
    ∙ frames ∙ ap (frames_by_items false mask) is ∙ frames_in mask content.verdicts content.frames in
    record {
      verdicts = holds.verdicts ∙ lines;
      lengths = holds.lengths ∙ ap (map length) own;
      octets = holds.octets ∙ ap concat own;
      places = holds.places ∙ places;
    }
