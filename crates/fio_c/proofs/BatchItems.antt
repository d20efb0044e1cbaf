-- What a batch of the reader of logs says, item by item.
use Rattle.std.proofs.Common.{◌≡◌, ℕ, ◌+◌, ◌≤◌, List, [], ◌∷◌, ◌++◌, length, map, min, take, drop, None, refl, sym, ap, ap₂, ◌∙◌, append_assoc, arith, suc, take-append-drop}
use Rattle.std.proofs.Math.Seq.{take-append_seam, drop-append_seam}
use Rattle.std.proofs.lemmas.List.{length-append, length-drop, length-take, take_min}
use Rattle.std.proofs.lemmas.List.Sums.{sum_by-cons}
use Rattle.std.specs.List.{concat, sum_by}
use Rattle.fio_c.specs.BatchItems.{BatchItem, frame_count, frames_by_counts, frame_items, items_of_verdicts, items_of_content, items_of_told}
use Rattle.fio_c.specs.Logs.{Content, Holds, content_of, flat_told}
use Rattle.fio_c.specs.Told.{Told}
use Rattle.fio_c.specs.declared.log_batch.LogBatch.{LogBatch}
use Rattle.fio_c.specs.declared.log_batch.TheConstants.{LOG_FRAMES, LOG_VERDICTS}
use Rattle.fio_c.specs.declared.log_batch.LogVerdict.{LogVerdict}

-- ---- what a batch holds

-- frames one after the other are cut as they were
frames_cut : (frames : List (List ℕ)) (rest : List ℕ) → frames_by_counts (map length frames) (concat frames ++ rest) ≡ frames
frames_cut [] rest = refl
frames_cut (frame ∷ frames) rest =
    let seam : concat (frame ∷ frames) ++ rest ≡ frame ++ (concat frames ++ rest) = append_assoc frame (concat frames) rest in
    ap (λ octets. take (length frame) octets ∷ frames_by_counts (map length frames) (drop (length frame) octets)) seam
    ∙ ap₂ (λ first below. first ∷ frames_by_counts (map length frames) below)
    (take-append_seam frame (concat frames ++ rest)) (drop-append_seam frame (concat frames ++ rest))
    ∙ ap (λ below. frame ∷ below) (frames_cut frames rest)

-- the first items of an array with room for that many
take-room : {V : Type 0} (n count room : ℕ) (items : List V) → length items ≡ room → count ≡ min n room → take count items ≡ take n items
take-room n count room items long is = ap (λ m. take m items) (is ∙ ap (min n) (sym long)) ∙ take_min n items

-- its verdicts, with its frames, which are cut from its octets
pub held : (batch : LogBatch) (content : Content) (verdicts frames : ℕ)
    → Holds batch content → length batch.verdicts ≡ LOG_VERDICTS → length batch.lengths ≡ LOG_FRAMES
    → verdicts ≡ min batch.verdict_count LOG_VERDICTS → frames ≡ min batch.frame_count LOG_FRAMES
    → items_of_verdicts (take verdicts batch.verdicts) (frames_by_counts (take frames batch.lengths) batch.octets) ≡ items_of_content content
held batch content verdicts frames holds long room first all =
    let rest = drop batch.octet_count batch.octets in
    let octets : batch.octets ≡ concat content.frames ++ rest =
    sym (take-append-drop batch.octet_count batch.octets) ∙ ap (λ front. front ++ rest) holds.octets in
    ap₂ items_of_verdicts (take-room batch.verdict_count verdicts LOG_VERDICTS batch.verdicts long first ∙ holds.verdicts)
    (ap₂ frames_by_counts (take-room batch.frame_count frames LOG_FRAMES batch.lengths room all ∙ holds.lengths) octets ∙ frames_cut content.frames rest)

-- each verdict that a reader told has its own frames
pub told_items : (told : List Told) → items_of_content (content_of told) ≡ items_of_told told
told_items [] = refl
told_items (one ∷ told) =
    let rest = (content_of told).frames in
    let verdict = flat_told one in
    ap₂ (λ (own more : List (List ℕ)). (verdict, None) ∷ (frame_items verdict own ++ items_of_verdicts (content_of told).verdicts more))
    (take-append_seam one.frames rest) (drop-append_seam one.frames rest)
    ∙ ap (λ (left : List BatchItem). (verdict, None) ∷ (frame_items verdict one.frames ++ left)) (told_items told)

-- ---- how many frames

count-frames : (verdict : LogVerdict) (frames : List (List ℕ)) (items : List BatchItem) → frame_count (frame_items verdict frames ++ items) ≡ length frames + frame_count items
count-frames verdict [] items = omega arith
count-frames verdict (frame ∷ frames) items = omega (arith, count-frames verdict frames items)

-- as many as there are, and as their verdicts say
pub count-items : (verdicts : List LogVerdict) (frames : List (List ℕ))
    → frame_count (items_of_verdicts verdicts frames) ≡ min (sum_by (λ verdict. verdict.frames) verdicts) (length frames)
count-items [] frames = omega arith
count-items (verdict ∷ verdicts) frames =
    let rest = drop verdict.frames frames in
    omega (
      arith,
      count-frames verdict (take verdict.frames frames) (items_of_verdicts verdicts rest),
      count-items verdicts rest,
      length-take verdict.frames frames,
      length-drop verdict.frames frames,
      sum_by-cons (λ (one : LogVerdict). one.frames) verdict verdicts,
    )

length-frames : (counts octets : List ℕ) → length (frames_by_counts counts octets) ≡ length counts
length-frames [] octets = refl
length-frames (count ∷ counts) octets = ap suc (length-frames counts (drop count octets))

-- no more than lengths
pub few_items : (verdicts : List LogVerdict) (counts octets : List ℕ) → frame_count (items_of_verdicts verdicts (frames_by_counts counts octets)) ≤ length counts
few_items verdicts counts octets = omega (arith, count-items verdicts (frames_by_counts counts octets), length-frames counts octets)

-- as many as their verdicts say, if a reader told them
pub told_frames : (told : List Told) → sum_by (λ (verdict : LogVerdict). verdict.frames) (content_of told).verdicts ≡ length (content_of told).frames
told_frames [] = refl
told_frames (one ∷ told) =
    sum_by-cons (λ (verdict : LogVerdict). verdict.frames) (flat_told one) (content_of told).verdicts
    ∙ ap (λ n. length one.frames + n) (told_frames told)
    ∙ sym (length-append one.frames (content_of told).frames)
