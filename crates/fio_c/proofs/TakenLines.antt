-- What is said of the part of a batch is what is said of what its mask takes.
use Rattle.std.proofs.Common.{◌≡◌, ℕ, suc, zero, ◌==◌, Bool, true, false, List, [], ◌∷◌, ◌++◌, take, drop, Option, None, Some, refl, sym, ap, ap₂, ◌∙◌, slice_index, if◌then◌else◌}
use Rattle.fio_c.specs.BatchItems.{BatchItem, frame_items, items_of_content, items_of_verdicts}
use Rattle.fio_c.specs.LogParts.{frames_in_part, lines_in_part, batch_part}
use Rattle.fio_c.specs.Logs.{Content}
use Rattle.fio_c.specs.TakenLines.{anywhere, damaged_line, taken_items, taken_of_verdicts}
use Rattle.fio_c.specs.declared.log_batch.LogVerdict.{LogVerdict}

-- ---- the frames of a part, line by line

take-none : (n : ℕ) → take {A = List ℕ} n [] ≡ []
take-none zero = refl
take-none (suc n) = refl

drop-none : (n : ℕ) → drop {A = List ℕ} n [] ≡ []
drop-none zero = refl
drop-none (suc n) = refl

own-none : (is_own : Bool) {rest : List (List ℕ)} → rest ≡ [] → (if is_own then [] else []) ++ rest ≡ []
own-none true is = is
own-none false is = is

-- without frames there are none
no-frames : (mask : List ℕ) (verdicts : List LogVerdict) → frames_in_part mask verdicts [] ≡ []
no-frames mask [] = refl
no-frames mask (verdict ∷ verdicts) =
    ap₂ (λ (own rest : List (List ℕ)). (if slice_index mask 0 == 1 then own else []) ++ frames_in_part (drop 1 mask) verdicts rest)
    (take-none verdict.frames) (drop-none verdict.frames)
    ∙ own-none (slice_index mask 0 == 1) (no-frames (drop 1 mask) verdicts)

-- the first frames of a part, if those below are some of these below
first-own : (below : List (List ℕ) → List (List ℕ)) (none : below [] ≡ []) (n : ℕ) (frames : List (List ℕ))
    → take n (take n frames ++ below (drop n frames)) ≡ take n frames
first-own below none zero frames = refl
first-own below none (suc n) [] = ap (take (suc n)) none
first-own below none (suc n) (frame ∷ frames) = ap (λ more. frame ∷ more) (first-own below none n frames)

below-own : (below : List (List ℕ) → List (List ℕ)) (none : below [] ≡ []) (n : ℕ) (frames : List (List ℕ))
    → drop n (take n frames ++ below (drop n frames)) ≡ below (drop n frames)
below-own below none zero frames = refl
below-own below none (suc n) [] = ap (drop (suc n)) none ∙ sym none
below-own below none (suc n) (frame ∷ frames) = below-own below none n frames

-- ---- what is said of items

-- Of blank lines nothing is said; of a damaged line what is said of each one; of a line the same wherever it is; and of other
-- items the same above items of which the same is said.
pub record Hears {S R : Type 0} (says : S → List BatchItem → R) : Type 0 where
  pub blank : (verdict : LogVerdict) (state : S) (items : List BatchItem)
      → says state ((record verdict { frames = 0; places = 0; kind = 0; reason = 0 }, None) ∷ items) ≡ says state items
  pub damaged : (verdict : LogVerdict) (state : S) (items : List BatchItem)
      → says state ((record verdict { frames = 0; places = 0; kind = 4; reason = 2 }, None) ∷ items) ≡ says state ((damaged_line, None) ∷ items)
  pub same : (verdict : LogVerdict) (octets : Option (List ℕ)) (state : S) (items : List BatchItem)
      → says state ((record verdict { places = 0 }, octets) ∷ items) ≡ says state ((anywhere verdict, octets) ∷ items)
  pub more : (item : BatchItem) (items others : List BatchItem) → ((state : S) → says state items ≡ says state others)
      → (state : S) → says state (item ∷ items) ≡ says state (item ∷ others)

module _ {S R : Type 0} (says : S → List BatchItem → R) (hears : Hears says) where
  own-said : (verdict : LogVerdict) (frames : List (List ℕ)) (items others : List BatchItem) → ((state : S) → says state items ≡ says state others)
      → (state : S) → says state (frame_items (record verdict { places = 0 }) frames ++ items) ≡ says state (frame_items (anywhere verdict) frames ++ others)
  own-said verdict [] items others below state = below state
  own-said verdict (frame ∷ frames) items others below state =
      hears.same verdict (Some frame) state (frame_items (record verdict { places = 0 }) frames ++ items)
      ∙ hears.more (anywhere verdict, Some frame) (frame_items (record verdict { places = 0 }) frames ++ items) (frame_items (anywhere verdict) frames ++ others)
      (own-said verdict frames items others below) state

  line-said : (is_own is_damaged : Bool) (verdict : LogVerdict) (lines : List LogVerdict) (frames : List (List ℕ))
      (below : List (List ℕ) → List (List ℕ)) (others : List BatchItem) → below [] ≡ []
      → ((state : S) → says state (items_of_verdicts lines (below (drop verdict.frames frames))) ≡ says state others)
      → (state : S) → says state (items_of_verdicts
      ((if is_own then record verdict { places = 0 }
      else if is_damaged then record verdict { frames = 0; places = 0; kind = 4; reason = 2 }
      else record verdict { frames = 0; places = 0; kind = 0; reason = 0 }) ∷ lines)
      ((if is_own then take verdict.frames frames else []) ++ below (drop verdict.frames frames)))
      ≡ says state ((if is_own then (anywhere verdict, None) ∷ frame_items (anywhere verdict) (take verdict.frames frames)
      else if is_damaged then (damaged_line, None) ∷ []
      else []) ++ others)
  line-said true is_damaged verdict lines frames below others none rest state =
      let count = verdict.frames in
      let own = take count frames in
      let left = below (drop count frames) in
      ap₂ (λ (mine more : List (List ℕ)). says state ((record verdict { places = 0 }, None) ∷ (frame_items (record verdict { places = 0 }) mine ++ items_of_verdicts lines more)))
      (first-own below none count frames) (below-own below none count frames)
      ∙ hears.same verdict None state (frame_items (record verdict { places = 0 }) own ++ items_of_verdicts lines left)
      ∙ hears.more (anywhere verdict, None) (frame_items (record verdict { places = 0 }) own ++ items_of_verdicts lines left) (frame_items (anywhere verdict) own ++ others)
      (own-said verdict own (items_of_verdicts lines left) others rest) state
  line-said false true verdict lines frames below others none rest state =
      hears.damaged verdict state (items_of_verdicts lines (below (drop verdict.frames frames)))
      ∙ hears.more (damaged_line, None) (items_of_verdicts lines (below (drop verdict.frames frames))) others rest state
  line-said false false verdict lines frames below others none rest state =
      hears.blank verdict state (items_of_verdicts lines (below (drop verdict.frames frames))) ∙ rest state

  part-said : (mask : List ℕ) (verdicts : List LogVerdict) (frames : List (List ℕ)) (state : S)
      → says state (items_of_verdicts (lines_in_part mask verdicts) (frames_in_part mask verdicts frames)) ≡ says state (taken_of_verdicts mask verdicts frames)
  part-said mask [] frames state = refl
  part-said mask (verdict ∷ verdicts) frames state =
      let how = slice_index mask 0 in
      let rest = drop 1 mask in
      line-said (how == 1) (how == 2) verdict (lines_in_part rest verdicts) frames (frames_in_part rest verdicts)
      (taken_of_verdicts rest verdicts (drop verdict.frames frames)) (no-frames rest verdicts)
      (part-said rest verdicts (drop verdict.frames frames)) state

  pub taken_said : (mask : List ℕ) (content : Content) (state : S)
      → says state (items_of_content (batch_part mask content)) ≡ says state (taken_items mask content)
  taken_said mask content state = part-said mask content.verdicts content.frames state
