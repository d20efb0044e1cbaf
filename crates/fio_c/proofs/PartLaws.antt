-- The judge, the counts and the signs hear of a part of a batch what its mask takes.
use Rattle.std.proofs.Common.{◌≡◌, ℕ, Bool, List, [], ◌∷◌, ◌++◌, fold, map, Option, None, Some, refl, ap, ap₂, ◌∙◌}
use Rattle.std.proofs.Math.Seq.{take-append_seam, drop-append_seam}
use Rattle.std.specs.List.{cons_option}
use Rattle.fio_check.specs.LogJudges.{LogJudging}
use Rattle.fio_check.specs.declared.log_counts.LogCounts.{LogCounts}
use Rattle.fio_check.specs.declared.log_signs.LogSigns.{LogSigns}
use Rattle.fio_c.specs.BatchItems.{BatchItem}
use Rattle.fio_c.specs.LogCounts.{counts_with_item, time_to_item, times_to_items}
use Rattle.fio_c.specs.LogJudges.{log_below_item, outcome_of_item, outcomes_of_items}
use Rattle.fio_c.specs.LogSigns.{signs_with_item}
use Rattle.fio_c.specs.Logs.{content_of, flat_told}
use Rattle.fio_c.specs.PartLaws.{CountsTaken, JoinsTaken, JudgesTaken, SignsTaken}
use Rattle.fio_c.specs.TakenLines.{anywhere, taken_of, taken_of_verdicts}
use Rattle.fio_c.specs.Told.{Told}
use Rattle.fio_c.specs.declared.log_batch.LogVerdict.{LogVerdict}
use Rattle.fio_c.proofs.TakenLines.{Hears, taken_said}

-- ---- the judge

judge-same : (as_said : Bool) (verdict : LogVerdict) (octets : Option (List ℕ)) (judge : LogJudging)
    → log_below_item as_said judge (record verdict { places = 0 }, octets) ≡ log_below_item as_said judge (anywhere verdict, octets)
judge-same as_said verdict None judge = refl
judge-same as_said verdict (Some octets) judge = refl

judge-hears : (as_said : Bool) → Hears (fold (log_below_item as_said))
judge-hears as_said = record {
  blank = λ verdict judge items. refl;
  damaged = λ verdict judge items. refl;
  same = λ verdict octets judge items. ap (λ next. fold (log_below_item as_said) next items) (judge-same as_said verdict octets judge);
  more = λ item items others below judge. below (log_below_item as_said judge item);
}

outcomes-same : (as_said : Bool) (verdict : LogVerdict) (octets : Option (List ℕ)) (judge : LogJudging) (items : List BatchItem)
    → outcomes_of_items as_said judge ((record verdict { places = 0 }, octets) ∷ items)
    ≡ outcomes_of_items as_said judge ((anywhere verdict, octets) ∷ items)
outcomes-same as_said verdict None judge items = refl
outcomes-same as_said verdict (Some octets) judge items = refl

outcomes-more : (as_said : Bool) (item : BatchItem) (items others : List BatchItem)
    → ((judge : LogJudging) → outcomes_of_items as_said judge items ≡ outcomes_of_items as_said judge others)
    → (judge : LogJudging) → outcomes_of_items as_said judge (item ∷ items) ≡ outcomes_of_items as_said judge (item ∷ others)
outcomes-more as_said (verdict, None) items others below judge = below (log_below_item as_said judge (verdict, None))
outcomes-more as_said (verdict, Some octets) items others below judge =
    ap (λ rest. outcome_of_item as_said judge verdict octets ∷ rest) (below (log_below_item as_said judge (verdict, Some octets)))

outcomes-hear : (as_said : Bool) → Hears (outcomes_of_items as_said)
outcomes-hear as_said = record {
  blank = λ verdict judge items. refl;
  damaged = λ verdict judge items. refl;
  same = λ verdict octets judge items. outcomes-same as_said verdict octets judge items;
  more = λ item items others below judge. outcomes-more as_said item items others below judge;
}

pub judges_taken : JudgesTaken
judges_taken as_said judge mask content = (
  taken_said (fold (log_below_item as_said)) (judge-hears as_said) mask content judge,
  taken_said (outcomes_of_items as_said) (outcomes-hear as_said) mask content judge,
)

-- ---- the counts

counts-same : (verdict : LogVerdict) (octets : Option (List ℕ)) (counts : LogCounts)
    → counts_with_item counts (record verdict { places = 0 }, octets) ≡ counts_with_item counts (anywhere verdict, octets)
counts-same verdict None counts = refl
counts-same verdict (Some octets) counts = refl

time-same : (verdict : LogVerdict) (octets : Option (List ℕ)) (counts : LogCounts)
    → time_to_item counts (record verdict { places = 0 }, octets) ≡ time_to_item counts (anywhere verdict, octets)
time-same verdict None counts = refl
time-same verdict (Some octets) counts = refl

counts-hear : Hears (fold counts_with_item)
counts-hear = record {
  blank = λ verdict counts items. refl;
  damaged = λ verdict counts items. refl;
  same = λ verdict octets counts items. ap (λ next. fold counts_with_item next items) (counts-same verdict octets counts);
  more = λ item items others below counts. below (counts_with_item counts item);
}

times-hear : Hears times_to_items
times-hear = record {
  blank = λ verdict counts items. refl;
  damaged = λ verdict counts items. refl;
  same = λ verdict octets counts items.
      ap₂ (λ time next. cons_option time (times_to_items next items)) (time-same verdict octets counts) (counts-same verdict octets counts);
  more = λ item items others below counts. ap (cons_option (time_to_item counts item)) (below (counts_with_item counts item));
}

pub counts_taken : CountsTaken
counts_taken counts mask content =
    (taken_said (fold counts_with_item) counts-hear mask content counts, taken_said times_to_items times-hear mask content counts)

-- ---- the signs

signs-same : (as_said : Bool) (verdict : LogVerdict) (octets : Option (List ℕ)) (signs : LogSigns)
    → signs_with_item as_said signs (record verdict { places = 0 }, octets) ≡ signs_with_item as_said signs (anywhere verdict, octets)
signs-same as_said verdict None signs = refl
signs-same as_said verdict (Some octets) signs = refl

signs-hear : (as_said : Bool) → Hears (fold (signs_with_item as_said))
signs-hear as_said = record {
  blank = λ verdict signs items. refl;
  damaged = λ verdict signs items. refl;
  same = λ verdict octets signs items. ap (λ next. fold (signs_with_item as_said) next items) (signs-same as_said verdict octets signs);
  more = λ item items others below signs. below (signs_with_item as_said signs item);
}

pub signs_taken : SignsTaken
signs_taken as_said signs mask content = taken_said (fold (signs_with_item as_said)) (signs-hear as_said) mask content signs

-- ---- line by line

pub joins_taken : JoinsTaken
joins_taken [] = refl
joins_taken ((how, one) ∷ lines) =
    let told = map (λ (line : ℕ × Told). line.1) lines in
    let mask = map (λ (line : ℕ × Told). line.0) lines in
    let rest = (content_of told).frames in
    ap₂ (λ (own more : List (List ℕ)). taken_of how (flat_told one) own ++ taken_of_verdicts mask (content_of told).verdicts more)
    (take-append_seam one.frames rest) (drop-append_seam one.frames rest)
    ∙ ap (λ (left : List BatchItem). taken_of how (flat_told one) one.frames ++ left) (joins_taken lines)
