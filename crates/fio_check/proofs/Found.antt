-- The laws of what the rules on content always find.
use Rattle.fio_check.proofs.Names.{◌≡◌, subst, ◌<◌, ◌∙◌, ◌+◌, ◌++◌, ◌%◌, ℕ, suc, Bool, true, false, List, [], ◌∷◌, Some, None, refl, sym, ap, ap₂, arith, drop, length, is_some, not, slice_get, item_of, Block, ContentFacts, content_at, content_with, ContentEvent, Recorded, LineEvent, events_below, events_of_log, TranscriptLine, LineTakesBlock, comes_after, content_below, content_step, drop_at, place_of_entry, rule_broken_by, with_entries, ◌^◌}
use Rattle.fio_message.specs.declared.fields.Entry.{Entry as EntryOf}
use Rattle.fio_input.specs.Widening.{wide_time_of}
use Rattle.fio_check.specs.Finding.{FindsDoubled, FindsSwapped, ComparesTimes, with_octets}
use Rattle.fio_check.proofs.BlockLines.{block_keeps, content_around, events_from, events_to, facts_within, log_around}
use Rattle.fio_check.proofs.ContentCourse.{tagged}
use Rattle.fio_check.proofs.ContentNext.{content_next}
use Rattle.fio_check.proofs.LogFaults.{event_below, fault_at_event, found_by, no_fault_at}
use Rattle.fio_check.proofs.RulesFound.{behind_one_way, breaks_order, keeps_both, not_behind_itself}
use Rattle.fio_check.proofs.Unexcused.{step_only}

-- ---- the events of a block from an entry on

-- an entry's event
abbrev pub recorded : ℕ → EntryOf → ContentEvent
recorded stamp entry = Recorded (item_of stamp entry)

-- what is in a log from an entry of a block on
module _ (begun : Bool) (above below : List TranscriptLine) (line : TranscriptLine) (block : Block) (front back : List EntryOf)
    (takes : LineTakesBlock above line (with_entries block (front ++ back))) where
  abbrev events : List LineEvent
  events = events_of_log begun (above ++ (line ∷ below))

  abbrev place : ℕ
  place = place_of_entry begun above block front

  abbrev facts : ContentFacts
  facts = facts_within (content_below begun above) block front

  abbrev from_entry : List LineEvent
  from_entry = events_from line.number block back ++ events_below (Some ((block.number + 1) % 256)) below

  entry-slice : (count : ℕ) → slice_get events (place + count) ≡ slice_get from_entry count
  entry-slice count =
      let around = log_around begun above below line block front back takes in
      ap₂ (λ all at. slice_get all (at + count)) around.events (sym around.place) ∙ event_below _ from_entry count

  pub first_is : (found : LineEvent) → slice_get from_entry 0 ≡ Some found → slice_get events place ≡ Some found
  first_is found is = let same : place + 0 ≡ place = omega arith in ap (slice_get events) (sym same) ∙ entry-slice 0 ∙ is

  pub second_is : (found : LineEvent) → slice_get from_entry 1 ≡ Some found → slice_get events (suc place) ≡ Some found
  second_is found is = let same : place + 1 ≡ suc place = omega arith in ap (slice_get events) (sym same) ∙ entry-slice 1 ∙ is

  pub left_is : drop place events ≡ from_entry
  left_is =
      let around = log_around begun above below line block front back takes in
      let front_events = events_of_log begun above ++ events_to line.number block front back in
      ap₂ drop (sym around.place) around.events ∙ drop_at front_events from_entry (length front_events) refl

  pub facts_are : content_at events place ≡ facts
  facts_are = content_around begun above below line block front back takes

  pub next_are : (found : LineEvent) → slice_get from_entry 0 ≡ Some found → content_at events (suc place) ≡ content_with facts found.event
  next_are found is = content_next events place found (first_is found is) ∙ ap (λ known. content_with known found.event) facts_are

-- ---- doubled, swapped

wide-within : (stamp low : ℕ) → wide_time_of stamp low < 2 ^ 32
unfolding wide_time_of
wide-within stamp low = omega arith

-- an entry that does not come after the one directly above it, below a clear block
disordered : (facts : ContentFacts) (stamp : ℕ) (one other : EntryOf) → facts.excuses ≡ 0 → facts.timely ≡ true → facts.aged ≡ false
    → comes_after other.input (wide_time_of stamp other.stamp) one.input (wide_time_of stamp one.stamp) ≡ false
    → is_some (rule_broken_by (content_with facts (recorded stamp one)) (recorded stamp other)) ≡ true
disordered facts stamp one other judged timely soon behind =
    subst (λ (f : ContentFacts). is_some (rule_broken_by f (recorded stamp other)) ≡ true) (sym (step_only facts (recorded stamp one) judged))
    (breaks_order (content_step facts (recorded stamp one)) other.input other.stamp (wide_time_of stamp other.stamp) other.level (rw (judged, timely, soon, behind) refl))

-- one that breaks no rule there
ordered : (facts : ContentFacts) (stamp : ℕ) (one other : EntryOf) → facts.excuses ≡ 0 → facts.timely ≡ true → facts.aged ≡ false
    → rule_broken_by (content_with facts (recorded stamp one)) (recorded stamp other) ≡ None
    → comes_after other.input (wide_time_of stamp other.stamp) one.input (wide_time_of stamp one.stamp) ≡ true
ordered facts stamp one other judged timely soon none =
    let kept = (keeps_both (content_step facts (recorded stamp one)) other.input other.stamp (wide_time_of stamp other.stamp) other.level
    (subst (λ (f : ContentFacts). rule_broken_by f (recorded stamp other) ≡ None) (step_only facts (recorded stamp one) judged) none)).0 in
    positive (comes_after other.input (wide_time_of stamp other.stamp) one.input (wide_time_of stamp one.stamp)) (rw (judged, timely, soon) at kept)
  where
    positive : (b : Bool) → not b ≡ false → b ≡ true
    positive true is = refl
    positive false is = absurd (cc)

-- what is known of times within a block below a clear one
times-within : (begun : Bool) (above : List TranscriptLine) (block : Block) (front : List EntryOf) → ComparesTimes begun above block.stamp
    → ((facts_within (content_below begun above) block front).excuses ≡ 0) × ((facts_within (content_below begun above) block front).timely ≡ true)
    × ((facts_within (content_below begun above) block front).aged ≡ false)
times-within begun above block front clear =
    let kept = block_keeps (content_below begun above) block front clear.judged in (kept.0, kept.1 ∙ clear.timely, kept.2 ∙ clear.soon)

pub finds_doubled : (begun : Bool) → FindsDoubled begun
finds_doubled begun above line block front back entry clear takes =
    let two = entry ∷ (entry ∷ back) in
    let known = facts_within (content_below begun above) block front in
    let times = times-within begun above block front clear in
    let item = tagged line.number (recorded block.stamp entry) in
    let all = events_of_log begun (above ++ (line ∷ [])) in
    found_by begun (above ++ (line ∷ []))
    (fault_at_event all (suc (place_of_entry begun above block front)) item (second_is begun above [] line block front two takes item refl)
    (ap (λ facts. is_some (rule_broken_by facts item.event)) (next_are begun above [] line block front two takes item refl)
    ∙ disordered known block.stamp entry entry times.0 times.1 times.2 (not_behind_itself entry.input (wide_time_of block.stamp entry.stamp))))

pub finds_swapped : (begun : Bool) → FindsSwapped begun
finds_swapped begun above line octets block front back one other clear none changes =
    let right = one ∷ (other ∷ back) in
    let spoiled = other ∷ (one ∷ back) in
    let known = facts_within (content_below begun above) block front in
    let times = times-within begun above block front clear in
    let first = tagged line.number (recorded block.stamp one) in
    let second = tagged line.number (recorded block.stamp other) in
    let after = suc (place_of_entry begun above block front) in
    let behind = ordered known block.stamp one other times.0 times.1 times.2
    (sym (ap (λ facts. rule_broken_by facts second.event) (next_are begun above [] line block front right changes.was first refl))
    ∙ no_fault_at (events_of_log begun (above ++ (line ∷ []))) after second (second_is begun above [] line block front right changes.was second refl) none) in
    let changed = with_octets line octets in
    found_by begun (above ++ (changed ∷ []))
    (fault_at_event (events_of_log begun (above ++ (changed ∷ []))) after first (second_is begun above [] changed block front spoiled changes.is first refl)
    (ap (λ facts. is_some (rule_broken_by facts first.event)) (next_are begun above [] changed block front spoiled changes.is second refl)
    ∙ disordered known block.stamp other one times.0 times.1 times.2
    (behind_one_way one.input (wide_time_of block.stamp one.stamp) other.input (wide_time_of block.stamp other.stamp)
    (wide-within block.stamp one.stamp) (wide-within block.stamp other.stamp) behind)))
