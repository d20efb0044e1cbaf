-- The first fault of a transcript's events, found event by event.
use Rattle.fio_check.proofs.Names.{◌≡◌, ◌<◌, ◌≤◌, ◌∙◌, ℕ, zero, suc, ◌+◌, List, [], ◌∷◌, ◌++◌, length, drop, take, map, Option, Some, None, refl, sym, ap, ap₂, arith, append_assoc, append-nil, length-append, fold, option_map, option_and_then, slice_get, flat_map, option_or, slice_get_within, Item, ContentFacts, content_at, content_with, breach_among, breach_below, items_below, ContentEvent, LineEvent, item_of_event, recorded_items, earliest_above, BrokenRule, ContentBreach, ContentFault, content_fault_at, drop_at, fault_by, rule_broken_by}
use Rattle.std.proofs.lemmas.List.{flat_map_more, take_at}
use Rattle.fio_check.proofs.ContentNext.{content_next}
use Rattle.fio_check.proofs.KeptContent.{option_or-none, option_or_assoc}

-- ---- the first of what is left

pub dropped_first : {A : Type 0} (all : List A) (place : ℕ) (first : A) (rest : List A) → drop place all ≡ first ∷ rest
    → (slice_get all place ≡ Some first) × (drop (suc place) all ≡ rest) × (take (suc place) all ≡ take place all ++ (first ∷ []))
dropped_first [] zero first rest is = absurd (cc)
dropped_first [] (suc place) first rest is = absurd (cc)
dropped_first (one ∷ all) zero first rest is = (cc, cc, ap (λ x. x ∷ []) (let same : one ≡ first = cc in same))
dropped_first (one ∷ all) (suc place) first rest is =
    let further = dropped_first all place first rest is in (further.0, further.1, ap (λ left. one ∷ left) further.2)

-- ---- the course of the events

-- an event of this line
abbrev pub tagged : ℕ → ContentEvent → LineEvent
tagged line event = record { line = line; event = event }

-- the fault of an event, below these items
abbrev pub broken_by : ContentFacts → List Item → ℕ → ContentEvent → Option ContentFault
broken_by facts items line event = option_map (fault_by line items) (rule_broken_by facts event)

-- the first fault of events
abbrev pub broken_among : ContentFacts → List Item → ℕ → List ContentEvent → Option ContentFault
broken_among facts items line [] = None
broken_among facts items line (event ∷ events) =
    option_or (broken_by facts items line event) (broken_among (content_with facts event) (items ++ item_of_event event) line events)

-- what is known above a place
pub record IsContentCourse (all : List LineEvent) (place : ℕ) (facts : ContentFacts) (items : List Item) (broken : Option ContentFault) : Type 0 where
  pub facts_are : content_at all place ≡ facts
  pub items_are : recorded_items (take place all) ≡ items
  pub broken_is : earliest_above (content_fault_at all) place ≡ broken
  pub within : place ≤ length all

pub first_course : (all : List LineEvent) → IsContentCourse all 0 (content_at all 0) [] None
first_course all = record { facts_are = refl; items_are = refl; broken_is = refl; within = omega arith }

-- one event more
one_event : (all rest : List LineEvent) (place line : ℕ) (event : ContentEvent) (facts : ContentFacts) (items : List Item) (broken : Option ContentFault)
    → drop place all ≡ tagged line event ∷ rest → IsContentCourse all place facts items broken
    → IsContentCourse all (suc place) (content_with facts event) (items ++ item_of_event event) (option_or broken (broken_by facts items line event))
one_event all rest place line event facts items broken left course =
    let cut = dropped_first all place (tagged line event) rest left in
    let below : place < length all = slice_get_within all place (tagged line event) cut.0 in
    record {
      facts_are = content_next all place (tagged line event) cut.0 ∙ ap (λ above. content_with above event) course.facts_are;
      items_are = ap recorded_items cut.2 ∙ sym (flat_map_more (λ found. item_of_event found.event) [] (take place all) (tagged line event)) ∙ ap (λ known. known ++ item_of_event event) course.items_are;
      broken_is = ap₂ option_or course.broken_is
          (ap (option_and_then (λ found. option_map (fault_by found.line (recorded_items (take place all))) (rule_broken_by (content_at all place) found.event))) cut.0
          ∙ ap₂ (λ known above. option_map (fault_by line known) (rule_broken_by above event)) course.items_are course.facts_are);
      within = omega (arith, below);
    }

-- where the events of a frame end
pub record ReachesPlace (all rest : List LineEvent) (facts : ContentFacts) (items : List Item) (broken : Option ContentFault) : Type 0 where
  pub place : ℕ
  pub course : IsContentCourse all place facts items broken
  pub left : drop place all ≡ rest

-- the events of a frame
pub frame_course : (events : List ContentEvent) (all rest : List LineEvent) (place line : ℕ) (facts : ContentFacts) (items : List Item) (broken : Option ContentFault)
    → drop place all ≡ map (tagged line) events ++ rest → IsContentCourse all place facts items broken
    → ReachesPlace all rest (fold content_with facts events) (items ++ flat_map item_of_event events) (option_or broken (broken_among facts items line events))
frame_course [] all rest place line facts items broken left course =
    record { place = place; course = rw (append-nil items, option_or-none broken) course; left = left }
frame_course (event ∷ events) all rest place line facts items broken left course =
    let cut = dropped_first all place (tagged line event) (map (tagged line) events ++ rest) left in
    let next = one_event all (map (tagged line) events ++ rest) place line event facts items broken left course in
    let further = frame_course events all rest (suc place) line (content_with facts event) (items ++ item_of_event event)
    (option_or broken (broken_by facts items line event)) cut.1 next in
    rw (← append_assoc items (item_of_event event) (flat_map item_of_event events), ← option_or_assoc broken (broken_by facts items line event) (broken_among (content_with facts event) (items ++ item_of_event event) line events)) further

-- ---- the breaches of a frame, by how many of its items are above

-- a breach of a frame, where so many items are above the frame
abbrev pub fault_at : ℕ → List Item → ℕ → ContentBreach → ContentFault
fault_at line whole above breach = record { line = line; input = breach.input; rule = breach.rule; above = take (above + breach.items) whole }

-- the front of what is left, with these in it
front-more : (whole some rest : List Item) (count : ℕ) → drop count whole ≡ some ++ rest
    → (take (count + length some) whole ≡ take count whole ++ some) × (drop (count + length some) whole ≡ rest)
front-more whole [] rest count left =
    let none : count + 0 ≡ count = omega arith in
    (ap (λ n. take n whole) none ∙ sym (append-nil (take count whole)), ap (λ n. drop n whole) none ∙ left)
front-more whole (item ∷ some) rest count left =
    let cut = dropped_first whole count item (some ++ rest) left in
    let further = front-more whole some rest (suc count) cut.1 in
    let more : count + length (item ∷ some) ≡ suc count + length some = omega arith in (
      ap (λ n. take n whole) more ∙ further.0 ∙ ap (λ front. front ++ some) cut.2 ∙ append_assoc (take count whole) (item ∷ []) some,
      ap (λ n. drop n whole) more ∙ further.1,
    )

first-fault : (rule : Option BrokenRule) (line count above : ℕ) (items whole : List Item) (later : Option ContentFault) (later_breach : Option ContentBreach)
    → items ≡ take (above + count) whole → later ≡ option_map (fault_at line whole above) later_breach
    → option_or (option_map (fault_by line items) rule) later ≡ option_map (fault_at line whole above) (option_or (option_map (breach_below count) rule) later_breach)
first-fault (Some broken) line count above items whole later later_breach is further = ap (λ known. Some (fault_by line known broken)) is
first-fault None line count above items whole later later_breach is further = further

events-broken : (events : List ContentEvent) (line count above : ℕ) (facts : ContentFacts) (items whole : List Item)
    → items ≡ take (above + count) whole → drop (above + count) whole ≡ flat_map item_of_event events
    → broken_among facts items line events ≡ option_map (fault_at line whole above) (breach_among facts count events)
events-broken [] line count above facts items whole is left = refl
events-broken (event ∷ events) line count above facts items whole is left =
    let cut = front-more whole (item_of_event event) (flat_map item_of_event events) (above + count) left in
    let next : (above + count) + length (item_of_event event) ≡ above + items_below count event = omega arith in
    first-fault (rule_broken_by facts event) line count above items whole _ _ is
    (events-broken events line (items_below count event) above (content_with facts event) (items ++ item_of_event event) whole
    (ap (λ known. known ++ item_of_event event) is ∙ sym cut.0 ∙ ap (λ n. take n whole) next)
    (ap (λ n. drop n whole) (sym next) ∙ cut.1))

-- the first fault of a frame, by the items above it and those below it
pub frame_broken : (events : List ContentEvent) (line : ℕ) (facts : ContentFacts) (items : List Item)
    → broken_among facts items line events ≡ option_map (fault_at line (items ++ flat_map item_of_event events) (length items)) (breach_among facts 0 events)
frame_broken events line facts items = grind (arith, drop_at, events-broken, take_at)

-- a breach is below no more items than the frame has
breach-within : (rule : Option BrokenRule) (later : Option ContentBreach) (count most : ℕ) (breach : ContentBreach)
    → option_or (option_map (breach_below count) rule) later ≡ Some breach → count ≤ most → (later ≡ Some breach → breach.items ≤ most) → breach.items ≤ most
breach-within (Some broken) later count most breach is here further = let same : count ≡ breach.items = cc in omega (arith, here, same)
breach-within None later count most breach is here further = further is

pub breach_within : (events : List ContentEvent) (facts : ContentFacts) (count : ℕ) (breach : ContentBreach)
    → breach_among facts count events ≡ Some breach → breach.items ≤ count + length (flat_map item_of_event events)
breach_within [] facts count breach is = absurd (cc)
breach_within (event ∷ events) facts count breach is =
    let more = flat_map item_of_event events in
    let long = length-append (item_of_event event) more in
    breach-within (rule_broken_by facts event) (breach_among (content_with facts event) (items_below count event) events) count
    (count + length (flat_map item_of_event (event ∷ events))) breach is (omega arith)
    (λ later. let within = breach_within events (content_with facts event) (items_below count event) breach later in omega (arith, long, within))
