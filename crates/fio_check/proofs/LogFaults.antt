-- A fault of a log, by its events: what is above an event depends on those above it alone, and a fault stays one if lines
-- follow.
use Rattle.fio_check.proofs.Names.{◌≡◌, ◌<◌, ◌≤◌, ◌∙◌, ◌+◌, ◌++◌, inl, inr, false, from_first_command, ℕ, zero, suc, Bool, true, List, [], ◌∷◌, Option, Some, None, refl, sym, ap, ap₂, arith, length, drop, take, map, length-append, append_assoc, append-nil, fold, is_some, option_map, option_or, slice_get, slice_get_within, ContentFacts, content_at, content_with, no_content, LineEvent, events_above, events_below, events_of_lines, events_of_log, recorded_items, TranscriptLine, earliest_above, ContentFault, content_fault_at, content_fault_in, fault_by, first_fault_in, number_below, number_below_lines, rule_broken_by}
use Rattle.fio_check.specs.ContentEvents.{events_on}
use Rattle.fio_check.specs.Finding.{IsFoundBy}
use Rattle.fio_check.proofs.ContentCourse.{dropped_first}
use Rattle.fio_check.proofs.ContentNext.{content_is_kept, content_next}
use Rattle.fio_check.proofs.FirstCommands.{with_or_without}
use Rattle.fio_check.proofs.Verdicts.{earliest_stays, none_said, some_said}

-- ---- what is above an event

-- what is below events
abbrev pub facts_below : ContentFacts → List LineEvent → ContentFacts
facts_below facts events = fold (λ above found. content_with above found.event) facts events

-- below some events: what is above the next one, and what is left
pub course : (events all rest : List LineEvent) (place : ℕ) (facts : ContentFacts) → drop place all ≡ events ++ rest → content_at all place ≡ facts
    → (content_at all (place + length events) ≡ facts_below facts events) × (drop (place + length events) all ≡ rest)
course [] all rest place facts left is =
    let same : place + 0 ≡ place = omega arith in
    (ap (content_at all) same ∙ is, ap (λ n. drop n all) same ∙ left)
course (event ∷ events) all rest place facts left is =
    let cut = dropped_first all place event (events ++ rest) left in
    let same : place + length (event ∷ events) ≡ suc place + length events = omega arith in
    let further = course events all rest (suc place) (content_with facts event.event) cut.1
    (content_next all place event cut.0 ∙ ap (λ above. content_with above event.event) is) in
    (ap (content_at all) same ∙ further.0, ap (λ n. drop n all) same ∙ further.1)

-- what is above an event is what is below the events above it
pub content_of : (above below : List LineEvent) → content_at (above ++ below) (length above) ≡ facts_below no_content above
content_of above below =
    let same : 0 + length above ≡ length above = omega arith in
    ap (content_at (above ++ below)) (sym same) ∙ (course above (above ++ below) below 0 no_content refl ((content_is_kept (above ++ below)).first)).0

pub content_of_all : (events : List LineEvent) → content_at events (length events) ≡ facts_below no_content events
content_of_all events = ap (λ all. content_at all (length events)) (sym (append-nil events)) ∙ content_of events []

-- ---- an event of two lists

-- one of the second list
pub event_below : {A : Type 0} (above below : List A) (place : ℕ) → slice_get (above ++ below) (length above + place) ≡ slice_get below place
event_below [] below place = let same : 0 + place ≡ place = omega arith in ap (slice_get below) same
event_below (one ∷ above) below place =
    let same : length (one ∷ above) + place ≡ suc (length above + place) = omega arith in
    ap (slice_get (one ∷ (above ++ below))) same ∙ event_below above below place

-- one of the first list
event-above : {A : Type 0} (above below : List A) (place : ℕ) → place < length above → slice_get (above ++ below) place ≡ slice_get above place
event-above [] below place within = absurd (omega (arith, within))
event-above (one ∷ above) below zero within = refl
event-above (one ∷ above) below (suc place) within = event-above above below place (omega (arith, within))

-- the first list's front
taken-above : {A : Type 0} (above below : List A) (place : ℕ) → place ≤ length above → take place (above ++ below) ≡ take place above
taken-above above below zero within = refl
taken-above [] below (suc place) within = absurd (omega (arith, within))
taken-above (one ∷ above) below (suc place) within = ap (λ front. one ∷ front) (taken-above above below place (omega (arith, within)))

-- a list is its front and the rest
pub cut_at : {A : Type 0} (all : List A) (place : ℕ) → place ≤ length all → (take place all ++ drop place all ≡ all) × (length (take place all) ≡ place)
cut_at all zero within = (refl, refl)
cut_at [] (suc place) within = absurd (omega (arith, within))
cut_at (one ∷ all) (suc place) within =
    let further = cut_at all place (omega (arith, within)) in (ap (λ rest. one ∷ rest) further.0, ap suc further.1)

content-above : (above below : List LineEvent) (place : ℕ) → place ≤ length above → content_at (above ++ below) place ≡ content_at above place
content-above above below place within =
    let cut = cut_at above place within in
    let all : take place above ++ (drop place above ++ below) ≡ above ++ below = sym (append_assoc (take place above) (drop place above) below) ∙ ap (λ front. front ++ below) cut.0 in
    let whole = ap₂ content_at all cut.1 in
    let front = ap₂ content_at cut.0 cut.1 in
    sym whole ∙ content_of (take place above) (drop place above ++ below) ∙ sym (content_of (take place above) (drop place above)) ∙ front

-- ---- the first fault

earliest-same : {A : Type 0} (one other : ℕ → Option A) (count : ℕ) → ((place : ℕ) → place < count → one place ≡ other place)
    → earliest_above one count ≡ earliest_above other count
earliest-same one other zero same = refl
earliest-same one other (suc count) same =
    ap₂ option_or (earliest-same one other count (λ place within. same place (omega (arith, within)))) (same count (omega arith))

fault-above : (above below : List LineEvent) (place : ℕ) → place < length above → content_fault_at (above ++ below) place ≡ content_fault_at above place
fault-above above below place within = grind (arith, content-above, event-above, taken-above)

-- a fault stays the first one
fault-stays : (above below : List LineEvent) (fault : ContentFault) → first_fault_in above ≡ Some fault → first_fault_in (above ++ below) ≡ Some fault
fault-stays above below fault is =
    let count = length-append above below in
    earliest_stays (content_fault_at (above ++ below)) (length above) (length (above ++ below)) fault (omega (arith, count))
    (earliest-same (content_fault_at (above ++ below)) (content_fault_at above) (length above) (fault-above above below) ∙ is)

-- an event that breaks a rule
pub fault_at_event : (events : List LineEvent) (place : ℕ) (found : LineEvent) → slice_get events place ≡ Some found
    → is_some (rule_broken_by (content_at events place) found.event) ≡ true → is_some (first_fault_in events) ≡ true
fault_at_event events place found here broken =
    let judged : is_some (content_fault_at events place) ≡ true = rw here (some-mapped (fault_by found.line (recorded_items (take place events))) (rule_broken_by (content_at events place) found.event) broken) in
    some_said (content_fault_at events) (length events) place (slice_get_within events place found here) judged
  where
    some-mapped : {A B : Type 0} (f : A → B) (option : Option A) → is_some option ≡ true → is_some (option_map f option) ≡ true
    some-mapped f None is = is
    some-mapped f (Some x) is = refl

-- if there is no fault, no event breaks a rule
pub no_fault_at : (events : List LineEvent) (place : ℕ) (found : LineEvent) → slice_get events place ≡ Some found
    → first_fault_in events ≡ None → rule_broken_by (content_at events place) found.event ≡ None
no_fault_at events place found here none =
    let judged = none_said (content_fault_at events) (length events) place none (slice_get_within events place found here) in
    none-mapped (fault_by found.line (recorded_items (take place events))) (rule_broken_by (content_at events place) found.event) (rw here at judged)
  where
    none-mapped : {A B : Type 0} (f : A → B) (option : Option A) → option_map f option ≡ None → option ≡ None
    none-mapped f None is = refl
    none-mapped f (Some x) is = absurd (cc)

-- ---- lines

events-more : (lines below : List TranscriptLine) (number : Option ℕ)
    → events_below number (lines ++ below) ≡ events_below number lines ++ events_below (fold (λ n line. number_below n line.from_cpu line.octets) number lines) below
events-more [] below number = refl
events-more (line ∷ lines) below number =
    let next = number_below number line.from_cpu line.octets in
    ap (λ rest. events_on number line ++ rest) (events-more lines below next)
    ∙ sym (append_assoc (events_on number line) (events_below next lines) (events_below (fold (λ n l. number_below n l.from_cpu l.octets) next lines) below))

-- the events of a log are those of its front, and more
pub record EventsMore (begun : Bool) (lines below : List TranscriptLine) : Type 0 where
  pub more : List LineEvent
  pub is : events_of_log begun (lines ++ below) ≡ events_of_log begun lines ++ more
  -- those of the lines that follow, if a poll is above
  pub polled : is_some (number_below_lines lines) ≡ true → more ≡ events_below (number_below_lines lines) below

pub log_events : (begun : Bool) (lines below : List TranscriptLine) → EventsMore begun lines below
log_events true lines below =
    let start = map (λ event. record { line = 0; event = event }) (events_above true) in
    record {
      more = events_below (number_below_lines lines) below;
      is = ap (λ events. start ++ events) (events-more lines below None)
          ∙ sym (append_assoc start (events_of_lines lines) (events_below (number_below_lines lines) below));
      polled = λ is. refl;
    }
log_events false lines below =
    elim (with_or_without lines below) as (λ _. EventsMore false lines below) [
      | inl has ↦ (let rest = from_first_command lines in record {
        more = events_below (number_below_lines rest) below;
        is = ap events_of_lines has.rest_is ∙ events-more rest below None;
        polled = λ is. ap (λ number. events_below number below) (sym has.number);
      })
      | inr none ↦ record {
        more = events_of_lines (from_first_command below);
        is = ap events_of_lines none.rest_is ∙ ap (λ front. events_of_lines front ++ events_of_lines (from_first_command below)) (sym none.none);
        polled = λ is. (let unpolled : is_some {T = ℕ} None ≡ true = sym (ap is_some none.number) ∙ is in absurd (cc));
      }
    ]

-- a log with a fault is one in which it is found
pub found_by : (begun : Bool) (lines : List TranscriptLine) → is_some (content_fault_in begun lines) ≡ true → IsFoundBy begun lines
found_by begun lines some = found (content_fault_in begun lines) refl some
  where
    found : (fault : Option ContentFault) → content_fault_in begun lines ≡ fault → is_some fault ≡ true → IsFoundBy begun lines
    found None is some = absurd (cc)
    found (Some fault) is some = record {
      fault = fault;
      found = λ below. (let events = log_events begun lines below in ap first_fault_in events.is ∙ fault-stays (events_of_log begun lines) events.more fault is);
    }
