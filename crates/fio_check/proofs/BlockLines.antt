-- The events of a log around an entry of a block.
use Rattle.fio_check.proofs.Names.{subst, ◌≡◌, ◌∙◌, ◌+◌, ◌++◌, ◌%◌, ℕ, suc, Bool, true, false, List, [], ◌∷◌, Option, Some, None, is_some, refl, sym, ap, ap₂, arith, length, map, length-append, append_assoc, fold, Block, block_answer, items_of_block, gap_if, item_of, says_lost, Item, Entry, Gap, ContentFacts, content_at, content_with, no_content, ContentEvent, Ended, Heard, LineEvent, Recorded, events_below, events_in, events_of_block, events_of_log, TranscriptLine, Answer, LineTakesBlock, answer_in, content_below, content_step, fold-append, forgetting, is_aging, length-map, map-append, number_below, number_below_lines, place_of_entry, with_entries}
use Rattle.fio_message.specs.Decoding.{answered_block}
use Rattle.fio_message.specs.declared.fields.Entry.{Entry as EntryOf}
use Rattle.fio_check.specs.ContentEvents.{is_taken}
use Rattle.fio_check.specs.ContentRules.{is_excused}
use Rattle.fio_check.specs.Lines.{answer_from}
use Rattle.fio_check.proofs.ContentCourse.{tagged}
use Rattle.fio_check.proofs.Unexcused.{step_only}
use Rattle.fio_check.proofs.LogFaults.{content_of, content_of_all, facts_below, log_events}

-- ---- the line of a block

-- the events of a frame with a block, and the number below it
pub record IsBlockFrame (number : Option ℕ) (from_cpu : Bool) (octets : List ℕ) (block : Block) : Type 0 where
  pub events : events_in number from_cpu octets ≡ events_of_block block
  pub next : number_below number from_cpu octets ≡ Some ((block.number + 1) % 256)

answer-frame : (number : Option ℕ) (octets : List ℕ) (block : Block) (answer : Option Answer) → answer_in octets ≡ answer → answered_block answer ≡ Some block
    → is_taken number block.number ≡ true → IsBlockFrame number false octets block
answer-frame number octets block other is heard taken = grind arith

block-frame : (number : Option ℕ) (from_cpu : Bool) (octets : List ℕ) (block : Block) → answered_block (answer_from from_cpu octets) ≡ Some block
    → is_taken number block.number ≡ true → IsBlockFrame number from_cpu octets block
block-frame number true octets block heard taken = absurd (cc)
block-frame number false octets block heard taken = answer-frame number octets block (answer_in octets) refl heard taken

-- ---- the events around an entry

-- the events of a block's line above an entry
abbrev pub events_to : ℕ → Block → List EntryOf → List EntryOf → List LineEvent
events_to line block front back =
    map (tagged line) (Heard (block_answer (with_entries block (front ++ back))) ∷ map Recorded (items_of_block (with_entries block front)))

-- those from it on
abbrev pub events_from : ℕ → Block → List EntryOf → List LineEvent
events_from line block back = map (tagged line) (map (λ entry. Recorded (item_of block.stamp entry)) back ++ (Ended block.status block.stamp ∷ []))

map-map : {A B C : Type 0} (f : B → C) (g : A → B) (items : List A) → map f (map g items) ≡ map (λ x. f (g x)) items
map-map f g [] = refl
map-map f g (x ∷ items) = ap (λ rest. f (g x) ∷ rest) (map-map f g items)

block-split : (line : ℕ) (block : Block) (front back : List EntryOf)
    → map (tagged line) (events_of_block (with_entries block (front ++ back))) ≡ events_to line block front back ++ events_from line block back
block-split line block front back =
    let item = item_of block.stamp in
    let gap = gap_if (says_lost block.status) in
    let heard : ContentEvent = Heard (block_answer (with_entries block (front ++ back))) in
    let end : List ContentEvent = Ended block.status block.stamp ∷ [] in
    ap (λ items. map (tagged line) (heard ∷ (map Recorded (gap ++ items) ++ end))) (map-append item front back)
    ∙ ap (λ items. map (tagged line) (heard ∷ (map Recorded items ++ end))) (sym (append_assoc gap (map item front) (map item back)))
    ∙ ap (λ events. map (tagged line) (heard ∷ (events ++ end))) (map-append Recorded (gap ++ map item front) (map item back))
    ∙ ap (λ events. map (tagged line) (heard ∷ events)) (append_assoc (map Recorded (gap ++ map item front)) (map Recorded (map item back)) end)
    ∙ ap (λ events. map (tagged line) (heard ∷ (map Recorded (gap ++ map item front) ++ (events ++ end)))) (map-map Recorded item back)
    ∙ map-append (tagged line) (heard ∷ map Recorded (gap ++ map item front)) (map (λ entry. Recorded (item entry)) back ++ end)

-- a log around an entry of a block: the events above the entry, and those from it on
pub record IsLogAround (begun : Bool) (above below : List TranscriptLine) (line : TranscriptLine) (block : Block) (front back : List EntryOf) : Type 0 where
  pub events : events_of_log begun (above ++ (line ∷ below))
      ≡ (events_of_log begun above ++ events_to line.number block front back)
      ++ (events_from line.number block back ++ events_below (Some ((block.number + 1) % 256)) below)
  pub place : length (events_of_log begun above ++ events_to line.number block front back) ≡ place_of_entry begun above block front

pub log_around : (begun : Bool) (above below : List TranscriptLine) (line : TranscriptLine) (block : Block) (front back : List EntryOf)
    → LineTakesBlock above line (with_entries block (front ++ back)) → IsLogAround begun above below line block front back
log_around begun above below line block front back takes =
    let number = number_below_lines above in
    let frame = block-frame number line.from_cpu line.octets (with_entries block (front ++ back)) takes.heard takes.taken in
    let start = events_of_log begun above in
    let more = log_events begun above (line ∷ below) in
    let rest = events_below (Some ((block.number + 1) % 256)) below in
    record {
      events = more.is ∙ ap (λ rest. start ++ rest) (more.polled (is-polled number (with_entries block (front ++ back)).number takes.taken))
          ∙ ap₂ (λ events next. start ++ (map (tagged line.number) events ++ events_below next below)) frame.events frame.next
          ∙ ap (λ events. start ++ (events ++ rest)) (block-split line.number block front back)
          ∙ ap (λ events. start ++ events) (append_assoc (events_to line.number block front back) (events_from line.number block back) rest)
          ∙ sym (append_assoc start (events_to line.number block front back) (events_from line.number block back ++ rest));
      place = length-append start (events_to line.number block front back)
          ∙ ap (λ n. length start + n) (length-map (Heard (block_answer (with_entries block (front ++ back))) ∷ map Recorded (items_of_block (with_entries block front))) (tagged line.number)
          ∙ ap suc (length-map (items_of_block (with_entries block front)) Recorded) ∙ one-more (length (items_of_block (with_entries block front))));
    }
  where
    one-more : (n : ℕ) → suc n ≡ 1 + n
    one-more n = omega arith

    is-polled : (number : Option ℕ) (block : ℕ) → is_taken number block ≡ true → is_some number ≡ true
    is-polled None block taken = absurd (cc)
    is-polled (Some number) block taken = refl

-- ---- what is above the entry

-- what is above an entry of a block, by what is above its line
abbrev pub facts_within : ContentFacts → Block → List EntryOf → ContentFacts
facts_within facts block front =
    fold content_with (content_with facts (Heard (block_answer (with_entries block [])))) (map Recorded (items_of_block (with_entries block front)))

below-tagged : (line : ℕ) (events : List ContentEvent) (facts : ContentFacts) → facts_below facts (map (tagged line) events) ≡ fold content_with facts events
below-tagged line [] facts = refl
below-tagged line (event ∷ events) facts = below-tagged line events (content_with facts event)

-- that a block is heard is the same whatever its entries are
excused-same : (facts : ContentFacts) (block : Block) (entries : List EntryOf)
    → is_excused facts (Heard (block_answer (with_entries block entries))) ≡ is_excused facts (Heard (block_answer (with_entries block [])))
unfolding is_excused
excused-same facts block entries = refl

heard-same : (facts : ContentFacts) (block : Block) (entries : List EntryOf)
    → content_with facts (Heard (block_answer (with_entries block entries))) ≡ content_with facts (Heard (block_answer (with_entries block [])))
heard-same facts block entries = ap (λ excused. forgetting excused (content_step facts (Heard (block_answer (with_entries block []))))) (excused-same facts block entries)

pub content_around : (begun : Bool) (above below : List TranscriptLine) (line : TranscriptLine) (block : Block) (front back : List EntryOf)
    → LineTakesBlock above line (with_entries block (front ++ back))
    → content_at (events_of_log begun (above ++ (line ∷ below))) (place_of_entry begun above block front) ≡ facts_within (content_below begun above) block front
content_around begun above below line block front back takes =
    let around = log_around begun above below line block front back takes in
    let start = events_of_log begun above in
    let to = events_to line.number block front back in
    let rest = events_from line.number block back ++ events_below (Some ((block.number + 1) % 256)) below in
    ap₂ content_at around.events (sym around.place)
    ∙ content_of (start ++ to) rest
    ∙ fold-append (λ facts found. content_with facts found.event) no_content start to
    ∙ ap (λ facts. facts_below facts to) (sym (content_of_all start))
    ∙ below-tagged line.number (Heard (block_answer (with_entries block (front ++ back))) ∷ map Recorded (items_of_block (with_entries block front))) (content_below begun above)
    ∙ ap (λ facts. fold content_with facts (map Recorded (items_of_block (with_entries block front)))) (heard-same (content_below begun above) block (front ++ back))

-- where no load excuses anything the items of a block leave it so, and what is known of times, and the block as old as it is
record KeepsTimes (facts below : ContentFacts) : Type 0 where
  pub judged : below.excuses ≡ 0
  pub timely : below.timely ≡ facts.timely
  pub aged : below.aged ≡ facts.aged

keeps-first : (facts : ContentFacts) (item : Item) → facts.excuses ≡ 0 → KeepsTimes facts (content_with facts (Recorded item))
keeps-first facts Gap judged = subst (KeepsTimes facts) (sym (step_only facts (Recorded Gap) judged)) (record { judged = judged; timely = refl; aged = refl })
keeps-first facts (Entry input level stamp wide) judged =
    subst (KeepsTimes facts) (sym (step_only facts (Recorded (Entry input level stamp wide)) judged)) (record { judged = judged; timely = refl; aged = refl })

record-keeps : (items : List Item) (facts : ContentFacts) → facts.excuses ≡ 0 → KeepsTimes facts (fold content_with facts (map Recorded items))
record-keeps [] facts judged = record { judged = judged; timely = refl; aged = refl }
record-keeps (item ∷ items) facts judged =
    let first = keeps-first facts item judged in
    let rest = record-keeps items (content_with facts (Recorded item)) first.judged in
    record { judged = rest.judged; timely = rest.timely ∙ first.timely; aged = rest.aged ∙ first.aged }

pub block_keeps : (facts : ContentFacts) (block : Block) (front : List EntryOf)
    → facts.excuses ≡ 0 → ((facts_within facts block front).excuses ≡ 0) × ((facts_within facts block front).timely ≡ facts.timely)
    × ((facts_within facts block front).aged ≡ is_aging facts (Some block.stamp))
block_keeps facts block front judged =
    let event = Heard (block_answer (with_entries block [])) in
    let heard = step_only facts event judged in
    let rest = record-keeps (items_of_block (with_entries block front)) (content_with facts event) (ap (λ (f : ContentFacts). f.excuses) heard ∙ judged) in
    (rest.judged, rest.timely ∙ ap (λ (f : ContentFacts). f.timely) heard, rest.aged ∙ ap (λ (f : ContentFacts). f.aged) heard)
