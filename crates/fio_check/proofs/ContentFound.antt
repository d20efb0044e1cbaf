-- What a checker of the rules on content finds first is the first fault of the transcript.
use Rattle.fio_check.proofs.Names.{subst, ◌≡◌, ◌∙◌, if◌then◌else◌, checking_at_start, checking_with, content_found, found_in_frame, from_first_command, Block, block_answer, gap_if, items_of_block, events_of_block, Sent, Heard, Ended, items_and_end, ℕ, Bool, true, false, List, [], ◌∷◌, ◌++◌, length, drop, Option, Some, None, refl, sym, ap, ap₂, arith, length-drop, option_map, flat_map, option_or, Item, ContentFacts, content_with, ContentKept, breach_among, breach_below, breach_found, fault_found, found_first, found_on, items_below, kept_at_start, kept_with, no_content, ContentEvent, LineEvent, events_above, events_below, events_in, events_of_lines, events_of_log, item_of_event, TranscriptLine, earliest_above, BrokenRule, ContentFault, FoundFault, content_fault_at, content_fault_in, content_step, fault_by, rule_broken_by, says_again, says_error}
use Rattle.fio_message.specs.declared.answers.Answer.TheVariants as answers
use Rattle.fio_check.specs.ContentEvents.{judged_lines}
use Rattle.fio_check.proofs.Unexcused.{sent_step, step_only}
use Rattle.fio_check.proofs.ContentNext.{content_is_kept}
use Rattle.fio_check.proofs.ContentCourse.{IsContentCourse, broken_among, broken_by, first_course, frame_course}
use Rattle.fio_check.proofs.ContentStart.{block_at_start, command_at_start, no_again, no_error, no_lost}
use Rattle.fio_check.proofs.KeptContent.{option_or-none, option_or_assoc}

map-or : {A B : Type 0} (f : A → B) (a b : Option A) → option_map f (option_or a b) ≡ option_or (option_map f a) (option_map f b)
map-or f None b = refl
map-or f (Some x) b = refl

same-rule : (rule : Option BrokenRule) (line count : ℕ) (items : List Item)
    → option_map fault_found (option_map (fault_by line items) rule) ≡ option_map (found_on line) (option_map (breach_below count) rule)
same-rule (Some rule) line count items = refl
same-rule None line count items = refl

-- the events of a frame
found-among : (events : List ContentEvent) (facts : ContentFacts) (items : List Item) (line count : ℕ)
    → option_map fault_found (broken_among facts items line events) ≡ option_map (found_on line) (breach_among facts count events)
found-among [] facts items line count = refl
found-among (event ∷ events) facts items line count =
    map-or fault_found (broken_by facts items line event) (broken_among (content_with facts event) (items ++ item_of_event event) line events)
    ∙ ap₂ option_or (same-rule (rule_broken_by facts event) line count items) (found-among events (content_with facts event) (items ++ item_of_event event) line (items_below count event))
    ∙ sym (map-or (found_on line) (breach_found facts count event) (breach_among (content_with facts event) (items_below count event) events))

-- what a checker finds first in lines from the first command on
abbrev found_below : ContentKept → List TranscriptLine → Option FoundFault
found_below kept [] = None
found_below kept (line ∷ lines) =
    option_or (option_map (found_on line.number) (content_found kept line.from_cpu line.octets)) (found_below (kept_with kept line.from_cpu line.octets) lines)

-- line by line
found-lines : (lines : List TranscriptLine) (all : List LineEvent) (place : ℕ) (kept : ContentKept) (items : List Item) (broken : Option ContentFault)
    → drop place all ≡ events_below kept.number lines → IsContentCourse all place kept.facts items broken
    → option_map fault_found (earliest_above (content_fault_at all) (length all)) ≡ option_or (option_map fault_found broken) (found_below kept lines)
found-lines [] all place kept items broken left course =
    let within = course.within in
    let count = sym (length-drop place all) ∙ ap length left in
    let ended : length all ≡ place = omega (arith, count, within) in
    ap (λ n. option_map fault_found (earliest_above (content_fault_at all) n)) ended ∙ ap (option_map fault_found) course.broken_is ∙ sym (option_or-none (option_map fault_found broken))
found-lines (line ∷ lines) all place kept items broken left course =
    let events = events_in kept.number line.from_cpu line.octets in
    let below = kept_with kept line.from_cpu line.octets in
    let here = broken_among kept.facts items line.number events in
    let reached = frame_course events all (events_below below.number lines) place line.number kept.facts items broken left course in
    found-lines lines all reached.place below (items ++ flat_map item_of_event events) (option_or broken here) reached.left reached.course
    ∙ ap (λ earlier. option_or earlier (found_below below lines)) (map-or fault_found broken here)
    ∙ option_or_assoc (option_map fault_found broken) (option_map fault_found here) (found_below below lines)
    ∙ ap (λ found. option_or (option_map fault_found broken) (option_or found (found_below below lines))) (found-among events kept.facts items line.number 0)

-- an event that breaks none, and others
none-more : (facts : ContentFacts) (items : List Item) (line : ℕ) (event : ContentEvent) (events : List ContentEvent) → rule_broken_by facts event ≡ None
    → broken_among (content_with facts event) (items ++ item_of_event event) line events ≡ None → broken_among facts items line (event ∷ events) ≡ None
none-more facts items line event events none rest = ap₂ option_or (ap (option_map (fault_by line items)) none) rest

taken-breaks-none : (facts : ContentFacts) (status : ℕ) → says_error status ≡ false → rule_broken_by facts (Heard (answers.ConfigureInputs status)) ≡ None
taken-breaks-none facts status taken = grind arith

block-breaks-none : (facts : ContentFacts) (block : Block) → says_again block.status ≡ false → facts.clock ≡ None → rule_broken_by facts (Heard (block_answer block)) ≡ None
block-breaks-none facts block first none = grind arith

-- the events above the first line break no rule
start-breaks-none : (begun : Bool) → broken_among no_content [] 0 (events_above begun) ≡ None
start-breaks-none false = refl
start-breaks-none true =
    let sent = content_step no_content (Sent command_at_start) in
    let taken = content_step sent (Heard (answers.ConfigureInputs 0)) in
    let heard = content_step taken (Heard (block_answer block_at_start)) in
    let end = items_and_end (items_of_block block_at_start) 0 0 in
    none-more no_content [] 0 (Sent command_at_start) (Heard (answers.ConfigureInputs 0) ∷ events_of_block block_at_start) refl
    (ap (λ facts. broken_among facts [] 0 (Heard (answers.ConfigureInputs 0) ∷ events_of_block block_at_start)) (sent_step no_content command_at_start)
    ∙ none-more sent [] 0 (Heard (answers.ConfigureInputs 0)) (events_of_block block_at_start) (taken-breaks-none sent 0 no_error)
    (ap (λ facts. broken_among facts [] 0 (events_of_block block_at_start)) (step_only sent (Heard (answers.ConfigureInputs 0)) refl)
    ∙ none-more taken [] 0 (Heard (block_answer block_at_start)) end (block-breaks-none taken block_at_start no_again refl)
    (ap (λ facts. broken_among facts [] 0 end) (step_only taken (Heard (block_answer block_at_start)) refl)
    ∙ ap (λ lost. broken_among heard [] 0 (items_and_end (gap_if lost ++ []) 0 0)) no_lost ∙ none-more heard [] 0 (Ended 0 0) [] refl refl)))

start-records-none : (begun : Bool) → flat_map item_of_event (events_above begun) ≡ []
start-records-none false = refl
start-records-none true = rw no_lost refl

-- once it judges, it finds that
found-judging : (lines : List TranscriptLine) (kept : ContentKept) → found_first (record { begun = true; kept = kept }) lines ≡ found_below kept lines
found-judging [] kept = refl
found-judging (line ∷ lines) kept = by (found-judging lines) line.from_cpu
  where
    by : ((kept : ContentKept) → found_first (record { begun = true; kept = kept }) lines ≡ found_below kept lines) → (sent : Bool)
        → option_or (option_map (found_on line.number) (found_in_frame (record { begun = true; kept = kept }) sent line.octets))
        (found_first (checking_with (record { begun = true; kept = kept }) sent line.octets) lines)
        ≡ option_or (option_map (found_on line.number) (content_found kept sent line.octets)) (found_below (kept_with kept sent line.octets) lines)
    by rest true = ap (option_or (option_map (found_on line.number) (content_found kept true line.octets))) (rest (kept_with kept true line.octets))
    by rest false = ap (option_or (option_map (found_on line.number) (content_found kept false line.octets))) (rest (kept_with kept false line.octets))

-- above the first command it finds nothing
found-above : (lines : List TranscriptLine) (kept : ContentKept) → found_first (record { begun = false; kept = kept }) lines ≡ found_below kept (from_first_command lines)
found-above [] kept = refl
found-above (line ∷ lines) kept = by (found-above lines kept) line.from_cpu refl
  where
    by : found_first (record { begun = false; kept = kept }) lines ≡ found_below kept (from_first_command lines) → (sent : Bool) → line.from_cpu ≡ sent
        → option_or (option_map (found_on line.number) (found_in_frame (record { begun = false; kept = kept }) sent line.octets))
        (found_first (checking_with (record { begun = false; kept = kept }) sent line.octets) lines)
        ≡ found_below kept (if sent then line ∷ lines else from_first_command lines)
    by rest sent is = grind (arith, found-judging)

found-first : (begun : Bool) (lines : List TranscriptLine) → found_first (checking_at_start begun) lines ≡ found_below (kept_at_start begun) (judged_lines begun lines)
found-first true lines = found-judging lines (kept_at_start true)
found-first false lines = found-above lines (kept_at_start false)

pub finds_the_fault : (begun : Bool) (lines : List TranscriptLine) → found_first (checking_at_start begun) lines ≡ option_map fault_found (content_fault_in begun lines)
finds_the_fault begun lines =
    let all = events_of_log begun lines in
    let judged = judged_lines begun lines in
    let reached = frame_course (events_above begun) all (events_of_lines judged) 0 0 no_content [] None refl (subst (λ facts. IsContentCourse all 0 facts [] None) ((content_is_kept all).first) (first_course all)) in
    let items = start-records-none begun in
    found-first begun lines
    ∙ sym (found-lines judged all reached.place (kept_at_start begun) [] None reached.left (rw (items, start-breaks-none begun) at reached.course))
