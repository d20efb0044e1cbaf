-- The first breach of a rule on content, found line by line.
use Rattle.fio_tool.proofs.Names.{◌≡◌, ◌≤◌, ◌∙◌, ℕ, ◌+◌, inl, inr, Bool, true, false, List, [], ◌∷◌, ◌++◌, length, drop, take, Option, Some, None, refl, sym, ap, subst, arith, append-nil, length-append, length-drop, ◌==◌, ◌%◌, option_map, if◌then◌else◌, flat_map, take-append-le, answer_in, answered_block, command_in, TranscriptLine, from_first_command, observation_of, fault_of_item, item_broken}
use Rattle.std.specs.Option.{option_or}
use Rattle.std.proofs.lemmas.Bool.Decides.{eqb_tells}
use Rattle.fio_message.specs.Blocks.{Block}
use Rattle.fio_message.specs.declared.answers.Answer.{Answer}
use Rattle.fio_message.specs.declared.commands.Command.{Command}
use Rattle.fio_cpu.specs.Hearing.{after_hearing}
use Rattle.fio_cpu.specs.Poller.{Polling}
use Rattle.fio_cpu.specs.Record.{items_of_block}
use Rattle.fio_cpu.specs.declared.record.Item.{Item}
use Rattle.fio_check.specs.ContentKnown.{ContentFacts}
use Rattle.fio_check.specs.ContentCheckers.{ContentKept, breach_among, content_found, kept_at_start, kept_with}
use Rattle.fio_check.specs.ContentEvents.{ContentEvent, LineEvent, events_below, events_in, content_events, events_of_block, events_of_lines, item_of_event, items_and_end, number_below, number_after}
use Rattle.fio_check.specs.ContentFaults.{ContentFault, content_fault_in, content_fault_at, first_fault_in}
use Rattle.fio_check.specs.Facts.{number_polled}
use Rattle.fio_check.specs.Places.{earliest_above}
use Rattle.fio_check.specs.declared.content.ContentBreach.{ContentBreach}
use Rattle.fio_check.proofs.ContentNext.{content_is_kept}
use Rattle.fio_check.proofs.ContentCourse.{IsContentCourse, breach_within, fault_at, first_course, frame_broken, frame_course}
use Rattle.fio_check.specs.Pollers.{poller_with}
use Rattle.fio_tool.specs.Record.{items_of_cpu}
use Rattle.fio_tool.specs.declared.transcript.recording.BrokenItem.{BrokenItem}
use Rattle.fio_message.specs.declared.answers.Answer.TheVariants as answers
use Rattle.fio_message.specs.declared.commands.Command.TheVariants as commands

-- the number of a CPU
abbrev pub number_of_cpu : Option Polling → Option ℕ
number_of_cpu cpu = option_map (λ known. known.number) cpu

-- ---- the first poll, and the answers above it

first-poll : (command : Option Command)
    → (number_of_cpu (option_map (λ first. record { number = first; items = [] }) (number_polled (observation_of command None))) ≡ number_after None command None)
    × (items_of_cpu (option_map (λ first. record { number = first; items = [] }) (number_polled (observation_of command None))) ≡ [])
first-poll None = (refl, refl)
first-poll (Some (commands.Poll polled)) = (refl, refl)
first-poll (Some other) = (refl, refl)

later-command : (number : ℕ) (command : Option Command) → Some number ≡ number_after (Some number) command None
later-command number None = refl
later-command number (Some command) = refl

-- an answer changes nothing if there is no CPU
pub record PassesOver (answer : Option Answer) : Type 0 where
  pub polled : number_polled (observation_of None answer) ≡ None
  pub number : number_after None None answer ≡ None
  pub items : flat_map item_of_event (content_events None None answer) ≡ []

first-answer : (answer : Option Answer) → PassesOver answer
first-answer None = record { polled = refl; number = refl; items = refl }
first-answer (Some (answers.Block block entries status stamp)) = record { polled = refl; number = refl; items = refl }
first-answer (Some other) = record { polled = refl; number = refl; items = refl }

-- ---- what a frame does to the record

pub record FrameStep (cpu cpu' : Option Polling) (number' : Option ℕ) (events : List ContentEvent) : Type 0 where
  pub numbers : number_of_cpu cpu' ≡ number'
  pub items : items_of_cpu cpu ++ flat_map item_of_event events ≡ items_of_cpu cpu'

no-item : (cpu cpu' : Option Polling) (number' : Option ℕ) (events : List ContentEvent) → flat_map item_of_event events ≡ [] → number_of_cpu cpu' ≡ number' → items_of_cpu cpu' ≡ items_of_cpu cpu
    → FrameStep cpu cpu' number' events
no-item cpu cpu' number' events none numbers same = record {
  numbers = numbers;
  items = ap (λ more. items_of_cpu cpu ++ more) none ∙ append-nil (items_of_cpu cpu) ∙ sym same;
}

sent-none : (number : Option ℕ) (command : Option Command) → flat_map item_of_event (content_events number command None) ≡ []
sent-none number None = refl
sent-none number (Some command) = refl

recorded-items : (items : List Item) (status stamp : ℕ) → flat_map item_of_event (items_and_end items status stamp) ≡ items
recorded-items [] status stamp = refl
recorded-items (item ∷ items) status stamp = ap (λ rest. item ∷ rest) (recorded-items items status stamp)

-- a block, by whether it is taken
block-step : (cpu : Polling) (block : Block) (taken : Bool) → (taken ≡ true → block.number ≡ cpu.number)
    → FrameStep (Some cpu) (Some (if taken then record { number = (cpu.number + 1) % 256; items = cpu.items ++ items_of_block block } else cpu))
    (if taken then Some ((block.number + 1) % 256) else Some cpu.number) (if taken then events_of_block block else [])
block-step cpu block true same = rw (same refl) (record {
  numbers = refl;
  items = ap (λ more. cpu.items ++ more) (recorded-items (items_of_block block) block.status block.stamp);
})
block-step cpu block false same = no-item (Some cpu) (Some cpu) (Some cpu.number) [] refl refl refl

taken-same : (a b : ℕ) → (a == b) ≡ true → a ≡ b
taken-same a b is = elim (eqb_tells a b) as (λ _. a ≡ b) [ inl same ↦ same.1 | inr other ↦ (let not_same = other.0 in absurd (cc)) ]

-- an answer to a CPU
answer-step : (cpu : Polling) (answer : Option Answer)
    → FrameStep (Some cpu) (Some (after_hearing cpu (answered_block answer))) (number_after (Some cpu.number) None answer) (content_events (Some cpu.number) None answer)
answer-step cpu None = no-item (Some cpu) (Some cpu) (Some cpu.number) [] refl refl refl
answer-step cpu (Some (answers.Block block entries status stamp)) =
    block-step cpu (record { number = block; entries = entries.items; status = status; stamp = stamp }) (block == cpu.number) (taken-same block cpu.number)
answer-step cpu (Some other) = no-item (Some cpu) (Some cpu) (Some cpu.number) _ refl refl refl

-- any frame
frame_step : (cpu : Option Polling) (number : ℕ) (from_cpu : Bool) (octets : List ℕ)
    → FrameStep cpu (poller_with cpu (record { number = number; from_cpu = from_cpu; octets = octets })) (number_below (number_of_cpu cpu) from_cpu octets) (events_in (number_of_cpu cpu) from_cpu octets)
frame_step None number true octets =
    let first = first-poll (command_in octets) in
    no-item None _ _ _ (sent-none None (command_in octets)) first.0 first.1
frame_step (Some cpu) number true octets =
    no-item (Some cpu) (Some cpu) _ _ (sent-none (Some cpu.number) (command_in octets)) (later-command cpu.number (command_in octets)) refl
frame_step None number false octets =
    let passes = first-answer (answer_in octets) in
    no-item None _ _ _ passes.items (rw (passes.polled, passes.number) refl) (rw passes.polled refl)
frame_step (Some cpu) number false octets = answer-step cpu (answer_in octets)

-- ---- line by line

-- a log from a command on, of which these lines are left
pub record IsBrokenSoFar (lines rest : List TranscriptLine) (cpu : Option Polling) (kept : ContentKept) (broken : Option BrokenItem) : Type 0 where
  pub place : ℕ
  pub course : IsContentCourse (events_of_lines lines) place kept.facts (items_of_cpu cpu) (option_map (fault_of_item (items_of_cpu cpu)) broken)
  pub left : drop place (events_of_lines lines) ≡ events_below kept.number rest
  pub numbers : number_of_cpu cpu ≡ kept.number
  pub fits : (item : BrokenItem) → broken ≡ Some item → item.above ≤ length (items_of_cpu cpu)

-- before the first line
pub broken_first : (lines : List TranscriptLine) (cpu : Option Polling) (kept : ContentKept) (broken : Option BrokenItem)
    → cpu ≡ None → kept ≡ (kept_at_start false) → broken ≡ None → IsBrokenSoFar lines lines cpu kept broken
broken_first lines cpu kept broken none nothing unbroken =
    let first : IsBrokenSoFar lines lines None (kept_at_start false) None = record {
      place = 0;
      course = subst (λ facts. IsContentCourse (events_of_lines lines) 0 facts [] None) ((content_is_kept (events_of_lines lines)).first) (first_course (events_of_lines lines));
      left = refl;
      numbers = refl;
      fits = λ item is. absurd (cc);
    } in
    rw (none, nothing, unbroken) first

-- the breach of a line as the pass keeps it
same-breach : (line above : ℕ) (items : List Item) (found : Option ContentBreach)
    → option_map (fault_at line items above) found ≡ option_map (fault_of_item items) (option_map (item_broken line above) found)
same-breach line above items None = refl
same-breach line above items (Some breach) = refl

-- what is kept, with the items of a line more
kept-fault : (broken : Option BrokenItem) (items more items' : List Item) (line : ℕ) (found : Option ContentBreach) (here : Option ContentFault)
    → items ++ more ≡ items' → ((item : BrokenItem) → broken ≡ Some item → item.above ≤ length items)
    → here ≡ option_map (fault_at line (items ++ more) (length items)) found
    → option_or (option_map (fault_of_item items) broken) here
    ≡ option_map (fault_of_item items') (option_or broken (option_map (item_broken line (length items)) found))
kept-fault (Some item) items more items' line found here is fits breaks =
    let within = fits item refl in
    ap (λ known. Some (record { line = item.line; input = item.input; rule = item.rule; above = known }))
    (sym (take-append-le item.above items more within) ∙ ap (take item.above) is)
kept-fault None items more items' line found here is fits breaks =
    breaks ∙ ap (λ whole. option_map (fault_at line whole (length items)) found) is ∙ same-breach line (length items) items' found

kept-fits : (broken : Option BrokenItem) (items more items' : List Item) (line : ℕ) (found : Option ContentBreach) (item : BrokenItem)
    → items ++ more ≡ items' → ((item : BrokenItem) → broken ≡ Some item → item.above ≤ length items)
    → ((breach : ContentBreach) → found ≡ Some breach → breach.items ≤ length more)
    → option_or broken (option_map (item_broken line (length items)) found) ≡ Some item → item.above ≤ length items'
kept-fits (Some one) items more items' line found item is fits few same =
    let within = fits one refl in
    let long = sym (length-append items more) ∙ ap length is in
    let above : one.above ≡ item.above = cc in
    omega (arith, within, long, above)
kept-fits None items more items' line (Some breach) item is fits few same =
    let within = few breach refl in
    let long = sym (length-append items more) ∙ ap length is in
    let above : length items + breach.items ≡ item.above = cc in
    omega (arith, within, long, above)
kept-fits None items more items' line None item is fits few same = absurd (cc)

same-course : (all : List LineEvent) (place : ℕ) (facts : ContentFacts) (items items' : List Item) (broken broken' : Option ContentFault) → items ≡ items' → broken ≡ broken'
    → IsContentCourse all place facts items broken → IsContentCourse all place facts items' broken'
same-course all place facts items items' broken broken' i b course = rw (← i, ← b) course

next-line : (lines rest : List TranscriptLine) (number : ℕ) (from_cpu : Bool) (octets : List ℕ) (cpu : Option Polling) (kept : ContentKept) (broken : Option BrokenItem)
    → number_of_cpu cpu ≡ kept.number
    → IsBrokenSoFar lines (record { number = number; from_cpu = from_cpu; octets = octets } ∷ rest) cpu kept broken
    → IsBrokenSoFar lines rest (poller_with cpu (record { number = number; from_cpu = from_cpu; octets = octets })) (kept_with kept from_cpu octets)
    (option_or broken (option_map (item_broken number (length (items_of_cpu cpu))) (content_found kept from_cpu octets)))
next-line lines rest number from_cpu octets cpu kept broken numbers so_far =
    let cpu' = poller_with cpu (record { number = number; from_cpu = from_cpu; octets = octets }) in
    let events = events_in kept.number from_cpu octets in
    let more = flat_map item_of_event events in
    let step : FrameStep cpu cpu' (number_below kept.number from_cpu octets) events = rw (← numbers) (frame_step cpu number from_cpu octets) in
    let reached = frame_course events (events_of_lines lines) (events_below (number_below kept.number from_cpu octets) rest) so_far.place number kept.facts (items_of_cpu cpu)
    (option_map (fault_of_item (items_of_cpu cpu)) broken) so_far.left so_far.course in
    record {
      place = reached.place;
      course = same-course _ _ _ _ _ _ _ step.items
          (kept-fault broken (items_of_cpu cpu) more (items_of_cpu cpu') number (breach_among kept.facts 0 events) _ step.items so_far.fits (frame_broken events number kept.facts (items_of_cpu cpu)))
          reached.course;
      left = reached.left;
      numbers = step.numbers;
      fits = λ item is. kept-fits broken (items_of_cpu cpu) more (items_of_cpu cpu') number (breach_among kept.facts 0 events) item step.items so_far.fits
          (λ breach found. let within = breach_within events kept.facts 0 breach found in omega (arith, within)) is;
    }

-- one line more
pub broken_next : (lines rest : List TranscriptLine) (line : TranscriptLine) (cpu cpu' : Option Polling) (kept kept' : ContentKept) (broken broken' : Option BrokenItem)
    → cpu' ≡ poller_with cpu line → kept' ≡ kept_with kept line.from_cpu line.octets
    → broken' ≡ option_or broken (option_map (item_broken line.number (length (items_of_cpu cpu))) (content_found kept line.from_cpu line.octets))
    → IsBrokenSoFar lines (line ∷ rest) cpu kept broken → IsBrokenSoFar lines rest cpu' kept' broken'
broken_next lines rest line cpu cpu' kept kept' broken broken' cpu_is kept_is broken_is so_far =
    rw (broken_is, cpu_is, kept_is) (next-line lines rest line.number line.from_cpu line.octets cpu kept broken so_far.numbers so_far)

-- no line remains
pub broken_end : (lines : List TranscriptLine) (cpu : Option Polling) (kept : ContentKept) (broken : Option BrokenItem) → IsBrokenSoFar lines [] cpu kept broken
    → from_first_command lines ≡ lines → option_map (fault_of_item (items_of_cpu cpu)) broken ≡ content_fault_in false lines
broken_end lines cpu kept broken so_far begins =
    let all = events_of_lines lines in
    let none = so_far.left in
    let within = so_far.course.within in
    let count = sym (length-drop so_far.place all) ∙ ap length none in
    let ended : so_far.place ≡ length all = omega (arith, count, within) in
    sym so_far.course.broken_is ∙ ap (earliest_above (content_fault_at all)) ended ∙ ap (λ from. first_fault_in (events_of_lines from)) (sym begins)
