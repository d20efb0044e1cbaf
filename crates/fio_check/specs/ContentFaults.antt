-- Where a transcript breaks a rule on content.
use Rattle.std.specs.Prelude.{ℕ, Bool, List, Option, length, option_map, option_and_then, slice_get, take}
use Rattle.fio_cpu.specs.declared.record.Item.{Item}
use Rattle.fio_check.specs.ContentAbove.{content_at}
use Rattle.fio_check.specs.ContentEvents.{LineEvent, events_of_log, recorded_items}
use Rattle.fio_check.specs.ContentRules.{rule_broken_by}
use Rattle.fio_check.specs.Lines.{TranscriptLine}
use Rattle.fio_check.specs.Places.{earliest_above}
use Rattle.fio_check.specs.declared.content_rules.BrokenRule.{BrokenRule}
use Rattle.fio_check.specs.declared.content_rules.ContentRule.{ContentRule}

-- where a rule on content is broken: the number of the line, the input if one is involved, the rule, and the items of
-- the record above
pub record ContentFault : Type 0 where
  pub line : ℕ
  pub input : Option ℕ
  pub rule : ContentRule
  pub above : List Item

-- a rule that is broken by an event in a line with this number, below these items
abbrev pub fault_by : ℕ → List Item → BrokenRule → ContentFault
fault_by line above broken =
    record { line = line; input = broken.input; rule = broken.rule; above = above }

-- the fault at a place
abbrev pub content_fault_at : List LineEvent → ℕ → Option ContentFault
content_fault_at events place = option_and_then
    (λ found. option_map (fault_by found.line (recorded_items (take place events))) (rule_broken_by (content_at events place) found.event))
    (slice_get events place)

-- the first fault of these events
abbrev pub first_fault_in : List LineEvent → Option ContentFault
first_fault_in events = earliest_above (content_fault_at events) (length events)

-- the first fault of a transcript, by whether it begins with both ends
abbrev pub content_fault_in : Bool → List TranscriptLine → Option ContentFault
content_fault_in begun lines = first_fault_in (events_of_log begun lines)
