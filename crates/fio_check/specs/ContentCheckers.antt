-- The checker of the rules on content, one frame at a time: what it finds in a frame, and what it keeps.
use Rattle.std.specs.Prelude.{ℕ, ◌+◌, Bool, ◌||◌, true, List, [], ◌∷◌, Option, None, fold, length, option_map, if◌then◌else◌}
use Rattle.std.specs.Option.{option_or}
use Rattle.fio_check.specs.ContentKnown.{ContentFacts}
use Rattle.fio_message.specs.declared.answers.Answer.{Answer}
use Rattle.fio_message.specs.declared.commands.Command.{Command}
use Rattle.fio_check.specs.ContentEvents.{ContentEvent, Sent, events_above, events_in, events_of_answer, item_of_event, number_below, number_with_answer, number_with_command}
use Rattle.fio_check.specs.ContentFacts.{content_with, no_content}
use Rattle.fio_check.specs.ContentRules.{rule_broken_by}
use Rattle.fio_check.specs.ContentFaults.{ContentFault}
use Rattle.fio_check.specs.Lines.{TranscriptLine}
use Rattle.fio_check.specs.declared.content.ContentBreach.{ContentBreach}
use Rattle.fio_check.specs.declared.content_rules.BrokenRule.{BrokenRule}
use Rattle.fio_check.specs.declared.content_rules.ContentRule.{ContentRule}

-- what the checker keeps: the CPU's number, if a poll is above, and the facts above
pub record ContentKept : Type 0 where
  pub number : Option ℕ
  pub facts : ContentFacts

-- what is kept above the first frame, by whether the log begins with both ends
abbrev pub kept_at_start : Bool → ContentKept
kept_at_start begun = record { number = None; facts = fold content_with no_content (events_above begun) }

-- a broken rule, below this number of items of its frame
abbrev pub breach_below : ℕ → BrokenRule → ContentBreach
breach_below items broken = record { items = items; input = broken.input; rule = broken.rule }

-- the breach of an event, below this number of items
abbrev pub breach_found : ContentFacts → ℕ → ContentEvent → Option ContentBreach
breach_found facts items event = option_map (breach_below items) (rule_broken_by facts event)

-- how many items are above the next event
abbrev pub items_below : ℕ → ContentEvent → ℕ
items_below items event = items + length (item_of_event event)

-- the first breach of events, below this number of items
abbrev pub breach_among : ContentFacts → ℕ → List ContentEvent → Option ContentBreach
breach_among facts items [] = None
breach_among facts items (event ∷ events) = option_or (breach_found facts items event)
    (breach_among (content_with facts event) (items_below items event) events)

-- what is found in a frame
abbrev pub content_found : ContentKept → Bool → List ℕ → Option ContentBreach
content_found kept from_cpu octets =
    breach_among kept.facts 0 (events_in kept.number from_cpu octets)

-- what is kept below these events, with this number of the CPU
abbrev pub kept_below : ContentKept → Option ℕ → List ContentEvent → ContentKept
kept_below kept number events =
    record { number = number; facts = fold content_with kept.facts events }

-- what is kept with a frame more
abbrev pub kept_with : ContentKept → Bool → List ℕ → ContentKept
kept_with kept from_cpu octets = kept_below kept (number_below kept.number from_cpu octets)
    (events_in kept.number from_cpu octets)

-- ---- from the first command on

-- a checker: whether it judges, and what it keeps. In a log that begins later than both ends it skips what is heard
-- above the first command.
pub record ContentChecking : Type 0 where
  pub begun : Bool
  pub kept : ContentKept

-- a checker above the first frame
abbrev pub checking_at_start : Bool → ContentChecking
checking_at_start begun = record { begun = begun; kept = kept_at_start begun }

-- what it finds in a frame
abbrev pub found_in_frame : ContentChecking → Bool → List ℕ → Option ContentBreach
found_in_frame checking from_cpu octets =
    if from_cpu || checking.begun then content_found checking.kept from_cpu octets else None

-- the checker with a frame more
abbrev pub checking_with : ContentChecking → Bool → List ℕ → ContentChecking
checking_with checking from_cpu octets = if from_cpu || checking.begun
    then record { begun = true; kept = kept_with checking.kept from_cpu octets }
    else checking

-- the checker with a command more
abbrev pub checking_with_command : ContentChecking → Command → ContentChecking
checking_with_command checking command = record {
  begun = true;
  kept = kept_below checking.kept (number_with_command checking.kept.number command) (Sent command ∷ []);
}

-- what it finds in an answer
abbrev pub found_in_answer : ContentChecking → Answer → Option ContentBreach
found_in_answer checking answer = if checking.begun
    then breach_among checking.kept.facts 0 (events_of_answer checking.kept.number answer)
    else None

-- the checker with an answer more
abbrev pub checking_with_answer : ContentChecking → Answer → ContentChecking
checking_with_answer checking answer = if checking.begun
    then record {
      begun = true;
      kept = kept_below checking.kept (number_with_answer checking.kept.number answer)
          (events_of_answer checking.kept.number answer);
    }
    else checking

-- ---- all lines

-- a fault without the items above it: the number of its line, its input and the rule
pub record FoundFault : Type 0 where
  pub line : ℕ
  pub input : Option ℕ
  pub rule : ContentRule

-- a breach in a line with this number
abbrev pub found_on : ℕ → ContentBreach → FoundFault
found_on line breach = record { line = line; input = breach.input; rule = breach.rule }

-- a fault as a checker finds it
abbrev pub fault_found : ContentFault → FoundFault
fault_found fault = record { line = fault.line; input = fault.input; rule = fault.rule }

-- what a checker finds first in these lines
abbrev pub found_first : ContentChecking → List TranscriptLine → Option FoundFault
found_first checking [] = None
found_first checking (line ∷ lines) =
    option_or (option_map (found_on line.number) (found_in_frame checking line.from_cpu line.octets))
    (found_first (checking_with checking line.from_cpu line.octets) lines)
