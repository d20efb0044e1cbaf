-- What one pass over a transcript keeps: the CPU, and the first breach of a rule on content.
use Rattle.std.specs.Prelude.{◌≡◌, ℕ, ◌+◌, false, List, Option, None, length, option_map, take}
use Rattle.std.specs.Option.{option_or}
use Rattle.fio_cpu.specs.declared.record.Item.{Item}
use Rattle.fio_check.specs.ContentCheckers.{checking_at_start, checking_with, found_in_frame}
use Rattle.fio_check.specs.ContentKept.{content_checking}
use Rattle.fio_check.specs.ContentFaults.{ContentFault, content_fault_in}
use Rattle.fio_check.specs.Lines.{TranscriptLine}
use Rattle.fio_check.specs.declared.content.ContentBreach.{ContentBreach}
use Rattle.fio_check.specs.Pollers.{poller_of, poller_with}
use Rattle.fio_tool.specs.Record.{items_of_cpu}
use Rattle.fio_tool.specs.declared.transcript.recording.BrokenItem.{BrokenItem}
use Rattle.fio_tool.specs.declared.transcript.recording.Recording.{Recording}

-- the fault that the pass keeps, as a fault on content, given the items of the record
abbrev pub fault_of_item : List Item → BrokenItem → ContentFault
fault_of_item items broken = record {
  line = broken.line;
  input = broken.input;
  rule = broken.rule;
  above = take broken.above items;
}

-- the fault that the pass keeps, if there is one
abbrev pub fault_of_recording : Recording → Option ContentFault
fault_of_recording recording =
    option_map (fault_of_item (items_of_cpu recording.cpu)) recording.broken

-- the pass has not gone through any line
pub record IsNoRecording (recording : Recording) : Type 0 where
  pub cpu : recording.cpu ≡ None
  pub checking : content_checking recording.checker ≡ checking_at_start false
  pub broken : recording.broken ≡ None

-- the pass has gone through these lines
pub record IsRecordingOf (lines : List TranscriptLine) (recording : Recording) : Type 0 where
  pub cpu : recording.cpu ≡ poller_of lines
  pub broken : fault_of_recording recording ≡ content_fault_in false lines

-- a breach by a line before which the record has `items` items
abbrev pub item_broken : ℕ → ℕ → ContentBreach → BrokenItem
item_broken line items breach = record {
  line = line;
  above = items + breach.items;
  input = breach.input;
  rule = breach.rule;
}

-- a step of the pass over a line
pub record RecordsLine (before : Recording) (line : TranscriptLine) (after : Recording) : Type 0 where
  pub cpu : after.cpu ≡ poller_with before.cpu line
  pub checking : content_checking after.checker ≡ checking_with (content_checking before.checker) line.from_cpu line.octets
  pub broken : after.broken ≡ option_or before.broken
      (option_map (item_broken line.number (length (items_of_cpu before.cpu)))
      (found_in_frame (content_checking before.checker) line.from_cpu line.octets))
