-- What the fields of the checker of the rules on content mean. A flag is an octet: 0 is false. In a set of inputs, bit i is
-- input i.
use Rattle.std.specs.Prelude.{ℕ, ◌==◌, Bool, not, List, Option, Some, None, slice_index_or, if◌then◌else◌}
use Rattle.fio_message.specs.Bits.{is_set}
use Rattle.fio_check.specs.ContentKnown.{ContentFacts, InputAbove}
use Rattle.fio_check.specs.ContentSaid.{FilterPair, Floor, Seen, SentItem}
use Rattle.fio_check.specs.ContentCheckers.{ContentChecking, ContentKept}
use Rattle.fio_check.specs.declared.content_above.ContentAbove.{ContentAbove}
use Rattle.fio_check.specs.declared.content_inputs.ContentInputs.{ContentInputs}
use Rattle.fio_check.specs.declared.content.ContentChecker.{ContentChecker}

-- a flag
abbrev pub is_flagged : ℕ → Bool
is_flagged octet = not (octet == 0)

-- a number, if its flag is set
abbrev pub flagged_number : ℕ → ℕ → Option ℕ
flagged_number has number = if has == 0 then None else Some number

-- a value, if an input is in a set
abbrev pub some_in : {A : Type 0} → ℕ → ℕ → A → Option A
some_in set input value = if is_set set input then Some value else None

-- both filters of an input
abbrev pub filters_in : List ℕ → List ℕ → ℕ → FilterPair
filters_in leading trailing input = record {
  leading = slice_index_or leading input 1;
  trailing = slice_index_or trailing input 1;
}

-- the last item of an input
abbrev pub item_in : ContentInputs → ℕ → SentItem
item_in inputs input = record {
  ignore = is_set inputs.ignoring input;
  filters = filters_in inputs.leading inputs.trailing input;
}

-- what is kept of the events above for an input: if its last item is settled, no other was sent since, and its filters are
-- the lowest ones
abbrev pub input_kept : ContentInputs → ℕ → InputAbove
input_kept inputs input = record {
  named = is_set inputs.named input;
  item = some_in inputs.sent input (item_in inputs input);
  taken = is_set inputs.taken input;
  hidden = is_set inputs.hidden input;
  reopened = is_set inputs.reopened input;
  watched = some_in inputs.watched input
      (record { level = is_set inputs.levels input; shaded = is_set inputs.shaded input });
  timed = some_in inputs.timed input (slice_index_or inputs.times input 0);
  touched = is_set inputs.touched input;
  shown = some_in inputs.shown input (is_set inputs.shown_levels input);
  unlogged = is_set inputs.unlogged input;
  shut = is_set inputs.shut input;
  least = if is_set inputs.settled input then filters_in inputs.leading inputs.trailing input
      else filters_in inputs.least_leading inputs.least_trailing input;
}

-- the floor of later entries, by its octets: the first is 0 for none, 1 for an entry, else the end of a block
abbrev pub floor_in : ℕ → ℕ → ℕ → Option Floor
floor_in kind time input = if kind == 0
    then None
    else Some (record { time = time; input = if kind == 1 then Some input else None })

-- the states of the latest 181
abbrev pub seen_kept : ContentAbove → Seen
seen_kept above = record { stamp = above.seen; levels = above.seen_levels }

-- the facts that are kept of the events above
abbrev pub facts_kept : ContentAbove → ContentFacts
facts_kept above = record {
  excuses = above.excuses;
  watchdog_set = is_flagged above.watchdog_set;
  clearing = above.clearing;
  absent_named = is_flagged above.absent_named;
  clock = flagged_number above.has_clock above.clock;
  clear = is_flagged above.clear;
  polled = is_flagged above.polled;
  since_poll = λ input. is_set above.since_poll input;
  block_heard = is_flagged above.block_heard;
  timely = is_flagged above.timely;
  full = flagged_number above.timely above.full;
  aged = is_flagged above.aged;
  floor = floor_in above.floor_kind above.floor above.floor_input;
  seen = if above.has_seen == 0 then None else Some (seen_kept above);
  inputs = λ input. input_kept above.inputs input;
}

-- what a checker keeps
abbrev pub content_kept : ContentChecker → ContentKept
content_kept checker = record {
  number = flagged_number checker.has_number checker.number;
  facts = facts_kept checker.above;
}

-- a checker, by its fields
abbrev pub content_checking : ContentChecker → ContentChecking
content_checking checker = record { begun = is_flagged checker.begun; kept = content_kept checker }
