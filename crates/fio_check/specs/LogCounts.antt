-- What is counted of the frames of a log, one frame at a time. Numbers are modulo 2^64.
use Rattle.std.specs.Prelude.{ℕ, ◌+◌, ◌-◌, ◌%◌, ◌^◌, ◌==◌, ◌&&◌, Bool, not, nat_le, nat_lt, List, fold, length, replicate, slice_index_or, slice_set, Option, Some, None, is_some, option_and_then, unwrap_or, if◌then◌else◌}
use Rattle.fio_message.specs.Bits.{bit_of}
use Rattle.fio_message.specs.Commands.{command_code}
use Rattle.fio_message.specs.Answers.{answer_code}
use Rattle.fio_message.specs.Decoding.{answer_in, command_in}
use Rattle.fio_message.specs.Status.{says_again, says_lost}
use Rattle.fio_message.specs.declared.answers.Answer.{Answer}
use Rattle.fio_message.specs.declared.answers.Answer.TheVariants as answers
use Rattle.fio_message.specs.declared.commands.Command.{Command}
use Rattle.fio_message.specs.declared.commands.Command.TheVariants as commands
use Rattle.fio_message.specs.declared.fields.Entry.{Entry}
use Rattle.fio_message.specs.declared.types.TheConstants.{ANSWER}
use Rattle.fio_check.specs.declared.log_counts.LogCounts.{LogCounts}
use Rattle.fio_check.specs.declared.log_counts.TheConstants.{INPUT_NUMBERS, RESET, TYPES}

-- one more
abbrev pub more : ℕ → ℕ
more count = (count + 1) % 2 ^ 64

-- a table of counts with one more at this number, if the table has a place for it
abbrev pub raised : List ℕ → ℕ → List ℕ
raised counts number = if nat_lt number (length counts)
    then slice_set counts number (more (slice_index_or counts number 0))
    else counts

-- a table of counts with one more at the input of each entry
abbrev pub raised_by : List ℕ → List Entry → List ℕ
raised_by counts entries = fold (λ inputs entry. raised inputs entry.input) counts entries

-- the counts before any frame
abbrev pub counts_above : LogCounts
counts_above = record {
  frames = 0;
  polls = 0;
  repeats = 0;
  unanswered = 0;
  marks = 0;
  entries = 0;
  restarts = 0;
  types = replicate TYPES 0;
  inputs = replicate INPUT_NUMBERS 0;
  fills = replicate TYPES 0;
  sent_at = 0;
  has_sent_at = 0;
  command = 0;
  has_command = 0;
  polled = 0;
  has_polled = 0;
  waits = 0;
  block = 0;
  has_block = 0;
  reset = 0;
  first_reset = 0;
  has_reset = 0;
  reserved = replicate 5 0;
}

-- the counts where a frame may be lost
abbrev pub counted_lost : LogCounts → LogCounts
counted_lost counts = record counts { waits = 0; has_command = 0 }

-- ---- commands

-- the counts after a command that was sent at this time, if it is known
abbrev pub counted_sent : LogCounts → Option ℕ → LogCounts
counted_sent counts time = record counts { sent_at = unwrap_or time 0; has_sent_at = bit_of (is_some time) }

-- the counts after a poll with this number
abbrev pub counted_poll : LogCounts → ℕ → LogCounts
counted_poll counts number = record counts {
  polls = more counts.polls;
  repeats = if not (counts.has_polled == 0) && counts.polled == number then more counts.repeats else counts.repeats;
  polled = number;
  has_polled = 1;
  waits = 1;
}

-- The counts after a command of this type: a poll that still waits for its answer counts as unanswered.
abbrev pub counted_code : LogCounts → Option ℕ → ℕ → LogCounts
counted_code counts time code = counted_sent (record counts {
  types = raised counts.types code;
  unanswered = if counts.waits == 0 then counts.unanswered else more counts.unanswered;
  waits = 0;
  command = code;
  has_command = 1;
}) time

-- the counts after what a poll has beyond other commands
abbrev pub counted_poll_of : LogCounts → Command → LogCounts
counted_poll_of counts (commands.Poll number) = counted_poll counts number
counted_poll_of counts command = counts

-- the counts after a command
abbrev pub counted_command : LogCounts → Option ℕ → Command → LogCounts
counted_command counts time command = counted_poll_of (counted_code counts time (command_code command)) command

-- ---- answers

-- the latest command waits for an answer of this type
abbrev pub is_awaited : LogCounts → ℕ → Bool
is_awaited counts code = not (counts.has_command == 0) && code == (counts.command + ANSWER) % 256

-- how long the module took for an answer of this type, if both times are known and rise
abbrev pub time_taken : LogCounts → Option ℕ → ℕ → Option ℕ
time_taken counts time code = option_and_then (λ now.
    if is_awaited counts code && not (counts.has_sent_at == 0) && nat_le counts.sent_at now
    then Some (now - counts.sent_at) else None) time

-- the latest command no longer waits after an answer of the type that it waits for
abbrev pub counted_awaited : LogCounts → ℕ → LogCounts
counted_awaited counts code = if is_awaited counts code then record counts { has_command = 0 } else counts

-- A status answer says, or does not say, that the module was reset: it was restarted, if the status answer above does not say so.
abbrev pub counted_reset : LogCounts → Bool → LogCounts
counted_reset counts is_reset = record counts {
  restarts = if not (counts.has_reset == 0) && is_reset && counts.reset == 0 then more counts.restarts else counts.restarts;
  first_reset = if counts.has_reset == 0 then bit_of is_reset else counts.first_reset;
  reset = bit_of is_reset;
  has_reset = 1;
}

-- the entries of a block, and its gap mark
abbrev pub counted_entries : LogCounts → List Entry → ℕ → LogCounts
counted_entries counts entries status = record counts {
  marks = if says_lost status then more counts.marks else counts.marks;
  entries = (counts.entries + length entries) % 2 ^ 64;
  fills = raised counts.fills (length entries % 256);
  inputs = raised_by counts.inputs entries;
}

-- a block answer: one that is sent again is counted once
abbrev pub counted_block : LogCounts → ℕ → List Entry → ℕ → LogCounts
counted_block counts number entries status =
    let below : LogCounts = record counts { waits = 0; block = number; has_block = 1 } in
    if says_again status && not (counts.has_block == 0) && counts.block == number then below
    else counted_entries below entries status

-- the counts after what a status answer or a block answer has beyond other answers
abbrev pub counted_answer_of : LogCounts → Answer → LogCounts
counted_answer_of counts (answers.Status flags receive_errors transmit_errors stamp) = counted_reset counts (nat_le RESET flags)
counted_answer_of counts (answers.Block block entries status stamp) = counted_block counts block entries.items status
counted_answer_of counts answer = counts

-- the counts after an answer
abbrev pub counted_answer : LogCounts → Option ℕ → Answer → LogCounts
counted_answer counts time answer = counted_answer_of (counted_awaited
    (record counts { types = raised counts.types (answer_code answer) }) (answer_code answer)) answer

-- how long the module took for an answer, if that is known
abbrev pub time_to_answer : LogCounts → Option ℕ → Answer → Option ℕ
time_to_answer counts time answer = time_taken counts time (answer_code answer)

-- ---- a frame

-- the counts after a command or an answer; octets that are neither count only as a frame
abbrev pub counted_message : LogCounts → Option ℕ → Option Command → Option Answer → LogCounts
counted_message counts time (Some command) answer = counted_command counts time command
counted_message counts time None (Some answer) = counted_answer counts time answer
counted_message counts time None None = counts

-- the counts after a frame: as a command if it is one, else as an answer
abbrev pub counts_with : LogCounts → Option ℕ → List ℕ → LogCounts
counts_with counts time octets =
    counted_message (record counts { frames = more counts.frames }) time (command_in octets) (answer_in octets)

-- how long the module took for the answer that a message is, if that is known
abbrev pub time_to_message : LogCounts → Option ℕ → Option Command → Option Answer → Option ℕ
time_to_message counts time None (Some answer) = time_to_answer counts time answer
time_to_message counts time command answer = None

-- how long the module took for the answer that a frame is, if that is known
abbrev pub time_to_frame : LogCounts → Option ℕ → List ℕ → Option ℕ
time_to_frame counts time octets = time_to_message counts time (command_in octets) (answer_in octets)
