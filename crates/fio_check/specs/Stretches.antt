-- Stretches: pieces of what a log records of one module, in which each transition of the module's list is there once and in order.
-- A stretch goes on from block answer to block answer, unless what is between the two says otherwise. Nothing else ends one: numbers
-- go on over a damaged line, or show what is missing there.
use Rattle.std.specs.Prelude.{ℕ, ◌+◌, ◌-◌, ◌%◌, ◌^◌, ◌==◌, ◌&&◌, ◌||◌, Bool, false, not, nat_le, nat_lt, List, ◌++◌, drop, length, max, min, replicate, take, Option, Some, None, is_some, option_and_then, unwrap_or, if◌then◌else◌}
use Rattle.std.specs.Str.{bytes_eq}
use Rattle.fio_message.specs.Bits.{bit_of}
use Rattle.fio_message.specs.Decoding.{answer_in, command_in}
use Rattle.fio_message.specs.Status.{says_again, says_lost, says_more, says_out_of_sequence}
use Rattle.fio_message.specs.declared.answers.Answer.{Answer}
use Rattle.fio_message.specs.declared.answers.Answer.TheVariants as answers
use Rattle.fio_message.specs.declared.commands.Command.{Command}
use Rattle.fio_message.specs.declared.commands.Command.TheVariants as commands
use Rattle.fio_message.specs.declared.limits.TheConstants.{FRAME_OCTETS}
use Rattle.fio_check.specs.LogCounts.{more}
use Rattle.fio_check.specs.LogJudges.{is_same_end}
use Rattle.fio_check.specs.Places.{is_some_and}
use Rattle.fio_check.specs.declared.seam.SeamCause.{SeamCause}
use Rattle.fio_check.specs.declared.seam.SeamCause.TheVariants.{Disbelieved, Missing, PassedOver, Restart, Unknown}
use Rattle.fio_check.specs.declared.seam.TheConstants.{HOUR}
use Rattle.fio_check.specs.declared.seam.ToldBlock.{ToldBlock}
use Rattle.fio_check.specs.declared.stretches.LogStretches.{LogStretches}
use Rattle.fio_check.specs.declared.stretches.Seam.{Seam}
use Rattle.fio_check.specs.declared.stretches.TheConstants.{ENDING}

-- ---- two blocks, one directly below the other

-- what an answer says, if it is a block
abbrev pub told_block_in : Answer → Option ToldBlock
told_block_in (answers.Block number entries status stamp) = Some (record {
  stamp = stamp;
  entries = length entries.items % 256;
  number = number;
  status = status;
})
told_block_in answer = None

-- what octets say, if they spell a block answer
abbrev pub told_block : List ℕ → Option ToldBlock
told_block octets = option_and_then told_block_in (answer_in octets)

-- a block says E, and the number, the stamp, C and F of the block above
abbrev pub says_same : ToldBlock → ToldBlock → Bool
says_same above block = says_again block.status && (block.number == above.number && (block.stamp == above.stamp
    && (is_same_end (says_more block.status) (says_more above.status) && is_same_end (says_lost block.status) (says_lost above.status))))

-- the stamp is before that of the block above, and the counter, which has 49.7 days, did not end between the two
abbrev pub does_go_back : ToldBlock → ToldBlock → Bool
does_go_back above block = nat_lt block.stamp above.stamp
    && not (nat_le (2 ^ 32 - HOUR) above.stamp && nat_lt block.stamp HOUR)

-- how many milliseconds the stamp is after that of the block above; 0 if it goes back
abbrev pub milliseconds_below : ToldBlock → ToldBlock → ℕ
milliseconds_below above block = if does_go_back above block then 0 else (block.stamp + 2 ^ 32 - above.stamp) % 2 ^ 32

-- Why transitions do not follow, by how far the number of their block is above that of the block above, and by its status. One number
-- further they follow, unless other polls came between (G). Further on, blocks are not in the log, or the module never got these
-- polls (G): of one such poll nothing is missing.
abbrev pub cause_of_step : ℕ → ℕ → Option SeamCause
cause_of_step step status = if step == 0 then Some Restart
    else if step == 1 then (if says_out_of_sequence status then Some Unknown else None)
    else if says_again status then Some Unknown
    else if says_out_of_sequence status then (if step == 2 then None else Some PassedOver)
    else Some (Missing (step - 1))

-- Why the transitions of a block do not follow those of the block above, which is another one. Of a stamp that goes back a load of the
-- counter may be the reason, if one was sent.
abbrev pub cause_between : ToldBlock → Bool → ToldBlock → Option SeamCause
cause_between above is_loaded block = if does_go_back above block
    then Some (if is_loaded then Unknown else Restart)
    else cause_of_step ((block.number + 256 - above.number) % 256) block.status

-- ---- what is kept of a log

-- a sum, modulo 2^64
abbrev pub sum_with : ℕ → ℕ → ℕ
sum_with sum number = (sum + number) % 2 ^ 64

-- a number, if it is known
abbrev pub known : ℕ → ℕ → Option ℕ
known has number = if has == 0 then None else Some number

-- how long after a time another one is, if both are known and the first is not the later one
abbrev pub elapsed : Option ℕ → Option ℕ → Option ℕ
elapsed first last = option_and_then (λ earlier. option_and_then
    (λ later. if nat_le earlier later then Some (later - earlier) else None) last) first

-- the octets that a block answer has above its status: its number and its entries
abbrev pub octets_above_status : List ℕ → List ℕ
octets_above_status octets = take (min (length octets - ENDING) FRAME_OCTETS) octets

-- those of the latest block
abbrev pub items_kept : LogStretches → List ℕ
items_kept log = take (min log.length FRAME_OCTETS) log.items

-- what the latest block says
abbrev pub block_kept : LogStretches → ToldBlock
block_kept log = record { stamp = log.stamp; entries = log.entries; number = log.number; status = log.status }

-- above the first frame
abbrev pub no_stretches : LogStretches
no_stretches = record {
  blocks = 0;
  transitions = 0;
  lost = 0;
  missing = 0;
  missing_blocks = 0;
  passed_over = 0;
  unknown = 0;
  restarts = 0;
  disbelieved = 0;
  timed = 0;
  timed_whole = 0;
  stamped = 0;
  stamped_whole = 0;
  loads = 0;
  longest_pause = 0;
  pause = 0;
  polled_at = 0;
  block_at = 0;
  stamp = 0;
  length = 0;
  entries = 0;
  number = 0;
  status = 0;
  has_block = 0;
  has_block_at = 0;
  has_polled_at = 0;
  has_pause = 0;
  is_loaded = 0;
  items = replicate FRAME_OCTETS 0;
  reserved = replicate 5 0;
}

-- ---- a command

-- below a poll
abbrev pub stretches_polled : LogStretches → Option ℕ → LogStretches
stretches_polled log time = let pause = elapsed (known log.has_polled_at log.polled_at) time in record log {
  pause = unwrap_or pause 0;
  has_pause = bit_of (is_some pause);
  longest_pause = max log.longest_pause (unwrap_or pause 0);
  polled_at = unwrap_or time 0;
  has_polled_at = bit_of (is_some time);
}

-- below a command
abbrev pub stretches_sent : LogStretches → Option ℕ → Command → LogStretches
stretches_sent log time (commands.Poll number) = stretches_polled log time
stretches_sent log time (commands.LoadCounter stamp) = record log { loads = more log.loads; is_loaded = 1 }
stretches_sent log time command = log

-- ---- a block answer

-- it is the latest one again: it says E, and all else is the same
abbrev pub is_same_block : LogStretches → ToldBlock → List ℕ → Bool
is_same_block log block octets =
    not (log.has_block == 0) && (says_same (block_kept log) block && bytes_eq (octets_above_status octets) (items_kept log))

-- why the stretch does not go on with it
abbrev pub cause_above : LogStretches → ToldBlock → Bool → Option SeamCause
cause_above log block is_believed = if not is_believed then Some Disbelieved
    else if log.has_block == 0 then None
    else cause_between (block_kept log) (not (log.is_loaded == 0)) block

-- what is between the latest one and it
abbrev pub seam_above : LogStretches → ToldBlock → Bool → Seam
seam_above log block is_believed = record {
  cause = cause_above log block is_believed;
  is_lost = says_lost block.status;
  pause = known log.has_pause log.pause;
}

-- the stretch goes on
abbrev pub is_seamless : Seam → Bool
is_seamless seam = not (is_some seam.cause || seam.is_lost)

-- the place, if a stretch ends or transitions are lost
abbrev pub seam_if_any : Seam → Option Seam
seam_if_any seam = if is_seamless seam then None else Some seam

-- with a place of this cause more
abbrev pub stretches_ended : LogStretches → Option SeamCause → LogStretches
stretches_ended log (Some (Missing blocks)) =
    record log { missing = more log.missing; missing_blocks = sum_with log.missing_blocks blocks }
stretches_ended log (Some PassedOver) = record log { passed_over = more log.passed_over }
stretches_ended log (Some Unknown) = record log { unknown = more log.unknown }
stretches_ended log (Some Restart) = record log { restarts = more log.restarts }
stretches_ended log (Some Disbelieved) = record log { disbelieved = more log.disbelieved }
stretches_ended log None = log

-- with a block more, and what is above it
abbrev pub stretches_counted : LogStretches → ToldBlock → Seam → LogStretches
stretches_counted log block seam = stretches_ended (record log {
  blocks = more log.blocks;
  transitions = sum_with log.transitions block.entries;
  lost = sum_with log.lost (bit_of seam.is_lost);
}) seam.cause

-- with the time between two blocks more; it is within a stretch if that goes on
abbrev pub stretches_below_block : LogStretches → Bool → ℕ → ℕ → LogStretches
stretches_below_block log is_whole by_lines by_stamps = record log {
  timed = sum_with log.timed by_lines;
  stamped = sum_with log.stamped by_stamps;
  timed_whole = if is_whole then sum_with log.timed_whole by_lines else log.timed_whole;
  stamped_whole = if is_whole then sum_with log.stamped_whole by_stamps else log.stamped_whole;
}

-- with the time between the latest block and this one more
abbrev pub stretches_timed : LogStretches → Option ℕ → ToldBlock → Seam → LogStretches
stretches_timed log time block seam = if log.has_block == 0 then log else stretches_below_block log (is_seamless seam)
    (unwrap_or (elapsed (known log.has_block_at log.block_at) time) 0) (milliseconds_below (block_kept log) block)

-- with it as the latest one
abbrev pub stretches_kept : LogStretches → Option ℕ → ToldBlock → List ℕ → LogStretches
stretches_kept log time block octets = record log {
  items = octets_above_status octets ++ drop (length (octets_above_status octets)) log.items;
  length = length (octets_above_status octets);
  stamp = block.stamp;
  entries = block.entries;
  number = block.number;
  status = block.status;
  has_block = 1;
  block_at = unwrap_or time 0;
  has_block_at = bit_of (is_some time);
  is_loaded = 0;
}

-- below it, with what is above it
abbrev pub stretches_below : LogStretches → Option ℕ → ToldBlock → List ℕ → Seam → LogStretches
stretches_below log time block octets seam =
    stretches_kept (stretches_timed (stretches_counted log block seam) time block seam) time block octets

-- below a block answer
abbrev pub stretches_with_block : LogStretches → Option ℕ → List ℕ → Bool → Option ToldBlock → LogStretches
stretches_with_block log time octets is_believed None = log
stretches_with_block log time octets is_believed (Some block) = if is_same_block log block octets then log
    else stretches_below log time block octets (seam_above log block is_believed)

-- ---- a frame

-- below a command, or an answer
abbrev pub stretches_told : LogStretches → Option ℕ → List ℕ → Bool → Option Command → LogStretches
stretches_told log time octets is_believed (Some command) = stretches_sent log time command
stretches_told log time octets is_believed None = stretches_with_block log time octets is_believed (told_block octets)

-- below a frame, with its time if it has one; a block that breaks a rule on what entries say is not believed
abbrev pub stretches_with : LogStretches → Option ℕ → List ℕ → Bool → LogStretches
stretches_with log time octets is_believed = stretches_told log time octets is_believed (command_in octets)

-- the place above a block answer, if a stretch ends there or transitions are lost
abbrev pub seam_of_block : LogStretches → List ℕ → Bool → ToldBlock → Option Seam
seam_of_block log octets is_believed block = if is_same_block log block octets then None
    else seam_if_any (seam_above log block is_believed)

-- the same above a command, or an answer
abbrev pub seam_of_told : LogStretches → List ℕ → Bool → Option Command → Option Seam
seam_of_told log octets is_believed (Some command) = None
seam_of_told log octets is_believed None = option_and_then (seam_of_block log octets is_believed) (told_block octets)

-- the place above a frame, if it is a block answer where a stretch ends or transitions are lost
abbrev pub seam_of : LogStretches → List ℕ → Bool → Option Seam
seam_of log octets is_believed = seam_of_told log octets is_believed (command_in octets)
