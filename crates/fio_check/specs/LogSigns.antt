-- Signs that a log is not the log of one link in order: what kind of log it looks like, by counts of its frames.
use Rattle.std.specs.Prelude.{ℕ, ◌==◌, ◌%◌, ◌+◌, ◌*◌, ◌&&◌, ◌||◌, Bool, List, [], ◌∷◌, false, not, nat_le, nat_lt, length, Option, Some, None, is_some, if◌then◌else◌}
use Rattle.std.specs.Option.{option_and_then}
use Rattle.std.specs.Str.{bytes_eq}
use Rattle.fio_check.specs.ContentSaid.{is_later}
use Rattle.fio_check.specs.Lines.{answer_from}
use Rattle.fio_check.specs.LogJudges.{is_same_end, one_more}
use Rattle.fio_check.specs.Observations.{observation_in}
use Rattle.fio_check.specs.Places.{is_some_and}
use Rattle.fio_check.specs.declared.block_order.BlockOrder.{BlockOrder}
use Rattle.fio_check.specs.declared.block_order.BlockSeen.{BlockSeen}
use Rattle.fio_check.specs.declared.block_rows.BlockRows.{BlockRows}
use Rattle.fio_check.specs.declared.left_out.LeftOutBlocks.{LeftOutBlocks}
use Rattle.fio_check.specs.declared.log_signs.LogSign.{LogSign}
use Rattle.fio_check.specs.declared.log_signs.LogSign.TheVariants.{BothEnds, EmptyLeftOut, Reversed, Twice, TwoLinks}
use Rattle.fio_check.specs.declared.log_signs.LogSigns.{LogSigns}
use Rattle.fio_check.specs.declared.observation.Observation.{Observation}
use Rattle.fio_check.specs.declared.observation.Observation.TheVariants as observations
use Rattle.fio_check.specs.declared.repeated_frames.RepeatedFrames.{RepeatedFrames}
use Rattle.fio_message.specs.declared.answers.Answer.{Answer}
use Rattle.fio_message.specs.declared.answers.Answer.TheVariants.{Block}
use Rattle.fio_message.specs.declared.limits.TheConstants.{FRAME_OCTETS}

-- one more, if it is so
abbrev pub one_more_if : Bool → ℕ → ℕ
one_more_if is_so count = if is_so then one_more count else count

-- ---- frames that are there twice

-- the repeated answers above the first frame
abbrev pub no_repeats : RepeatedFrames
no_repeats = record { above = record { items = [] }; said = None; again = false; answers = 0; repeated = 0; contrary = 0 }

-- what is kept of a frame's octets: all of them, or none if they are more than a frame can have
abbrev pub octets_kept : List ℕ → List ℕ
octets_kept octets = if nat_le (length octets) FRAME_OCTETS then octets else []

-- a frame has the same octets as the frame directly above it
abbrev pub repeats_above : RepeatedFrames → List ℕ → Bool
repeats_above frames [] = false
repeats_above frames (code ∷ fields) = bytes_eq frames.above.items (code ∷ fields)

-- A frame is the second of equal frames. A third one is no sign of a log that has each frame twice.
abbrev pub is_second : RepeatedFrames → List ℕ → Bool
is_second frames octets = repeats_above frames octets && not frames.again

-- two lines name different senders
abbrev pub are_contrary : Option Bool → Option Bool → Bool
are_contrary (Some by_cpu) (Some other) = not (is_same_end by_cpu other)
are_contrary said other = false

-- the counts after an answer
abbrev pub repeats_with_answer : RepeatedFrames → Option Bool → List ℕ → RepeatedFrames
repeats_with_answer frames said octets = record frames {
  answers = one_more frames.answers;
  repeated = one_more_if (is_second frames octets) frames.repeated;
  contrary = one_more_if (is_second frames octets && are_contrary frames.said said) frames.contrary;
}

-- the counts after a frame: only answers are counted
abbrev pub repeats_with : RepeatedFrames → Bool → Option Bool → List ℕ → RepeatedFrames
repeats_with frames from_cpu said octets =
    record (if from_cpu then frames else repeats_with_answer frames said octets) {
      above = record { items = octets_kept octets };
      said = said;
      again = repeats_above frames octets;
    }

-- Of 8 or more answers at least two of five are the second of equal frames.
abbrev pub is_twice : RepeatedFrames → Bool
is_twice frames = nat_le 8 frames.answers && nat_le (2 * frames.answers) (5 * frames.repeated)

-- For at least half of those, the two lines name different senders.
abbrev pub is_of_both_ends : RepeatedFrames → Bool
is_of_both_ends frames = nat_le frames.repeated (2 * frames.contrary)

-- ---- block answers whose last is first

-- the order of the block answers above the first frame
abbrev pub no_blocks : BlockOrder
no_blocks = record { above = None; blocks = 0; backward = 0 }

-- the number and the stamp of an answer, if it is a block
abbrev pub block_seen_in : Answer → Option BlockSeen
block_seen_in (Block number entries status stamp) = Some (record { number = number; stamp = stamp })
block_seen_in answer = None

-- the number and the stamp of a frame, if it is a block answer
abbrev pub block_seen : Bool → List ℕ → Option BlockSeen
block_seen from_cpu octets = option_and_then block_seen_in (answer_from from_cpu octets)

-- a block has the number before that of the block above, and no later stamp
abbrev pub is_backward : BlockSeen → BlockSeen → Bool
is_backward block above = above.number == (block.number + 1) % 256 && not (is_later block.stamp above.stamp)

-- the order after a block
abbrev pub order_with : BlockOrder → BlockSeen → BlockOrder
order_with order block = record {
  above = Some block;
  blocks = one_more order.blocks;
  backward = one_more_if (is_some_and order.above (is_backward block)) order.backward;
}

-- Of 8 or more blocks more than half are backward.
abbrev pub is_reversed : BlockOrder → Bool
is_reversed order = nat_le 8 order.blocks && not (nat_le (2 * order.backward) order.blocks)

-- ---- block answers of two links

-- the rows of numbers above the first frame
abbrev pub no_rows : BlockRows
no_rows = record { first = None; second = None; changes = 0; jumps = 0 }

-- a number is the one before a row's, so that its block is late
abbrev pub is_late_in : Option ℕ → ℕ → Bool
is_late_in row number = is_some_and row (λ latest. latest == (number + 1) % 256)

-- a row continues with a number: its own, the next one, or that of a late block
abbrev pub goes_on : Option ℕ → ℕ → Bool
goes_on row number = is_late_in row number
    || is_some_and row (λ latest. number == latest || number == (latest + 1) % 256)

-- the row after a number, if it continues with that
abbrev pub row_with : Option ℕ → ℕ → Option ℕ
row_with row number = if is_late_in row number then row else Some number

-- The rows after a block: the row that the block continues becomes the first one. If it continues none, it starts a row in
-- place of the second, which is a jump if both rows existed.
abbrev pub rows_with : BlockRows → ℕ → BlockRows
rows_with rows number = if goes_on rows.first number then record rows { first = row_with rows.first number }
    else if goes_on rows.second number then record rows {
      first = row_with rows.second number;
      second = rows.first;
      changes = one_more rows.changes;
    }
    else record rows {
      first = Some number;
      second = rows.first;
      jumps = one_more_if (is_some rows.second) rows.jumps;
    }

-- Of 8 or more blocks at least a quarter continued the other row than the block above, and at most one in ten is a jump.
abbrev pub are_two_links : BlockRows → ℕ → Bool
are_two_links rows blocks =
    nat_le 8 blocks && (nat_le blocks (4 * rows.changes) && nat_le (10 * rows.jumps) blocks)

-- ---- blocks without entries that are left out

-- the polls without answers above the first frame
abbrev pub none_left_out : LeftOutBlocks
none_left_out = record { waits = None; polls = 0; passed = 0; others = 0; empty = 0 }

-- a poll asks for the next number below one that waits for its answer
abbrev pub is_next_of : Option ℕ → ℕ → Bool
is_next_of waits number = is_some_and waits (λ above. number == (above + 1) % 256)

-- it asks for neither that number nor for that poll's own
abbrev pub is_other_of : Option ℕ → ℕ → Bool
is_other_of waits number = is_some_and waits (λ above. not (number == (above + 1) % 256) && not (number == above))

-- those after a poll
abbrev pub left_out_with_poll : LeftOutBlocks → ℕ → LeftOutBlocks
left_out_with_poll blocks number = record blocks {
  polls = one_more blocks.polls;
  passed = one_more_if (is_next_of blocks.waits number) blocks.passed;
  others = one_more_if (is_other_of blocks.waits number) blocks.others;
  waits = Some number;
}

-- those after a block with this many entries
abbrev pub left_out_with_block : LeftOutBlocks → ℕ → LeftOutBlocks
left_out_with_block blocks entries = record blocks { empty = one_more_if (entries == 0) blocks.empty; waits = None }

-- those after a frame that says this
abbrev pub left_out_with : LeftOutBlocks → Observation → LeftOutBlocks
left_out_with blocks (observations.Poll number) = left_out_with_poll blocks number
left_out_with blocks (observations.Block number status entries absent) = left_out_with_block blocks entries
left_out_with blocks observation = blocks

-- The log has blocks, but none without entries. Of 8 or more polls a quarter or more ask for the next number below a poll without an answer,
-- and none asks there for another one than these two.
abbrev pub are_left_out : LeftOutBlocks → ℕ → Bool
are_left_out polls blocks = nat_lt 0 blocks && (nat_le 8 polls.polls && (nat_le polls.polls (4 * polls.passed)
    && (polls.others == 0 && polls.empty == 0)))

-- ---- the log

-- the signs above the first frame
abbrev pub no_signs : LogSigns
no_signs = record { frames = no_repeats; order = no_blocks; rows = no_rows; left_out = none_left_out }

-- the signs after a block answer, if the frame is one
abbrev pub signs_with_block : LogSigns → Option BlockSeen → LogSigns
signs_with_block signs None = signs
signs_with_block signs (Some block) = record signs {
  order = order_with signs.order block;
  rows = rows_with signs.rows block.number;
}

-- the signs after a frame
abbrev pub signs_with : LogSigns → Bool → Option Bool → List ℕ → LogSigns
signs_with signs from_cpu said octets = signs_with_block (record signs {
  frames = repeats_with signs.frames from_cpu said octets;
  left_out = left_out_with signs.left_out (observation_in from_cpu octets);
}) (block_seen from_cpu octets)

-- what kind of log it looks like, if it is not the whole log of one link in order: the first that holds
abbrev pub sign_of : LogSigns → Option LogSign
sign_of signs = if is_twice signs.frames
    then Some (if is_of_both_ends signs.frames then BothEnds else Twice)
    else if is_reversed signs.order then Some Reversed
    else if are_two_links signs.rows signs.order.blocks then Some TwoLinks
    else if are_left_out signs.left_out signs.order.blocks then Some EmptyLeftOut
    else None
