-- What the rules on content read of what is above an event, and how states that were asked for change it.
--
-- A clear block is a block answer with neither C nor E. Without E it was made at the poll directly above it, so each command
-- above was received or is lost. Without C it took all waiting entries, so each entry below was logged later. A clear block
-- settles each input; so can a block that is sent again.
use Rattle.std.specs.Prelude.{ℕ, Bool, ◌&&◌, ◌||◌, Option, Some, None, nat_lt, not, if◌then◌else◌}
use Rattle.std.specs.Bool.{beq}
use Rattle.fio_message.specs.Bits.{is_set}
use Rattle.fio_message.specs.declared.limits.TheConstants.{INPUTS}
use Rattle.fio_check.specs.ContentEvents.{ContentEvent}
use Rattle.fio_check.specs.ContentSaid.{FilterPair, Floor, Seen, SentItem, comes_to}
use Rattle.fio_check.specs.Places.{is_some_and}

-- ---- what is kept

-- the state of an entry, if no change of its input since can have been hidden and recorded again; and whether an item that
-- ignores the input was sent since the latest block above the entry that settles it
pub record WatchedState : Type 0 where
  pub level : Bool
  pub shaded : Bool

-- what is above of one input
pub record InputAbove : Type 0 where
  -- the command that awaits its answer has an item of it
  pub named : Bool
  -- the last item of it that was sent
  pub item : Option SentItem
  -- that item was taken: the answer to its command says so
  pub taken : Bool
  -- an item that ignores it was sent since the latest block that settles it
  pub hidden : Bool
  -- below that one an item was sent that opens it
  pub reopened : Bool
  -- its latest entry, if it is watched
  pub watched : Option WatchedState
  -- the wide time of its latest entry, if times were known there
  pub timed : Option ℕ
  -- an item of it was sent since the latest block that settles it
  pub touched : Bool
  -- its state in the latest 181 that the record has come to, if since then neither an entry of it nor a gap mark is recorded,
  -- and no item of it was sent since the block above that settles it
  pub shown : Option Bool
  -- the record came to a 181 with the other state: its changes are not logged, and no item of it was sent since
  pub unlogged : Bool
  -- it is ignored for each entry that is logged from now on
  pub shut : Bool
  -- the lowest filters that can be in force for it
  pub least : FilterPair

-- what the rules on content read
pub record ContentFacts : Type 0 where
  -- the loads of the counter that were sent and have excused no breach yet; 255 are never used up
  pub excuses : ℕ
  -- an answer to a watchdog was heard
  pub watchdog_set : Bool
  -- the flags that the command clears which awaits its answer
  pub clearing : ℕ
  -- that command names an input above 63
  pub absent_named : Bool
  -- a clear block is above
  pub clear : Bool
  -- a poll was sent since the latest block
  pub polled : Bool
  -- for each input: an item of it was sent below a poll for the block that is due
  pub since_poll : ℕ → Bool
  -- the latest stamp, but not that of a repeated block; like all that follows about times, unless it is forgotten
  pub clock : Option ℕ
  -- a block was heard since times were forgotten
  pub block_heard : Bool
  -- times are known: since then the end of a clear block that was heard is above
  pub timely : Bool
  -- the stamp of the latest block without C, if times are known: what is recorded below was logged later
  pub full : Option ℕ
  -- the latest block was made so long after that one that 16 bits do not determine the times of its entries
  pub aged : Bool
  -- what the next entry is compared with
  pub floor : Option Floor
  -- the latest states that were asked for, if the record has not come to them
  pub seen : Option Seen
  -- what is kept for each input
  pub inputs : ℕ → InputAbove

-- ---- the states that were asked for

-- states, if an event comes to them
abbrev pub if_comes : ContentEvent → Seen → Option Seen
if_comes event seen = if comes_to seen event then Some seen else None

-- the state of this input in states, if no item of it was sent since the latest block that settles it
abbrev pub state_shown : ℕ → Bool → Seen → Option Bool
state_shown input touched seen = if touched then None else Some (is_set seen.levels input)

-- the states contradict the known state of this input
abbrev pub shows_other : ℕ → Bool → Option Bool → Seen → Bool
shows_other input touched shown seen =
    not touched && is_some_and shown (λ level. not (beq level (is_set seen.levels input)))

-- the known state of an input after the record comes to these states, if it does
abbrev pub shown_after : ℕ → Option Seen → InputAbove → Option Bool
shown_after input None above = above.shown
shown_after input (Some seen) above =
    if nat_lt input INPUTS then state_shown input above.touched seen else above.shown

-- whether the changes of an input are not logged, after the record comes to these states, if it does
abbrev pub unlogged_after : ℕ → Option Seen → InputAbove → Bool
unlogged_after input None above = above.unlogged
unlogged_after input (Some seen) above =
    (nat_lt input INPUTS && shows_other input above.touched above.shown seen) || above.unlogged

-- an input after the record comes to these states, if it does
abbrev pub input_coming : ℕ → Option Seen → InputAbove → InputAbove
input_coming input seen above =
    record above { shown = shown_after input seen above; unlogged = unlogged_after input seen above }
