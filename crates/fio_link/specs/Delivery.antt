-- What arrives: clean rounds deliver blocks, nothing is lost unless the buffer was full, and if the module is polled often
-- the buffer never is full.
use Rattle.std.specs.Prelude.{◌≡◌, ℕ, ◌+◌, ◌<◌, true, List, [], ◌∷◌, ◌++◌, map, length, take, slice_get, Some}
use Rattle.std.specs.List.{AllByRecursion, flat_map}
use Rattle.fio_message.specs.declared.commands.Command.TheVariants as commands
use Rattle.fio_message.specs.Blocks.{Block}
use Rattle.fio_input.specs.FiltersThatDiffer.{Plan}
use Rattle.fio_module.specs.Settings.{Settings}
use Rattle.fio_module.specs.Life.{Life, Commanded, life_of}
use Rattle.fio_module.specs.Log.{entry_of, log_of}
use Rattle.fio_module.specs.Blocks.{MadeBlock, newest_poll, is_new, blocks_of, next_block, newest_end}
use Rattle.fio_module.specs.Delivery.{NeverTooMany, IsPolledOften, IsOutage}
use Rattle.fio_module.specs.FiltersThatDiffer.{IsPolledForEach}
use Rattle.fio_cpu.specs.declared.record.Item.TheVariants as items
use Rattle.fio_cpu.specs.Record.{items_of_block}
use Rattle.fio_link.specs.declared.event.Event.{Event}
use Rattle.fio_link.specs.declared.event.Event.TheVariants.{Poll, ToModule, ToCpu, Restart}
use Rattle.fio_link.specs.Link.{Machine, after, Leads}
use Rattle.fio_link.specs.Frames.{HasBlock}
use Rattle.fio_link.specs.Claims.{blocks_in}
use Rattle.fio_link.specs.Rounds.{CarriesBlock}
use Rattle.fio_link.specs.Pieces.{EntryPiece, piece_of, pieces_of}
use Rattle.fio_link.specs.Headline.{end_taken}

-- a clean round with nothing between its steps: the CPU polls, the module receives the frame just sent, and the CPU hears
-- the answer just sent
abbrev pub clean_round : Machine → List Event
clean_round machine =
    Poll ∷ ToModule (length machine.to_module + 1) ∷ ToCpu (length machine.to_cpu + 1) ∷ []

-- A clean round takes a block: none of its events is refused, the module answers, and the CPU takes
-- the answer.
pub record TakesBlock (settings : Settings) (first : ℕ) (machine later : Machine) : Type 0 where
  pub leads : Leads settings first machine (clean_round machine) later
  -- the answer just sent is a block answer to a poll of the CPU's round
  pub answer : Block
  pub answered : HasBlock later.to_cpu (length machine.to_cpu) answer machine.round
  -- the round goes up by one, and the record grows by what the block adds
  pub round : later.round ≡ machine.round + 1
  pub items : later.items ≡ machine.items ++ items_of_block answer
  -- it carries the newest block of the module's present life
  pub earlier : List MadeBlock
  pub block : MadeBlock
  pub newest : blocks_in settings later ≡ earlier ++ block ∷ []
  pub carried : CarriesBlock answer block

-- a clean round takes a block
abbrev pub CleanRoundTakesBlock : Settings → ℕ → Machine → Type 0
CleanRoundTakesBlock settings first machine =
    (later : Machine) × TakesBlock settings first machine later

-- an event within a clean round: no other poll is sent, and nothing restarts
abbrev pub IsWithinRound : Event → Type 0
IsWithinRound Poll = ⊥
IsWithinRound Restart = ⊥
IsWithinRound other = Unit {0}

-- A clean round: the CPU polls, the module receives the poll, and the CPU hears the answer to it before it polls again.
-- Scans, other commands and older answers may come between, but no restart. `receipt` is the machine when the module
-- receives the poll.
pub record IsCleanRound (settings : Settings) (first : ℕ) (begin receipt last : Machine)
    : Type 0 where
  -- the events before and after the receipt of the poll
  pub before : List Event
  pub after : List Event
  pub none_before : AllByRecursion IsWithinRound before
  pub none_after : AllByRecursion IsWithinRound after
  pub sent : Leads settings first begin (Poll ∷ before) receipt
  pub answered :
      Leads settings first receipt
      (ToModule (length begin.to_module + 1) ∷ (after ++ ToCpu (length receipt.to_cpu + 1) ∷ []))
      last

-- nothing comes between the steps of this clean round
abbrev pub HasNothingBetween : (settings : Settings) (first : ℕ) (begin receipt last : Machine) →
    IsCleanRound settings first begin receipt last → Type 0
HasNothingBetween settings first begin receipt last round =
    (round.before ≡ []) × (round.after ≡ [])

-- a clean round with nothing between its steps is a clean round
abbrev pub RoundWithNothingBetweenIsClean : Settings → ℕ → Machine → Type 0
RoundWithNothingBetweenIsClean settings first machine = (last : Machine) →
    Leads settings first machine (clean_round machine) last →
    IsCleanRound settings first machine (after settings first machine Poll) last

-- The CPU takes one block in a clean round: the answer to a poll of its round.
pub record TakesOne (machine later : Machine) : Type 0 where
  pub answer : Block
  pub place : ℕ
  pub answered : HasBlock later.to_cpu place answer machine.round
  -- the round goes up by one, and the record grows by what the block adds
  pub round : later.round ≡ machine.round + 1
  pub items : later.items ≡ machine.items ++ items_of_block answer

-- in each clean round the CPU takes one block
abbrev pub EachCleanRoundTakesOne : Settings → ℕ → Machine → Type 0
EachCleanRoundTakesOne settings first machine = (receipt later : Machine) →
    IsCleanRound settings first machine receipt later → TakesOne machine later

-- the record has no gap mark: it is the whole transition log through the last block taken
abbrev pub RecordIsWhole : Settings → Machine → Type 0
RecordIsWhole settings machine =
    map piece_of machine.items
    ≡ map EntryPiece (take (end_taken settings machine) (map entry_of (log_of (life_of machine.history))))

-- Nothing is lost unless the buffer was full: the record is whole if never more lay beyond the newest block than may wait.
abbrev pub IsWholeUnlessFull : Settings → Machine → Type 0
IsWholeUnlessFull settings machine =
    NeverTooMany settings (life_of machine.history) → RecordIsWhole settings machine

-- A gap mark at a place of the record belongs to a block: a new poll made this block, the record before the mark is what all
-- blocks before this one add to it, and the block says that entries were lost. When it was made, more transitions lay beyond
-- the end of the newest block than may wait.
pub record MarksLossAt (settings : Settings) (machine : Machine) (place : ℕ) : Type 0 where
  pub later : Life
  pub number : ℕ
  -- what had happened to the module when it received the poll
  pub earlier : Life
  pub at : life_of machine.history ≡ later ++ Commanded (commands.Poll number) ∷ earlier
  pub new : is_new (newest_poll earlier) number ≡ true
  pub before :
      take place (map piece_of machine.items) ≡ flat_map pieces_of (blocks_of settings earlier)
  pub said : (next_block settings earlier).lost ≡ true
  pub more : newest_end settings earlier + settings.waiting < length (log_of earlier)

-- conversely, each gap mark belongs to such a block, and so to a time
abbrev pub GapsNameTimes : Settings → Machine → Type 0
GapsNameTimes settings machine = (place : ℕ) →
    slice_get machine.items place ≡ Some items.Gap → MarksLossAt settings machine place

-- Poll often enough, and nothing is ever lost: the record is whole if the module is polled often from a time of its life on
-- at which nothing waits.
abbrev pub IsWholeWherePolledOften : Settings → Machine → Type 0
IsWholeWherePolledOften settings machine = (opened filter scans : ℕ) (life later : Life) →
    life_of machine.history ≡ later ++ life → NeverTooMany settings life →
    IsPolledOften settings opened filter scans life later → RecordIsWhole settings machine

-- the record is whole if the module is polled often by a plan, in which each input has the filters of its group
abbrev pub IsWholeWherePolledForEach : Settings → Machine → Type 0
IsWholeWherePolledForEach settings machine = (plan : Plan) (scans : ℕ) (life later : Life) →
    life_of machine.history ≡ later ++ life → NeverTooMany settings life →
    IsPolledForEach settings plan scans life later → RecordIsWhole settings machine

-- the record is whole after an outage for which the buffer has room
abbrev pub IsWholeAfterOutage : Settings → Machine → Type 0
IsWholeAfterOutage settings machine = (opened filter : ℕ) (life later : Life) →
    life_of machine.history ≡ later ++ life → NeverTooMany settings life →
    IsOutage settings opened filter life later → RecordIsWhole settings machine
