-- What else holds at the end of every run without restarts. Two of these hold with restarts too: no old answer is taken, and
-- no answer is out of sequence.
use Rattle.std.specs.Prelude.{◌≡◌, ◌↔◌, ℕ, ◌+◌, ◌^◌, ◌<◌, ◌≤◌, ◌⊎◌, false, List, [], ◌∷◌, ◌++◌, map, length, take, None, if◌then◌else◌}
use Rattle.std.specs.List.{flat_map, AllZip}
use Rattle.fio_message.specs.Blocks.{Block}
use Rattle.fio_message.specs.Status.{says_out_of_sequence}
use Rattle.fio_module.specs.Settings.{Settings}
use Rattle.fio_module.specs.Life.{Life, life_of}
use Rattle.fio_module.specs.Log.{Transition, entry_of, log_of}
use Rattle.fio_module.specs.Blocks.{MadeBlock, blocks_of, newest_end, waiting_from, waiting_of}
use Rattle.fio_cpu.specs.declared.record.Item.{Item}
use Rattle.fio_cpu.specs.declared.record.Item.TheVariants as items
use Rattle.fio_link.specs.declared.event.Event.TheVariants.{ToCpu}
use Rattle.fio_link.specs.Link.{Machine, refusal, after}
use Rattle.fio_link.specs.Frames.{HasBlock, block_answers, repeats}
use Rattle.fio_link.specs.Pieces.{piece_of, pieces_of_blocks, ArePieces}

-- the blocks of the module's present life
abbrev pub blocks_in : Settings → Machine → List MadeBlock
blocks_in settings machine = blocks_of settings (life_of machine.history)

-- How far the record goes: the CPU has taken all blocks that the module has made, or all but the last, and the record is
-- what the taken blocks add to it.
pub record StandsAtTaken (settings : Settings) (machine : Machine) : Type 0 where
  pub behind :
      (machine.round ≡ length (blocks_in settings machine))
      ⊎ (machine.round + 1 ≡ length (blocks_in settings machine))
  pub items : map piece_of machine.items ≡ pieces_of_blocks machine.round (blocks_in settings machine)

-- What is not recorded of a life, apart from the block that is not yet taken, if there is one.
pub record RestIsLostOrWaits (settings : Settings) (life : Life) : Type 0 where
  -- all blocks, taken or not, are the log through the end of the newest, except for what was pushed out before a block that
  -- says so
  pub in_blocks :
      let blocks = blocks_of settings life in
      ArePieces settings life 0 (pieces_of_blocks (length blocks) blocks) (newest_end settings life)
  -- from there to the oldest waiting entry, entries were pushed out; there are such entries only if as many wait as may
  pub pushed_out : newest_end settings life ≤ waiting_from settings life
  pub only_when_full :
      newest_end settings life < waiting_from settings life
      → length (waiting_of settings life) ≡ settings.waiting
  -- the others wait
  pub rest_waits :
      waiting_from settings life + length (waiting_of settings life) ≡ length (log_of life)
  pub few_wait : length (waiting_of settings life) ≤ settings.waiting

-- No old answer is taken: a block answer that is delivered is taken exactly if its round is the CPU's, although the answer
-- carries only eight bits of it.
abbrev pub TakesPresentRound : Settings → ℕ → Machine → Type 0
TakesPresentRound settings first machine = (place : ℕ) (block : Block) (round : ℕ) →
    let delivery = ToCpu (place + 1) in
    HasBlock machine.to_cpu place block round → refusal machine delivery ≡ None →
    ((after settings first machine delivery).round ≡ machine.round + 1) ↔ (round ≡ machine.round)

-- No block answer says that its number is out of sequence.
abbrev pub IsInSequence : Machine → Type 0
IsInSequence machine = (place : ℕ) (block : Block) (round : ℕ) →
    HasBlock machine.to_cpu place block round → says_out_of_sequence block.status ≡ false

-- The block answers are those to the polls received, in order. Each says that its number was requested again exactly if the
-- poll received before had the same round.
abbrev pub SaysAgainWhereRepeated : Machine → Type 0
SaysAgainWhereRepeated machine = block_answers machine.to_cpu ≡ repeats machine.polls

-- the source of an item of the record: a loss, or a transition and the block that has it
pub data Source : Type 0 where
  Loss : Source
  From : (transition : Transition) → (block : MadeBlock) → Source

-- the sources in a block: a loss before it, if it says so, and its transitions
abbrev pub sources_of : MadeBlock → List Source
sources_of block =
    (if block.lost then Loss ∷ [] else [])
    ++ map (λ transition. From transition block) block.transitions

-- fewer than 65,536 scans, and no load of the counter, came between a transition and the making of the block that has it
pub record IsInTime (transition : Transition) (block : MadeBlock) : Type 0 where
  pub few_scans : block.scans < transition.scans + 2 ^ 16
  pub no_load : block.loads ≡ transition.loads

-- an item is from this source, and if its transition is in time, its wide time is the counter at that transition
abbrev pub IsTimed : Item → Source → Type 0
IsTimed items.Gap Loss = Unit {0}
IsTimed (items.Entry input level stamp wide) (From transition block) =
    (record { input = input; level = level; stamp = stamp } ≡ entry_of transition)
    × (IsInTime transition block → wide ≡ transition.counter)
IsTimed item source = ⊥

-- Times: the items of the record are, one by one, from the sources in the taken blocks, with their times.
abbrev pub HasTimes : Settings → Machine → Type 0
HasTimes settings machine =
    AllZip IsTimed machine.items
    (flat_map sources_of (take machine.round (blocks_in settings machine)))
