-- The blocks of a life, by their places in its transition log.
use Rattle.std.specs.Prelude.{ℕ, ◌+◌, ◌-◌, ◌==◌, Bool, true, not, List, [], ◌∷◌, ◌++◌, length, take, drop, min, max, nat_lt, Option, Some, None, if◌then◌else◌}
use Rattle.fio_message.specs.declared.commands.Command.TheVariants.{Poll}
use Rattle.fio_module.specs.Settings.{Settings}
use Rattle.fio_module.specs.Life.{Commanded, Life, counter_of, scans_of, loads_of}
use Rattle.fio_module.specs.Log.{Transition, log_of}

-- the number of the poll received last
abbrev pub newest_poll : Life → Option ℕ
newest_poll [] = None
newest_poll (Commanded (Poll number) ∷ life) = Some number
newest_poll (other ∷ life) = newest_poll life

-- whether a poll is new, given the poll received before it: it is the first, or its number differs
abbrev pub is_new : Option ℕ → ℕ → Bool
is_new None number = true
is_new (Some before) number = not (before == number)

-- a block that was made, and its place in the transition log
pub record MadeBlock : Type 0 where
  -- where the block before it ended, 0 for the first
  pub before : ℕ
  -- its transitions are those at the indexes from `start` up to but not including `end`
  pub start : ℕ
  pub end : ℕ
  pub transitions : List Transition
  -- F: some entries between `before` and `start` were pushed out of the buffer
  pub lost : Bool
  -- C: more entries waited than a block takes
  pub more : Bool
  -- the counter when it was made, and the numbers of scans and of loads of the counter up to then
  pub stamp : ℕ
  pub scans : ℕ
  pub loads : ℕ

-- the place of the oldest waiting entry, if the newest block ended at `before`
abbrev pub start_after : Settings → List Transition → ℕ → ℕ
start_after settings log before = max before (length log - settings.waiting)

-- how many entries a block takes, if the waiting ones begin at `start`
abbrev pub count_from : Settings → List Transition → ℕ → ℕ
count_from settings log start = min settings.per_block (length log - start)

-- the block that a new poll makes after a life, if the newest block ended at `before`
abbrev pub block_after : Settings → Life → ℕ → MadeBlock
block_after settings life before =
    let log = log_of life in
    let start = start_after settings log before in
    let count = count_from settings log start in
    record {
      before = before;
      start = start;
      end = start + count;
      transitions = take count (drop start log);
      lost = nat_lt before start;
      more = nat_lt settings.per_block (length log - start);
      stamp = counter_of life;
      scans = scans_of life;
      loads = loads_of life;
    }

-- where the last of these blocks ends, or `place` if there is none
abbrev pub last_end : ℕ → List MadeBlock → ℕ
last_end place [] = place
last_end place (block ∷ blocks) = last_end block.end blocks

-- where the last of these blocks ends, or 0 if there is none
abbrev pub end_of_blocks : List MadeBlock → ℕ
end_of_blocks blocks = last_end 0 blocks

-- the blocks of a life, oldest first: each new poll makes one, from the transition log as it was before the poll
abbrev pub blocks_of : Settings → Life → List MadeBlock
blocks_of settings [] = []
blocks_of settings (Commanded (Poll number) ∷ life) =
    let made = blocks_of settings life in
    if is_new (newest_poll life) number
    then made ++ block_after settings life (end_of_blocks made) ∷ []
    else made
blocks_of settings (other ∷ life) = blocks_of settings life

-- where the newest block ends
abbrev pub newest_end : Settings → Life → ℕ
newest_end settings life = end_of_blocks (blocks_of settings life)

-- the block that a new poll makes next
abbrev pub next_block : Settings → Life → MadeBlock
next_block settings life = block_after settings life (newest_end settings life)

-- the place of the oldest waiting entry
abbrev pub waiting_from : Settings → Life → ℕ
waiting_from settings life = start_after settings (log_of life) (newest_end settings life)

-- the transitions that wait
abbrev pub waiting_of : Settings → Life → List Transition
waiting_of settings life = drop (waiting_from settings life) (log_of life)
