-- With restarts: what the record has from each life of the module, and what a restart loses.
use Rattle.std.specs.Prelude.{◌≡◌, ℕ, ◌+◌, ◌-◌, ◌≤◌, ◌⊎◌, List, [], ◌∷◌, ◌++◌, map, length, take, drop}
use Rattle.std.specs.List.{flat_map, AllByRecursion, AllZip}
use Rattle.fio_module.specs.Settings.{Settings}
use Rattle.fio_module.specs.Life.{Restart, History, Life, life_of}
use Rattle.fio_module.specs.Log.{Transition, log_of}
use Rattle.fio_module.specs.Blocks.{MadeBlock, end_of_blocks, blocks_of, newest_end, waiting_from, waiting_of}
use Rattle.fio_module.specs.Delivery.{NeverTooMany}
use Rattle.fio_link.specs.Link.{Machine}
use Rattle.fio_link.specs.Pieces.{piece_of, pieces_of}
use Rattle.fio_link.specs.Claims.{sources_of, IsTimed}

-- the lives before the present one, oldest first
abbrev pub past_lives : History → List Life
past_lives [] = []
past_lives (Restart ∷ history) = past_lives history ++ life_of history ∷ []
past_lives (other ∷ history) = past_lives history

-- all lives of the module, oldest first: each restart begins one
abbrev pub lives_of : History → List Life
lives_of history = past_lives history ++ life_of history ∷ []

-- a life and its blocks in three parts: those that the CPU has taken, those before them, and those after them
pub record TakenLife : Type 0 where
  pub life : Life
  pub before : List MadeBlock
  pub taken : List MadeBlock
  pub after : List MadeBlock

-- the blocks taken are one contiguous run of those of the life: all of them, except perhaps the first, and perhaps the last
pub record IsOneStretch (settings : Settings) (part : TakenLife) : Type 0 where
  pub blocks : blocks_of settings part.life ≡ part.before ++ (part.taken ++ part.after)
  pub one_before : length part.before ≤ 1
  pub one_after : length part.after ≤ 1

-- the blocks taken, life by life
abbrev pub taken_in : List TakenLife → List MadeBlock
taken_in lives = flat_map (λ part. part.taken) lives

-- the transitions in blocks
abbrev pub transitions_of_blocks : List MadeBlock → List Transition
transitions_of_blocks blocks = flat_map (λ block. block.transitions) blocks

-- the transitions between the last block taken of one life and the first block taken of the next
abbrev pub between_taken : TakenLife → TakenLife → List Transition
between_taken old new =
    drop (end_of_blocks (old.before ++ old.taken)) (log_of old.life)
    ++ take (end_of_blocks new.before) (log_of new.life)

-- those of them that were not pushed out: the entries of the blocks not taken, and those that waited at the restart
abbrev pub kept_between : Settings → TakenLife → TakenLife → List Transition
kept_between settings old new =
    transitions_of_blocks old.after ++ (waiting_of settings old.life ++ transitions_of_blocks new.before)

-- how many entries were pushed out before these blocks, each count since the block before
abbrev pub pushed_out_before : List MadeBlock → ℕ
pushed_out_before [] = 0
pushed_out_before (block ∷ blocks) = (block.start - block.before) + pushed_out_before blocks

-- how many of those between were pushed out: before the blocks that were not taken, and since the newest block of the old
-- life
abbrev pub pushed_out_between : Settings → TakenLife → TakenLife → ℕ
pushed_out_between settings old new =
    (pushed_out_before old.after + (waiting_from settings old.life - newest_end settings old.life))
    + pushed_out_before new.before

-- What a restart loses without a gap mark: at most `waiting` + `per_block` transitions that were not pushed out, since the
-- CPU never misses both the last block before the restart and the first one after it; and the transitions that were pushed
-- out, of which there are none if never more lay beyond the newest block than may wait.
pub record LosesFew (settings : Settings) (old new : TakenLife) : Type 0 where
  pub not_both : (old.after ≡ []) ⊎ (new.before ≡ [])
  pub few : length (kept_between settings old new) ≤ settings.waiting + settings.per_block
  pub others :
      length (between_taken old new)
      ≡ length (kept_between settings old new) + pushed_out_between settings old new
  pub unless_full :
      NeverTooMany settings old.life → NeverTooMany settings new.life →
      pushed_out_between settings old new ≡ 0

-- this holds of each two successive lives
abbrev pub AtEachRestart : (TakenLife → TakenLife → Type 0) → List TakenLife → Type 0
AtEachRestart Holds [] = Unit {0}
AtEachRestart Holds (part ∷ []) = Unit {0}
AtEachRestart Holds (old ∷ new ∷ later) = Holds old new × AtEachRestart Holds (new ∷ later)

-- in the oldest life, the blocks taken begin with the first block
abbrev pub BeginsAtStart : List TakenLife → Type 0
BeginsAtStart [] = Unit {0}
BeginsAtStart (oldest ∷ later) = oldest.before ≡ []

-- Whatever restarts: from each life the CPU has taken one contiguous run of its blocks, and the record is what these blocks
-- add to it, life by life, each entry with its time.
pub record TakesStretchOfEachLife (settings : Settings) (machine : Machine) : Type 0 where
  pub lives : List TakenLife
  pub all : map (λ part. part.life) lives ≡ lives_of machine.history
  pub stretches : AllByRecursion (IsOneStretch settings) lives
  pub begins : BeginsAtStart lives
  pub items : map piece_of machine.items ≡ flat_map pieces_of (taken_in lives)
  pub times : AllZip IsTimed machine.items (flat_map sources_of (taken_in lives))
  -- what each restart loses
  pub restarts : AtEachRestart (LosesFew settings) lives
