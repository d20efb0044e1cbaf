-- Restarts of the CPU: nothing is lost if it keeps its number, and little if it begins with any number while no frame is
-- under way.
use Rattle.std.specs.Prelude.{◌≡◌, ℕ, ◌≤◌, ◌⊎◌, true, List, [], ◌∷◌, ◌++◌, map, length, drop, slice_get, Some, option_map}
use Rattle.std.specs.List.{flat_map, AllZip}
use Rattle.fio_message.specs.Blocks.{Block}
use Rattle.fio_message.specs.Status.{says_again}
use Rattle.fio_module.specs.Settings.{Settings, AreInRange}
use Rattle.fio_module.specs.Life.{life_of}
use Rattle.fio_module.specs.Log.{log_of}
use Rattle.fio_module.specs.Blocks.{MadeBlock, blocks_of}
use Rattle.fio_cpu.specs.declared.record.Item.{Item}
use Rattle.fio_link.specs.declared.event.Event.{Event}
use Rattle.fio_link.specs.Link.{SentFrame, Machine, start, Leads, IsRun}
use Rattle.fio_link.specs.Headline.{HaveNoRestart}
use Rattle.fio_link.specs.Frames.{HasBlock}
use Rattle.fio_link.specs.Pieces.{piece_of, pieces_of}
use Rattle.fio_link.specs.Claims.{blocks_in, IsTimed, sources_of}
use Rattle.fio_link.specs.Restarts.{TakenLife, AtEachRestart}
use Rattle.fio_link.specs.Settled.{timed_item}

-- The CPU begins again with the number that it had and an empty record. Frames under way stay under way.
abbrev pub with_kept_number : Machine → Machine
with_kept_number machine = record machine { items = [] }

-- one life of such a CPU: what happened in it, and its record at the end
pub record CpuLife : Type 0 where
  pub events : List Event
  pub items : List Item

-- these lives, one after another, lead from one machine to another
abbrev pub LivesLead : Settings → ℕ → Machine → List CpuLife → Machine → Type 0
LivesLead settings first machine [] last = last ≡ machine
LivesLead settings first machine (life ∷ lives) last =
    (ended : Machine) × Leads settings first (with_kept_number machine) life.events ended
    × (ended.items ≡ life.items) × LivesLead settings first ended lives last

-- A CPU that keeps its number loses and doubles nothing: the records of its lives, joined, are the record of one run of all
-- that happened. So what holds of the record of each run holds of them.
abbrev pub KeptNumberLosesNothing : Type 0
KeptNumberLosesNothing = (settings : Settings) (first : ℕ) (lives : List CpuLife) (last : Machine) →
    LivesLead settings first start lives last →
    IsRun settings first (flat_map (λ life. life.events) lives)
    (record last { items = flat_map (λ life. life.items) lives })

-- The CPU begins anew, with an empty record, and no frame is under way: what was sent before is never delivered.
abbrev pub with_new_cpu : Machine → Machine
with_new_cpu machine = record start { history = machine.history }

-- one life of such a CPU: its first number, which may be any, the events in it, and the machine at its end
pub record NewCpuLife : Type 0 where
  pub first : ℕ
  pub events : List Event
  pub last : Machine

-- such lives follow one another, beginning at this machine, and the module does not restart in them
abbrev pub LivesFollow : Settings → Machine → List NewCpuLife → Type 0
LivesFollow settings machine [] = Unit {0}
LivesFollow settings machine (life ∷ lives) =
    HaveNoRestart life.events × Leads settings life.first (with_new_cpu machine) life.events life.last
    × LivesFollow settings life.last lives

-- The blocks taken begin with the newest of those made before, and each answer to the CPU's first polls, among these frames,
-- says that its number was requested again.
pub record BeginsAgain (made before : List MadeBlock) (frames : List SentFrame) : Type 0 where
  pub newest : MadeBlock
  pub is_newest : made ≡ before ++ newest ∷ []
  pub again : (place : ℕ) (answer : Block) → HasBlock frames place answer 0 → says_again answer.status ≡ true

-- In one life the CPU takes one contiguous run of the module's blocks. It begins with the first block made in this life, or
-- with the newest one made before, and goes to the last block, or the one before it. The record is what these blocks add to
-- it, each entry with its time.
pub record TakesOneStretch (settings : Settings) (made : List MadeBlock) (life : NewCpuLife) (part : TakenLife)
    : Type 0 where
  pub of_module : part.life ≡ life_of life.last.history
  pub blocks : blocks_of settings part.life ≡ part.before ++ (part.taken ++ part.after)
  pub begins : (part.before ≡ made) ⊎ BeginsAgain made part.before life.last.to_cpu
  pub one_after : length part.after ≤ 1
  pub items : map piece_of life.last.items ≡ flat_map pieces_of part.taken
  pub times : AllZip IsTimed life.last.items (flat_map sources_of part.taken)

-- this holds of each life, if these blocks were made before the first
abbrev pub EachTakesOneStretch : Settings → List MadeBlock → List NewCpuLife → List TakenLife → Type 0
EachTakesOneStretch settings made [] parts = parts ≡ []
EachTakesOneStretch settings made (life ∷ lives) [] = ⊥
EachTakesOneStretch settings made (life ∷ lives) (part ∷ parts) =
    TakesOneStretch settings made life part × EachTakesOneStretch settings (blocks_in settings life.last) lives parts

-- A restart of the CPU gives up at most one block, the one after the last that the old life took, and takes at most one
-- block twice, the last.
pub record MissesOneAtMost (old new : TakenLife) : Type 0 where
  pub given_up : length (drop (length (old.before ++ old.taken)) new.before) ≤ 1
  pub twice : length (drop (length new.before) (old.before ++ old.taken)) ≤ 1

-- A CPU that begins anew, with any number and no frame under way, takes one contiguous run of blocks in each of its lives.
-- Each restart gives up at most one block, and takes at most one twice.
abbrev pub NewCpuTakesStretches : Type 0
NewCpuTakesStretches = (settings : Settings) (machine : Machine) (lives : List NewCpuLife) →
    AreInRange settings → LivesFollow settings machine lives →
    (parts : List TakenLife) × EachTakesOneStretch settings (blocks_in settings machine) lives parts
    × AtEachRestart MissesOneAtMost parts

-- With frames under way and its first number again, a CPU can lose transitions without a gap mark: its record has those at
-- these places of the module's log, and no gap mark.
pub record RecordsPlaces (settings : Settings) (first : ℕ) (places : List ℕ) : Type 0 where
  pub earlier : List Event
  pub machine : Machine
  pub is_run : IsRun settings first earlier machine
  pub events : List Event
  pub last : Machine
  pub no_restart : HaveNoRestart (earlier ++ events)
  pub leads : Leads settings first (record machine { round = 0; items = [] }) events last
  pub items :
      map Some last.items
      ≡ map (λ place. option_map timed_item (slice_get (log_of (life_of last.history)) place)) places
