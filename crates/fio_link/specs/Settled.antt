-- Settled points, from which delivery is counted: the CPU has taken all blocks, and nothing waits. The start is such a
-- point, and so is the end of each clean round after which nothing waits, also after restarts.
use Rattle.std.specs.Prelude.{◌≡◌, ◌↔◌, ℕ, zero, suc, ◌+◌, ◌-◌, ◌*◌, ◌%◌, ◌^◌, ◌<◌, ◌≤◌, List, [], ◌∷◌, ◌++◌, map, length, take, drop, Option, Some, None}
use Rattle.fio_module.specs.Settings.{Settings}
use Rattle.fio_module.specs.Life.{life_of, scans_of, loads_of}
use Rattle.fio_module.specs.Log.{Transition, entry_of, log_of}
use Rattle.fio_module.specs.Blocks.{newest_poll, end_of_blocks, waiting_of}
use Rattle.fio_cpu.specs.declared.record.Item.{Item}
use Rattle.fio_cpu.specs.declared.record.Item.TheVariants as items
use Rattle.fio_link.specs.declared.event.Event.{Event}
use Rattle.fio_link.specs.Link.{Machine, number_of, Leads}
use Rattle.fio_link.specs.Claims.{blocks_in}
use Rattle.fio_link.specs.Rounds.{next_round}
use Rattle.fio_link.specs.Pieces.{EntryPiece, piece_of}
use Rattle.fio_link.specs.Headline.{HaveNoRestart, end_taken}
use Rattle.fio_link.specs.Delivery.{clean_round, IsCleanRound}

-- the number of the newest of these polls, which are given newest first
abbrev pub newest_number : ℕ → List ℕ → Option ℕ
newest_number first [] = None
newest_number first (round ∷ older) = Some (number_of first round)

-- The CPU has taken all blocks: it has taken the answer to the newest poll that the module received, and that in the
-- module's present life.
pub record HasTakenAll (first : ℕ) (machine : Machine) : Type 0 where
  pub answered : next_round machine.polls ≡ machine.round
  pub present : newest_poll (life_of machine.history) ≡ newest_number first machine.polls

-- a settled point: the CPU has taken all blocks, and nothing waits
pub record IsSettled (settings : Settings) (first : ℕ) (machine : Machine) : Type 0 where
  pub all_taken : HasTakenAll first machine
  pub nothing_waits : waiting_of settings (life_of machine.history) ≡ []

-- how far the record goes in the present life's log: to the end of its blocks, without a last one that the CPU has not taken
abbrev pub end_recorded : Settings → Machine → ℕ
end_recorded settings machine =
    let blocks = blocks_in settings machine in
    end_of_blocks (take (length blocks - (next_round machine.polls - machine.round)) blocks)

-- Without restarts, the CPU has taken all blocks exactly if its round is the number of blocks made, and the record goes to
-- the end of the last block taken.
pub record StandsWithoutRestart (settings : Settings) (first : ℕ) (machine : Machine) : Type 0 where
  pub all : HasTakenAll first machine ↔ (machine.round ≡ length (blocks_in settings machine))
  pub end : end_recorded settings machine ≡ end_taken settings machine

-- after one clean round the CPU has taken all blocks
abbrev pub CleanRoundTakesAll : Settings → ℕ → Machine → Type 0
CleanRoundTakesAll settings first machine = (receipt later : Machine) →
    IsCleanRound settings first machine receipt later → HasTakenAll first later

-- Some events without a restart lead from one machine to another. Polls, commands and deliveries, with losses and repeats,
-- come in any way.
pub record LeadsOn (settings : Settings) (first : ℕ) (machine later : Machine) : Type 0 where
  pub events : List Event
  pub no_restart : HaveNoRestart events
  pub leads : Leads settings first machine events later

-- at most `scans` scans reached the module from one machine to another
abbrev pub IsWithin : ℕ → Machine → Machine → Type 0
IsWithin scans earlier now =
    scans_of (life_of now.history) ≤ scans_of (life_of earlier.history) + scans

-- such events lead to a machine that comes at most `scans` scans after an earlier one
pub record LeadsInTime (settings : Settings) (first scans : ℕ) (earlier machine later : Machine)
    : Type 0 where
  pub leads_on : LeadsOn settings first machine later
  pub in_time : IsWithin scans earlier later

-- the CPU has taken all blocks again, and at least one more block was made
pub record MakesBlock (settings : Settings) (first : ℕ) (machine last : Machine) : Type 0 where
  pub one_more : length (blocks_in settings machine) < length (blocks_in settings last)
  pub all_taken : HasTakenAll first last

-- after a time at which the CPU had taken all blocks, each clean round, with what came before it since then, makes a block
abbrev pub RoundsMakeBlocks : Settings → ℕ → Machine → Type 0
RoundsMakeBlocks settings first machine = (begin receipt last : Machine) →
    HasTakenAll first machine → LeadsOn settings first machine begin →
    IsCleanRound settings first begin receipt last → MakesBlock settings first machine last

-- a transition as an item of the record, with the counter at its scan
abbrev pub timed_item : Transition → Item
timed_item transition =
    items.Entry
    transition.input
    transition.level
    (transition.counter % 2 ^ 16)
    transition.counter

-- the transitions logged since a machine, as far as the record goes
abbrev pub transitions_arrived : Settings → Machine → Machine → List Transition
transitions_arrived settings machine last =
    drop (length (log_of (life_of machine.history)))
    (take (end_recorded settings last) (log_of (life_of last.history)))

-- since a machine, the record has gained these transitions, each once and in order, and no gap mark
abbrev pub HasGainedAll : Settings → Machine → Machine → Type 0
HasGainedAll settings machine last =
    map piece_of last.items
    ≡ map piece_of machine.items
    ++ map (λ transition. EntryPiece (entry_of transition)) (transitions_arrived settings machine last)

-- They are gained with their times, if no load of the counter took effect and none can be 65,536 scans late because the
-- blocks are never more than `most` scans behind.
abbrev pub HaveTheirTimes : Settings → ℕ → ℕ → Machine → Machine → Type 0
HaveTheirTimes settings filter most machine last =
    loads_of (life_of last.history) ≡ loads_of (life_of machine.history) →
    most + filter ≤ 65537 →
    last.items ≡ machine.items ++ map timed_item (transitions_arrived settings machine last)

-- this many clean rounds, with nothing between their steps, lead from one machine to another
abbrev pub CleanRounds : Settings → ℕ → ℕ → Machine → Machine → Type 0
CleanRounds settings first zero machine last = last ≡ machine
CleanRounds settings first (suc n) machine last =
    (next : Machine) × Leads settings first machine (clean_round machine) next
    × CleanRounds settings first n next last

-- at a settled point the record goes through the end of the transition log, which is still that of the machine `before`
pub record HasCaughtUp (settings : Settings) (first : ℕ) (before machine : Machine) : Type 0 where
  pub same_log : log_of (life_of machine.history) ≡ log_of (life_of before.history)
  pub settled : IsSettled settings first machine
  pub recorded : end_recorded settings machine ≡ length (log_of (life_of machine.history))

-- If at most k times `per_block` entries wait, the CPU has caught up after k + 1 clean rounds with nothing between their
-- steps.
abbrev pub CleanRoundsCatchUp : Settings → ℕ → Machine → Type 0
CleanRoundsCatchUp settings first machine = 1 ≤ settings.waiting → (k : ℕ) →
    length (waiting_of settings (life_of machine.history)) ≤ k * settings.per_block →
    (later : Machine) × CleanRounds settings first (suc k) machine later
    × HasCaughtUp settings first machine later
