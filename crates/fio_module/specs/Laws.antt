-- Laws of lives.
use Rattle.std.specs.Prelude.{◌≡◌, ℕ, ◌≤◌, ◌<◌, ◌-◌, Bool, true, false, List, [], ◌∷◌, ◌++◌, map, length, take, drop, fold, nat_lt, Some, option_map, if◌then◌else◌}
use Rattle.fio_message.specs.declared.commands.Command.TheVariants.{Poll}
use Rattle.fio_module.specs.Settings.{Settings}
use Rattle.fio_module.specs.Life.{History, Life, Occurrence, Scanned, Commanded, life_of}
use Rattle.fio_module.specs.Log.{Transition, entry_of, log_of, whole_log, transitions_below}
use Rattle.fio_module.specs.Blocks.{MadeBlock, is_new, newest_poll, blocks_of, newest_end, next_block, waiting_of}
use Rattle.fio_module.specs.Sendings.{Sending, latest_sending}
use Rattle.fio_message.specs.declared.limits.TheConstants.{INPUTS}

-- the waiting entries after one more: if as many waited as may, the oldest is pushed out
abbrev pub with_waiting : ℕ → List Transition → Transition → List Transition
with_waiting limit waiting transition =
    if nat_lt (length waiting) limit
    then waiting ++ transition ∷ []
    else drop 1 (waiting ++ transition ∷ [])

-- a scan adds each of its transitions to the end of the waiting entries, one after another
abbrev pub ScansAddWaiting : Type 0
ScansAddWaiting =
    (settings : Settings) (life : Life) (raw : ℕ) →
    let joining = transitions_below INPUTS raw life in
    waiting_of settings (Scanned raw ∷ life)
    ≡ fold (with_waiting settings.waiting) (waiting_of settings life) joining

-- a new poll takes the oldest of the waiting entries
abbrev pub NewPollsTakeWaiting : Type 0
NewPollsTakeWaiting =
    (settings : Settings) (life : Life) (number : ℕ) →
    is_new (newest_poll life) number ≡ true →
    waiting_of settings life
    ≡ (next_block settings life).transitions ++ waiting_of settings (Commanded (Poll number) ∷ life)

-- whether something that happens may change which entries wait: a scan or a new poll
abbrev pub changes_waiting : Life → Occurrence → Bool
changes_waiting life (Scanned raw) = true
changes_waiting life (Commanded (Poll number)) = is_new (newest_poll life) number
changes_waiting life other = false

-- everything else leaves the waiting entries unchanged
abbrev pub OthersLeaveWaiting : Type 0
OthersLeaveWaiting =
    (settings : Settings) (life : Life) (occurrence : Occurrence) →
    changes_waiting life occurrence ≡ false →
    waiting_of settings (occurrence ∷ life) ≡ waiting_of settings life

-- the block has a part of the transition log, and says whether entries were left out before it
pub record IsPartOf (log : List Transition) (per_block : ℕ) (block : MadeBlock) : Type 0 where
  pub forward : block.before ≤ block.start
  pub ends : block.start ≤ block.end
  pub few : block.end - block.start ≤ per_block
  pub within : block.end ≤ length log
  pub transitions : block.transitions ≡ take (block.end - block.start) (drop block.start log)
  pub lost : block.lost ≡ nat_lt block.before block.start

-- each block begins from where the one before it ended, and the first from the place `before`
abbrev pub FollowOneAnother : List Transition → ℕ → ℕ → List MadeBlock → Type 0
FollowOneAnother log per_block before [] = Unit {0}
FollowOneAnother log per_block before (block ∷ blocks) =
    (block.before ≡ before) × IsPartOf log per_block block
    × FollowOneAnother log per_block block.end blocks

-- the blocks follow one another through the present transition log
abbrev pub BlocksFollow : Type 0
BlocksFollow =
    (settings : Settings) (life : Life) →
    FollowOneAnother (log_of life) settings.per_block 0 (blocks_of settings life)

-- blocks lie within the transition log
abbrev pub BlocksEndWithin : Type 0
BlocksEndWithin =
    (settings : Settings) (life : Life) → newest_end settings life ≤ length (log_of life)

-- what a sending says agrees with the block
pub record Carries (sending : Sending) (block : MadeBlock) : Type 0 where
  pub entries : sending.entries ≡ map entry_of block.transitions
  pub more : sending.more ≡ block.more
  pub lost : sending.lost ≡ block.lost
  pub stamp : sending.stamp ≡ block.stamp

-- the answer to the latest poll, repeated or not, carries the newest block
abbrev pub SendingsCarry : Type 0
SendingsCarry =
    (settings : Settings) (life : Life) (sending : Sending) →
    latest_sending settings life ≡ Some sending →
    (earlier : List MadeBlock) × (block : MadeBlock)
    × (blocks_of settings life ≡ earlier ++ block ∷ []) × Carries sending block

-- after a poll there is a latest sending, and it has the poll's number
abbrev pub SendingsAnswerPolls : Type 0
SendingsAnswerPolls =
    (settings : Settings) (life : Life) →
    newest_poll life ≡ option_map (λ sending. sending.number) (latest_sending settings life)

-- the transition log of the present life is the end of the log of all lives
abbrev pub LifeEndsLog : Type 0
LifeEndsLog =
    (history : History) →
    (earlier : List Transition) × (whole_log history ≡ earlier ++ log_of (life_of history))

-- if more may wait than a block takes, F implies C: after a loss, entries remain waiting after the block
abbrev pub LossesLeaveMore : Type 0
LossesLeaveMore =
    (settings : Settings) (life : Life) → settings.per_block < settings.waiting →
    (next_block settings life).lost ≡ true → (next_block settings life).more ≡ true
