-- Stretches of the log of a right module, under any CPU whose numbers rise: any frames may be missing, the module may be restarted, and
-- its counter may be loaded.
use Rattle.std.specs.Prelude.{◌≡◌, ℕ, ◌+◌, ◌-◌, ◌%◌, ◌<◌, ◌≤◌, Bool, true, false, List, [], ◌∷◌, ◌++◌, drop, length, map, take, Option, Some, None, option_map}
use Rattle.std.specs.Option.{option_map_or}
use Rattle.fio_message.specs.Answers.{answer_octets}
use Rattle.fio_message.specs.Bits.{bit_of}
use Rattle.fio_message.specs.Commands.{command_octets}
use Rattle.fio_message.specs.Decoding.{block_in, command_in, poll_in}
use Rattle.fio_message.specs.Blocks.{Block}
use Rattle.fio_message.specs.declared.commands.Command.{Command}
use Rattle.fio_message.specs.declared.commands.Command.TheVariants.{Poll}
use Rattle.fio_message.specs.declared.fields.Entry.{Entry}
use Rattle.fio_module.specs.Life.{Commanded, Event, History, Received, Restart, life_of}
use Rattle.fio_module.specs.Log.{entry_of, log_of, whole_log}
use Rattle.fio_module.specs.Replies.{reply_to}
use Rattle.fio_module.specs.Sendings.{Sending, latest_sending}
use Rattle.fio_module.specs.Settings.{AreInRange, Settings}
use Rattle.fio_check.specs.Stretches.{does_go_back, is_same_block, no_stretches, seam_of, stretches_with, told_block}
use Rattle.fio_check.specs.declared.seam.ToldBlock.{ToldBlock}
use Rattle.fio_check.specs.declared.stretches.LogStretches.{LogStretches}
use Rattle.fio_check.specs.declared.stretches.Seam.{Seam}

-- ---- stretches of a log

-- a frame of a log: its time, if it has one, and whether it is believed if it is a block
pub record LogFrame : Type 0 where
  pub time : Option ℕ
  pub octets : List ℕ
  pub is_believed : Bool

-- a stretch: whether its first block says that transitions are lost above it, and the entries of its blocks
pub record Stretch : Type 0 where
  pub is_lost : Bool
  pub entries : List Entry

-- what is kept below the frames of a log, the newest first
abbrev pub stretches_kept_below : List LogFrame → LogStretches
stretches_kept_below [] = no_stretches
stretches_kept_below (frame ∷ frames) = stretches_with (stretches_kept_below frames) frame.time frame.octets frame.is_believed

-- the entries of a block, unless it is the latest one again
abbrev pub entries_unless : Bool → Option Block → Option (List Entry)
entries_unless true block = None
entries_unless false block = option_map (λ (b : Block). b.entries) block

-- the entries that an answer adds, if it is a block
abbrev pub entries_told : LogStretches → List ℕ → Option ToldBlock → Option (List Entry)
entries_told kept octets None = None
entries_told kept octets (Some told) = entries_unless (is_same_block kept told octets) (block_in octets)

-- the entries that a frame adds, if it is a block answer
abbrev pub entries_added : LogStretches → List ℕ → Option Command → Option (List Entry)
entries_added kept octets (Some command) = None
entries_added kept octets None = entries_told kept octets (told_block octets)

-- stretches, the newest first, below a block with these entries; with a seam another one begins
abbrev pub stretches_with_seam : Option Seam → List Entry → List Stretch → List Stretch
stretches_with_seam (Some seam) entries stretches = record { is_lost = seam.is_lost; entries = entries } ∷ stretches
stretches_with_seam None entries [] = record { is_lost = false; entries = entries } ∷ []
stretches_with_seam None entries (stretch ∷ stretches) = record stretch { entries = stretch.entries ++ entries } ∷ stretches

-- stretches below a frame that adds these entries, if it is a block
abbrev pub stretches_with_entries : Option Seam → Option (List Entry) → List Stretch → List Stretch
stretches_with_entries seam None stretches = stretches
stretches_with_entries seam (Some entries) stretches = stretches_with_seam seam entries stretches

-- the stretches of a log, the newest first
abbrev pub stretches_of : List LogFrame → List Stretch
stretches_of [] = []
stretches_of (frame ∷ frames) =
    stretches_with_entries (seam_of (stretches_kept_below frames) frame.octets frame.is_believed)
    (entries_added (stretches_kept_below frames) frame.octets (command_in frame.octets)) (stretches_of frames)

-- ---- a module and its log, newest first

-- how an answer stands in a log
pub record Note : Type 0 where
  pub time : Option ℕ
  pub is_believed : Bool

-- what happens to a module, and what of that is in a log
pub data ModuleStep : Type 0 where
  -- A poll comes, of a round: its number is that of the round modulo 256. Its answer may be in the log.
  Polled : (round : ℕ) → (noted : Option Note) → ModuleStep
  -- anything else reaches the module
  Happened : (event : Event) → ModuleStep
  -- a frame that is no block answer is in the log
  Logged : (frame : LogFrame) → ModuleStep

-- all that reaches the module
abbrev pub history_in : List ModuleStep → History
history_in [] = []
history_in (Polled round noted ∷ steps) = Received (command_octets (Poll (round % 256))) ∷ history_in steps
history_in (Happened event ∷ steps) = event ∷ history_in steps
history_in (Logged frame ∷ steps) = history_in steps

-- the octets of the answer to a poll of a round
abbrev pub answer_to_round : Settings → List ModuleStep → ℕ → List ℕ
answer_to_round settings steps round =
    option_map_or answer_octets (reply_to settings (history_in steps) (command_octets (Poll (round % 256)))) []

-- the log, below another one of older frames
abbrev pub log_with_answer : List ℕ → Option Note → List LogFrame → List LogFrame
log_with_answer octets None frames = frames
log_with_answer octets (Some noted) frames = record { time = noted.time; octets = octets; is_believed = noted.is_believed } ∷ frames

-- the log
abbrev pub log_in : Settings → List ModuleStep → List LogFrame
log_in settings [] = []
log_in settings (Polled round noted ∷ steps) = log_with_answer (answer_to_round settings steps round) noted (log_in settings steps)
log_in settings (Happened event ∷ steps) = log_in settings steps
log_in settings (Logged frame ∷ steps) = frame ∷ log_in settings steps

-- ---- what is asked of it

-- the round of the latest poll since the module started
abbrev pub latest_round : List ModuleStep → Option ℕ
latest_round [] = None
latest_round (Polled round noted ∷ steps) = Some round
latest_round (Happened Restart ∷ steps) = None
latest_round (other ∷ steps) = latest_round steps

-- a round is not below the latest one
abbrev pub IsNotBelow : Option ℕ → ℕ → Type 0
IsNotBelow None round = Unit {0}
IsNotBelow (Some latest) round = latest ≤ round

-- an event that is no poll
abbrev pub IsNoPoll : Event → Type 0
IsNoPoll (Received octets) = poll_in octets ≡ None
IsNoPoll event = Unit {0}

-- All polls are told with their rounds, which never fall while the module lives, and all block answers of the log with their polls.
abbrev pub NumbersRise : List ModuleStep → Type 0
NumbersRise [] = Unit {0}
NumbersRise (Polled round noted ∷ steps) = IsNotBelow (latest_round steps) round × NumbersRise steps
NumbersRise (Happened event ∷ steps) = IsNoPoll event × NumbersRise steps
NumbersRise (Logged frame ∷ steps) = (told_block frame.octets ≡ None) × NumbersRise steps

-- the latest block in a log
pub record LatestBlock : Type 0 where
  -- the round of its poll
  pub round : ℕ
  pub stamp : ℕ
  -- the module was restarted since
  pub is_restarted : Bool

-- the stamp of the answer to a poll of a round
abbrev pub stamp_at_round : Settings → List ModuleStep → ℕ → ℕ
stamp_at_round settings steps round =
    option_map_or (λ (sending : Sending). sending.stamp)
    (latest_sending settings (Commanded (Poll (round % 256)) ∷ life_of (history_in steps))) 0

-- the latest block, below an answer that may be in the log
abbrev pub latest_in_log_with : ℕ → ℕ → Option Note → Option LatestBlock → Option LatestBlock
latest_in_log_with round stamp None latest = latest
latest_in_log_with round stamp (Some noted) latest = Some (record { round = round; stamp = stamp; is_restarted = false })

-- the latest block in the log
abbrev pub latest_in : Settings → List ModuleStep → Option LatestBlock
latest_in settings [] = None
latest_in settings (Polled round noted ∷ steps) =
    latest_in_log_with round (stamp_at_round settings steps round) noted (latest_in settings steps)
latest_in settings (Happened Restart ∷ steps) =
    option_map (λ (latest : LatestBlock). record latest { is_restarted = true }) (latest_in settings steps)
latest_in settings (other ∷ steps) = latest_in settings steps

-- a block with this stamp
abbrev pub stamped : ℕ → ToldBlock
stamped stamp = record { stamp = stamp; entries = 0; number = 0; status = 0 }

-- a stamp below another one shows that the module was restarted: it goes back, and the counter did not end between the two
abbrev pub ShowsRestart : ℕ → ℕ → Type 0
ShowsRestart above stamp = does_go_back (stamped above) (stamped stamp) ≡ true

-- what is asked of a block below the latest one, by whether the module was restarted between
abbrev pub IsNearInLog : Bool → LatestBlock → ℕ → ℕ → Type 0
IsNearInLog true latest round stamp = ShowsRestart latest.stamp stamp
IsNearInLog false latest round stamp = round < latest.round + 256

-- of a block in the log
abbrev pub IsNearLatest : Option LatestBlock → ℕ → ℕ → Type 0
IsNearLatest None round stamp = Unit {0}
IsNearLatest (Some latest) round stamp = IsNearInLog latest.is_restarted latest round stamp

-- of an answer, if it is in the log
abbrev pub IsNearIfNoted : Option Note → Option LatestBlock → ℕ → ℕ → Type 0
IsNearIfNoted None latest round stamp = Unit {0}
IsNearIfNoted (Some noted) latest round stamp = IsNearLatest latest round stamp

-- Each block in the log is near the one above it: fewer than 255 numbers are between the two; or if the module was restarted between,
-- the stamp shows it.
abbrev pub AreNearInLog : Settings → List ModuleStep → Type 0
AreNearInLog settings [] = Unit {0}
AreNearInLog settings (Polled round noted ∷ steps) =
    IsNearIfNoted noted (latest_in settings steps) round (stamp_at_round settings steps round) × AreNearInLog settings steps
AreNearInLog settings (other ∷ steps) = AreNearInLog settings steps

-- the log of a right module
pub record IsModuleLog (settings : Settings) (steps : List ModuleStep) : Type 0 where
  pub in_range : AreInRange settings
  pub rise : NumbersRise steps
  pub near : AreNearInLog settings steps

-- ---- the law

-- The entries of a stretch are those of the transitions from one place of the list of all lives up to another, both of the life at one
-- time.
pub record IsPieceOfLife (history : History) (stretch : Stretch) (start end : ℕ) : Type 0 where
  pub later : History
  pub earlier : History
  pub at : history ≡ later ++ earlier
  pub begins : length (whole_log earlier) ≤ start + length (log_of (life_of earlier))
  pub in_order : start ≤ end
  pub within : end ≤ length (whole_log earlier)
  pub entries : stretch.entries ≡ map entry_of (take (end - start) (drop start (whole_log earlier)))

-- Stretches, the newest first, are pieces up to this place, and each ends where the next one begins or before; if the next one says
-- that transitions are lost, at least one is between.
abbrev pub PiecesRise : History → ℕ → List Stretch → Type 0
PiecesRise history place [] = Unit {0}
PiecesRise history place (stretch ∷ stretches) =
    (start end : ℕ) × (end ≤ place) × (bit_of stretch.is_lost ≤ start) × IsPieceOfLife history stretch start end
    × PiecesRise history (start - bit_of stretch.is_lost) stretches

-- The stretches of such a log are pieces of the list of all transitions, and rise.
unfoldable pub StretchesArePieces : Type 0
StretchesArePieces = (settings : Settings) (steps : List ModuleStep) → IsModuleLog settings steps →
    PiecesRise (history_in steps) (length (whole_log (history_in steps))) (stretches_of (log_in settings steps))

-- ---- the other half

-- whether the answer to a poll of a round says that transitions are lost above it
abbrev pub is_lost_at_round : Settings → List ModuleStep → ℕ → Bool
is_lost_at_round settings steps round =
    option_map_or (λ (sending : Sending). sending.lost)
    (latest_sending settings (Commanded (Poll (round % 256)) ∷ life_of (history_in steps))) false

-- A block goes on from the latest one: the module was not restarted between, no number is between, and the stamp shows no restart.
abbrev pub StretchGoesOn : Option LatestBlock → ℕ → ℕ → Type 0
StretchGoesOn None round stamp = Unit {0}
StretchGoesOn (Some latest) round stamp =
    (latest.is_restarted ≡ false) × (round ≤ latest.round + 1) × (ShowsRestart latest.stamp stamp → ⊥)

-- so does an answer, if it is in the log; it is believed, and says that nothing is lost
abbrev pub GoesOnIfNoted : Option Note → Option LatestBlock → ℕ → ℕ → Bool → Type 0
GoesOnIfNoted None latest round stamp is_lost = Unit {0}
GoesOnIfNoted (Some noted) latest round stamp is_lost =
    StretchGoesOn latest round stamp × (is_lost ≡ false) × (noted.is_believed ≡ true)

-- each block in the log goes on from the one above it
abbrev pub BlocksGoOn : Settings → List ModuleStep → Type 0
BlocksGoOn settings [] = Unit {0}
BlocksGoOn settings (Polled round noted ∷ steps) =
    GoesOnIfNoted noted (latest_in settings steps) round (stamp_at_round settings steps round) (is_lost_at_round settings steps round)
    × BlocksGoOn settings steps
BlocksGoOn settings (other ∷ steps) = BlocksGoOn settings steps

-- Where numbers go on, no block says that transitions are lost, each is believed, and no stamp shows a restart, it is one stretch.
unfoldable pub OneStretchGoesOn : Type 0
OneStretchGoesOn = (settings : Settings) (steps : List ModuleStep) → IsModuleLog settings steps → BlocksGoOn settings steps →
    length (stretches_of (log_in settings steps)) ≤ 1
