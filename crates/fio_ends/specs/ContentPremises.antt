-- What a log must fulfil, so that the rules on content that read times accuse no right link.
use Rattle.std.specs.Prelude.{◌≡◌, ℕ, ◌+◌, ◌^◌, ◌<◌, ◌==◌, Bool, ◌≤◌, ◌&&◌, ◌||◌, true, false, List, [], ◌∷◌, Option, Some, None, drop, is_some, length, nat_lt, not, option_and_then, slice_get, take, if◌then◌else◌}
use Rattle.std.specs.List.{flat_map, list_any}
use Rattle.fio_message.specs.declared.commands.Command.TheVariants.{LoadCounter}
use Rattle.fio_message.specs.Decoding.{answer_in, block_in}
use Rattle.fio_module.specs.Settings.{Settings}
use Rattle.fio_module.specs.Life.{life_of, loads_of, scans_of}
use Rattle.fio_module.specs.Log.{Transition}
use Rattle.fio_module.specs.Blocks.{MadeBlock}
use Rattle.fio_check.specs.ContentSaid.{stamp_of, states_heard}
use Rattle.fio_check.specs.ContentEvents.{Heard}
use Rattle.fio_link.specs.Claims.{blocks_in}
use Rattle.fio_link.specs.declared.event.Event.{Event}
use Rattle.fio_link.specs.declared.event.Event.TheVariants.{Send, ToCpu, ToModule}
use Rattle.fio_link.specs.Link.{Machine, after, item_numbered}

-- how many loads of the counter an event sends
abbrev pub loads_sent : Event → ℕ
loads_sent (Send (LoadCounter load)) = 1
loads_sent event = 0

-- at each of these events, no more loads of the counter have taken effect since the module started than this number plus those
-- that are sent in the events above it
abbrev pub LoadsAreSent : Settings → ℕ → ℕ → Machine → List Event → Type 0
LoadsAreSent settings first most machine [] = Unit {0}
LoadsAreSent settings first most machine (event ∷ events) =
    (loads_of (life_of machine.history) ≤ most)
    × LoadsAreSent settings first (most + loads_sent event) (after settings first machine event) events

-- No more loads of the counter take effect in a log than are sent in it. One that was sent before takes no effect in it; or one
-- that is sent in it takes none. A log that begins with both ends always fulfils this.
abbrev pub NoMoreLoads : Bool → Settings → ℕ → Machine → List Event → Type 0
NoMoreLoads begun settings first machine events =
    begun ≡ false → LoadsAreSent settings first (loads_of (life_of machine.history)) machine events

-- the blocks that the CPU takes between two machines of a run
abbrev pub blocks_taken : Settings → Machine → Machine → List MadeBlock
blocks_taken settings begin last = drop begin.round (take last.round (blocks_in settings last))

-- fewer than 2^31 scans lie between these, if there are any, and those
abbrev pub IsNear : Option ℕ → ℕ → Type 0
IsNear None scans = Unit {0}
IsNear (Some before) scans = scans < before + 2 ^ 31

-- the scans of what is above a log: none if it begins with the start of both ends
abbrev pub scans_above : Bool → Option ℕ
scans_above begun = if begun then Some 0 else None

-- the scans of the latest block without C below a block
abbrev pub scans_below : Option ℕ → MadeBlock → Option ℕ
scans_below before block = if block.more then before else Some block.scans

-- each of these blocks is made near the latest block without C before it
abbrev pub BlocksAreNear : Option ℕ → List MadeBlock → Type 0
BlocksAreNear before [] = Unit {0}
BlocksAreNear before (block ∷ blocks) =
    IsNear before block.scans × BlocksAreNear (scans_below before block) blocks

-- ---- successive stamps

-- after an event, the number of scans when the module received the command sent last
abbrev pub scans_asked : Machine → ℕ → Event → ℕ
scans_asked machine asked (ToModule index) =
    if index == length machine.to_module then scans_of (life_of machine.history) else asked
scans_asked machine asked other = asked

-- the CPU hears an answer with a stamp, other than a repeated block
abbrev pub hears_stamp : Machine → Event → Bool
hears_stamp machine (ToCpu index) = is_some (option_and_then (λ frame. option_and_then stamp_of (answer_in frame.octets)) (item_numbered machine.to_cpu index))
hears_stamp machine other = false

-- after an event, the scans of the latest stamp that the CPU has heard: their number when the module received the command
abbrev pub scans_stamped : Machine → ℕ → Option ℕ → Event → Option ℕ
scans_stamped machine asked before event = if hears_stamp machine event then Some asked else before

-- fewer than 2^31 scans lie between each stamp that the CPU hears at these events and the one before it
abbrev pub StampsAreNear : Settings → ℕ → Machine → ℕ → Option ℕ → List Event → Type 0
StampsAreNear settings first machine asked before [] = Unit {0}
StampsAreNear settings first machine asked before (event ∷ events) =
    (hears_stamp machine event ≡ true → IsNear before asked)
    × StampsAreNear settings first (after settings first machine event) (scans_asked machine asked event)
    (scans_stamped machine asked before event) events

-- ---- successive entries of an input

-- fewer than 2^32 scans lie between these, if there are any, and those
abbrev pub IsWithinAge : Option ℕ → ℕ → Type 0
IsWithinAge None scans = Unit {0}
IsWithinAge (Some before) scans = scans < before + 2 ^ 32

-- the scans of the latest entry of each input, with one entry more
abbrev pub latest_with : (ℕ → Option ℕ) → Transition → ℕ → Option ℕ
latest_with latest transition input =
    if input == transition.input then Some transition.scans else latest input

-- each entry comes fewer than 2^32 scans after the entry of its input before it
abbrev pub InputsAreNear : (ℕ → Option ℕ) → List Transition → Type 0
InputsAreNear latest [] = Unit {0}
InputsAreNear latest (transition ∷ transitions) =
    IsWithinAge (latest transition.input) transition.scans
    × InputsAreNear (latest_with latest transition) transitions

-- ---- the states that were asked for

-- the CPU hears the states of the inputs
abbrev pub hears_states : Machine → Event → Bool
hears_states machine (ToCpu index) =
    is_some (option_and_then (λ frame. option_and_then (λ answer. states_heard (Heard answer)) (answer_in frame.octets)) (item_numbered machine.to_cpu index))
hears_states machine other = false

-- the block that the CPU takes when it hears a block answer
abbrev pub block_taken : Settings → Machine → Event → Option MadeBlock
block_taken settings machine (ToCpu index) = option_and_then
    (λ frame. option_and_then (λ block. slice_get (blocks_in settings machine) machine.round) (block_in frame.octets))
    (item_numbered machine.to_cpu index)
block_taken settings machine other = None

-- an entry of a later scan is among these
abbrev pub is_later_among : ℕ → List Transition → Bool
is_later_among scans transitions = list_any (λ transition. nat_lt scans transition.scans) transitions

-- with a block the record comes to the states at this number of scans: an entry of the block is later, or the block has no C
-- and was made later
abbrev pub comes_with : ℕ → MadeBlock → Bool
comes_with scans block = is_later_among scans block.transitions || (not block.more && nat_lt scans block.scans)

-- the scans, if the record does not come to them with a block
abbrev pub scans_left : Option MadeBlock → Option ℕ → Option ℕ
scans_left None seen = seen
scans_left (Some block) None = None
scans_left (Some block) (Some scans) = if comes_with scans block then None else Some scans

-- after an event, the scans of the latest states that the CPU heard, until the record comes to them
abbrev pub scans_seen : Settings → Machine → ℕ → Option ℕ → Event → Option ℕ
scans_seen settings machine asked seen event =
    if hears_states machine event then Some asked else scans_left (block_taken settings machine event) seen

-- fewer than 2^31 scans lie between two moments
pub record AreNear (one other : ℕ) : Type 0 where
  pub after : one < other + 2 ^ 31
  pub before : other < one + 2 ^ 31

-- these entries are near the states, up to the first that is later
abbrev pub EntriesNearStates : ℕ → List Transition → Type 0
EntriesNearStates scans [] = Unit {0}
EntriesNearStates scans (transition ∷ transitions) =
    AreNear scans transition.scans × (transition.scans ≤ scans → EntriesNearStates scans transitions)

-- a block is near the states, if the record has not come to them above: its entries are, and so is the block itself, if no
-- entry is later
pub record IsNearStates (scans : ℕ) (block : MadeBlock) : Type 0 where
  pub entries : EntriesNearStates scans block.transitions
  pub made : is_later_among scans block.transitions ≡ false → block.more ≡ false → AreNear scans block.scans

-- each block that the CPU takes is near the states that it heard, until the record comes to them
abbrev pub StatesAreNear : Settings → ℕ → Machine → ℕ → Option ℕ → List Event → Type 0
StatesAreNear settings first machine asked seen [] = Unit {0}
StatesAreNear settings first machine asked seen (event ∷ events) =
    ((scans : ℕ) (block : MadeBlock) → seen ≡ Some scans → block_taken settings machine event ≡ Some block → IsNearStates scans block)
    × StatesAreNear settings first (after settings first machine event) (scans_asked machine asked event)
    (scans_seen settings machine asked seen event) events

-- ---- a log

-- what is compared in a log is near
pub record AreTimesNear (begun : Bool) (settings : Settings) (first : ℕ) (begin : Machine) (later : List Event) (last : Machine) : Type 0 where
  pub blocks : BlocksAreNear (scans_above begun) (blocks_taken settings begin last)
  pub stamps : StampsAreNear settings first begin 0 (scans_above begun) later
  pub inputs : InputsAreNear (λ input. None) (flat_map (λ block. block.transitions) (blocks_taken settings begin last))
  pub states : StatesAreNear settings first begin 0 None later

-- What the rules on time require of a log: no more loads of the counter take effect in it than are sent in it, and what is
-- compared is near.
pub record HasNearTimes (begun : Bool) (settings : Settings) (first : ℕ) (begin : Machine) (later : List Event) (last : Machine) : Type 0 where
  pub loads : NoMoreLoads begun settings first begin later
  pub near : AreTimesNear begun settings first begin later last
