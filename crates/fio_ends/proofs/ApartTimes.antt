-- The time of the latest entry of each input, and what is asked of the next one.
use Rattle.fio_ends.proofs.Names.{◌≡◌, ◌∙◌, ◌+◌, ◌^◌, ◌<◌, ◌≤◌, ◌&&◌, ◌⊎◌, inl, inr, ℕ, Bool, true, false, not, List, [], ◌∷◌, ◌++◌, length, Option, Some, None, refl, ap, subst, arith, append-nil, if◌then◌else◌, flat_map, flat_map-append, slice_get, nat_lt, is_some_and, Settings, Life, life_of, log_of, Transition, MadeBlock, blocks_of, ContentFacts, InputAbove, FilterPair, Machine, get_before_push, BlocksAreNear, InputsAreNear, blocks_taken, filter_to, filter_towards, input_with_entry, latest_with, milliseconds_between}
use Rattle.fio_ends.proofs.BlockPlaces.{end_at}
use Rattle.fio_ends.proofs.Clocks.{between_clocks, clock, offset_of}
use Rattle.fio_ends.proofs.Fulls.{KeepsFull}
use Rattle.fio_ends.proofs.Fulls as fulls
use Rattle.fio_ends.proofs.Shut.{ShutHolds}
use Rattle.fio_ends.proofs.LeastFilters.{AreNoMore, KeepsLeast}
use Rattle.fio_ends.proofs.Settled.{setting_of}

-- ---- what is asked of the blocks

-- the entries of blocks
abbrev pub entries_in : List MadeBlock → List Transition
entries_in blocks = flat_map (λ block. block.transitions) blocks

-- the scans of the latest entry of each input below entries
abbrev pub latest_after : (ℕ → Option ℕ) → List Transition → ℕ → Option ℕ
latest_after latest [] = latest
latest_after latest (transition ∷ transitions) = latest_after (latest_with latest transition) transitions

abbrev pub none_yet : ℕ → Option ℕ
none_yet input = None

pub record AreNearByInput (above : Option ℕ) (blocks : List MadeBlock) : Type 0 where
  pub blocks_near : BlocksAreNear above blocks
  pub near : InputsAreNear none_yet (entries_in blocks)

pub near_front : (latest : ℕ → Option ℕ) (front more : List Transition) → InputsAreNear latest (front ++ more) → InputsAreNear latest front
near_front latest [] more near = tt
near_front latest (transition ∷ front) more near = (near.0, near_front (latest_with latest transition) front more near.1)

pub near_back : (latest : ℕ → Option ℕ) (front more : List Transition) → InputsAreNear latest (front ++ more) → InputsAreNear (latest_after latest front) more
near_back latest [] more near = near
near_back latest (transition ∷ front) more near = near_back (latest_with latest transition) front more near.1

pub latest_after-append : (latest : ℕ → Option ℕ) (front more : List Transition) → latest_after latest (front ++ more) ≡ latest_after (latest_after latest front) more
latest_after-append latest [] more = refl
latest_after-append latest (transition ∷ front) more = latest_after-append (latest_with latest transition) front more

pub front_asked : (above : Option ℕ) (front more : List MadeBlock) → AreNearByInput above (front ++ more) → AreNearByInput above front
front_asked above front more a = record {
  blocks_near = fulls.near_front above front more a.blocks_near;
  near = near_front none_yet (entries_in front) (entries_in more)
      (subst (InputsAreNear none_yet) (flat_map-append (λ (block : MadeBlock). block.transitions) front more) a.near);
}

pub entries_with : (blocks : List MadeBlock) (block : MadeBlock) → entries_in (blocks ++ block ∷ []) ≡ entries_in blocks ++ block.transitions
entries_with blocks block =
    flat_map-append (λ (b : MadeBlock). b.transitions) blocks (block ∷ []) ∙ ap (λ more. entries_in blocks ++ more) (append-nil block.transitions)

pub near_last : (blocks : List MadeBlock) (block : MadeBlock) → InputsAreNear none_yet (entries_in (blocks ++ block ∷ []))
    → InputsAreNear (latest_after none_yet (entries_in blocks)) block.transitions
near_last blocks block near = near_back none_yet (entries_in blocks) block.transitions (subst (InputsAreNear none_yet) (entries_with blocks block) near)

-- ---- one entry

pub towards : (level : Bool) (pair : FilterPair) (input : ℕ) (life : Life) → AreNoMore pair (setting_of input life)
    → filter_towards level pair ≤ filter_to (setting_of input life) level
towards true pair input life a = a.trailing
towards false pair input life a = a.leading

pub far_enough : (offset earlier later filter : ℕ) → earlier + filter ≤ later → later < earlier + 2 ^ 32
    → nat_lt (milliseconds_between (clock offset earlier) (clock offset later)) filter ≡ false
far_enough offset earlier later filter apart near = grind (arith, between_clocks, clock)

pub none_near : (test : ℕ → Bool) (timely aged : Bool) (timed : Option ℕ)
    → (timely ≡ true → aged ≡ false → (time : ℕ) → timed ≡ Some time → test time ≡ false)
    → ((timely && not aged) && is_some_and timed test) ≡ false
none_near test timely aged timed kept = grind arith

-- ---- what is kept

-- the latest entry of an input, where it is known with its time
pub record IsTimed (offset : ℕ) (now : Life) (upto input : ℕ) (latest : Option ℕ) (time : ℕ) : Type 0 where
  pub place : ℕ
  pub transition : Transition
  pub at : slice_get (log_of now) place ≡ Some transition
  pub of_input : transition.input ≡ input
  pub below : place < upto
  pub time_is : time ≡ clock offset transition.scans
  pub latest_is : latest ≡ Some transition.scans

-- what is known of times, below a clear block
pub record KeepsTimes (settings : Settings) (begin now : Life) (upto round : ℕ) (latest : ℕ → Option ℕ) (facts : ContentFacts) : Type 0 where
  pub clear : facts.timely ≡ true → (length (log_of begin) ≤ upto) × (length (blocks_of settings begin) ≤ round)
  pub timed : (input : ℕ) → input < 64 → (time : ℕ) → (facts.inputs input).timed ≡ Some time
      → (facts.timely ≡ true) × IsTimed (offset_of begin) now upto input (latest input) time

-- what is kept of a machine
pub record KeepsApart (settings : Settings) (begin : Machine) (above : Option ℕ) (machine : Machine) (facts : ContentFacts) : Type 0 where
  pub full : KeepsFull settings begin above machine facts
  pub both : ShutHolds settings machine facts
  pub least : (input : ℕ) → input < 64
      → KeepsLeast (life_of machine.history) machine.to_module machine.last_to_module (end_at settings (life_of machine.history) machine.round) input (facts.inputs input).least
  pub times : KeepsTimes settings (life_of begin.history) (life_of machine.history) (end_at settings (life_of machine.history) machine.round) machine.round
      (latest_after none_yet (entries_in (blocks_taken settings begin machine))) facts

-- the log of a life goes on, or stays
pub timed-later : (offset : ℕ) (now later : Life) (more : List Transition) (upto upto_later input : ℕ) (latest latest_later : Option ℕ) (time : ℕ)
    → log_of later ≡ log_of now ++ more → upto ≤ upto_later → latest_later ≡ latest
    → IsTimed offset now upto input latest time → IsTimed offset later upto_later input latest_later time
timed-later offset now later more upto upto_later input latest latest_later time grown le same t = grind (arith, get_before_push)

pub times-later : (settings : Settings) (begin now later : Life) (more : List Transition) (upto upto_later round : ℕ) (latest latest_later : ℕ → Option ℕ) (facts : ContentFacts)
    → log_of later ≡ log_of now ++ more → upto ≤ upto_later → latest_later ≡ latest
    → KeepsTimes settings begin now upto round latest facts → KeepsTimes settings begin later upto_later round latest_later facts
times-later settings begin now later more upto upto_later round latest latest_later facts grown le same k = record {
  clear = λ is. (let c = k.clear is in (omega (arith, c.0), c.1));
  timed = λ input low time is.
      (let t = k.timed input low time is in
      (t.0, timed-later (offset_of begin) now later more upto upto_later input (latest input) (latest_later input) time grown le (ap (λ (f : ℕ → Option ℕ). f input) same) t.1));
}

-- ---- the CPU takes a block

-- an entry that is ahead of another of its input is of a later scan
pub ahead_of : (older newer : Transition) → (older.scans < newer.scans) ⊎ ((older.scans ≡ newer.scans) × (older.input < newer.input)) → older.input ≡ newer.input
    → older.scans < newer.scans
ahead_of older newer (inl less) same = less
ahead_of older newer (inr later) same = absurd (omega (arith, later.1, same))

-- what holds of an input holds of it with an entry more, or without
pub least_by : (here : Bool) (facts : ContentFacts) (level : Bool) (wide : ℕ) (above : InputAbove)
    → (if here then input_with_entry facts level wide above else above).least ≡ above.least
least_by true facts level wide above = refl
least_by false facts level wide above = refl

pub if_clear : (clear aged : Bool) (wide time : ℕ) → (if clear && not aged then Some wide else None) ≡ Some time → (clear ≡ true) × (aged ≡ false) × (wide ≡ time)
if_clear clear aged wide time is = grind arith
