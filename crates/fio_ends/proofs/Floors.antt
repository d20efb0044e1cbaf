-- A floor: each entry that is still to be recorded comes after it.
use Rattle.fio_ends.proofs.Names.{◌≡◌, ◌≤◌, ◌&&◌, ◌||◌, ℕ, Bool, true, false, not, ◌∷◌, Option, Some, None, refl, ap, arith, slice_get, nat_tests, is_some_and, Settings, Life, life_of, Scanned, scans_of, log_of, Transition, ContentFacts, Machine, get_in_front, Floor, IsNear, blocks_taken, cases_lt, comes_after, get_in_back, is_later, is_out_of_order, is_stale, scans_now}
use Rattle.fio_ends.proofs.Ahead.{IsAhead, ahead_later}
use Rattle.fio_ends.proofs.BlockPlaces.{end_at}
use Rattle.fio_ends.proofs.Clocks.{clock, later_clock, offset_of}
use Rattle.fio_ends.proofs.Fulls.{KeepsFull, scans_after}

-- ---- one entry

-- a time comes after this floor
pub record IsBehind (floor : Floor) (input wide : ℕ) : Type 0 where
  pub in_order : is_out_of_order input wide floor ≡ false
  pub fresh : is_stale wide floor ≡ false

pub behind-none : (time wide input : ℕ) → is_later wide time ≡ true → IsBehind (record { time = time; input = None }) input wide
behind-none time wide input later = record { in_order = refl; fresh = ap (λ b. not b) later }

pub behind-some : (time wide above input : ℕ) → comes_after input wide above time ≡ true → IsBehind (record { time = time; input = Some above }) input wide
behind-some time wide above input behind = record { in_order = ap (λ b. not b) behind; fresh = refl }

pub or_true : (b : Bool) → (b || true) ≡ true
or_true true = refl
or_true false = refl

-- an entry that is ahead in scans and near comes after
pub behind : (offset : ℕ) (floor : Option ℕ) (scans : ℕ) (transition : Transition) → IsAhead floor scans transition
    → IsNear (Some scans) transition.scans
    → IsBehind (record { time = clock offset scans; input = floor }) transition.input (clock offset transition.scans)
behind offset floor scans transition ahead near = grind (arith, behind-none, behind-some, clock, later_clock, nat_tests, or_true)

-- so it keeps a rule of a floor
pub none_breaks : (test : Floor → Bool) (timely aged : Bool) (floor : Option Floor)
    → (timely ≡ true → aged ≡ false → (f : Floor) → floor ≡ Some f → test f ≡ false)
    → ((timely && not aged) && is_some_and floor test) ≡ false
none_breaks test timely aged floor kept = grind arith

-- ---- what is kept

-- a floor, no earlier than the latest block without C: each entry that is still to be recorded comes after it
pub record IsFloor (offset : ℕ) (now : Life) (upto : ℕ) (before : Option ℕ) (floor : Floor) : Type 0 where
  pub scans : ℕ
  pub time : floor.time ≡ clock offset scans
  pub low : (full : ℕ) → before ≡ Some full → full ≤ scans
  pub within : scans ≤ scans_of now
  pub ahead : (k : ℕ) (transition : Transition) → upto ≤ k → slice_get (log_of now) k ≡ Some transition → IsAhead floor.input scans transition

-- what is kept of a machine, by the scans of what is above the log
pub record KeepsFloor (settings : Settings) (begin : Machine) (above : Option ℕ) (machine : Machine) (facts : ContentFacts) : Type 0 where
  pub full : KeepsFull settings begin above machine facts
  pub floor : facts.timely ≡ true → (f : Floor) → facts.floor ≡ Some f
      → IsFloor (offset_of (life_of begin.history)) (life_of machine.history) (end_at settings (life_of machine.history) machine.round)
      (scans_after above (blocks_taken settings begin machine)) f

-- the floor stays where something happens
pub floor-scan : (offset : ℕ) (now : Life) (raw upto : ℕ) (before : Option ℕ) (floor : Floor) → IsFloor offset now upto before floor
    → IsFloor offset (Scanned raw ∷ now) upto before floor
floor-scan offset now raw upto before floor f = grind (arith, ahead_later, cases_lt, get_in_back, get_in_front, scans_now)

-- and where the log of the life stays, and more is recorded, or as much
pub floor-same : (offset : ℕ) (now later : Life) (upto upto_later : ℕ) (before before_later : Option ℕ) (floor : Floor)
    → log_of later ≡ log_of now → scans_of later ≡ scans_of now → upto ≤ upto_later → before_later ≡ before
    → IsFloor offset now upto before floor → IsFloor offset later upto_later before_later floor
floor-same offset now later upto upto_later before before_later floor log scans place point found = grind arith
