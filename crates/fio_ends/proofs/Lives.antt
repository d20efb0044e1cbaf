-- A life and those that go on from it: what stays, and what is since.
use Rattle.fio_ends.proofs.Names.{◌≡◌, ◌∙◌, ◌+◌, ◌-◌, ◌≤◌, inl, inr, ℕ, Bool, true, false, List, [], ◌∷◌, ◌++◌, length, Some, refl, ap, sym, arith, append-nil, append_assoc, if◌then◌else◌, slice_get, slice_get_within, AllByRecursion, LoadCounter, Poll, Command, Settings, Life, Occurrence, Scanned, LineSynced, Raised, Commanded, counter_events, loads_of, scans_of, Transition, log_of, MadeBlock, newest_poll, is_new, blocks_of, next_block, get_in_front, get_after_push, IsOfScan, cases_lt, get_in_back, later_log, of_scan, ticks_in, AskLoad, CounterEvent, Tick, loads_in-append, transitions_below}
use Rattle.fio_input.specs.Counter.{LineSync}
use Rattle.fio_ends.proofs.Following.{GoesOn, IsNoCommand, IsSince}

-- ---- the counter

pub counter_events-append : (more life : Life) → counter_events (more ++ life) ≡ counter_events more ++ counter_events life
counter_events-append [] life = refl
counter_events-append (Scanned raw ∷ more) life = ap (λ events. Tick ∷ events) (counter_events-append more life)
counter_events-append (LineSynced ∷ more) life = ap (λ events. LineSync ∷ events) (counter_events-append more life)
counter_events-append (Commanded (LoadCounter load) ∷ more) life = ap (λ events. AskLoad load ∷ events) (counter_events-append more life)
counter_events-append (other ∷ more) life = counter_events-append more life

ticks_in-append : (more events : List CounterEvent) → ticks_in (more ++ events) ≡ ticks_in more + ticks_in events
ticks_in-append [] events = omega arith
ticks_in-append (Tick ∷ more) events = let rest = ticks_in-append more events in omega arith
ticks_in-append (other ∷ more) events = ticks_in-append more events

-- ---- what stays

pub goes_on-scan : (before now : Life) (raw : ℕ) → GoesOn before now → GoesOn before (Scanned raw ∷ now)
goes_on-scan before now raw g = record { more = Scanned raw ∷ g.more; is = ap (λ life. Scanned raw ∷ life) g.is }

pub scans_more : (before now : Life) (g : GoesOn before now) → scans_of now ≡ ticks_in (counter_events g.more) + scans_of before
scans_more before now g = grind (arith, counter_events-append, ticks_in-append)

pub scans_grow : (before now : Life) → GoesOn before now → scans_of before ≤ scans_of now
scans_grow before now g = let ticks = scans_more before now g in omega arith

pub loads_grow : (before now : Life) → GoesOn before now → loads_of before ≤ loads_of now
loads_grow before now g = grind (arith, counter_events-append, loads_in-append)

pub log_grows : (before now : Life) → GoesOn before now → (more : List Transition) × (log_of now ≡ log_of before ++ more)
log_grows before now g = let l = later_log g.more before in (l.0, ap log_of g.is ∙ l.1)

-- these blocks begin with those
abbrev BeginWith : List MadeBlock → List MadeBlock → Type 0
BeginWith first blocks = (made : List MadeBlock) × (blocks ≡ first ++ made)

block-append : (first blocks : List MadeBlock) (block : MadeBlock) (new : Bool) → BeginWith first blocks
    → BeginWith first (if new then blocks ++ block ∷ [] else blocks)
block-append first blocks block true rest =
    (rest.0 ++ block ∷ [], ap (λ blocks. blocks ++ block ∷ []) rest.1 ∙ append_assoc first rest.0 (block ∷ []))
block-append first blocks block false rest = rest

blocks_of-append : (settings : Settings) (more life : Life) → BeginWith (blocks_of settings life) (blocks_of settings (more ++ life))
blocks_of-append settings [] life = ([], sym (append-nil (blocks_of settings life)))
blocks_of-append settings (Commanded (Poll number) ∷ more) life =
    block-append (blocks_of settings life) (blocks_of settings (more ++ life)) (next_block settings (more ++ life)) (is_new (newest_poll (more ++ life)) number)
    (blocks_of-append settings more life)
blocks_of-append settings (other ∷ more) life = blocks_of-append settings more life

pub blocks_grow : (settings : Settings) (before now : Life) → GoesOn before now → (made : List MadeBlock) × (blocks_of settings now ≡ blocks_of settings before ++ made)
blocks_grow settings before now g = let b = blocks_of-append settings g.more before in (b.0, ap (blocks_of settings) g.is ∙ b.1)

-- ---- what is since

-- a transition of a life was logged after an earlier one: at a scan, after this life
pub record IsLoggedSince (before now : Life) (transition : Transition) : Type 0 where
  pub raw : ℕ
  pub life : Life
  pub begun : GoesOn before life
  pub upto : GoesOn (Scanned raw ∷ life) now
  pub of_scan : IsOfScan 64 raw life transition

logged-more : (before now : Life) (occurrence : Occurrence) (transition : Transition) → IsLoggedSince before now transition
    → IsLoggedSince before (occurrence ∷ now) transition
logged-more before now occurrence transition l = record {
  raw = l.raw;
  life = l.life;
  begun = l.begun;
  upto = record { more = occurrence ∷ l.upto.more; is = ap (λ life. occurrence ∷ life) l.upto.is };
  of_scan = l.of_scan;
}

logged-append : (more before : Life) (k : ℕ) (transition : Transition) → length (log_of before) ≤ k
    → slice_get (log_of (more ++ before)) k ≡ Some transition → IsLoggedSince before (more ++ before) transition
logged-append [] before k transition since at = absurd (omega (arith, slice_get_within (log_of before) k transition at))
logged-append (Scanned raw ∷ more) before k transition since at =
    let life = more ++ before in
    let log = log_of life in
    let new = transitions_below 64 raw life in
    elim (cases_lt k (length log)) as (λ _. IsLoggedSince before (Scanned raw ∷ life) transition) [
      | inl old ↦
          logged-more before life (Scanned raw) transition
          (logged-append more before k transition since (get_in_front log new k transition old at))
      | inr now ↦
          record {
            raw = raw;
            life = life;
            begun = record { more = more; is = refl };
            upto = record { more = []; is = refl };
            of_scan = of_scan 64 raw life (k - length log) transition (get_in_back log new k transition now at);
          }
    ]
logged-append (other ∷ more) before k transition since at =
    logged-more before (more ++ before) other transition (logged-append more before k transition since at)

pub logged_since : (before now : Life) (k : ℕ) (transition : Transition) → GoesOn before now → length (log_of before) ≤ k
    → slice_get (log_of now) k ≡ Some transition → IsLoggedSince before now transition
logged_since before now k transition g since at = grind (arith, logged-append)

-- a block of a life was made after an earlier one, by a poll that the module received after this life
pub record IsMadeSince (settings : Settings) (before now : Life) (block : MadeBlock) : Type 0 where
  pub life : Life
  pub begun : GoesOn before life
  pub upto : GoesOn life now
  pub is : block ≡ next_block settings life

made-more : (settings : Settings) (before now : Life) (occurrence : Occurrence) (block : MadeBlock) → IsMadeSince settings before now block
    → IsMadeSince settings before (occurrence ∷ now) block
made-more settings before now occurrence block m = record {
  life = m.life;
  begun = m.begun;
  upto = record { more = occurrence ∷ m.upto.more; is = ap (λ life. occurrence ∷ life) m.upto.is };
  is = m.is;
}

made-new : (settings : Settings) (more before : Life) (number k : ℕ) (block : MadeBlock) (new : Bool)
    → (slice_get (blocks_of settings (more ++ before)) k ≡ Some block → IsMadeSince settings before (more ++ before) block)
    → slice_get (if new then blocks_of settings (more ++ before) ++ next_block settings (more ++ before) ∷ [] else blocks_of settings (more ++ before)) k ≡ Some block
    → IsMadeSince settings before (Commanded (Poll number) ∷ (more ++ before)) block
made-new settings more before number k block false rest at =
    made-more settings before (more ++ before) (Commanded (Poll number)) block (rest at)
made-new settings more before number k block true rest at =
    let life = more ++ before in
    elim (get_after_push (blocks_of settings life) (next_block settings life) k block at) as
    (λ _. IsMadeSince settings before (Commanded (Poll number) ∷ life) block) [
      | inl old ↦ made-more settings before life (Commanded (Poll number)) block (rest old)
      | inr new ↦
          record {
            life = life;
            begun = record { more = more; is = refl };
            upto = record { more = Commanded (Poll number) ∷ []; is = refl };
            is = new.1;
          }
    ]

made-append : (settings : Settings) (more before : Life) (k : ℕ) (block : MadeBlock) → length (blocks_of settings before) ≤ k
    → slice_get (blocks_of settings (more ++ before)) k ≡ Some block → IsMadeSince settings before (more ++ before) block
made-append settings [] before k block since at = absurd (omega (arith, slice_get_within (blocks_of settings before) k block at))
made-append settings (Commanded (Poll number) ∷ more) before k block since at =
    made-new settings more before number k block (is_new (newest_poll (more ++ before)) number) (λ at. made-append settings more before k block since at) at
made-append settings (other ∷ more) before k block since at =
    made-more settings before (more ++ before) other block (made-append settings more before k block since at)

pub made_since : (settings : Settings) (before now : Life) (k : ℕ) (block : MadeBlock) → GoesOn before now → length (blocks_of settings before) ≤ k
    → slice_get (blocks_of settings now) k ≡ Some block → IsMadeSince settings before now block
made_since settings before now k block g since at = grind (arith, made-append)

-- ---- since a command

none_commands : (settings : Settings) (more life : Life) → AllByRecursion IsNoCommand more → blocks_of settings (more ++ life) ≡ blocks_of settings life
none_commands settings [] life none = refl
none_commands settings (Scanned raw ∷ more) life none = none_commands settings more life none.1
none_commands settings (LineSynced ∷ more) life none = none_commands settings more life none.1
none_commands settings (Raised mask ∷ more) life none = none_commands settings more life none.1
none_commands settings (Commanded command ∷ more) life none = absurd none.0

pub goes_on-since : (command : Command) (before now : Life) → IsSince command before now → GoesOn before now
goes_on-since command before now s =
    record { more = s.more ++ (Commanded command ∷ []); is = s.is ∙ sym (append_assoc s.more (Commanded command ∷ []) before) }

-- the blocks since a command
pub blocks_since : (settings : Settings) (command : Command) (before now : Life) → IsSince command before now
    → blocks_of settings now ≡ blocks_of settings (Commanded command ∷ before)
blocks_since settings command before now s =
    ap (blocks_of settings) s.is ∙ none_commands settings s.more (Commanded command ∷ before) s.none
