-- The latest block without C: each entry that is still to be recorded was logged later than it was made.
use Rattle.fio_ends.proofs.Names.{◌||◌, ◌≡◌, ◌∙◌, ◌+◌, ◌^◌, ◌<◌, ◌≤◌, inl, inr, ℕ, Bool, true, false, List, [], ◌∷◌, ◌++◌, length, Option, Some, None, refl, ap, ap₂, sym, subst, arith, take, drop, if◌then◌else◌, slice_get, nat_le, nat_tests, is_some_and, Command, Block, says_again, says_more, Settings, AreInRange, Life, Occurrence, life_of, life_after_command, Scanned, LineSynced, Raised, scans_of, log_of, Transition, MadeBlock, blocks_of, blocks_in, ContentFacts, content_step, Ended, Event, SentFrame, Machine, after, after_delivery_to_module, after_taken, IsKept, command_in, end_of_blocks, log_of-with_command, length-append, get_in_front, each-at, BlockTimely, BlocksAreNear, IsNear, IsTimely, blocks_taken, blocks_timely, cases_lt, each-from_get, get_in_back, is_aging, is_far, scans_below, scans_now}
use Rattle.fio_ends.proofs.BlockPlaces.{end_at, is_next}
use Rattle.fio_ends.proofs.Clocks.{IsStamped, between_clocks, block_stamped, clock, offset_of}
use Rattle.fio_ends.proofs.ContentSteps.{IsKnown, IsPastBus, Takes, past_cases}
use Rattle.fio_ends.proofs.EntryTimes.{WaitBriefly}
use Rattle.fio_ends.proofs.EntryTimes as times
use Rattle.fio_ends.proofs.Following.{GoesOn}
use Rattle.fio_ends.proofs.Lives.{log_grows, logged_since, scans_grow}
use Rattle.fio_ends.proofs.Steady.{IsSteady}
use Rattle.fio_ends.proofs.Taken.{blocks_stay, taken_stay, taken_with}

-- ---- what is asked of the blocks

-- the scans of the latest block without C below blocks
abbrev pub scans_after : Option ℕ → List MadeBlock → Option ℕ
scans_after before [] = before
scans_after before (block ∷ blocks) = scans_after (scans_below before block) blocks

pub scans_after-append : (before : Option ℕ) (blocks : List MadeBlock) (block : MadeBlock)
    → scans_after before (blocks ++ block ∷ []) ≡ scans_below (scans_after before blocks) block
scans_after-append before [] block = refl
scans_after-append before (first ∷ blocks) block = scans_after-append (scans_below before first) blocks block

pub near_front : (before : Option ℕ) (front more : List MadeBlock) → BlocksAreNear before (front ++ more) → BlocksAreNear before front
near_front before [] more near = tt
near_front before (block ∷ front) more near = (near.0, near_front (scans_below before block) front more near.1)

pub near_last : (before : Option ℕ) (blocks : List MadeBlock) (block : MadeBlock) → BlocksAreNear before (blocks ++ block ∷ [])
    → IsNear (scans_after before blocks) block.scans
near_last before [] block near = near.0
near_last before (first ∷ blocks) block near = near_last (scans_below before first) blocks block near.1

-- ---- what is kept

-- below a clear block: the latest block without C, and each entry that is still to be recorded was logged later, and is in a
-- block that was made since the log began
pub record IsFull (settings : Settings) (begin now : Life) (upto round : ℕ) (before full : Option ℕ) : Type 0 where
  pub log : length (log_of begin) ≤ upto
  pub blocks : length (blocks_of settings begin) ≤ round
  pub scans : ℕ
  pub full_is : full ≡ Some (clock (offset_of begin) scans)
  pub before_is : before ≡ Some scans
  pub within : scans ≤ scans_of now
  pub ahead : (k : ℕ) (transition : Transition) → upto ≤ k → slice_get (log_of now) k ≡ Some transition → scans < transition.scans

-- of a machine, by the scans of what is above the log
abbrev pub KeepsFull : Settings → Machine → Option ℕ → Machine → ContentFacts → Type 0
KeepsFull settings begin above machine facts = facts.timely ≡ true
    → IsFull settings (life_of begin.history) (life_of machine.history) (end_at settings (life_of machine.history) machine.round) machine.round
    (scans_after above (blocks_taken settings begin machine)) facts.full

pub full-scan : (settings : Settings) (begin now : Life) (raw upto round : ℕ) (before full : Option ℕ) → IsFull settings begin now upto round before full
    → IsFull settings begin (Scanned raw ∷ now) upto round before full
full-scan settings begin now raw upto round before full f = grind (arith, nat_tests, log_of, cases_lt, inl, get_in_front, inr, scans_now, get_in_back)

-- the start of both ends counts as a block without C
pub full_begun : (settings : Settings) → IsFull settings [] [] 0 0 (Some 0) (Some 0)
full_begun settings = grind (arith, nat_tests)

-- where the log of the life stays, and more is recorded, or as much
pub full-same : (settings : Settings) (begin now later : Life) (upto upto_later round round_later : ℕ) (before before_later full : Option ℕ)
    → log_of later ≡ log_of now → scans_of later ≡ scans_of now → upto ≤ upto_later → round ≤ round_later → before_later ≡ before
    → IsFull settings begin now upto round before full → IsFull settings begin later upto_later round_later before_later full
full-same settings begin now later upto upto_later round round_later before before_later full log scans place further point f = grind (arith, nat_tests, slice_get)

-- ---- other events

pub scans-command : (command : Option Command) (life : Life) → scans_of (life_after_command command life) ≡ scans_of life
scans-command command life = grind arith

module _ (settings : Settings) (range : AreInRange settings) (first : ℕ) (begin : Machine) (above : Option ℕ) where
  quiet : (machine later : Machine) (facts : ContentFacts) (occurrence : Occurrence)
      → log_of (occurrence ∷ life_of machine.history) ≡ log_of (life_of machine.history) → scans_of (occurrence ∷ life_of machine.history) ≡ scans_of (life_of machine.history)
      → end_at settings (occurrence ∷ life_of machine.history) machine.round ≡ end_at settings (life_of machine.history) machine.round
      → KeepsFull settings begin above machine facts → facts.timely ≡ true
      → IsFull settings (life_of begin.history) (occurrence ∷ life_of machine.history) (end_at settings (occurrence ∷ life_of machine.history) machine.round) machine.round
      (scans_after above (blocks_taken settings begin machine)) facts.full
  quiet machine later facts occurrence log scans upto p clear =
      full-same settings (life_of begin.history) (life_of machine.history) (occurrence ∷ life_of machine.history) (end_at settings (life_of machine.history) machine.round) _ machine.round machine.round
      (scans_after above (blocks_taken settings begin machine)) _ facts.full log scans (omega (arith, upto)) (omega arith) refl (p clear)

  -- a scan, a line sync or raised flags
  pub full-happens : (machine : Machine) (facts : ContentFacts) (event : Event) → IsPastBus event → KeepsFull settings begin above machine facts
      → KeepsFull settings begin above (after settings first machine event) facts
  full-happens machine facts event past p = past_cases (λ event. KeepsFull settings begin above (after settings first machine event) facts)
      (λ raw. λ clear.
      full-scan settings (life_of begin.history) (life_of machine.history) raw (end_at settings (life_of machine.history) machine.round) machine.round
      (scans_after above (blocks_taken settings begin machine)) facts.full (p clear))
      (λ clear. quiet machine machine facts LineSynced refl refl refl p clear)
      (λ mask. λ clear. quiet machine machine facts (Raised mask) refl refl refl p clear)
      event past

  -- the module receives a frame
  pub full-receives : (machine : Machine) (facts : ContentFacts) (place : ℕ) (frame : SentFrame) → IsKept settings first machine
      → KeepsFull settings begin above machine facts → KeepsFull settings begin above (after_delivery_to_module settings machine (place + 1) (Some frame)) facts
  full-receives machine facts place frame k p clear =
      let now = life_of machine.history in
      let command = command_in frame.octets in
      let later = life_after_command command now in
      let few : machine.round ≤ length (blocks_in settings machine) = omega (arith, k.always.answers.behind, k.one_life.made) in
      let upto : end_at settings later machine.round ≡ end_at settings now machine.round = ap end_of_blocks (blocks_stay settings now command machine.round few) in
      full-same settings (life_of begin.history) now later (end_at settings now machine.round) (end_at settings later machine.round) machine.round machine.round
      (scans_after above (blocks_taken settings begin machine)) (scans_after above (drop begin.round (take machine.round (blocks_of settings later)))) facts.full
      (log_of-with_command command now) (scans-command command now) (omega (arith, upto)) (omega arith)
      (ap (scans_after above) (taken_stay settings range first begin (BlocksAreNear above) machine command k)) (p clear)

-- ---- the CPU takes a block

module _ (settings : Settings) (range : AreInRange settings) (first : ℕ) (begin : Machine) (above : Option ℕ)
    (from : Life) (machine : Machine) (place number : ℕ) (answer : Block) (block : MadeBlock)
    (known : IsKnown settings first begin from machine) (t : Takes settings first from machine place number answer block)
    (near : BlocksAreNear above (blocks_taken settings begin machine ++ block ∷ [])) (steady : IsSteady (life_of begin.history) (life_of machine.history)) where
  abbrev begin_life : Life
  begin_life = life_of begin.history

  abbrev now : Life
  now = life_of machine.history

  g : GoesOn begin_life now
  g = times.since_begin settings first begin from machine place number answer block known t

  abbrev before_block : Option ℕ
  before_block = scans_after above (blocks_taken settings begin machine)

  stamped : length (blocks_of settings begin_life) ≤ machine.round → IsStamped begin_life now g steady block
  stamped few = block_stamped begin_life now g steady settings block (times.made settings first begin from machine place number answer block known t few)

  -- a block that was made soon after the latest one without C has entries that waited briefly
  pub waits_briefly : (facts : ContentFacts) → IsFull settings begin_life now (end_at settings now machine.round) machine.round before_block facts.full
      → is_aging facts (Some answer.stamp) ≡ false → WaitBriefly block
  waits_briefly facts f young =
      each-from_get (λ transition. block.scans < transition.scans + 2 ^ 16) block.transitions (λ k transition at.
      (let next = is_next settings now machine.round block t.made in
      let later = f.ahead (block.start + k) transition (omega (arith, next.forward)) (next.logged k transition at) in
      let timely = each-at BlockTimely (blocks_of settings now) machine.round block (blocks_timely settings now) t.made in
      let within = (each-at (IsTimely block.stamp block.scans block.loads) block.transitions k transition timely at).scanned_before in
      let close : IsNear (Some f.scans) block.scans = subst (λ b. IsNear b block.scans) f.before_is (near_last above (blocks_taken settings begin machine) block near) in
      let between = between_clocks (offset_of begin_life) f.scans block.scans (omega (arith, later, within)) (omega (arith, close)) in
      let soon : is_far (clock (offset_of begin_life) f.scans) (clock (offset_of begin_life) block.scans) ≡ false =
      sym (ap₂ (λ full stamp. is_some_and full (λ f. is_far f stamp)) f.full_is (t.carried.stamp ∙ (stamped f.blocks).stamp)) ∙ young in
      let few = not_far _ soon in
      omega (arith, between, few, later)))
    where
      not_far : (n : ℕ) → nat_le (2 ^ 16) n ≡ false → n < 2 ^ 16
      not_far n is = grind (arith, nat_tests)

  -- below a block with C it is the same one
  pub full_more : (full : Option ℕ) → block.more ≡ true
      → IsFull settings begin_life now (end_at settings now machine.round) machine.round before_block full
      → IsFull settings begin_life now (end_at settings now (machine.round + 1)) (machine.round + 1)
      (scans_after above (drop begin.round (take (machine.round + 1) (blocks_of settings now)))) full
  full_more full more f =
      let next = is_next settings now machine.round block t.made in
      full-same settings begin_life now now (end_at settings now machine.round) (end_at settings now (machine.round + 1)) machine.round (machine.round + 1) before_block _ full
      refl refl (omega (arith, next.forward, next.ends, next.count)) (omega arith)
      (ap (scans_after above) (taken_with settings range first begin (BlocksAreNear above) machine place answer block known.rounds t.made)
      ∙ scans_after-append above (blocks_taken settings begin machine) block
      ∙ ap (λ (m : Bool). if m then before_block else Some block.scans) more) f

  -- below one without C that was made since the log began it is this one
  pub full_whole : length (blocks_of settings begin_life) ≤ machine.round → block.more ≡ false
      → IsFull settings begin_life now (end_at settings now (machine.round + 1)) (machine.round + 1)
      (scans_after above (drop begin.round (take (machine.round + 1) (blocks_of settings now)))) (Some answer.stamp)
  full_whole few all =
      let next = is_next settings now machine.round block t.made in
      let m = times.made settings first begin from machine place number answer block known t few in
      let ends = times.end_is settings first begin from machine place number answer block known t few all in
      let grown = log_grows begin_life m.life m.begun in
      let s = stamped few in
      let scans : block.scans ≡ scans_of m.life = ap (λ (b : MadeBlock). b.scans) m.is in
      record {
        log = omega (arith, ends, next.ends, ap length grown.1, length-append (log_of begin_life) grown.0);
        blocks = omega (arith, few);
        scans = block.scans;
        full_is = ap Some (t.carried.stamp ∙ s.stamp);
        before_is = ap (scans_after above) (taken_with settings range first begin (BlocksAreNear above) machine place answer block known.rounds t.made)
            ∙ scans_after-append above (blocks_taken settings begin machine) block
            ∙ ap (λ (m : Bool). if m then before_block else Some block.scans) all;
        within = s.upto;
        ahead = λ j later high there.
            (let l = logged_since m.life now j later m.upto (omega (arith, ends, next.ends, high)) there in
            let since = scans_grow m.life l.life l.begun in
            let scans_then = ap (λ (t : Transition). t.scans) l.of_scan.is in
            omega (arith, scans, since, scans_then));
      }

-- what is known below the block, by what is known above its end
module _ (settings : Settings) (range : AreInRange settings) (first : ℕ) (begin : Machine) (above : Option ℕ)
    (from : Life) (machine : Machine) (place number : ℕ) (answer : Block) (block : MadeBlock)
    (known : IsKnown settings first begin from machine) (t : Takes settings first from machine place number answer block)
    (near : BlocksAreNear above (blocks_taken settings begin machine ++ block ∷ [])) (steady : IsSteady (life_of begin.history) (life_of machine.history)) where
  same_if : (clear : Bool) (full : Option ℕ) → clear ≡ true → (if clear then full else None) ≡ full
  same_if true full is = refl
  same_if false full is = absurd (cc is)

  full-ended : (facts : ContentFacts) (more again : Bool) → says_more answer.status ≡ more → says_again answer.status ≡ again
      → KeepsFull settings begin above machine facts
      → KeepsFull settings begin above (after_taken machine place answer) (content_step facts (Ended answer.status answer.stamp))
  full-ended facts true again more_is again_is p = rw more_is (λ clear.
      subst (λ full. IsFull settings (life_of begin.history) (life_of machine.history) (end_at settings (life_of machine.history) (machine.round + 1)) (machine.round + 1)
      (scans_after above (blocks_taken settings begin (after_taken machine place answer))) full) (sym (same_if facts.timely facts.full clear))
      (full_more settings range first begin above from machine place number answer block known t near steady facts.full (sym t.carried.more ∙ more_is) (p clear)))
  full-ended facts false true more_is again_is p = rw (more_is, again_is) (λ clear.
      subst (λ full. IsFull settings (life_of begin.history) (life_of machine.history) (end_at settings (life_of machine.history) (machine.round + 1)) (machine.round + 1)
      (scans_after above (blocks_taken settings begin (after_taken machine place answer))) full) (sym (same_if facts.timely (Some answer.stamp) clear))
      (full_whole settings range first begin above from machine place number answer block known t near steady (p clear).blocks (sym t.carried.more ∙ more_is)))
  full-ended facts false false more_is again_is p = rw (more_is, again_is) (λ clear.
      subst (λ full. IsFull settings (life_of begin.history) (life_of machine.history) (end_at settings (life_of machine.history) (machine.round + 1)) (machine.round + 1)
      (scans_after above (blocks_taken settings begin (after_taken machine place answer))) full) (sym (same_if (facts.block_heard || facts.timely) (Some answer.stamp) clear))
      (full_whole settings range first begin above from machine place number answer block known t near steady
      (times.clear_few settings first begin from machine place number answer block known t again_is) (sym t.carried.more ∙ more_is)))

  pub full_ended : (facts : ContentFacts) → KeepsFull settings begin above machine facts
      → KeepsFull settings begin above (after_taken machine place answer) (content_step facts (Ended answer.status answer.stamp))
  full_ended facts p = full-ended facts (says_more answer.status) (says_again answer.status) refl refl p
