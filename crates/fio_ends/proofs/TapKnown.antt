-- What is known of a tap on the line of a right link, and of the judge of its log that leaves late answers out.
use Rattle.fio_ends.proofs.Names.{◌≡◌, ◌⊎◌, ◌+◌, ◌≤◌, inl, inr, ℕ, Bool, true, false, List, ◌∷◌, length, Option, Some, None, refl, arith, slice_get, Checker, Command, HasBlock, HasPoll, IsCommand, Machine, MadeBlock, Nothing, RuleLimits, SentFrame, Settings, Skips, ToCommand, ToPoll, blocks_of, checker_below_breach, checker_below_lines, command_octets, life_of, next_round, number_of, sending_refusal, BLOCK_ANSWER, Block, checker_anywhere, HasPassed, Tap, last_passed, nat_tests}
use Rattle.fio_message.specs.declared.commands.Command.TheVariants as commands
use Rattle.fio_ends.proofs.LateJudges.{IsKnownLost}
use Rattle.fio_ends.proofs.LateKnown.{KnowsFacts}

-- ---- the tap

-- frames have passed in order, of those that were sent
pub record PassInOrder (sent : ℕ) (passed : List ℕ) : Type 0 where
  pub each : (index : ℕ) → HasPassed passed index → index ≤ last_passed passed
  pub last : last_passed passed ≤ sent

pub more_pass : (sent : ℕ) (passed : List ℕ) (index : ℕ) → last_passed passed ≤ index → index ≤ sent → PassInOrder sent passed
    → PassInOrder sent (index ∷ passed)
more_pass sent passed index le within order = grind (arith, nat_tests, inl, inr)

pub more_sent : (sent more : ℕ) (passed : List ℕ) → sent ≤ more → PassInOrder sent passed → PassInOrder more passed
more_sent sent more passed le order = record { each = order.each; last = (let last = order.last in omega arith) }

-- a frame that was sent to the module: a poll of its round, or another command
abbrev pub IsCommandFrame : ℕ → SentFrame → Type 0
IsCommandFrame first frame =
    (frame.octets ≡ command_octets (commands.Poll (number_of first frame.round)))
    ⊎ ((command : Command) × (sending_refusal command ≡ None) × IsCommand command × (frame.octets ≡ command_octets command))

-- the CPU's end has taken no block, or one of the round before, which has passed
abbrev pub HasTaken : List SentFrame → List ℕ → ℕ → Type 0
HasTaken frames passed now =
    (now ≡ 0) ⊎ ((place : ℕ) × (block : Block) × (round : ℕ) × HasPassed passed (place + 1) × HasBlock frames place block round × (now ≡ round + 1))

-- what a link with a tap keeps
pub record KeepsTap (first : ℕ) (machine : Machine) (tap : Tap) : Type 0 where
  pub commands_pass : PassInOrder (length machine.to_module) tap.to_module
  pub answers_pass : PassInOrder (length machine.to_cpu) tap.to_cpu
  pub to_module : machine.last_to_module ≤ last_passed tap.to_module
  pub to_cpu : machine.last_to_cpu ≤ last_passed tap.to_cpu
  pub sent : (place : ℕ) (frame : SentFrame) → slice_get machine.to_module place ≡ Some frame → IsCommandFrame first frame
  pub taken : HasTaken machine.to_cpu tap.to_cpu machine.round

-- ---- the judge

-- The latest block answer above was in time, and has C or not: it is that of the latest poll, or of the poll before, and no later one
-- has passed.
pub record IsAboveTap (blocks : List MadeBlock) (answers : List SentFrame) (passed : List ℕ) (round : ℕ) (answered more : Bool) : Type 0 where
  pub earlier : ℕ
  pub block : MadeBlock
  pub at_place : slice_get blocks earlier ≡ Some block
  pub same : block.more ≡ more
  pub near : round ≤ earlier + 1
  pub low : earlier ≤ round
  pub now : answered ≡ true → earlier ≡ round
  pub all : (place : ℕ) (b : Block) (r : ℕ) → HasPassed passed (place + 1) → HasBlock answers place b r → r ≤ earlier

-- The latest poll that has passed has this number: no poll of a round after it has passed or was received, none of a round before it
-- will pass.
pub record IsLatestTapped (first : ℕ) (frames answers : List SentFrame) (tap : Tap) (polls : List ℕ) (now : ℕ) (blocks : List MadeBlock)
    (above : Option Bool) (number : ℕ) (answered : Bool) : Type 0 where
  pub round : ℕ
  pub named : number ≡ number_of first round
  pub passed : (place n r : ℕ) → HasPassed tap.to_module (place + 1) → HasPoll frames place n r → r ≤ round
  pub ahead : (place n r : ℕ) → last_passed tap.to_module ≤ place + 1 → HasPoll frames place n r → round ≤ r
  pub received : next_round polls ≤ round + 1
  pub upto : round ≤ now
  pub more : (m : Bool) → above ≡ Some m → IsAboveTap blocks answers tap.to_cpu round answered m

pub record KnownTapped (limits : RuleLimits) (first : ℕ) (frames answers : List SentFrame) (tap : Tap) (polls : List ℕ) (now : ℕ) (blocks : List MadeBlock)
    (checker : Checker) (awaited polled : Option ℕ) (answered : Bool) : Type 0 where
  pub limited : checker.limits ≡ limits
  pub facts : KnowsFacts checker.skips checker.facts awaited polled answered
  pub latest : (n : ℕ) → polled ≡ Some n → IsLatestTapped first frames answers tap polls now blocks checker.facts.more n answered
  pub waits : awaited ≡ Some BLOCK_ANSWER → answered ≡ false

-- for a machine and a tap
abbrev pub TappedOf : Settings → RuleLimits → ℕ → Machine → Tap → Checker → Option ℕ → Option ℕ → Bool → Type 0
TappedOf settings limits first machine tap =
    KnownTapped limits first machine.to_module machine.to_cpu tap machine.polls machine.round (blocks_of settings (life_of machine.history))

-- the same of a latest poll, where no block is known above
pub none_tapped : (first : ℕ) (frames answers : List SentFrame) (tap : Tap) (polls : List ℕ) (now : ℕ) (blocks : List MadeBlock) (above : Option Bool) (number : ℕ)
    (answered : Bool) → IsLatestTapped first frames answers tap polls now blocks above number answered
    → (next : Bool) → IsLatestTapped first frames answers tap polls now blocks None number next
none_tapped first frames answers tap polls now blocks above number answered l next = grind (arith, nat_tests)

module _ (limits : RuleLimits) (first : ℕ) (frames answers : List SentFrame) (tap : Tap) (polls : List ℕ) (now : ℕ) (blocks : List MadeBlock) where
  abbrev Known : Checker → Option ℕ → Option ℕ → Bool → Type 0
  Known = KnownTapped limits first frames answers tap polls now blocks

  -- above the first line
  pub tapped_above : Known (checker_anywhere limits) None None false
  tapped_above = record { limited = refl; facts = (refl, (refl, refl)); latest = λ n is. absurd (cc is); waits = λ is. refl }

  -- below a breach
  pub tapped_broken : (checker : Checker) (awaited polled : Option ℕ) (answered : Bool) → Known checker awaited polled answered
      → Known (checker_below_breach checker.limits) awaited polled answered
  tapped_broken checker awaited polled answered k = record {
    limited = k.limited;
    facts = refl;
    latest = λ n is. none_tapped first frames answers tap polls now blocks checker.facts.more n answered (k.latest n is) answered;
    waits = k.waits;
  }

  -- where the place is lost
  pub tapped_lost : IsKnownLost Known
  tapped_lost checker awaited polled answered k = by checker.skips
    where
      by : (skips : Skips) → Known (checker_below_lines checker skips) awaited polled answered
      by ToCommand = k
      by Nothing = tapped_broken checker awaited polled answered k
      by ToPoll = tapped_broken checker awaited polled answered k
