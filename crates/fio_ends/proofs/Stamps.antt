-- The stamps that the CPU hears, and the scans when the module received their commands.
use Rattle.fio_ends.proofs.Names.{◌≡◌, ◌∙◌, ◌≤◌, ℕ, false, List, [], ◌∷◌, ◌++◌, length, Option, Some, refl, ap, sym, subst, arith, AllByRecursion, is_some_and, length-append, Answer, Command, Block, answered_block, Life, Occurrence, Commanded, life_of, scans_of, ContentFacts, Clock, Event, Machine, block_answer, breaks_answer, counter_of, is_before, option_and_then, scans_asked, scans_stamped, stamp_of, without_excuse}
use Rattle.fio_message.specs.declared.answers.Answer.TheVariants as answers
use Rattle.fio_ends.proofs.Answered.{Says}
use Rattle.fio_ends.proofs.Clocks.{clock, offset_of}
use Rattle.fio_ends.proofs.Following.{GoesOn, IsNoCommand, IsSince}

-- ---- the command that is answered

-- after the life itself no command came
pub none_since : (command : Command) (from life : Life) → IsSince command life from → GoesOn from life → ⊥
none_since command from life s g =
    let shorter = ap length s.is ∙ length-append s.more (Commanded command ∷ life) in
    let longer = ap length g.is ∙ length-append g.more from in
    absurd (omega arith)

-- what happens since a command is no command
pub since-back : (command : Command) (life now : Life) (occurrence : Occurrence) → IsNoCommand occurrence → IsSince command life (occurrence ∷ now)
    → IsSince command life now
since-back command life now occurrence quiet s = by s.more s.is s.none
  where
    by : (more : List Occurrence) → occurrence ∷ now ≡ more ++ (Commanded command ∷ life) → AllByRecursion IsNoCommand more → IsSince command life now
    by [] is none = (let same : occurrence ≡ Commanded command = cc is in absurd (subst IsNoCommand same quiet))
    by (first ∷ more) is none = (let rest : now ≡ more ++ (Commanded command ∷ life) = cc is in record { more = more; is = rest; none = none.1 })

-- since a command that came last there is no other
pub since-now : (command other : Command) (life now : Life) → IsSince command life (Commanded other ∷ now) → life ≡ now
since-now command other life now s = by s.more s.is s.none
  where
    by : (more : List Occurrence) → Commanded other ∷ now ≡ more ++ (Commanded command ∷ life) → AllByRecursion IsNoCommand more → life ≡ now
    by [] is none = cc is
    by (first ∷ more) is none = (let same : Commanded other ≡ first = cc is in absurd (subst IsNoCommand (sym same) none.0))

-- ---- what is kept

-- what the rule reads of the events above: the scans at which the command sent last was received, and
-- those of the latest stamp
pub record ClockState : Type 0 where
  pub asked : ℕ
  pub before : Option ℕ

abbrev pub clock_after : ClockState → Machine → Event → ClockState
clock_after state machine event = record {
  asked = scans_asked machine state.asked event;
  before = scans_stamped machine state.asked state.before event;
}

-- the latest stamp
pub record IsStamped (offset : ℕ) (from : Life) (before : Option ℕ) (stamp : ℕ) : Type 0 where
  pub scans : ℕ
  pub before_is : before ≡ Some scans
  pub time : stamp ≡ clock offset scans
  pub within : scans ≤ scans_of from

pub record KeepsClock (begin : Life) (state : ClockState) (from : Life) (machine : Machine) (facts : ContentFacts) : Type 0 where
  pub stamped : (stamp : ℕ) → facts.clock ≡ Some stamp → IsStamped (offset_of begin) from state.before stamp

-- the command sent last was received after a life with so many scans
abbrev pub IsAsked : ℕ → Life → Machine → Type 0
IsAsked asked from machine = machine.last_to_module ≡ length machine.to_module → (command : Command) (life : Life) → IsSince command life (life_of machine.history)
    → GoesOn from life → asked ≡ scans_of life

-- ---- an answer

pub clock_is : (facts : ContentFacts) (answer : Answer)
    → breaks_answer (without_excuse facts) answer Clock ≡ is_some_and (stamp_of answer) (λ stamp. is_some_and facts.clock (is_before stamp))
clock_is facts (answers.Status flags receive transmit stamp) = refl
clock_is facts other = refl

pub none_before : (stamp above : Option ℕ) → ((s c : ℕ) → stamp ≡ Some s → above ≡ Some c → is_before s c ≡ false)
    → is_some_and stamp (λ s. is_some_and above (is_before s)) ≡ false
none_before stamp above kept = grind arith

-- the stamp of an answer is the counter after the life
pub stamp_says : (life : Life) (command : Command) (answer : Answer) → Says life command answer → (stamp : ℕ) → stamp_of answer ≡ Some stamp → stamp ≡ counter_of life
stamp_says life other answer says stamp is = grind arith

-- of the block that a frame has
pub block_stamp : (found : Option Answer) (block : Block) → answered_block found ≡ Some block → option_and_then stamp_of found ≡ stamp_of (block_answer block)
block_stamp found block is = grind arith
