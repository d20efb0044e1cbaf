-- What is kept of the states that were asked for between the entries of a block that the CPU takes.
use Rattle.fio_ends.proofs.Names.{◌≡◌, ◌∙◌, ◌<◌, ◌≤◌, ℕ, Bool, true, false, List, [], length, drop, Option, Some, ap, sym, subst, arith, slice_get, Settings, Life, life_of, log_of, scans_of, Transition, MadeBlock, blocks_of, ContentFacts, Machine, SentFrame, get_in_front, AreNear, EntriesNearStates, Seen, drop_of_length-le, is_later_among, steady_state, is_set}
use Rattle.fio_ends.proofs.Alternating.{Alternate}
use Rattle.fio_ends.proofs.SteadyKept.{KeepsWatch}
use Rattle.fio_ends.proofs.EntryTimes.{WaitBriefly}
use Rattle.fio_ends.proofs.Fulls.{KeepsFull}
use Rattle.fio_ends.proofs.Following.{GoesOn}
use Rattle.fio_ends.proofs.Lives.{log_grows, logged_since, scans_grow}
use Rattle.fio_ends.proofs.SeenStates.{WatchAt}
use Rattle.fio_ends.proofs.SettledAgain.{MadeThen}
use Rattle.fio_ends.proofs.Watching.{state_of}
use Rattle.fio_ends.proofs.StateKnown.{IsPending, IsSeen, StateState, ShownHolds}
use Rattle.fio_ends.proofs.StateRule.{states_bit}

-- the states with what is known of the changes that are still to be recorded then
abbrev pub seen_with : (begin from : Life) (left : Option ℕ) (upto further : ℕ) (facts below : ContentFacts) (seen : Seen)
    (s : IsSeen begin from left upto facts seen)
    → ((input : ℕ) → input < 64 → WatchAt s.life further input below.clear (below.inputs input).hidden (steady_state (below.inputs input).watched))
    → IsSeen begin from left further below seen
seen_with begin from left upto further facts below seen s watch = record {
  life = s.life;
  begun = s.begun;
  goes_on = s.goes_on;
  stamp = s.stamp;
  levels = s.levels;
  left_is = s.left_is;
  watch = watch;
}

-- the states, and what is asked of the rest of the block
pub record SeenRest (now : Life) (frames : List SentFrame) (last : ℕ) (begin : Life) (state : StateState) (from : Life) (block : MadeBlock) (upto : ℕ) (rest : List Transition) (facts : ContentFacts) (seen : Seen)
    : Type 0 where
  pub is_seen : IsSeen begin from state.seen upto facts seen
  pub brief : WaitBriefly block
  pub timely : facts.timely ≡ true
  pub pending : IsPending now frames last upto facts is_seen.life
  pub near : EntriesNearStates (scans_of is_seen.life) rest
  pub later : is_later_among (scans_of is_seen.life) rest ≡ is_later_among (scans_of is_seen.life) block.transitions
  pub made : is_later_among (scans_of is_seen.life) block.transitions ≡ false → block.more ≡ false → AreNear (scans_of is_seen.life) block.scans

pub record KeepsRest (settings : Settings) (begin : Machine) (above : Option ℕ) (state : StateState) (from : Life) (machine : Machine) (block : MadeBlock) (upto : ℕ)
    (rest : List Transition) (facts : ContentFacts) : Type 0 where
  pub full : KeepsFull settings begin above machine facts
  pub made : MadeThen settings (life_of machine.history) block facts
  pub bright : facts.timely ≡ true → facts.clear ≡ true
  pub below : facts.timely ≡ true
      → (length (log_of (life_of begin.history)) ≤ upto) × (length (blocks_of settings (life_of begin.history)) ≤ machine.round)
  pub watch : (input : ℕ) → input < 64
      → KeepsWatch (life_of machine.history) machine.to_module machine.last_to_module upto input facts.clear (facts.inputs input).hidden (steady_state (facts.inputs input).watched)
  pub seen : (states : Seen) → facts.seen ≡ Some states → SeenRest (life_of machine.history) machine.to_module machine.last_to_module (life_of begin.history) state from block upto rest facts states
  pub shown : ShownHolds settings machine upto facts

-- an entry that is in the log of a life, or later
pub logged_in : (now life : Life) → GoesOn life now → (upto : ℕ) (transition : Transition) → slice_get (log_of now) upto ≡ Some transition
    → upto < length (log_of life) → slice_get (log_of life) upto ≡ Some transition
logged_in now life g upto transition at inside =
    let grown = log_grows life now g in
    get_in_front (log_of life) grown.0 upto transition inside (ap (λ log. slice_get log upto) (sym grown.1) ∙ at)

pub logged_after : (now life : Life) → GoesOn life now → (upto : ℕ) (transition : Transition) → slice_get (log_of now) upto ≡ Some transition
    → length (log_of life) ≤ upto → scans_of life < transition.scans
logged_after now life g upto transition at later =
    let l = logged_since life now upto transition g later at in
    let grown = scans_grow life l.life l.begun in
    let scans = ap (λ (t : Transition). t.scans) l.of_scan.is in
    omega (arith, grown, scans)

-- all is recorded up to the states: the state of a watched input is its state then
pub watched_then : (begin from : Life) (left : Option ℕ) (upto : ℕ) (facts : ContentFacts) (seen : Seen)
    (s : IsSeen begin from left upto facts seen) (input : ℕ) (level : Bool) → input < 64 → length (log_of s.life) ≤ upto
    → steady_state (facts.inputs input).watched ≡ Some level → level ≡ is_set seen.levels input
watched_then begin from left upto facts seen s input level low all is =
    let w = (s.watch input low).watched_ones level is in
    let none : drop upto (log_of s.life) ≡ [] = drop_of_length-le (log_of s.life) all in
    let same : level ≡ state_of input s.life = subst (λ log. Alternate input level log (state_of input s.life)) none w.alternate in
    same ∙ sym (states_bit s.life input low) ∙ ap (λ levels. is_set levels input) (sym s.levels)
