-- What is asked of the blocks that the CPU takes in a log is asked of those that it has taken so far.
use Rattle.fio_ends.proofs.Names.{◌≡◌, ◌∙◌, ◌+◌, ◌≤◌, ℕ, List, [], ◌∷◌, ◌++◌, length, take, drop, Option, Some, refl, ap, sym, subst, arith, append-nil, append_assoc, length-take, slice_get, slice_get_within, Block, Command, command_in, Settings, AreInRange, Life, life_of, life_after_command, MadeBlock, blocks_of, Event, Machine, Leads, HaveNoRestart, after, blocks_in, take_one_more, after_taken, IsKept, kept_all, carries_own, blocks_taken, drop-append-le, take-append-le, IsKeptByEvents, kept_in_life}
use Rattle.fio_link.specs.declared.event.Event.TheVariants as events
use Rattle.fio_ends.proofs.ContentSteps.{IsKnown, Takes}

-- the first blocks of a life stay the first
pub blocks_stay : (settings : Settings) (life : Life) (command : Option Command) (round : ℕ) → round ≤ length (blocks_of settings life)
    → take round (blocks_of settings (life_after_command command life)) ≡ take round (blocks_of settings life)
blocks_stay settings life command round few = grind (arith, take-append-le)

-- all blocks that the CPU has taken
abbrev all_taken : Settings → Machine → List MadeBlock
all_taken settings machine = take machine.round (blocks_in settings machine)

abbrev Adds : Settings → Machine → Machine → Type 0
Adds settings machine later = (more : List MadeBlock) × (all_taken settings later ≡ all_taken settings machine ++ more)

module _ (settings : Settings) (first : ℕ) (begin : Machine) (B : List MadeBlock → Type 0) where
  -- this is asked of the blocks taken in a log
  pub record Asks (machine : Machine) (later : List Event) : Type 0 where
    pub last : Machine
    pub leads : Leads settings first machine later last
    pub none : HaveNoRestart later
    pub asked : B (blocks_taken settings begin last)

  pub asks_on : (machine : Machine) (event : Event) (rest : List Event) → Asks machine (event ∷ rest) → Asks (after settings first machine event) rest
  asks_on machine event rest a = record { last = a.last; leads = a.leads.1; none = a.none.1; asked = a.asked }

module _ (settings : Settings) (range : AreInRange settings) (first : ℕ) where
  adds_rows : (begin : Machine) → IsKeptByEvents settings first (IsKept settings first) (Adds settings begin)
  adds_rows begin =
      record {
        scans = λ machine raw k a. a;
        syncs = λ machine k a. a;
        raises = λ machine mask k a. a;
        sends = λ machine command k number a. a;
        receives = λ machine place frame k le at a.
            let few : machine.round ≤ length (blocks_in settings machine) = omega (arith, k.always.answers.behind, k.one_life.made) in
            (a.0, blocks_stay settings (life_of machine.history) (command_in frame.octets) machine.round few ∙ a.1);
        passes = λ machine index k le a. a;
        takes = λ machine place answer k has a.
            let c = carries_own settings range first machine k.always k.one_life place answer machine.round has in (
              a.0 ++ c.block ∷ [],
              take_one_more (blocks_in settings machine) machine.round c.block c.is_made ∙ ap (λ taken. taken ++ c.block ∷ []) a.1
                  ∙ append_assoc (all_taken settings begin) a.0 (c.block ∷ []),
            );
      }

  -- a run adds to what was taken
  adds : (begin : Machine) (events : List Event) (last : Machine) → IsKept settings first begin
      → HaveNoRestart events → Leads settings first begin events last → Adds settings begin last
  adds begin events last k none leads =
      kept_in_life settings range first (Adds settings begin) (adds_rows begin) events begin last none leads k
      ([], sym (append-nil (all_taken settings begin)))

  module _ (begin : Machine) (B : List MadeBlock → Type 0) where
    -- the blocks taken with one more
    pub taken_with : (machine : Machine) (place : ℕ) (answer : Block) (block : MadeBlock) → begin.round ≤ machine.round
        → slice_get (blocks_in settings machine) machine.round ≡ Some block
        → blocks_taken settings begin (after_taken machine place answer) ≡ blocks_taken settings begin machine ++ block ∷ []
    taken_with machine place answer block low made =
        let blocks = blocks_in settings machine in
        let within = slice_get_within blocks machine.round block made in
        let long : begin.round ≤ length (take machine.round blocks) = omega (arith, length-take machine.round blocks) in
        ap (drop begin.round) (take_one_more blocks machine.round block made)
        ∙ drop-append-le begin.round (take machine.round blocks) (block ∷ []) long

    -- they stay where the module receives a frame
    pub taken_stay : (machine : Machine) (command : Option Command) → IsKept settings first machine
        → drop begin.round (take machine.round (blocks_of settings (life_after_command command (life_of machine.history)))) ≡ blocks_taken settings begin machine
    taken_stay machine command k = grind (arith, blocks_stay)

    -- so it is asked of those taken so far, and of the block that is taken
    pub asked_of : ((front more : List MadeBlock) → B (front ++ more) → B front)
        → (from : Life) (machine : Machine) (place number : ℕ) (answer : Block) (block : MadeBlock) (rest : List Event)
        → IsKnown settings first begin from machine → Takes settings first from machine place number answer block
        → Asks settings first begin B machine (events.ToCpu (place + 1) ∷ rest) → B (blocks_taken settings begin machine ++ block ∷ [])
    asked_of fronts from machine place number answer block rest known t a =
        let event = events.ToCpu (place + 1) in
        let next = after_taken machine place answer in
        let blocks = blocks_in settings machine in
        let within = slice_get_within blocks machine.round block t.made in
        let k : IsKept settings first (after settings first machine event) =
        kept_all settings range first (event ∷ []) machine (after settings first machine event) (a.none.0, tt) (a.leads.0, refl) known.is_kept in
        let grown = adds next rest a.last (subst (IsKept settings first) t.after_is k) a.none.1
        (subst (λ m. Leads settings first m rest a.last) t.after_is a.leads.1) in
        let long : begin.round ≤ length (take (machine.round + 1) blocks) = omega (arith, known.rounds, length-take (machine.round + 1) blocks) in
        let taken : blocks_taken settings begin a.last ≡ (blocks_taken settings begin machine ++ block ∷ []) ++ grown.0 =
        ap (drop begin.round) grown.1
        ∙ drop-append-le begin.round (take (machine.round + 1) blocks) grown.0 long
        ∙ ap (λ front. front ++ grown.0) (taken_with machine place answer block known.rounds t.made) in
        fronts (blocks_taken settings begin machine ++ block ∷ []) grown.0 (subst B taken a.asked)
