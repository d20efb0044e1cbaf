-- Clean rounds with nothing between catch up.
use Rattle.fio_link.proofs.Names.{◌≡◌, ℕ, zero, suc, ◌*◌, ◌-◌, ◌≤◌, Bool, true, false, List, ◌∷◌, ◌++◌, length, drop, refl, ap, sym, ◌∙◌, arith, length-append, length-take, length-drop, Settings, AreInRange, Life, Commanded, life_of, log_of, newest_poll, is_new, next_block, count_from, waiting_from, waiting_of, nothing_left, Machine, number_of, Leads, next_round, clean_round, newest_number, HasTakenAll}
use Rattle.fio_message.specs.declared.commands.Command.TheVariants as commands
use Rattle.fio_module.proofs.WaitingLaws.{new_polls_take_waiting}
use Rattle.fio_link.specs.Settled.{CleanRounds, HasCaughtUp, CleanRoundsCatchUp}
use Rattle.fio_link.proofs.CleanRounds.{takes_block}
use Rattle.fio_link.proofs.OneLife.{continues}
use Rattle.fio_link.proofs.Settled.{IsOpen, goes_on, recorded_end}
use Rattle.std.proofs.lemmas.List.{nil_from_length}

-- how many entries wait
abbrev pub waits : Settings → Life → ℕ
waits settings life = length (waiting_of settings life)

-- a new poll takes a whole block of entries, or all that wait
new_poll_takes : (settings : Settings) (life : Life) (number : ℕ) → is_new (newest_poll life) number ≡ true
    → waits settings (Commanded (commands.Poll number) ∷ life) ≡ waits settings life - settings.per_block
new_poll_takes settings life number new =
    let log = log_of life in
    let start = waiting_from settings life in
    let polled = Commanded (commands.Poll number) ∷ life in
    let split : waits settings life ≡ length ((next_block settings life).transitions ++ waiting_of settings polled) =
    ap length (new_polls_take_waiting settings life number new) in
    let count = length-take (count_from settings log start) (drop start log) in
    let rest = length-drop start log in
    let both = length-append (next_block settings life).transitions (waiting_of settings polled) in
    omega arith

-- a poll that is not new takes none
old_poll_leaves : (settings : Settings) (life : Life) (number : ℕ) → is_new (newest_poll life) number ≡ false
    → waiting_of settings (Commanded (commands.Poll number) ∷ life) ≡ waiting_of settings life
old_poll_leaves settings life number old = rw old refl

-- so no poll adds any
poll_adds_none : (settings : Settings) (life : Life) (number : ℕ) (new : Bool) → is_new (newest_poll life) number ≡ new
    → waits settings (Commanded (commands.Poll number) ∷ life) ≤ waits settings life
poll_adds_none settings life number true is = let e = new_poll_takes settings life number is in omega arith
poll_adds_none settings life number false is = let e = ap length (old_poll_leaves settings life number is) in omega arith

-- if the CPU has taken all blocks, its next poll is new
next_is_new : (first round : ℕ) (polls : List ℕ) (new : Bool) → next_round polls ≡ round
    → is_new (newest_number first polls) (number_of first round) ≡ new → new ≡ true
next_is_new first round polls true all is = refl
next_is_new first round polls false all is =
    let again = (continues first round (number_of first round) polls false refl (omega arith) (omega arith) is).0 in
    absurd (omega arith)

module _ (settings : Settings) (range : AreInRange settings) (some : 1 ≤ settings.waiting) (first : ℕ) where
  -- one more clean round
  record HasRound (machine later : Machine) : Type 0 where
    leads : Leads settings first machine (clean_round machine) later
    is_open : IsOpen settings range first later
    all_taken : HasTakenAll first later
    life : life_of later.history ≡ Commanded (commands.Poll (number_of first machine.round)) ∷ life_of machine.history

  one_round : (machine : Machine) → IsOpen settings range first machine → (later : Machine) × HasRound machine later
  one_round machine o =
      let found = takes_block settings range first machine o.sent in
      let later = found.0 in
      let leads = found.1.takes.leads in (
        later,
        record {
          leads = leads;
          is_open = goes_on settings range first (clean_round machine) machine later leads o;
          all_taken = record {
            answered = ap next_round found.1.polls ∙ sym found.1.takes.round;
            present = ap newest_poll found.1.life ∙ ap (newest_number first) (sym found.1.polls);
          };
          life = found.1.life;
        },
      )

  -- clean rounds of a machine whose CPU has taken all blocks
  rounds : (k : ℕ) (machine : Machine) → IsOpen settings range first machine → HasTakenAll first machine
      → waits settings (life_of machine.history) ≤ k * settings.per_block
      → (later : Machine) × CleanRounds settings first k machine later × HasCaughtUp settings first machine later
  rounds zero machine o taken few =
      let life = life_of machine.history in (
        machine,
        refl,
        record {
          same_log = refl;
          settled = record { all_taken = taken; nothing_waits = nil_from_length (waiting_of settings life) (omega arith) };
          recorded = recorded_end settings machine taken.answered ∙ nothing_left settings some life (omega arith);
        },
      )
  rounds (suc k) machine o taken few =
      let life = life_of machine.history in
      let number = number_of first machine.round in
      let found = one_round machine o in
      let r = found.1 in
      let new = next_is_new first machine.round machine.polls (is_new (newest_poll life) number) taken.answered
      (ap (λ newest. is_new newest number) (sym taken.present)) in
      let fewer = ap (waits settings) r.life ∙ new_poll_takes settings life number new in
      let rest = rounds k found.0 r.is_open r.all_taken (omega arith) in (
        rest.0,
        (found.0, r.leads, rest.1),
        record { same_log = rest.2.same_log ∙ ap log_of r.life; settled = rest.2.settled; recorded = rest.2.recorded },
      )

  -- after one clean round, and then one for each block of waiting entries, the CPU has caught up
  pub catches_up : (machine : Machine) → IsOpen settings range first machine → (k : ℕ)
      → waits settings (life_of machine.history) ≤ k * settings.per_block
      → (later : Machine) × CleanRounds settings first (suc k) machine later × HasCaughtUp settings first machine later
  catches_up machine o k few =
      let life = life_of machine.history in
      let number = number_of first machine.round in
      let found = one_round machine o in
      let r = found.1 in
      let fewer = poll_adds_none settings life number (is_new (newest_poll life) number) refl in
      let still = ap (waits settings) r.life in
      let rest = rounds k found.0 r.is_open r.all_taken (omega arith) in (
        rest.0,
        (found.0, r.leads, rest.1),
        record { same_log = rest.2.same_log ∙ ap log_of r.life; settled = rest.2.settled; recorded = rest.2.recorded },
      )

pub clean_rounds_catch_up : (settings : Settings) (range : AreInRange settings) (first : ℕ) (machine : Machine) → IsOpen settings range first machine
    → CleanRoundsCatchUp settings first machine
clean_rounds_catch_up settings range first machine o some = catches_up settings range some first machine o
