-- Each event of the link machine keeps what every run keeps.
use Rattle.std.proofs.lemmas.Bool.Decides.{nat_tests}
use Rattle.fio_link.proofs.Names.{◌≡◌, ℕ, ◌+◌, ◌≤◌, List, [], ◌∷◌, ◌++◌, length, None, Some, refl, ap, sym, subst, arith, length-append, append-nil, Command, command_octets, poll_in, Settings, AreInRange, History, life_of, Transition, log_of, whole_log, MadeBlock, newest_poll, newest_end, blocks_end_within, Event, SentFrame, Machine, start, number_of, refusal, after_module_event, after_sending, after, Leads, IsRun, received_numbers, HaveNoRestart, next_round}
use Rattle.fio_module.specs.Life as module_events
use Rattle.fio_module.specs.Log.{transitions_below}
use Rattle.fio_link.specs.declared.event.Event.TheVariants as events
use Rattle.fio_link.proofs.AllLives.{past_log, all_blocks, reached, whole_log-split}
use Rattle.fio_link.proofs.PollOrder.{polls-none, polls-sent}
use Rattle.fio_link.proofs.AnswerOrder.{answers-none}
use Rattle.fio_link.proofs.Makers.{makers_of}
use Rattle.fio_link.proofs.RisingPieces.{RecordRises, rises-longer, rises-further}
use Rattle.fio_link.proofs.Kept.{keeps_history, Invariant, HasInvariant}
use Rattle.fio_link.proofs.ReceivedRows.{keeps_received}
use Rattle.fio_link.proofs.HeardRows.{in_order, keeps_passed, keeps_taken}
use Rattle.fio_link.proofs.Events.{IsKeptByEvents, once, along}

-- the start
pub keeps-start : (settings : Settings) (first : ℕ) → HasInvariant settings first start
keeps-start settings first = grind (arith, nat_tests, polls-none, answers-none)

module _ (settings : Settings) (range : AreInRange settings) (first : ℕ) (machine : Machine)
    (i : HasInvariant settings first machine) where
  abbrev h : History
  h = machine.history

  abbrev blocks : List MadeBlock
  blocks = all_blocks settings h

  abbrev makers : List ℕ
  makers = makers_of h machine.polls

  -- the history grows, and neither the blocks nor the latest poll change
  keeps_more : (log : List Transition) (event : module_events.Event)
      → RecordRises log blocks makers (reached settings h) machine.round machine.items
      → Invariant first log blocks (reached settings h) (newest_poll (life_of h)) (received_numbers h) makers
      (after_module_event machine event)
  keeps_more log event rises =
      keeps_history first (whole_log h) log blocks (reached settings h) (reached settings h)
      (newest_poll (life_of h)) (newest_poll (life_of h)) (received_numbers h) makers machine (event ∷ h)
      i (λ n is. is) rises

  -- the module scans
  keeps_scan : (raw : ℕ) → HasInvariant settings first (after_module_event machine (module_events.Scan raw))
  keeps_scan raw =
      let more = transitions_below 64 raw (life_of h) in
      keeps_more (whole_log h ++ more) (module_events.Scan raw)
      (rises-longer (whole_log h) more blocks makers (reached settings h) machine.round machine.items i.rising)

  -- the module restarts
  keeps_restart : HasInvariant settings first (after_module_event machine module_events.Restart)
  keeps_restart =
      let log = whole_log h in
      let after = length log + 0 in
      let within : newest_end settings (life_of h) ≤ length (log_of (life_of h)) =
      blocks_end_within settings (life_of h) in
      let split : length log ≡ length (past_log h ++ log_of (life_of h)) = ap length (whole_log-split h) in
      let later : reached settings h ≤ after =
      omega (arith, length-append (past_log h) (log_of (life_of h))) in
      subst (λ bs. Invariant first log bs after None (received_numbers h) makers
      (after_module_event machine module_events.Restart)) (sym (append-nil blocks))
      (keeps_history first log log blocks (reached settings h) after (newest_poll (life_of h)) None
      (received_numbers h) makers machine (module_events.Restart ∷ h) i (λ n is. absurd (cc is))
      (rises-further log blocks makers (reached settings h) after machine.round machine.items later i.rising))

  -- the CPU sends a command, with its number if it is a poll
  keeps_sent : (command : Command)
      → ((n : ℕ) → poll_in (command_octets command) ≡ Some n → n ≡ number_of first machine.round)
      → HasInvariant settings first (after_sending machine command)
  keeps_sent command number =
      let f : SentFrame = record { octets = command_octets command; round = machine.round } in
      record {
        polls =
            polls-sent first machine.to_module machine.last_to_module machine.round
            (next_round machine.polls) i.polls f refl i.at_most number;
        answers = i.answers;
        at_most = i.at_most;
        received = i.received;
        carry = i.carry;
        rising = i.rising;
      }

module _ (settings : Settings) (range : AreInRange settings) (first : ℕ) where
  -- each event keeps it
  rows : IsKeptByEvents settings first (HasInvariant settings first) (HasInvariant settings first)
  rows =
      record {
        scans = λ machine raw i p. keeps_scan settings range first machine i raw;
        syncs = λ machine i p. keeps_more settings range first machine i (whole_log machine.history) module_events.LineSync i.rising;
        raises = λ machine mask i p. keeps_more settings range first machine i (whole_log machine.history) (module_events.Raise mask) i.rising;
        sends = λ machine command i number p. keeps_sent settings range first machine i command number;
        receives = λ machine place frame i le at p. keeps_received settings range first machine i place frame le at;
        passes = λ machine index i le p. keeps_passed settings range first machine i index le;
        takes = λ machine place answer i has p. keeps_taken settings range first machine i place answer has;
      }

  pub keeps : (machine : Machine) → HasInvariant settings first machine → (event : Event) → refusal machine event ≡ None
      → HasInvariant settings first (after settings first machine event)
  keeps machine i events.Restart fine = keeps_restart settings range first machine i
  keeps machine i event fine =
      once settings first (HasInvariant settings first) (HasInvariant settings first) (in_order settings first) rows machine i i event tt fine

  module _ (P : Machine → Type 0) (k : IsKeptByEvents settings first (HasInvariant settings first) P) where
    -- what each event keeps but a restart, all events keep that restart nothing
    pub kept_without_restart : (events : List Event) (machine last : Machine) → HaveNoRestart events
        → Leads settings first machine events last → HasInvariant settings first machine → P machine → P last
    kept_without_restart =
        along settings first (HasInvariant settings first) P (in_order settings first) k (λ machine i event none fine. keeps machine i event fine)

    -- and what a restart keeps too, all events keep
    module _ (restarts : (machine : Machine) → P machine → P (after_module_event machine module_events.Restart)) where
      once_more : (machine : Machine) → HasInvariant settings first machine → P machine
          → (event : Event) → refusal machine event ≡ None → P (after settings first machine event)
      once_more machine i p events.Restart fine = restarts machine p
      once_more machine i p event fine =
          once settings first (HasInvariant settings first) P (in_order settings first) k machine i p event tt fine

      pub kept_along : (events : List Event) (machine last : Machine)
          → Leads settings first machine events last → HasInvariant settings first machine → P machine → P last
      kept_along [] machine last leads i p = subst P (sym leads) p
      kept_along (event ∷ events) machine last leads i p =
          kept_along events (after settings first machine event) last leads.1 (keeps machine i event leads.0)
          (once_more machine i p event leads.0)

  -- all events keep it
  pub keeps_all : (events : List Event) (machine last : Machine) → Leads settings first machine events last
      → HasInvariant settings first machine → HasInvariant settings first last
  keeps_all events machine last leads i =
      kept_along (HasInvariant settings first) rows (λ machine i. keeps_restart settings range first machine i) events machine last leads i i

  -- every run keeps it
  pub invariant : (events : List Event) (machine : Machine) → IsRun settings first events machine → HasInvariant settings first machine
  invariant events machine run = keeps_all events start machine run (keeps-start settings first)
