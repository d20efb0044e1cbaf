-- While nothing is restarted, the latest poll of the module's life is the newest that it has received.
use Rattle.fio_link.proofs.Names.{◌≡◌, ℕ, ◌+◌, ◌≤◌, List, Option, Some, slice_get, refl, ap, Command, command_in, polled_number, Settings, AreInRange, Life, life_of, life_after_command, newest_poll, Event, SentFrame, Machine, polls_with, after_delivery_to_module, Leads, HaveNoRestart, newest_number}
use Rattle.fio_message.specs.declared.commands.Command.TheVariants as commands
use Rattle.fio_link.proofs.Kept.{HasInvariant}
use Rattle.fio_link.proofs.Rows.{kept_without_restart}

-- the latest poll of its life is the newest
abbrev IsNewest : ℕ → Machine → Type 0
IsNewest first machine = newest_poll (life_of machine.history) ≡ newest_number first machine.polls

module _ (settings : Settings) (range : AreInRange settings) (first : ℕ) (machine : Machine)
    (i : HasInvariant settings first machine) (o : IsNewest first machine) where
  abbrev life : Life
  life = life_of machine.history

  newest_received : (place : ℕ) (frame : SentFrame) → machine.last_to_module ≤ place + 1
      → slice_get machine.to_module place ≡ Some frame
      → IsNewest first (after_delivery_to_module settings machine (place + 1) (Some frame))
  newest_received place frame le at = of_command (command_in frame.octets) refl
    where
      of_command : (command : Option Command) → command_in frame.octets ≡ command
          → newest_poll (life_after_command command life) ≡ newest_number first (polls_with (polled_number command) frame.round machine.polls)
      of_command (Some (commands.Poll number)) spells =
          ap Some (i.polls.numbers place number frame.round (record { frame = frame; at_place = at; spells = ap polled_number spells; of_round = refl }))
      of_command command spells = o

-- while nothing restarts
pub newest_all : (settings : Settings) → AreInRange settings → (first : ℕ) (events : List Event) (machine last : Machine)
    → HaveNoRestart events → Leads settings first machine events last
    → HasInvariant settings first machine → IsNewest first machine → IsNewest first last
newest_all settings range first =
    kept_without_restart settings range first (IsNewest first) (record {
      scans = λ machine raw i o. o;
      syncs = λ machine i o. o;
      raises = λ machine mask i o. o;
      sends = λ machine command i number o. o;
      receives = λ machine place frame i le at o. newest_received settings range first machine i o place frame le at;
      passes = λ machine index i le o. o;
      takes = λ machine place answer i has o. o;
    })
