-- An input that is shut: it is ignored, and nothing that is still to be received opens it.
use Rattle.fio_ends.proofs.Names.{◌≡◌, ◌≢◌, ◌∙◌, ◌-◌, ◌<◌, ◌≤◌, ◌&&◌, inl, inr, ℕ, Bool, true, false, not, List, [], ◌∷◌, ◌++◌, length, drop, Option, Some, refl, ap, sym, subst, if◌then◌else◌, slice_get, same_Some, Command, command_in, InputItem, ArrayVec, Settings, Life, Occurrence, life_of, life_after_command, log_of, log_of-with_command, ContentFacts, InputAbove, SentFrame, Machine, get_after_push, Setting, each-drop, item_for, items_sent, last_item_of, opens, setting_by, arith}
use Rattle.fio_message.specs.declared.commands.Command.TheVariants as commands
use Rattle.fio_ends.proofs.Alternating.{NoneOf}
use Rattle.fio_ends.proofs.BlockPlaces.{end_at}
use Rattle.fio_ends.proofs.Following.{IsNoCommand}
use Rattle.fio_ends.proofs.Settled.{KeepsItem, setting_of}
use Rattle.fio_ends.proofs.Watching.{IsSilent, drop_on, item_is, silent-scan}

-- ---- what is shut

-- this command does not open an input
abbrev pub KeepsShutBy : ℕ → Option Command → Type 0
KeepsShutBy input command = (items : ArrayVec InputItem) → command ≡ Some (commands.ConfigureInputs items) → opens (item_for input items.items) ≡ false

abbrev pub NoneOpens : List SentFrame → ℕ → ℕ → Type 0
NoneOpens frames last input =
    (place : ℕ) (frame : SentFrame) → last ≤ place → slice_get frames place ≡ Some frame → KeepsShutBy input (command_in frame.octets)

-- an input that is shut is ignored, has no changes that are still to be recorded, and no frame that is still to be received opens it
abbrev pub KeepsShut : Life → List SentFrame → ℕ → ℕ → ℕ → Bool → Type 0
KeepsShut life frames last upto input shut = shut ≡ true → NoneOpens frames last input × IsSilent life upto input

module _ (input : ℕ) (low : input < 64) where
  is_shut : (b : Bool) → not b ≡ false → b ≡ true
  is_shut true is = refl
  is_shut false is = absurd (cc is)

  stays_ignored : (applied : Bool) (items : List InputItem) (found : Option InputItem) (setting : Setting) → opens (item_for input items) ≡ false
      → setting.ignore ≡ true → last_item_of input (if applied then items else []) ≡ found → (setting_by found setting).ignore ≡ true
  stays_ignored applied items found setting none ignored is = grind (arith, is_shut, item_is)

  pub ignored-command : (life : Life) (command : Option Command) → KeepsShutBy input command → (setting_of input life).ignore ≡ true
      → (setting_of input (life_after_command command life)).ignore ≡ true
  ignored-command life command keeps ignored = grind (arith, setting_of, stays_ignored)

  pub silent-command : (life : Life) (upto : ℕ) (command : Option Command) → KeepsShutBy input command → IsSilent life upto input
      → IsSilent (life_after_command command life) upto input
  silent-command life upto command keeps s = grind (arith, ignored-command, log_of-with_command)

pub silent-quiet : (life : Life) (occurrence : Occurrence) (upto input : ℕ) → IsNoCommand occurrence → upto ≤ length (log_of life) → IsSilent life upto input
    → IsSilent (occurrence ∷ life) upto input
silent-quiet life occurrence upto input quiet within s = grind (arith, silent-scan)

pub silent-further : (life : Life) (upto further input : ℕ) → upto ≤ further → IsSilent life upto input → IsSilent life further input
silent-further life upto further input le s = record {
  ignored = s.ignored;
  none = subst (NoneOf input) (sym (drop_on upto further (log_of life) le))
      (each-drop (λ transition. transition.input ≢ input) (further - upto) (drop upto (log_of life)) s.none);
}

module _ (frames : List SentFrame) (last upto input : ℕ) (shut : Bool) (low : input < 64) where
  pub shut-sent : (life : Life) (f : SentFrame) (command : Command) → command_in f.octets ≡ Some command → (opened : Bool) → opens (item_for input (items_sent command)) ≡ opened
      → KeepsShut life frames last upto input shut → KeepsShut life (frames ++ f ∷ []) last upto input (not opened && shut)
  shut-sent life f command reads true said k is = absurd (cc is)
  shut-sent life f command reads false said k is =
      let s = k is in (
        λ place frame high there.
            elim (get_after_push frames f place frame there) as (λ _. KeepsShutBy input (command_in frame.octets)) [
              | inl old ↦ s.0 place frame high old
              | inr new ↦ subst (λ (f : SentFrame). KeepsShutBy input (command_in f.octets)) (sym new.1) this
            ],
        s.1,
      )
    where
      this : KeepsShutBy input (command_in f.octets)
      this items spells =
          let same : command ≡ commands.ConfigureInputs items = same_Some _ _ (sym reads ∙ spells) in
          ap (λ c. opens (item_for input (items_sent c))) (sym same) ∙ said

-- ---- both

-- what is known of each input of a machine
pub record KeepsBoth (life : Life) (frames : List SentFrame) (last upto input : ℕ) (above : InputAbove) : Type 0 where
  pub item : KeepsItem life frames last input above.named above.item above.taken
  pub shut : KeepsShut life frames last upto input above.shut

abbrev pub ShutHolds : Settings → Machine → ContentFacts → Type 0
ShutHolds settings machine facts =
    (input : ℕ) → input < 64
    → KeepsBoth (life_of machine.history) machine.to_module machine.last_to_module (end_at settings (life_of machine.history) machine.round) input (facts.inputs input)

pub none_shut : (shut : Bool) → (shut ≡ true → ⊥) → shut ≡ false
none_shut true none = absurd (none refl)
none_shut false none = refl
