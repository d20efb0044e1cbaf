-- An item of an input that was taken is the one that the module has.
use Rattle.fio_ends.proofs.Names.{◌≡◌, ◌∙◌, ◌+◌, ◌<◌, ◌≤◌, inl, inr, ℕ, Bool, true, false, List, [], ◌∷◌, ◌++◌, length, Option, Some, None, refl, ap, sym, subst, arith, if◌then◌else◌, option_map, is_some, InputAbove, slice_get, slice_get_within, AllByRecursion, same_Some, Command, command_in, InputItem, ArrayVec, Life, Occurrence, Commanded, life_after_command, filter_events, all_present, input_setting, SentFrame, get_after_push, SentItem, Setting, filter_in_force, input_with_item, item_for, items_sent, last_item_of, unnamed, item_kept}
use Rattle.fio_message.specs.declared.commands.Command.TheVariants as commands
use Rattle.fio_ends.proofs.ContentFrame.{last_of}
use Rattle.fio_ends.proofs.FirstPolls.{NamesNot, NoneNames}
use Rattle.fio_ends.proofs.Following.{IsNoCommand, IsSentLast, IsSince}
use Rattle.fio_ends.proofs.Watching.{item_is}

-- the setting of an input after a life
abbrev pub setting_of : ℕ → Life → Setting
setting_of input life = input_setting input (filter_events life)

-- it is that of an item
pub record HasItem (life : Life) (input : ℕ) (item : SentItem) : Type 0 where
  pub ignore : (setting_of input life).ignore ≡ item.ignore
  pub leading : filter_in_force (setting_of input life).leading ≡ item.filters.leading
  pub trailing : filter_in_force (setting_of input life).trailing ≡ item.filters.trailing

-- what is known of the items of an input
pub record KeepsItem (life : Life) (frames : List SentFrame) (last input : ℕ) (named : Bool) (item : Option SentItem) (taken : Bool) : Type 0 where
  pub taken_one : taken ≡ true → (kept : SentItem) → item ≡ Some kept → NoneNames frames last input × HasItem life input kept
  pub sent_last : named ≡ true → (items : ArrayVec InputItem) → IsSentLast frames (commands.ConfigureInputs items) → is_some (item_for input items.items) ≡ true
      → item ≡ option_map item_kept (item_for input items.items)

-- ---- items

module _ (input : ℕ) (low : input < 64) where
  pub none_last : (items : List InputItem) → item_for input items ≡ None → last_item_of input items ≡ None
  none_last items none = sym (item_is input low items) ∙ none

  none_applied : (applied : Bool) (items : List InputItem) → item_for input items ≡ None → last_item_of input (if applied then items else []) ≡ None
  none_applied true items none = none_last items none
  none_applied false items none = refl

  -- so a command that has none leaves the setting
  pub setting-command : (life : Life) (command : Option Command) → NamesNot input command → setting_of input (life_after_command command life) ≡ setting_of input life
  setting-command life command none = grind (arith, none_applied)

  -- a configuration that is applied sets the last item of it
  set-item : (items : ArrayVec InputItem) (life : Life) (found : Option InputItem) (kept : SentItem) → all_present items.items ≡ true
      → last_item_of input items.items ≡ found → option_map item_kept found ≡ Some kept
      → HasItem (Commanded (commands.ConfigureInputs items) ∷ life) input kept
  set-item items life found kept present is at = grind (arith, same_Some)

-- ---- the setting stays

has-same : (life later : Life) (input : ℕ) (item : SentItem) → setting_of input later ≡ setting_of input life → HasItem life input item → HasItem later input item
has-same life later input item same h = grind arith

pub setting-quiet : (occurrence : Occurrence) (life : Life) (input : ℕ) → IsNoCommand occurrence → setting_of input (occurrence ∷ life) ≡ setting_of input life
setting-quiet occurrence life input quiet = grind arith

pub setting-since : (more life : List Occurrence) (input : ℕ) → AllByRecursion IsNoCommand more → setting_of input (more ++ life) ≡ setting_of input life
setting-since [] life input quiet = refl
setting-since (occurrence ∷ more) life input quiet = setting-quiet occurrence (more ++ life) input quiet.0 ∙ setting-since more life input quiet.1

-- ---- event by event

module _ (frames : List SentFrame) (last input : ℕ) (named : Bool) (item : Option SentItem) (taken : Bool) (low : input < 64) where
  pub item-quiet : (life : Life) (occurrence : Occurrence) → IsNoCommand occurrence → KeepsItem life frames last input named item taken → KeepsItem (occurrence ∷ life) frames last input named item taken
  item-quiet life occurrence quiet k = record {
    taken_one = λ is kept at. (let t = k.taken_one is kept at in (t.0, has-same life (occurrence ∷ life) input kept (setting-quiet occurrence life input quiet) t.1));
    sent_last = k.sent_last;
  }

  pub item-received : (life : Life) (place : ℕ) (frame : SentFrame) → last ≤ place → slice_get frames place ≡ Some frame → KeepsItem life frames last input named item taken
      → KeepsItem (life_after_command (command_in frame.octets) life) frames (place + 1) input named item taken
  item-received life place frame new at k = record {
    taken_one = λ is kept there.
        (let t = k.taken_one is kept there in (
          λ later f high found. t.0 later f (omega arith) found,
          has-same life (life_after_command (command_in frame.octets) life) input kept (setting-command input low life (command_in frame.octets) (t.0 place frame new at)) t.1,
        ));
    sent_last = k.sent_last;
  }

  pub item-sent : (life : Life) (f : SentFrame) (command : Command) → command_in f.octets ≡ Some command → (above : InputAbove) (sent : Option InputItem)
      → above.item ≡ item → above.taken ≡ taken → item_for input (items_sent command) ≡ sent
      → KeepsItem life frames last input named item taken
      → KeepsItem life (frames ++ f ∷ []) last input (input_with_item (unnamed above) sent).named (input_with_item (unnamed above) sent).item (input_with_item (unnamed above) sent).taken
  item-sent life f command reads above (Some one) item_is taken_is said k = record {
    taken_one = λ is. absurd (cc is);
    sent_last = λ is items sent some.
        (let same : command ≡ commands.ConfigureInputs items = same_Some _ _ (sym reads ∙ last_of frames f (commands.ConfigureInputs items) sent) in
        ap (option_map item_kept) (sym said ∙ ap (λ c. item_for input (items_sent c)) same));
  }
  item-sent life f command reads above None item_is taken_is said k = record {
    taken_one = λ is kept at.
        (let t = k.taken_one (sym taken_is ∙ is) kept (sym item_is ∙ at) in (
          λ place frame low there.
              elim (get_after_push frames f place frame there) as (λ _. NamesNot input (command_in frame.octets)) [
                | inl old ↦ t.0 place frame low old
                | inr new ↦ subst (λ (f : SentFrame). NamesNot input (command_in f.octets)) (sym new.1) none_here
              ],
          t.1,
        ));
    sent_last = λ is. absurd (cc is);
  }
    where
      none_here : NamesNot input (command_in f.octets)
      none_here items spells =
          let same : command ≡ commands.ConfigureInputs items = same_Some _ _ (sym reads ∙ spells) in
          ap (λ c. item_for input (items_sent c)) (sym same) ∙ said

  -- the answer is heard that the configuration was taken
  pub item-taken : (life now : Life) (items : ArrayVec InputItem) → IsSentLast frames (commands.ConfigureInputs items) → last ≡ length frames
      → IsSince (commands.ConfigureInputs items) life now → all_present items.items ≡ true
      → is_some (item_for input items.items) ≡ true → named ≡ true → KeepsItem now frames last input named item taken → KeepsItem now frames last input false item true
  item-taken life now items sent all since present some is_named k = grind (arith, has-same, item_is, set-item, setting-since, slice_get_within)
