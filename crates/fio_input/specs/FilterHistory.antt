-- What the filters of the inputs are after a history. A history is a list, the newest event first.
use Rattle.std.specs.Prelude.{ℕ, ◌-◌, ◌^◌, Bool, true, not, ◌&&◌, ◌==◌, nat_lt, if◌then◌else◌, List, [], ◌∷◌, Option, Some, None, is_some}
use Rattle.std.specs.Bool.{beq}
use Rattle.std.specs.Option.{option_or}
use Rattle.std.specs.List.{list_all}
use Rattle.fio_message.specs.declared.fields.InputItem.{InputItem}
use Rattle.fio_message.specs.Bits.{is_set}
use Rattle.fio_message.specs.declared.limits.TheConstants.{INPUTS}
use Rattle.fio_input.specs.declared.filters.TheConstants.{DEFAULT_FILTER}
use Rattle.fio_input.specs.FilterRule.{Setting, filtered_state}

-- what happens to the filters: a configuration is received, applied or not; or a scan reads the raw levels, bit i for input
-- i
pub data FilterEvent : Type 0 where
  Configure : (items : List InputItem) → FilterEvent
  Scan : (raw : ℕ) → FilterEvent

-- each item names an input that the module has
abbrev pub all_present : List InputItem → Bool
all_present items = list_all (λ item. nat_lt item.input INPUTS) items

-- the items that a configuration applies: all of them, or none if some names an input above 63
abbrev pub applied_items : List InputItem → List InputItem
applied_items items = if all_present items then items else []

-- the last item that names an input
abbrev pub last_item_of : ℕ → List InputItem → Option InputItem
last_item_of input [] = None
last_item_of input (item ∷ items) =
    option_or (last_item_of input items) (if item.input == input then Some item else None)

-- the setting by an item that names the input, or the one before if none does
abbrev pub setting_by : Option InputItem → Setting → Setting
setting_by None before = before
setting_by (Some item) before =
    record { ignore = item.ignore; leading = item.leading; trailing = item.trailing }

-- the setting of an input: by the last item that names it in the latest applied configuration that does, and before any,
-- ignored with both filters 5
abbrev pub input_setting : ℕ → List FilterEvent → Setting
input_setting input [] = record { ignore = true; leading = DEFAULT_FILTER; trailing = DEFAULT_FILTER }
input_setting input (Configure items ∷ history) =
    setting_by (last_item_of input (applied_items items)) (input_setting input history)
input_setting input (Scan raw ∷ history) = input_setting input history

-- whether a configuration with these items applies to the input: it is applied and names it
abbrev pub applies_to : ℕ → List InputItem → Bool
applies_to input items = is_some (last_item_of input (applied_items items))

-- the samples of an input: its levels at the scans since the latest configuration that applies to it, or since the start,
-- the newest first. So a configuration restarts the run.
abbrev pub input_samples : ℕ → List FilterEvent → List Bool
input_samples input [] = []
input_samples input (Configure items ∷ history) =
    if applies_to input items then [] else input_samples input history
input_samples input (Scan raw ∷ history) = is_set raw input ∷ input_samples input history

-- the filtered state of the input just before that configuration, or 1 if there was none. The samples since then start from
-- this state, so a configuration keeps the state.
abbrev pub state_at_configuration : ℕ → List FilterEvent → Bool
state_at_configuration input [] = true
state_at_configuration input (Configure items ∷ history) =
    if applies_to input items
    then filtered_state (input_setting input history) (state_at_configuration input history) (input_samples input history)
    else state_at_configuration input history
state_at_configuration input (Scan raw ∷ history) = state_at_configuration input history

-- the filtered state of an input
abbrev pub input_state : ℕ → List FilterEvent → Bool
input_state input history =
    filtered_state (input_setting input history) (state_at_configuration input history) (input_samples input history)

-- the raw levels of the latest scan, all ones before any
abbrev pub raw_levels : List FilterEvent → ℕ
raw_levels [] = 2 ^ INPUTS - 1
raw_levels (Configure items ∷ history) = raw_levels history
raw_levels (Scan raw ∷ history) = raw

-- whether a scan after a history changes the filtered state of an input that is not ignored
abbrev pub is_reported : ℕ → ℕ → List FilterEvent → Bool
is_reported input raw history =
    not (input_setting input history).ignore
    && not (beq (input_state input (Scan raw ∷ history)) (input_state input history))
