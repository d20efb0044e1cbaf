-- Histories of configurations and scans.
use Rattle.fio_input.proofs.Names.{◌≡◌, ℕ, Bool, true, false, if◌then◌else◌, List, [], ◌∷◌, Option, Some, None, is_some, refl, is_set, InputItem, Setting, filtered_state, FilterEvent, Configure, Scan, applied_items, last_item_of, setting_by, applies_to, input_setting, input_samples, state_at_configuration, input_state, raw_levels}
use Rattle.fio_input.proofs.RunLengths.{LatestIs}

latest_if : (fresh level : Bool) (older : List Bool) → LatestIs level older → LatestIs level (if fresh then [] else older)
latest_if true level older h = tt
latest_if false level older h = h

-- the latest sample of an input is its raw level
pub latest_is : (input : ℕ) (history : List FilterEvent) → LatestIs (is_set (raw_levels history) input) (input_samples input history)
latest_is input [] = tt
latest_is input (Configure items ∷ history) =
    latest_if (applies_to input items) (is_set (raw_levels history) input) (input_samples input history) (latest_is input history)
latest_is input (Scan raw ∷ history) = refl

-- with a setting and samples that start anew from the state, the state stays
pub state_by : (named : Option InputItem) (before : Setting) (level : Bool) (older : List Bool)
    → filtered_state (setting_by named before) (if is_some named then filtered_state before level older else level) (if is_some named then [] else older)
    ≡ filtered_state before level older
state_by None before level older = refl
state_by (Some item) before level older = refl

-- a configuration does not change the filtered state of any input
pub state-configure : (input : ℕ) (items : List InputItem) (history : List FilterEvent)
    → input_state input (Configure items ∷ history) ≡ input_state input history
state-configure input items history =
    state_by (last_item_of input (applied_items items)) (input_setting input history) (state_at_configuration input history) (input_samples input history)
