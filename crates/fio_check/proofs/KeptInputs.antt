-- What the fields of the checker of the rules on content stand for of one input, with one thing more.
use Rattle.fio_check.proofs.Names.{◌≡◌, ◌<◌, ℕ, zero, suc, Bool, true, false, List, [], ◌∷◌, Option, Some, None, refl, arith, get_or, replicate, ◌==◌, nat_lt, nat_tests, if◌then◌else◌, eqb_tells, DEFAULT_FILTER, FilterPair, INPUTS, InputAbove, InputItem, bit_or, input_begun, input_kept, input_with_answer, input_with_earlier, is_set-above, is_set-or, is_set-zero, item_for, leb_tells, no_input, ◌&&◌, ◌-◌, ◌^◌}
use Rattle.std.specs.Prelude.{◌≤◌, ◌⊎◌}
use Rattle.fio_message.proofs.Bits.{is_set-ones}
use Rattle.fio_check.specs.ContentAbove.{lesser}
use Rattle.fio_check.specs.ContentSaid.{filters_of}
use Rattle.fio_check.specs.ContentFacts.{turned_by}
use Rattle.fio_check.specs.declared.content_inputs.ContentInputs.{ContentInputs}

-- ---- an item

-- the input that an item names
pub is_place : (place input : ℕ) → place < 64 → (place == input && nat_lt input 64) ≡ (input == place)
is_place place input within = grind (arith, eqb_tells, nat_tests)

-- none of another input
item-none : (item : InputItem) (input : ℕ) → (item.input == input && nat_lt input 64) ≡ false → item_for input (item ∷ []) ≡ None
item-none item input other = grind arith

item-some : (item : InputItem) (input : ℕ) → (item.input == input && nat_lt input 64) ≡ true → item_for input (item ∷ []) ≡ Some item
item-some item input own = grind arith

earlier-none : (above : InputAbove) (named : Bool) → (if named then above else above) ≡ above
earlier-none above true = refl
earlier-none above false = refl

item-here : (old : InputAbove) (item : InputItem) (ignore same : Bool) (found : Option InputItem) → ignore ≡ item.ignore → old.named ≡ false ⊎ same ≡ false
    → found ≡ (if same then Some item else None)
    → (let filtered = (if same then record old { least = lesser old.least (filters_of item) } else old) in
    let set = (if same then record filtered { named = true; item = Some (record { ignore = ignore; filters = filters_of item }); taken = false; touched = true; shown = None; unlogged = false } else filtered) in
    (if same then turned_by ignore set else set)
    ≡ input_with_earlier old found)
item-here old item ignore same found is which at = grind (arith, earlier-none)

-- an item is added
pub item_added : (old filtered set new : InputAbove) (item : InputItem) (filters : FilterPair) (place input : ℕ) → place ≡ item.input → place < 64 → filters ≡ filters_of item
    → (input ≡ place → old.named ≡ false)
    → filtered ≡ (if input == place then record old { least = lesser old.least filters } else old)
    → set ≡ (if input == place then record filtered { named = true; item = Some (record { ignore = item.ignore; filters = filters }); taken = false; touched = true; shown = None; unlogged = false } else filtered)
    → new ≡ (if input == place then turned_by item.ignore set else set)
    → new ≡ input_with_earlier old (item_for input (item ∷ []))
item_added old filtered set new item filters place input named within in_force unnamed a b d = grind (arith, is_place, item-here, item-none, item-some, nat_tests)

-- ---- nothing, and whole sets

pub replicated : (n value place : ℕ) → ◌≡◌ {A = ℕ} (get_or (replicate n value) place value) value
replicated zero value place = refl
replicated (suc n) value zero = refl
replicated (suc n) value (suc place) = replicated n value place

-- nothing is above
pub nothing_kept : (times leading trailing least_leading least_trailing : List ℕ) (input : ℕ)
    → get_or least_leading input 1 ≡ 1 → get_or least_trailing input 1 ≡ 1
    → input_kept (record {
      named = 0;
      sent = 0;
      ignoring = 0;
      taken = 0;
      settled = 0;
      hidden = 0;
      reopened = 0;
      touched = 0;
      shown = 0;
      shown_levels = 0;
      unlogged = 0;
      shut = 0;
      levels = 0;
      watched = 0;
      shaded = 0;
      timed = 0;
      times = times;
      leading = leading;
      trailing = trailing;
      least_leading = least_leading;
      least_trailing = least_trailing;
    }) input ≡ no_input
nothing_kept times leading trailing least_leading least_trailing input a b = rw (is_set-zero input, a, b) refl

replicated-within : (n value place none : ℕ) → place < n → ◌≡◌ {A = ℕ} (get_or (replicate n value) place none) value
replicated-within zero value place none within = absurd (omega (arith, within))
replicated-within (suc n) value zero none within = refl
replicated-within (suc n) value (suc place) none within = replicated-within n value place none (omega (arith, within))

-- both ends begin
module _ (times : List ℕ) (filter input : ℕ) (filter_is : filter ≡ DEFAULT_FILTER) where
  abbrev begun : ContentInputs
  begun = record {
    named = 0;
    sent = 2 ^ 64 - 1;
    ignoring = 2 ^ 64 - 1;
    taken = 2 ^ 64 - 1;
    settled = 2 ^ 64 - 1;
    hidden = 0;
    reopened = 0;
    touched = 0;
    shown = 0;
    shown_levels = 0;
    unlogged = 0;
    shut = 2 ^ 64 - 1;
    levels = 0;
    watched = 0;
    shaded = 0;
    timed = 0;
    times = times;
    leading = replicate 64 filter;
    trailing = replicate 64 filter;
    least_leading = replicate 64 1;
    least_trailing = replicate 64 1;
  }

  begun-below : input < 64 → input_kept begun input ≡ input_begun
  begun-below within = rw (is_set-zero input, is_set-ones input within, replicated-within 64 filter input 1 within, filter_is) refl

  begun-above : 64 ≤ input → input_kept begun input ≡ no_input
  begun-above above = rw (is_set-zero input, is_set-above (2 ^ 64 - 1) 64 input (omega arith) above, replicated 64 1 input) refl

  pub begun_kept : input_kept begun input ≡ (if nat_lt input INPUTS then input_begun else no_input)
  begun_kept = grind (arith, begun-above, begun-below, leb_tells, nat_tests)

-- an answer that a configuration was taken
pub answer_taken : (old : ContentInputs) (input : ℕ)
    → input_kept (record old { named = 0; taken = bit_or old.named old.taken }) input ≡ input_with_answer true (input_kept old input)
answer_taken old input = rw (is_set-zero input, is_set-or old.named old.taken input) refl
