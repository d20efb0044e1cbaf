-- A configuration, one item after another.
use Rattle.fio_input.proofs.Names.{◌≡◌, ◌≢◌, ℕ, ◌<◌, ◌≤◌, true, List, [], ◌∷◌, ◌++◌, length, if◌then◌else◌, Option, Some, is_some, ◌⊎◌, inl, inr, sym, ap, ◌∙◌, subst, arith, get_or-set_same, get_or-set_other, slice_set, cases_eq, is_set, InputItem, filtered_state, FilterEvent, Configure, all_present, applied_items, last_item_of, setting_by, input_setting, input_samples, state_at_configuration, KeepsInput, AreFiltersAfter}
use Rattle.fio_input.specs.declared.filters.Filters.{Filters}
use Rattle.fio_input.proofs.History.{state_by}
use Rattle.fio_input.proofs.LastItem.{last_item_of-push_same, last_item_of-push_other}
use Rattle.fio_input.proofs.Present.{all_present-push, applied_items-all}

-- what is kept of an input after a configuration whose last item that names the input is this one
abbrev KeepsAfter : Filters → ℕ → List FilterEvent → Option InputItem → Type 0
KeepsAfter filters input history named =
    let before = input_setting input history in
    let older = input_samples input history in
    let level = state_at_configuration input history in
    let older' = if is_some named then [] else older in
    let level' = if is_some named then filtered_state before level older else level in
    KeepsInput filters input (setting_by named before) older' (filtered_state (setting_by named before) level' older')

module _ (old : Filters) (item : InputItem) (ignored : ℕ) (items : List InputItem) (history : List FilterEvent)
    (inside : item.input < 64) (leading_fits : item.leading ≤ 255) (trailing_fits : item.trailing ≤ 255)
    (lengths_long : length old.run_lengths ≡ 64) (leading_long : length old.leading ≡ 64) (trailing_long : length old.trailing ≡ 64)
    (here : is_set ignored item.input ≡ item.ignore) (elsewhere : (i : ℕ) → i < 64 → i ≢ item.input → is_set ignored i ≡ is_set old.ignored i)
    (present : all_present items ≡ true) (s : AreFiltersAfter old (Configure items ∷ history)) where
  abbrev new : Filters
  new =
      record old {
        run_lengths = slice_set old.run_lengths item.input 0;
        leading = slice_set old.leading item.input item.leading;
        trailing = slice_set old.trailing item.input item.trailing;
        ignored = ignored;
      }

  abbrev more : List InputItem
  more = items ++ item ∷ []

  more_applied : applied_items more ≡ more
  more_applied = applied_items-all more (all_present-push items item present inside)

  -- what is kept of the item's own input
  at_item : KeepsAfter new item.input history (Some item)
  at_item =
      let i = item.input in
      record {
        run_length = inr (get_or-set_same old.run_lengths i 0 0 (omega arith));
        leading = get_or-set_same old.leading i item.leading 0 (omega arith);
        trailing = get_or-set_same old.trailing i item.trailing 0 (omega arith);
        leading_fits = leading_fits;
        trailing_fits = trailing_fits;
        ignored = here;
        filtered = (s.inputs i inside).filtered ∙ state_by (last_item_of i (applied_items items)) (input_setting i history) (state_at_configuration i history) (input_samples i history);
      }

  -- what is kept of another input
  at_other : (i : ℕ) → i < 64 → i ≢ item.input → KeepsAfter new i history (last_item_of i (applied_items items))
  at_other i h other =
      let at = s.inputs i h in
      record {
        run_length =
            elim at.run_length [
              | inl settled ↦ inl settled
              | inr counted ↦ inr (get_or-set_other old.run_lengths item.input i 0 0 other ∙ counted)
            ];
        leading = get_or-set_other old.leading item.input i item.leading 0 other ∙ at.leading;
        trailing = get_or-set_other old.trailing item.input i item.trailing 0 other ∙ at.trailing;
        leading_fits = at.leading_fits;
        trailing_fits = at.trailing_fits;
        ignored = elsewhere i h other ∙ at.ignored;
        filtered = at.filtered;
      }

  -- what is kept of each input
  after : (i : ℕ) → i < 64 → (i ≡ item.input) ⊎ (i ≢ item.input) → KeepsAfter new i history (last_item_of i (applied_items more))
  after i h (inl e) =
      let last : last_item_of i (applied_items more) ≡ Some item = ap (last_item_of i) more_applied ∙ last_item_of-push_same i items item (sym e) in
      subst (KeepsAfter new i history) (sym last) (subst (λ j. KeepsAfter new j history (Some item)) (sym e) at_item)
  after i h (inr other) =
      let last : last_item_of i (applied_items more) ≡ last_item_of i (applied_items items) =
      ap (last_item_of i) more_applied ∙ last_item_of-push_other i items item (λ q. other (sym q)) ∙ ap (last_item_of i) (sym (applied_items-all items present)) in
      subst (KeepsAfter new i history) (sym last) (at_other i h other)

  -- the filters have been through the configuration with one more item
  pub item_carries : AreFiltersAfter new (Configure more ∷ history)
  item_carries = record { raw = s.raw; inputs = λ i h. after i h (cases_eq i item.input) }

-- if no item is applied, the filters have been through the configuration as they are
pub AreFiltersAfter-unapplied : (filters : Filters) (items : List InputItem) (history : List FilterEvent) → applied_items items ≡ []
    → AreFiltersAfter filters history → AreFiltersAfter filters (Configure items ∷ history)
AreFiltersAfter-unapplied filters items history none s =
    record { raw = s.raw; inputs = λ i h. subst (KeepsAfter filters i history) (ap (last_item_of i) (sym none)) (s.inputs i h) }
