-- The facts of all inputs, kept in words: a block that settles inputs, items one after another, and states that the record comes to.
use Rattle.fio_check.proofs.Names.{◌≡◌, ◌<◌, ◌∙◌, ℕ, inl, inr, Bool, true, false, List, [], ◌∷◌, Option, Some, None, option_or, refl, ap, ap₂, arith, not, nat_lt, nat_tests, if◌then◌else◌, is_set, is_some_and, ContentFacts, InputAbove, InputItem, SentItem, beq, bit_and, bit_not, bit_or, fun_ext, input_coming, input_ended, input_kept, input_with_earlier, input_with_item, is_set-above, is_set-and, is_set-not, is_set-or, item_for, leb_tells, w64, with_items, ◌&&◌, ◌^◌, ◌||◌}
use Rattle.std.specs.Prelude.{◌≤◌}
use Rattle.std.specs.Int.Bits.{bit_xor}
use Rattle.fio_message.proofs.Bits.{is_set-xor}
use Rattle.fio_check.specs.ContentKept.{filters_in, item_in}
use Rattle.fio_check.specs.declared.content_inputs.ContentInputs.{ContentInputs}
use Rattle.fio_check.proofs.InputSets.{without}

-- ---- a block that settles inputs

one-of : (a b which : Bool) → ((a && not which) || (b && which)) ≡ (if which then b else a)
one-of a b which = grind arith

either-of : {A : Type 0} (a b : Bool) (x y : A) → (if a || b then x else y) ≡ (if b then x else (if a then x else y))
either-of a b x y = grind arith

settled-case : (old : InputAbove) (item : SentItem) (taken sent unsettled : Bool)
    → (record old {
      item = if sent then Some item else None;
      taken = taken;
      hidden = unsettled && old.hidden;
      reopened = unsettled && old.reopened;
      touched = unsettled && old.touched;
      shut = if (taken && sent) && not unsettled then item.ignore else old.shut;
      least = if (taken && sent) && not unsettled then item.filters else old.least;
    }) ≡ input_ended (not unsettled) (record old { item = if sent then Some item else None; taken = taken })
settled-case old item taken sent unsettled = grind arith

-- the end of a block that settles all inputs but these
pub settled_kept : (old : ContentInputs) (unsettled input : ℕ) → old.shut < 2 ^ 64 → bit_and old.taken old.sent < 2 ^ 64 → unsettled < 2 ^ 64
    → (let settled = bit_and (bit_and old.taken old.sent) (bit_not w64 unsettled) in settled < 2 ^ 64
    → input_kept (record old {
      settled = bit_or old.settled settled;
      hidden = bit_and unsettled old.hidden;
      reopened = bit_and unsettled old.reopened;
      touched = bit_and unsettled old.touched;
      shut = bit_or (bit_and old.shut (bit_not w64 settled)) (bit_and old.ignoring settled);
    }) input ≡ input_ended (not (is_set unsettled input)) (input_kept old input))
settled_kept old unsettled input shut_fits both_fits unsettled_fits settled_fits =
    let settled = bit_and (bit_and old.taken old.sent) (bit_not w64 unsettled) in
    let here = (is_set old.taken input && is_set old.sent input) && not (is_set unsettled input) in
    let in_settled : is_set settled input ≡ here =
    without (bit_and old.taken old.sent) unsettled input both_fits unsettled_fits
    ∙ ap (λ b. b && not (is_set unsettled input)) (is_set-and old.taken old.sent input) in
    let shut : is_set (bit_or (bit_and old.shut (bit_not w64 settled)) (bit_and old.ignoring settled)) input ≡ (if here then is_set old.ignoring input else is_set old.shut input) =
    is_set-or (bit_and old.shut (bit_not w64 settled)) (bit_and old.ignoring settled) input
    ∙ ap₂ (λ a b. a || b) (without old.shut settled input shut_fits settled_fits) (is_set-and old.ignoring settled input)
    ∙ one-of (is_set old.shut input) (is_set old.ignoring input) (is_set settled input)
    ∙ ap (λ b. if b then is_set old.ignoring input else is_set old.shut input) in_settled in
    let own = filters_in old.leading old.trailing input in
    let others = filters_in old.least_leading old.least_trailing input in
    let least : (if is_set (bit_or old.settled settled) input then own else others) ≡ (if here then own else (if is_set old.settled input then own else others)) =
    ap (λ b. if b then own else others) (is_set-or old.settled settled input)
    ∙ either-of (is_set old.settled input) (is_set settled input) own others
    ∙ ap (λ b. if b then own else (if is_set old.settled input then own else others)) in_settled in
    ap₂ (λ h r. record (input_kept old input) {
      hidden = h;
      reopened = r;
      touched = is_set (bit_and unsettled old.touched) input;
      shut = is_set (bit_or (bit_and old.shut (bit_not w64 settled)) (bit_and old.ignoring settled)) input;
      least = if is_set (bit_or old.settled settled) input then own else others;
    }) (is_set-and unsettled old.hidden input) (is_set-and unsettled old.reopened input)
    ∙ ap₂ (λ t s. record (input_kept old input) {
      hidden = is_set unsettled input && is_set old.hidden input;
      reopened = is_set unsettled input && is_set old.reopened input;
      touched = t;
      shut = s;
      least = if is_set (bit_or old.settled settled) input then own else others;
    }) (is_set-and unsettled old.touched input) shut
    ∙ ap (λ l. record (input_kept old input) {
      hidden = is_set unsettled input && is_set old.hidden input;
      reopened = is_set unsettled input && is_set old.reopened input;
      touched = is_set unsettled input && is_set old.touched input;
      shut = if here then is_set old.ignoring input else is_set old.shut input;
      least = l;
    }) least
    ∙ settled-case (input_kept old input) (item_in old input) (is_set old.taken input) (is_set old.sent input) (is_set unsettled input)

-- ---- items, one after another

or-false : (b : Bool) → (b || false) ≡ b
or-false true = refl
or-false false = refl

or-swap : (a b : Bool) → (a || b) ≡ (b || a)
or-swap a b = grind arith

-- two are the same if each part is
pub same-input : (a b : InputAbove) → a.named ≡ b.named → a.taken ≡ b.taken → a.hidden ≡ b.hidden → a.reopened ≡ b.reopened → a.watched ≡ b.watched
    → a.touched ≡ b.touched → a.shown ≡ b.shown → a.unlogged ≡ b.unlogged → a.shut ≡ b.shut → a.item ≡ b.item → a.timed ≡ b.timed → a.least ≡ b.least → a ≡ b
same-input a b named taken hidden reopened watched touched shown unlogged shut item timed least = grind arith

-- ---- the record comes to states

shown-case : (old : InputAbove) (shown touched level bit unlogged : Bool)
    → (record old { touched = touched; shown = if not touched then Some bit else None; unlogged = unlogged || ((shown && not touched) && not (beq level bit)) })
    ≡ (let above = record old { touched = touched; shown = if shown then Some level else None; unlogged = unlogged } in
    record above { shown = if touched then None else Some bit; unlogged = (not touched && is_some_and above.shown (λ l. not (beq l bit))) || unlogged })
shown-case old shown touched level bit unlogged = grind (arith, or-false, or-swap)

pub come_kept : (old : ContentInputs) (levels stamp input : ℕ) → old.shown < 2 ^ 64 → old.touched < 2 ^ 64 → old.unlogged < 2 ^ 64
    → input_kept (record old {
      unlogged = bit_or old.unlogged (bit_and (bit_and old.shown (bit_not w64 old.touched)) (bit_xor old.shown_levels levels));
      shown = bit_not w64 old.touched;
      shown_levels = levels;
    }) input ≡ input_coming input (Some (record { stamp = stamp; levels = levels })) (input_kept old input)
come_kept old levels stamp input shown_fits touched_fits unlogged_fits =
    let untouched = without old.shown old.touched input shown_fits touched_fits in
    let other = is_set-and (bit_and old.shown (bit_not w64 old.touched)) (bit_xor old.shown_levels levels) input ∙ ap₂ (λ a b. a && b) untouched (is_set-xor old.shown_levels levels input) in
    let unlogged = is_set-or old.unlogged (bit_and (bit_and old.shown (bit_not w64 old.touched)) (bit_xor old.shown_levels levels)) input ∙ ap (λ b. is_set old.unlogged input || b) other in
    elim (leb_tells 64 input) as (λ _. input_kept (record old {
      unlogged = bit_or old.unlogged (bit_and (bit_and old.shown (bit_not w64 old.touched)) (bit_xor old.shown_levels levels));
      shown = bit_not w64 old.touched;
      shown_levels = levels;
    }) input ≡ input_coming input (Some (record { stamp = stamp; levels = levels })) (input_kept old input)) [
      | inl above ↦
          let none = is_set-above old.shown 64 input shown_fits above.1 in
          let all = is_set-above (bit_not w64 old.touched) 64 input (omega arith) above.1 in
          rw (not-below input 64 above.1, all, unlogged, none) (ap (λ u. record (input_kept old input) { shown = None; unlogged = u }) (or-false (is_set old.unlogged input)))
      | inr below ↦
          rw (is-below input 64 below.1, is_set-not old.touched input touched_fits below.1, unlogged)
          (shown-case (input_kept old input) (is_set old.shown input) (is_set old.touched input) (is_set old.shown_levels input) (is_set levels input) (is_set old.unlogged input))
    ]
  where
    is-below : (a b : ℕ) → a < b → nat_lt a b ≡ true
    is-below a b within = grind (arith, nat_tests)

    not-below : (a b : ℕ) → b ≤ a → nat_lt a b ≡ false
    not-below a b above = grind (arith, nat_tests)

-- the items of a list, the last of them first
item-more : (above : InputAbove) (item : InputItem) (found : Option InputItem) (same within : Bool) → above.named ≡ false
    → input_with_earlier (input_with_item above (if within then found else None)) (if within then option_or None (if same then Some item else None) else None)
    ≡ input_with_item above (if within then option_or found (if same then Some item else None) else None)
item-more above item found same within unnamed = grind arith

-- the facts with the later items of a command, and then with one above them
pub with_items_more : (facts : ContentFacts) (item : InputItem) (rest : List InputItem) (inputs : ℕ → InputAbove) → ((input : ℕ) → (facts.inputs input).named ≡ false)
    → ((input : ℕ) → inputs input ≡ input_with_earlier ((with_items facts rest).inputs input) (item_for input (item ∷ [])))
    → (record facts { inputs = inputs }) ≡ with_items facts (item ∷ rest)
with_items_more facts item rest inputs unnamed added = grind (arith, fun_ext, item-more)
