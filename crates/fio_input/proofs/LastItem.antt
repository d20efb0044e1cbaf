-- The last item of a configuration that names an input.
use Rattle.fio_input.proofs.Names.{◌≡◌, ◌≢◌, ℕ, ◌==◌, List, [], ◌∷◌, ◌++◌, Bool, if◌then◌else◌, Option, Some, None, refl, ap, ◌∙◌, eq-eqb, ne_eqb, InputItem, last_item_of}
use Rattle.std.specs.Option.{option_or}

-- the item, if it names the input
abbrev naming : ℕ → InputItem → Option InputItem
naming input item = if item.input == input then Some item else None

or_none : (a : Option InputItem) → a ≡ option_or a None
or_none None = refl
or_none (Some x) = refl

or_assoc : (a b c : Option InputItem) → option_or (option_or a b) c ≡ option_or a (option_or b c)
or_assoc None b c = refl
or_assoc (Some x) b c = refl

-- with one more item, the last is that one if it names the input, and otherwise the last one before
last_item_of-push : (input : ℕ) (items : List InputItem) (item : InputItem)
    → last_item_of input (items ++ item ∷ []) ≡ option_or (naming input item) (last_item_of input items)
last_item_of-push input [] item = or_none (naming input item)
last_item_of-push input (first ∷ items) item =
    ap (λ o. option_or o (naming input first)) (last_item_of-push input items item)
    ∙ or_assoc (naming input item) (last_item_of input items) (naming input first)

abbrev if_named : ℕ → List InputItem → InputItem → Bool → Option InputItem
if_named input items item named = option_or (if named then Some item else None) (last_item_of input items)

-- one more item that names the input is the last
pub last_item_of-push_same : (input : ℕ) (items : List InputItem) (item : InputItem) → item.input ≡ input
    → last_item_of input (items ++ item ∷ []) ≡ Some item
last_item_of-push_same input items item e =
    last_item_of-push input items item ∙ ap (if_named input items item) (eq-eqb item.input input e)

-- one more item that names another input does not change the last
pub last_item_of-push_other : (input : ℕ) (items : List InputItem) (item : InputItem) → item.input ≢ input
    → last_item_of input (items ++ item ∷ []) ≡ last_item_of input items
last_item_of-push_other input items item other =
    last_item_of-push input items item ∙ ap (if_named input items item) (ne_eqb item.input input other)
