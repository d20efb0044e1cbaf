-- Items that all name an input of the module, and the first that does not.
use Rattle.fio_input.proofs.Names.{◌≡◌, ℕ, suc, ◌+◌, ◌<◌, ◌≤◌, Bool, true, false, not, cond, ◌&&◌, List, [], ◌∷◌, ◌++◌, take, drop, get_or, length, ltb, leb, if◌then◌else◌, Some, None, refl, sym, ap, ap₂, ◌∙◌, arith, list_all, position, prefix_len, ltb-true, ltb-false, nat_tests, take-append-drop, InputItem, all_present, applied_items}
use Rattle.std.proofs.lemmas.List.Folds.{list_all-append}
use Rattle.std.proofs.lemmas.List.Sums.{AllPass-from_list_all, prefix_len_passes, prefix_len_stops}
use Rattle.std.proofs.lemmas.Bool.{and_parts}

abbrev above : InputItem → Bool
above item = leb 64 item.input

abbrev present : InputItem → Bool
present item = ltb item.input 64

-- one more item above 63 in front, and n of m others before the first that is above 63
counted : (input n m : ℕ) (rest : Bool) → rest ≡ not (ltb n m)
    → (ltb input 64 && rest) ≡ not (ltb (cond (not (leb 64 input)) (1 + n) 0) (suc m))
counted input n m rest h = grind (arith, nat_tests)

-- all items are present exactly if no index before their end has an item above 63
all_present-prefix_len : (items : List InputItem)
    → all_present items ≡ not (ltb (prefix_len (λ item. not (above item)) items) (length items))
all_present-prefix_len [] = refl
all_present-prefix_len (item ∷ items) = counted item.input _ _ _ (all_present-prefix_len items)

none_found : (b : Bool) (n : ℕ) → cond b (Some n) None ≡ None → b ≡ false
none_found true n h = cc
none_found false n h = refl

some_found : (b : Bool) (n m : ℕ) → cond b (Some n) None ≡ Some m → b ≡ true
some_found true n m h = refl
some_found false n m h = cc

-- with no item above 63, all are present
pub all_present-none : (items : List InputItem) → position above items ≡ None → all_present items ≡ true
all_present-none items h = all_present-prefix_len items ∙ ap not (none_found _ _ h)

-- with an item above 63, not all are present
pub all_present-some : (items : List InputItem) (place : ℕ) → position above items ≡ Some place → all_present items ≡ false
all_present-some items place h = all_present-prefix_len items ∙ ap not (some_found _ _ place h)

-- with an item above 63, none is applied
pub applied_items-some : (items : List InputItem) (place : ℕ) → position above items ≡ Some place → applied_items items ≡ []
applied_items-some items place h = ap (λ all. if all then items else []) (all_present-some items place h)

-- if all items are present, each of them names an input below 64
pub all_present-at : (items : List InputItem) (i : ℕ) (d : InputItem) → i < length items → all_present items ≡ true → (get_or items i d).input < 64
all_present-at items i d h all = ltb-true (get_or items i d).input 64 (AllPass-from_list_all present items all i d h)

-- if all items are present, so are the first n of them
pub all_present-take : (n : ℕ) (items : List InputItem) → all_present items ≡ true → all_present (take n items) ≡ true
all_present-take n items all =
    (and_parts _ _ (sym (list_all-append present (take n items) (drop n items)) ∙ ap (list_all present) (take-append-drop n items) ∙ all)).0

is_present : (n : ℕ) → n < 64 → (ltb n 64 && true) ≡ true
is_present n h = grind (arith, nat_tests)

-- one more present item leaves all present
pub all_present-push : (items : List InputItem) (item : InputItem) → all_present items ≡ true → item.input < 64
    → all_present (items ++ item ∷ []) ≡ true
all_present-push items item all inside =
    list_all-append present items (item ∷ []) ∙ ap₂ (λ a b. a && b) all (is_present item.input inside)

-- if all items are present, all are applied
pub applied_items-all : (items : List InputItem) → all_present items ≡ true → applied_items items ≡ items
applied_items-all items all = ap (λ b. if b then items else []) all

-- how many items are before the first that is above 63
abbrev pub front : List InputItem → ℕ
front items = prefix_len (λ item. not (above item)) items

is_above : (n : ℕ) → 64 ≤ n → leb 64 n ≡ true
is_above n h = grind (arith, nat_tests)

is_below : (n : ℕ) → n < 64 → leb 64 n ≡ false
is_below n h = grind (arith, nat_tests)

not_less : (n m : ℕ) → m ≤ n → ltb n m ≡ false
not_less n m h = grind (arith, nat_tests)

less : (n m : ℕ) → n < m → ltb n m ≡ true
less n m h = grind (arith, nat_tests)

-- at an index up to the end of the front, the front goes on exactly if the item there is not above 63
front_at : (items : List InputItem) (place : ℕ) (item : InputItem) → place < length items
    → item ≡ get_or items place item → place ≤ front items → ltb place (front items) ≡ not (above item)
front_at items place item lt is le = step (ltb place (front items)) refl
  where
    step : (b : Bool) → ltb place (front items) ≡ b → b ≡ not (above item)
    step true h =
        sym (ap (λ i. not (above i)) is ∙ prefix_len_passes (λ item. not (above item)) items place item (ltb-true place (front items) h))
    step false h =
        let same : front items ≡ place = omega (arith, ltb-false place (front items) h, le) in
        let stops = prefix_len_stops (λ item. not (above item)) items item (omega (arith, same, lt)) in
        sym (ap (λ i. not (above i)) (is ∙ ap (λ k. get_or items k item) (sym same)) ∙ stops)

-- an item below 64 after the front lengthens it
pub front-more : (items : List InputItem) (place : ℕ) (item : InputItem) → place < length items
    → item ≡ get_or items place item → item.input < 64 → place ≤ front items → place + 1 ≤ front items
front-more items place item lt is below le =
    omega (arith, ltb-true place (front items) (front_at items place item lt is le ∙ ap not (is_below item.input below)))

-- an item above 63 after the front is the first such item
pub position-front : (items : List InputItem) (place : ℕ) (item : InputItem) → place < length items
    → item ≡ get_or items place item → 64 ≤ item.input → place ≤ front items → position above items ≡ Some place
position-front items place item lt is high le =
    let stops = front_at items place item lt is le ∙ ap not (is_above item.input high) in
    let same : front items ≡ place = omega (arith, ltb-false place (front items) stops, le) in
    ap (λ n. cond (ltb n (length items)) (Some n) None) same ∙ ap (λ b. cond b (Some place) None) (less place (length items) lt)

-- if the front has all of the items, none is above 63
pub position-none : (items : List InputItem) → length items ≤ front items → position above items ≡ None
position-none items le = ap (λ b. cond b (Some (front items)) None) (not_less (front items) (length items) le)
