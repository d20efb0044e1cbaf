-- The densest traffic of 64 open inputs with filters of f: each changes with each f-th sample.
use Rattle.fio_module.proofs.Names.{◌≡◌, ℕ, zero, suc, ◌+◌, ◌-◌, ◌/◌, ◌%◌, ◌^◌, ◌==◌, ◌≤◌, Bool, true, false, List, [], ◌∷◌, ◌++◌, length, Option, Some, None, refl, arith, if◌then◌else◌, ConfigureInputs, is_set, last_item_of, setting_by, scans_in, open_inputs, sum_below, HasFiltersOf, OpenHaveFiltersOf, NoneIsApplied, standard_settings, Life, Scanned, Commanded, filter_events, log_of, transitions_below, newest_end, waiting_of}
use Rattle.std.specs.Option.{option_or}
use Rattle.fio_message.specs.declared.fields.InputItem.{InputItem}
use Rattle.fio_module.specs.Sharpness.{StandardOutageIsTooLong}

-- the inputs below a number, open, with both filters f
unfoldable pub items_below : ℕ → ℕ → List InputItem
items_below filter zero = []
items_below filter (suc input) =
    record { input = input; ignore = false; leading = filter; trailing = filter } ∷ items_below filter input

-- the raw levels at the scan after n others: f scans with all inputs 0 and f with all 1, in turn
abbrev pub levels_at : ℕ → ℕ → ℕ
levels_at filter scans = if scans / filter % 2 == 0 then 0 else 2 ^ 64 - 1

-- n such scans after others
unfoldable pub densest : ℕ → ℕ → ℕ → Life
densest filter from zero = []
densest filter from (suc n) = Scanned (levels_at filter (from + n)) ∷ densest filter from n

-- all inputs are opened, and have been 0 for one scan less than their filters ask for
abbrev pub opened : ℕ → Life
opened filter = densest filter 0 (filter - 1) ++ Commanded (ConfigureInputs (record { items = items_below filter 64 })) ∷ []

-- scans apply nothing
pub none_applied : (filter from n : ℕ) (rest : Life) → NoneIsApplied (filter_events rest)
    → NoneIsApplied (filter_events (densest filter from n ++ rest))
unfolding densest
none_applied filter from zero rest none = none
none_applied filter from (suc n) rest none = (tt, none_applied filter from n rest none)

-- if an item names an input, both its filters are at least f
abbrev HasFilters : ℕ → Option InputItem → Type 0
HasFilters filter None = Unit {0}
HasFilters filter (Some item) = (filter ≤ item.leading) × (filter ≤ item.trailing)

has_of : (filter : ℕ) (found : Option InputItem) (same : Bool) (named : ℕ) → HasFilters filter found
    → HasFilters filter (option_or found (if same then Some (record { input = named; ignore = false; leading = filter; trailing = filter }) else None))
has_of filter (Some item) same named has = has
has_of filter None true named has = (omega arith, omega arith)
has_of filter None false named has = tt

has_filters : (filter input n : ℕ) → HasFilters filter (last_item_of input (items_below filter n))
unfolding items_below
has_filters filter input zero = tt
has_filters filter input (suc n) = has_of filter (last_item_of input (items_below filter n)) (n == input) n (has_filters filter input n)

pub set_of : (filter : ℕ) → filter ≤ 5 → (found : Option InputItem) → HasFilters filter found
    → HasFiltersOf (setting_by found (record { ignore = true; leading = 5; trailing = 5 })) filter
set_of filter few None has = record { leading = omega arith; trailing = omega arith }
set_of filter few (Some item) has = record { leading = omega (arith, has.0); trailing = omega (arith, has.1) }

-- filters of 5
pub filters_of_5 : OpenHaveFiltersOf (filter_events (opened 5)) 5
unfolding densest items_below
filters_of_5 input within unignored = set_of 5 (omega arith) (last_item_of input (items_below 5 64)) (has_filters 5 input 64)

-- filters of 1
pub filters_of_1 : OpenHaveFiltersOf (filter_events (opened 1)) 1
unfolding densest items_below
filters_of_1 input within unignored = set_of 1 (omega arith) (last_item_of input (items_below 1 64)) (has_filters 1 input 64)

logged : length (log_of (densest 5 4 81 ++ opened 5)) ≡ 1088
unfolding densest items_below transitions_below is_set
logged = refl

ends : newest_end (standard_settings 0) (densest 5 4 81 ++ opened 5) ≡ 0
unfolding densest items_below
ends = refl

waits_none : waiting_of (standard_settings 0) (opened 5) ≡ []
unfolding densest items_below transitions_below is_set
waits_none = refl

all_open : open_inputs (filter_events (opened 5)) ≡ 64
unfolding densest items_below sum_below
all_open = refl

not_applied : NoneIsApplied (filter_events (densest 5 4 81))
unfolding densest
not_applied = none_applied 5 4 81 [] tt

scans : scans_in (filter_events (densest 5 4 81)) ≡ 81
unfolding densest
scans = refl

pub outage_is_too_long : StandardOutageIsTooLong 81
outage_is_too_long = (
  opened 5,
  densest 5 4 81,
  all_open,
  record {
    nothing_waits = waits_none;
    some = omega arith;
    filters = filters_of_5;
    not_applied = not_applied;
    long = scans;
    pushed_out = omega (arith, logged, ends);
  },
)
