-- What is above the place below an event, by what is above the event.
use Rattle.fio_check.proofs.Names.{content_at, ◌≡◌, ◌<◌, ◌∙◌, ℕ, suc, Bool, true, false, List, Option, Some, None, refl, ap, ap₂, arith, if◌then◌else◌, is_some, nat_lt, not, option_map, option_and_then, unwrap_or, option_or, nat_tests, ContentEvent, LineEvent, SentItem, content_event_at, IsLatestAbove, Placed, is_some_and, latest_above, TimedState, WatchedState, entry_recorded, floor_known, floor_of, ignoring, is_gap, is_polled, is_since_poll, is_timely, item_of_input, latest_said, opening, polling, said_if, settled_at, settles, ◌&&◌, ◌||◌}
use Rattle.fio_check.specs.ContentAbove.{hiding_at, is_aged, is_clear_above, is_hidden, is_reopened, is_reopened_for, is_said_between, is_shaded, is_shut_by, is_taken_above, last_said, reopening_at, settled, taking_at, timed_below, watched_state}
use Rattle.fio_check.specs.ContentSaid.{Floor, is_end}
use Rattle.fio_check.proofs.Places.{is_the_latest}

-- ---- tests

pub less-true : (a b : ℕ) → a < b → nat_lt a b ≡ true
less-true a b below = grind (arith, nat_tests)

pub less-false : (a b : ℕ) → b < a → nat_lt a b ≡ false
less-false a b below = grind (arith, nat_tests)

pub said : (holds : Bool) → is_some (said_if holds) ≡ holds
said true = refl
said false = refl

pub and-true : (b : Bool) → (b && true) ≡ b
and-true true = refl
and-true false = refl

-- ---- what is found, with one event more

pub latest-here : {A : Type 0} (says : ℕ → Option A) (place : ℕ) (found : Placed A) → latest_above says place ≡ Some found → IsLatestAbove says place found
latest-here says place found is = (is_the_latest says place found).0 is

-- it is above
pub latest_below : {A : Type 0} (says : ContentEvent → Option A) (events : List LineEvent) (place : ℕ) (found : Placed A)
    → latest_said says events place ≡ Some found → found.place < place
latest_below says events place found is =
    (latest-here (λ above. option_and_then says (content_event_at events above)) place found is).above

abbrev pub placed : {A : Type 0} → ℕ → Option A → Option (Placed A)
placed place now = option_map (λ value. record { place = place; value = value }) now

pub some-more : {A : Type 0} (place : ℕ) (now : Option A) (earlier : Option (Placed A)) → is_some (option_or (placed place now) earlier) ≡ (is_some now || is_some earlier)
some-more place (Some value) earlier = refl
some-more place None earlier = refl

last-more : {A : Type 0} (place : ℕ) (now : Option A) (earlier : Option (Placed A))
    → option_map (λ found. found.value) (option_or (placed place now) earlier) ≡ option_or now (option_map (λ found. found.value) earlier)
last-more place (Some value) earlier = refl
last-more place None earlier = refl

pub turn-more : (place : ℕ) (now : Option Bool) (earlier : Option (Placed Bool))
    → is_some_and (option_or (placed place now) earlier) (λ turn. turn.value) ≡ unwrap_or now (is_some_and earlier (λ turn. turn.value))
turn-more place (Some value) earlier = refl
turn-more place None earlier = refl

pub between-more : {A : Type 0} (place above : ℕ) (now : Option A) (earlier : Option (Placed A)) → nat_lt above place ≡ true
    → is_some_and (option_or (placed place now) earlier) (λ found. nat_lt above found.place) ≡ (is_some now || is_some_and earlier (λ found. nat_lt above found.place))
between-more place above (Some value) earlier below = below
between-more place above None earlier below = refl

pub none-between : {A : Type 0} (place : ℕ) (earlier : Option (Placed A)) → ((found : Placed A) → earlier ≡ Some found → found.place < place)
    → is_some_and earlier (λ found. nat_lt place found.place) ≡ false
none-between place (Some found) below = less-false place found.place (below found refl)
none-between place None below = refl

-- an entry that is watched below an event that opens its input, ignores it or is a gap mark
abbrev pub watched_after : (opens ignores gap : Bool) → WatchedState → Option WatchedState
watched_after opens ignores gap watched = if (opens && watched.shaded) || gap
    then None
    else Some (record { level = watched.level; shaded = ignores || watched.shaded })

reopened-before : {A : Type 0} (x y : Bool) (some : Option A) → (if not ((x || true) || y) then some else None) ≡ None
reopened-before true y some = refl
reopened-before false y some = refl

gap-before : {A : Type 0} (x y : Bool) (some : Option A) → (if not ((x || false) || (y || true)) then some else None) ≡ None
gap-before x y some = grind arith

none-before : {A : Type 0} (x y : Bool) (some : Option A) → (if not ((x || false) || (y || false)) then some else None) ≡ (if x || y then None else some)
none-before x y some = grind arith

watch-more : (is_open opens ignores gap reopened gaps shaded level : Bool)
    → ◌≡◌ {A = Option WatchedState} (if is_open && not (((opens && shaded) || reopened) || (gap || gaps)) then Some (record { level = level; shaded = ignores || shaded }) else None)
    (option_and_then (watched_after opens ignores gap) (if is_open && not (reopened || gaps) then Some (record { level = level; shaded = shaded }) else None))
watch-more is_open opens ignores gap reopened gaps shaded level = grind (arith, gap-before, none-before, reopened-before)

shade-more : (hidden now earlier : Bool) → (hidden || (now || earlier)) ≡ (now || (hidden || earlier))
shade-more hidden now earlier = grind arith

open-more : (ignore now earlier : Bool) → (ignore && not (now || earlier)) ≡ (not now && (ignore && not earlier))
open-more ignore now earlier = grind arith

pub or-none : (b : Bool) → (b || false) ≡ b
or-none true = refl
or-none false = refl

pub and-none : (b : Bool) → (b && false) ≡ false
and-none true = refl
and-none false = refl

pub if-same : {A : Type 0} (b : Bool) (x : A) → (if b then x else x) ≡ x
if-same true x = refl
if-same false x = refl

module _ (events : List LineEvent) (place : ℕ) (event : ContentEvent) (is : content_event_at events place ≡ Some event) where
  pub latest_next : {A : Type 0} (says : ContentEvent → Option A)
      → latest_said says events (suc place) ≡ option_or (placed place (says event)) (latest_said says events place)
  latest_next says = rw is refl

  pub some_next : {A : Type 0} (says : ContentEvent → Option A)
      → is_some (latest_said says events (suc place)) ≡ (is_some (says event) || is_some (latest_said says events place))
  some_next says = ap is_some (latest_next says) ∙ some-more place (says event) (latest_said says events place)

  pub last_next : {A : Type 0} (says : ContentEvent → Option A) → last_said says events (suc place) ≡ option_or (says event) (last_said says events place)
  last_next says = ap (option_map (λ found. found.value)) (latest_next says) ∙ last-more place (says event) (latest_said says events place)

  pub between_next : {A : Type 0} (says : ContentEvent → Option A) (above : ℕ) → above < place
      → is_said_between says events above (suc place) ≡ (is_some (says event) || is_said_between says events above place)
  between_next says above below = grind (arith, between-more, latest_next, less-true)

  pub between_here : {A : Type 0} (says : ContentEvent → Option A) → says event ≡ None → is_said_between says events place (suc place) ≡ false
  between_here says none = grind (arith, latest_below, latest_next, none-between)

  -- ---- of one input

  pub polled_next : is_polled events (suc place) ≡ unwrap_or (polling event) (is_polled events place)
  polled_next = ap (λ latest. is_some_and latest (λ turn. turn.value)) (latest_next polling) ∙ turn-more place (polling event) (latest_said polling events place)

  pub since_next : (input : ℕ)
      → is_since_poll events input (suc place) ≡ (if is_end event then false else (is_some (item_of_input input event) && is_polled events place) || is_since_poll events input place)
  since_next input = grind (arith, turn-more)

  pub hidden_next : (input : ℕ)
      → is_hidden events input (suc place) ≡ unwrap_or (if settles (content_at events place) input event then Some false else ignoring input event) (is_hidden events input place)
  hidden_next input = turn-more place (hiding_at events input place) (latest_above (hiding_at events input) place) ∙ rw is refl

  pub taken_next : (input : ℕ) → is_taken_above events input (suc place) ≡ unwrap_or (taking_at events input place) (is_taken_above events input place)
  taken_next input = turn-more place (taking_at events input place) (latest_above (taking_at events input) place)

  pub reopened_next : (input : ℕ) → is_reopened events input (suc place) ≡ unwrap_or (reopening_at events input place) (is_reopened events input place)
  reopened_next input = turn-more place (reopening_at events input place) (latest_above (reopening_at events input) place)

  -- its latest entry stays, by what is found
  shaded-more : (input from : ℕ) → from < place → is_shaded events input from (suc place) ≡ (is_some (ignoring input event) || is_shaded events input from place)
  shaded-more input from below = grind (arith, between_next, shade-more)

  reopened-more : (input from : ℕ) → from < place
      → is_reopened_for events input from (suc place) ≡ ((is_some (opening input event) && is_shaded events input from place) || is_reopened_for events input from place)
  reopened-more input from below = grind (arith, between-more, less-true, said)

  watched-stays : (input : ℕ) (found : Option (Placed TimedState)) → latest_said (entry_recorded input) events place ≡ found
      → option_and_then (watched_state events input (suc place)) found
      ≡ option_and_then (watched_after (is_some (opening input event)) (is_some (ignoring input event)) (is_some (is_gap event))) (option_and_then (watched_state events input place) found)
  watched-stays input None at = refl
  watched-stays input (Some entry) at =
      let below = latest_below (entry_recorded input) events place entry at in
      let base = is_clear_above events entry.place && not (is_reopened events input entry.place) in
      ap₂ (λ reopened gaps. if base && not (reopened || gaps) then Some (record { level = entry.value.level; shaded = is_shaded events input entry.place (suc place) }) else None)
      (reopened-more input entry.place below) (between_next is_gap entry.place below)
      ∙ ap (λ shaded. if base && not (((is_some (opening input event) && is_shaded events input entry.place place) || is_reopened_for events input entry.place place)
      || (is_some (is_gap event) || is_said_between is_gap events entry.place place)) then Some (record { level = entry.value.level; shaded = shaded }) else None)
      (shaded-more input entry.place below)
      ∙ watch-more base (is_some (opening input event)) (is_some (ignoring input event)) (is_some (is_gap event)) (is_reopened_for events input entry.place place)
      (is_said_between is_gap events entry.place place) (is_shaded events input entry.place place) entry.value.level

  pub watched_next : (input : ℕ) → entry_recorded input event ≡ None
      → option_and_then (watched_state events input (suc place)) (latest_said (entry_recorded input) events (suc place))
      ≡ option_and_then (watched_after (is_some (opening input event)) (is_some (ignoring input event)) (is_some (is_gap event)))
      (option_and_then (watched_state events input place) (latest_said (entry_recorded input) events place))
  watched_next input none = grind (arith, latest_next, watched-stays)

  -- it is this event's
  reopened-here : (input : ℕ) → opening input event ≡ None → is_reopened_for events input place (suc place) ≡ false
  reopened-here input closed = grind (arith, latest-here, none-between)

  pub watched_here : (input : ℕ) (entry : TimedState) → entry_recorded input event ≡ Some entry → is_gap event ≡ None → opening input event ≡ None → ignoring input event ≡ None
      → option_and_then (watched_state events input (suc place)) (latest_said (entry_recorded input) events (suc place))
      ≡ (if is_clear_above events place && not (is_reopened events input place) then Some (record { level = entry.level; shaded = is_hidden events input place }) else None)
  watched_here input entry here shown closed unhidden = grind (arith, and-true, between_here, latest_next, or-none, reopened-here)

  pub timed_next : (input : ℕ) → entry_recorded input event ≡ None
      → option_and_then (timed_below events) (latest_said (entry_recorded input) events (suc place)) ≡ option_and_then (timed_below events) (latest_said (entry_recorded input) events place)
  timed_next input none = grind (arith, latest_next)

  pub timed_here : (input : ℕ) (entry : TimedState) → entry_recorded input event ≡ Some entry
      → option_and_then (timed_below events) (latest_said (entry_recorded input) events (suc place)) ≡ (if is_timely events place && not (is_aged events place) then Some entry.wide else None)
  timed_here input entry here = grind (arith, latest_next)

  -- ---- the floor

  pub floor_next : floor_of event ≡ None
      → option_and_then (floor_known events) (latest_said floor_of events (suc place)) ≡ option_and_then (floor_known events) (latest_said floor_of events place)
  floor_next none = grind (arith, latest_next)

  pub floor_here : (floor : Floor) → floor_of event ≡ Some floor
      → option_and_then (floor_known events) (latest_said floor_of events (suc place)) ≡ (if is_some floor.input && is_aged events place then None else Some floor)
  floor_here floor here = grind (arith, latest_next)

  -- ---- the item that is settled

  settled-more : (input : ℕ) (now : Option SentItem) → settled_at events input place ≡ now → settled events input (suc place) ≡ option_or (placed place now) (settled events input place)
  settled-more input now at = ap (λ n. option_or (placed place n) (settled events input place)) at

  settled-below : (input : ℕ) (item : Placed SentItem) → settled events input place ≡ Some item → item.place < place
  settled-below input item at = (latest-here (settled_at events input) place item at).above

  shut-stays : (input : ℕ) (found : Option (Placed SentItem)) → settled events input place ≡ found
      → is_some_and found (is_shut_by events input (suc place)) ≡ (not (is_some (opening input event)) && is_some_and found (is_shut_by events input place))
  shut-stays input found at = grind (arith, and-none, between_next, open-more, settled-below)

  pub shut_next : (input : ℕ) → settled_at events input place ≡ None
      → is_some_and (settled events input (suc place)) (is_shut_by events input (suc place)) ≡ (not (is_some (opening input event)) && is_some_and (settled events input place) (is_shut_by events input place))
  shut_next input none = grind (arith, settled-more, shut-stays)

  pub shut_here : (input : ℕ) (item : SentItem) → settled_at events input place ≡ Some item → opening input event ≡ None
      → is_some_and (settled events input (suc place)) (is_shut_by events input (suc place)) ≡ item.ignore
  shut_here input item here closed = grind (arith, and-true, between_here, settled-more)
