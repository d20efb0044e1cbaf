-- What states show of an input at the place below an event, and the times that are read from a place on.
use Rattle.fio_check.proofs.Names.{content_at, ◌≡◌, ◌∙◌, ◌+◌, subst, ℕ, zero, suc, Bool, true, false, List, [], ◌∷◌, Option, Some, None, refl, sym, ap, arith, drop, if◌then◌else◌, is_some, nat_lt, option_map, option_and_then, slice_get, unwrap_or, option_or, ContentEvent, LineEvent, Seen, content_event_at, Placed, latest_above, INPUTS, ends_shown, if_comes, is_clear_end, is_polled, is_since_poll, is_timely, is_touched, is_unlogged, item_of_input, latest_said, polling, said_if, seen_at, settles, state_shown, states_heard, shows_other, shown_at, ◌&&◌, ◌-◌, ◌||◌}
use Rattle.fio_check.specs.ContentAbove.{is_clear_above, seen_still, touching_at}
use Rattle.fio_check.specs.ContentSaid.{is_end}
use Rattle.fio_check.proofs.ContentPlaces.{and-none, latest_below, placed, polled_next, since_next, some_next, turn-more}
use Rattle.fio_check.proofs.StatePlaces.{timely_next}

-- ---- what states tell of an input

module _ (events : List LineEvent) (place : ℕ) (event : ContentEvent) (is : content_event_at events place ≡ Some event) (input : ℕ) where
  pub touched_next : is_touched events input (suc place)
      ≡ unwrap_or (if settles (content_at events place) input event then Some false else said_if (is_some (item_of_input input event))) (is_touched events input place)
  touched_next = turn-more place (touching_at events input place) (latest_above (touching_at events input) place) ∙ rw is refl

  abbrev pub comes : Option Seen
  comes = option_and_then (if_comes event) (seen_at events place)

  join-more : (now : Option (Option Bool)) (earlier : Option (Placed (Option Bool)))
      → option_and_then (λ found. found.value) (option_or (placed place now) earlier) ≡ unwrap_or now (option_and_then (λ found. found.value) earlier)
  join-more (Some value) earlier = refl
  join-more None earlier = refl

  -- what is shown where the record comes to states, by whether the input is below 64, and whether an item of it was sent
  abbrev pub shown_within : Bool → Bool → Option Seen → Option Bool
  shown_within within touched None = shown_at events input place
  shown_within within touched (Some seen) = if within then state_shown input touched seen else shown_at events input place

  pub shown_next : shown_at events input (suc place) ≡ (if ends_shown input event then None else shown_within (nat_lt input INPUTS) (is_touched events input place) comes)
  shown_next = grind (arith, join-more)

  -- and whether its changes are not logged
  abbrev pub unlogged_within : Bool → Option Seen → Bool
  unlogged_within touched None = is_unlogged events input place
  unlogged_within touched (Some seen) = (nat_lt input INPUTS && shows_other input touched (shown_at events input place) seen) || is_unlogged events input place

  pub unlogged_next : is_unlogged events input (suc place) ≡ (if is_some (item_of_input input event) then false else unlogged_within (is_touched events input place) comes)
  unlogged_next = grind (arith, and-none, turn-more)

-- ---- times that are read from a place on

abbrev pub event_of : LineEvent → ContentEvent
event_of found = found.event

-- once times are known they stay known
timely-more : (events : List LineEvent) (place : ℕ) (found : Option ContentEvent) → content_event_at events place ≡ found → is_timely events place ≡ true → is_timely events (suc place) ≡ true
timely-more events place found is timely = grind (arith, timely_next)

timely-later : (events : List LineEvent) (place more : ℕ) → is_timely events place ≡ true → is_timely events (place + more) ≡ true
timely-later events place zero timely = (let same : place + 0 ≡ place = omega arith in subst (λ n. is_timely events n ≡ true) (sym same) timely)
timely-later events place (suc more) timely =
    let same : place + suc more ≡ suc (place + more) = omega arith in
    subst (λ n. is_timely events n ≡ true) (sym same)
    (timely-more events (place + more) (content_event_at events (place + more)) refl (timely-later events place more timely))

-- where states are above that were asked for, times are known
pub seen_timely : (events : List LineEvent) (place : ℕ) (states : Seen) → seen_at events place ≡ Some states → is_timely events place ≡ true
seen_timely events place states is = by (latest_said states_heard events place) refl is
  where
    known : (timely other : Bool) (seen : Seen) → (if timely && other then Some seen else None) ≡ Some states → timely ≡ true
    known true other seen is = refl
    known false other seen is = absurd (cc)

    by : (found : Option (Placed Seen)) → latest_said states_heard events place ≡ found → option_and_then (seen_still events place) found ≡ Some states → is_timely events place ≡ true
    by None at is = absurd (cc)
    by (Some seen) at is =
        let below = latest_below states_heard events place seen at in
        let count : seen.place + (place - seen.place) ≡ place = omega (arith, below) in
        subst (λ n. is_timely events n ≡ true) count (timely-later events seen.place (place - seen.place) (known (is_timely events seen.place) _ seen.value is))

-- an event that is read for times
read_from : (events : List LineEvent) (from at : ℕ) → slice_get (drop from events) at ≡ slice_get events (from + at)
read_from events zero at = (let same : 0 + at ≡ at = omega arith in ap (slice_get events) (sym same))
read_from [] (suc from) at = (let same : suc from + at ≡ suc (from + at) = omega arith in ap (slice_get []) (sym same))
read_from (one ∷ events) (suc from) at =
    let same : suc from + at ≡ suc (from + at) = omega arith in
    read_from events from at ∙ ap (slice_get (one ∷ events)) (sym same)

pub timed_event : (events : List LineEvent) (from at : ℕ) → content_event_at (drop from events) at ≡ content_event_at events (from + at)
timed_event events from at = ap (option_map event_of) (read_from events from at)

-- what is the same where times are read from a place on
record TimesSame (timed events : List LineEvent) (at place input : ℕ) : Type 0 where
  clear : is_clear_above timed at ≡ is_clear_above events place
  polled : is_polled timed at ≡ is_polled events place
  since : is_since_poll timed input at ≡ is_since_poll events input place
  touched : is_touched timed input at ≡ is_touched events input place

clear-ends : (event : ContentEvent) → is_clear_end event ≡ true → (polling event ≡ Some false) × (is_end event ≡ true)
clear-ends event clear = grind arith

times-more : (timed events : List LineEvent) (at place input : ℕ) (found : Option ContentEvent) → content_event_at timed at ≡ found → content_event_at events place ≡ content_event_at timed at
    → (is_timely timed at ≡ true → TimesSame timed events at place input)
    → is_timely timed (suc at) ≡ true → TimesSame timed events (suc at) (suc place) input
times-more timed events at place input found here there before timely = grind (arith, clear-ends, polled_next, since_next, some_next, timely_next, touched_next)

times_same : (events : List LineEvent) (from at input : ℕ) → is_timely (drop from events) at ≡ true → TimesSame (drop from events) events at (from + at) input
times_same events from zero input timely = absurd (cc)
times_same events from (suc at) input timely =
    let same : from + suc at ≡ suc (from + at) = omega arith in
    subst (λ n. TimesSame (drop from events) events (suc at) n input) (sym same)
    (times-more (drop from events) events at (from + at) input (content_event_at (drop from events) at) refl (sym (timed_event events from at))
    (times_same events from at input) timely)

-- where times are known, an item of an input was sent since the latest block that settles it if it is among the events that are
-- read for them
pub touched_same : (events : List LineEvent) (from at input : ℕ) → is_timely (drop from events) at ≡ true → is_touched (drop from events) input at ≡ is_touched events input (from + at)
touched_same events from at input timely = (times_same events from at input timely).touched
