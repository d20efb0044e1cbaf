-- A log in which an input's latest entry has the other state, or is missing: what is above differs in that state alone, until
-- an event tells the state.
use Rattle.fio_check.proofs.Names.{◌≡◌, ◌<◌, ◌≤◌, ◌∙◌, ◌+◌, ◌++◌, ℕ, zero, suc, Bool, true, false, List, [], ◌∷◌, Option, Some, None, refl, sym, subst, ap, arith, length, drop, take, length-drop, if◌then◌else◌, is_some, not, option_map, option_and_then, slice_get, slice_get_within, ContentFacts, Seen, content_at, content_with, ContentEvent, LineEvent, content_event_at, Placed, is_some_and, INPUTS, TimedState, WatchedState, content_step, entry_recorded, first_fault_in, ignoring, is_aging, is_far, is_gap, is_loading, latest_said, opening, place_of_latest, rule_broken_by, seen_below, seen_unloaded, seen_with, tells_of, ◌-◌}
use Rattle.fio_check.specs.Finding.{IsComparedAt}
use Rattle.fio_check.proofs.ContentCourse.{dropped_first}
use Rattle.fio_check.proofs.InputParts.{item_parts, unwatched_none, watched_same}
use Rattle.fio_check.proofs.ContentPlaces.{said, watched_after}
use Rattle.fio_check.proofs.ShownPlaces.{event_of}
use Rattle.fio_check.proofs.KeptContent.{ended_input}
use Rattle.fio_check.proofs.Unexcused.{quiet_above, step_only}
use Rattle.fio_check.proofs.LogFaults.{course, cut_at, facts_below, fault_at_event, no_fault_at}
use Rattle.fio_check.proofs.Places.{is_the_latest}
use Rattle.fio_check.proofs.RulesFound.{AreJudged, has_content, timed}

-- ---- with one event more

-- an entry that is watched, with the other state
abbrev pub turned_state : WatchedState → WatchedState
turned_state watched = record watched { level = not watched.level }

-- no load of the counter was sent, so what is known of times is the same
pub record IsSameTime (facts spoiled : ContentFacts) : Type 0 where
  pub judged : facts.excuses ≡ 0
  pub spoiled_judged : spoiled.excuses ≡ 0
  pub heard : facts.block_heard ≡ spoiled.block_heard
  pub timely : facts.timely ≡ spoiled.timely
  pub full : facts.full ≡ spoiled.full
  pub seen : (states : Seen) → facts.seen ≡ Some states → spoiled.seen ≡ Some states

-- what is above of the states that were asked for, and of an input that has the other state in a spoiled log
pub record IsSpoiled (input : ℕ) (unloaded : Bool) (facts spoiled : ContentFacts) : Type 0 where
  pub times : unloaded ≡ true → IsSameTime facts spoiled
  pub watched : (watched : WatchedState) → (facts.inputs input).watched ≡ Some watched → (spoiled.inputs input).watched ≡ Some (turned_state watched)

seen-below : (event : ContentEvent) (states : Seen) (seen other : Option Seen) → ((s : Seen) → seen ≡ Some s → other ≡ Some s) → seen_below event seen ≡ Some states → seen_below event other ≡ Some states
seen-below event states None other further is = absurd (cc)
seen-below event states (Some seen) other further is = rw (further seen refl) is

-- the states are above that event too
pub seen_above : (event : ContentEvent) (states : Seen) (seen : Option Seen) → seen_below event seen ≡ Some states → seen ≡ Some states
seen_above event states seen is = grind arith

aging-same : (facts spoiled : ContentFacts) (stamp : Option ℕ) → facts.full ≡ spoiled.full → is_aging facts stamp ≡ is_aging spoiled stamp
aging-same facts spoiled None same = refl
aging-same facts spoiled (Some now) same = ap (λ full. is_some_and full (λ f. is_far f now)) same

seen-heard : (facts spoiled : ContentFacts) (heard : Option Seen) (states : Seen) → IsSameTime facts spoiled → seen_with facts heard ≡ Some states → seen_with spoiled heard ≡ Some states
seen-heard facts spoiled None states same is = same.seen states is
seen-heard facts spoiled (Some heard) states same is = subst (λ timely. (if timely then Some heard else None) ≡ Some states) same.timely is

none-if : {A : Type 0} (none : Bool) (value : A) (option other : Option A) → (option ≡ Some value → other ≡ Some value)
    → (if none then None else option) ≡ Some value → (if none then None else other) ≡ Some value
none-if true value option other further is = absurd (cc)
none-if false value option other further is = further is

-- what is known of times is the same below an event that is no load
times-step : (facts spoiled : ContentFacts) (event : ContentEvent) → is_loading event ≡ None → IsSameTime facts spoiled → IsSameTime (content_step facts event) (content_step spoiled event)
times-step facts spoiled event quiet same = grind (arith, aging-same, none-if, seen-below, seen-heard)

times-with : (facts spoiled : ContentFacts) (event : ContentEvent) → is_loading event ≡ None → IsSameTime facts spoiled → IsSameTime (content_with facts event) (content_with spoiled event)
times-with facts spoiled event quiet same = grind (arith, step_only, times-step)

-- an event that is no entry of the input
watched-with : (facts : ContentFacts) (event : ContentEvent) (input : ℕ) → entry_recorded input event ≡ None
    → ((content_with facts event).inputs input).watched
    ≡ option_and_then (watched_after (is_some (opening input event)) (is_some (ignoring input event)) (is_some (is_gap event))) (facts.inputs input).watched
watched-with facts event input other = grind (arith, ended_input, item_parts, said, timed, unwatched_none, watched_after, watched_same)

spoiled-with : (facts spoiled : ContentFacts) (event : ContentEvent) (input : ℕ) (unloaded : Bool) → (unloaded ≡ true → is_loading event ≡ None) → entry_recorded input event ≡ None
    → IsSpoiled input unloaded facts spoiled → IsSpoiled input unloaded (content_with facts event) (content_with spoiled event)
spoiled-with facts spoiled event input unloaded quiet other above = grind (arith, times-with, watched-with, watched_after)

-- ---- below some events

-- of events among which no entry of the input is
spoiled-below : (between all rest : List LineEvent) (place input : ℕ) (unloaded : Bool) (facts spoiled : ContentFacts) → drop place all ≡ between ++ rest
    → ((at : ℕ) (event : ContentEvent) → place ≤ at → at < place + length between → content_event_at all at ≡ Some event → unloaded ≡ true → is_loading event ≡ None)
    → ((at : ℕ) → place ≤ at → at < place + length between → option_and_then (entry_recorded input) (content_event_at all at) ≡ None)
    → IsSpoiled input unloaded facts spoiled → IsSpoiled input unloaded (facts_below facts between) (facts_below spoiled between)
spoiled-below [] all rest place input unloaded facts spoiled left quiet none above = above
spoiled-below (event ∷ between) all rest place input unloaded facts spoiled left quiet none above =
    let cut = dropped_first all place event (between ++ rest) left in
    let here = rw cut.0 at (none place (omega arith) (omega arith)) in
    spoiled-below between all rest (suc place) input unloaded (content_with facts event.event) (content_with spoiled event.event) cut.1
    (λ at e from to. quiet at e (omega (arith, from)) (omega (arith, to)))
    (λ at from to. none at (omega (arith, from)) (omega (arith, to)))
    (spoiled-with facts spoiled event.event input unloaded (quiet place event.event (omega arith) (omega arith) (ap (option_map event_of) cut.0)) here above)

-- ---- where the state is shown

-- the first of what is left
left-first : {A : Type 0} (all : List A) (place : ℕ) (found : A) → slice_get all place ≡ Some found → drop place all ≡ found ∷ drop (suc place) all
left-first [] place found here = absurd (cc)
left-first (one ∷ all) zero found here = let same : one ≡ found = cc in ap (λ x. x ∷ all) same
left-first (one ∷ all) (suc place) found here = left-first all place found here

-- the latest entry of an input, by its place
latest-found : (events : List LineEvent) (input place from : ℕ) (found : Option (Placed TimedState)) → latest_said (entry_recorded input) events place ≡ found
    → option_map (λ (entry : Placed TimedState). entry.place) found ≡ Some from
    → (from < place) × ((at : ℕ) → from < at → at < place → option_and_then (entry_recorded input) (content_event_at events at) ≡ None)
latest-found events input place from None is at = absurd (cc)
latest-found events input place from (Some found) is at =
    let latest = (is_the_latest (λ above. option_and_then (entry_recorded input) (content_event_at events above)) place found).0 is in
    let same : found.place ≡ from = cc in
    (rw same at latest.above, λ between after before. latest.none_between between (rw same after) before)

pub latest_place : (events : List LineEvent) (input place from : ℕ) → place_of_latest events input place ≡ Some from → from < place
latest_place events input place from at = (latest-found events input place from (latest_said (entry_recorded input) events place) refl at).0

-- there is one at its place
pub latest_said_there : (events : List LineEvent) (input place from : ℕ) → place_of_latest events input place ≡ Some from
    → is_some (option_and_then (entry_recorded input) (content_event_at events from)) ≡ true
latest_said_there events input place from at = there (latest_said (entry_recorded input) events place) refl at
  where
    there : (found : Option (Placed TimedState)) → latest_said (entry_recorded input) events place ≡ found → option_map (λ (entry : Placed TimedState). entry.place) found ≡ Some from
        → is_some (option_and_then (entry_recorded input) (content_event_at events from)) ≡ true
    there None is at = absurd (cc)
    there (Some found) is at =
        let latest = (is_the_latest (λ above. option_and_then (entry_recorded input) (content_event_at events above)) place found).0 is in
        let same : found.place ≡ from = cc in
        ap is_some (ap (λ n. option_and_then (entry_recorded input) (content_event_at events n)) (sym same) ∙ latest.here)

module _ (events spoiled_events left : List LineEvent) (from spoiled_from place input : ℕ) (facts spoiled : ContentFacts) (within : input < INPUTS) (none : first_fault_in events ≡ None)
    (rest : drop (suc from) events ≡ left) (above : content_at events (suc from) ≡ facts)
    (spoiled_rest : drop spoiled_from spoiled_events ≡ left) (spoiled_above : content_at spoiled_events spoiled_from ≡ spoiled)
    (is_spoiled : IsSpoiled input (not (is_some (latest_said is_loading events place))) facts spoiled) where
  abbrev unloaded : Bool
  unloaded = not (is_some (latest_said is_loading events place))

  none-loaded : (found : Option (Placed Bool)) → not (is_some found) ≡ true → found ≡ None
  none-loaded None is = refl
  none-loaded (Some found) is = absurd (cc is)

  shown-at : (found : LineEvent) → slice_get events place ≡ Some found → place_of_latest events input place ≡ Some from
      → is_some_and ((content_at events place).inputs input).watched (tells_of (seen_unloaded events place) input found.event) ≡ true
      → is_some (first_fault_in spoiled_events) ≡ true
  shown-at found here at tells =
      let latest = latest-found events input place from (latest_said (entry_recorded input) events place) refl at in
      let after = latest.0 in
      let inside = slice_get_within events place found here in
      let count = place - suc from in
      let length_left : length events ≡ suc from + length left = omega (arith, length-drop (suc from) events, ap length rest) in
      let cut = cut_at left count (omega arith) in
      let between = take count left in
      let further = drop count left in
      let reaches : suc from + length between ≡ place = omega (arith, cut.1) in
      let way = course between events further (suc from) facts (rest ∙ sym cut.0) above in
      let spoiled_way = course between spoiled_events further spoiled_from spoiled (spoiled_rest ∙ sym cut.0) spoiled_above in
      let next : further ≡ found ∷ drop (suc place) events = sym way.1 ∙ ap (λ n. drop n events) reaches ∙ left-first events place found here in
      let spoiled_here = (dropped_first spoiled_events (spoiled_from + length between) found (drop (suc place) events) (spoiled_way.1 ∙ next)).0 in
      let facts_here : content_at events place ≡ facts_below facts between = ap (content_at events) (sym reaches) ∙ way.0 in
      let is_spoiled_here = spoiled-below between events further (suc from) input unloaded facts spoiled (rest ∙ sym cut.0)
      (λ n event from to is un. quiet_above events place n event (omega (arith, to, reaches)) is (none-loaded (latest_said is_loading events place) un))
      (λ n from to. latest.1 n (omega (arith, from)) (omega (arith, to, reaches))) is_spoiled in
      fault_at_event spoiled_events (spoiled_from + length between) found spoiled_here
      (ap (λ above. is_some (rule_broken_by above found.event)) spoiled_way.0
      ∙ shown (facts_below facts between) (facts_below spoiled between) found.event ((facts_below facts between).inputs input).watched refl is_spoiled_here
      (sym (ap (λ (above : ContentFacts). is_some_and (above.inputs input).watched (tells_of (if is_some (latest_said is_loading events place) then None else above.seen) input found.event)) facts_here) ∙ tells)
      (sym (ap (λ above. rule_broken_by above found.event) facts_here) ∙ no_fault_at events place found here none))
    where
      shown : (facts spoiled : ContentFacts) (event : ContentEvent) (watched : Option WatchedState) → (facts.inputs input).watched ≡ watched → IsSpoiled input unloaded facts spoiled
          → is_some_and watched (tells_of (if is_some (latest_said is_loading events place) then None else facts.seen) input event) ≡ true → rule_broken_by facts event ≡ None → is_some (rule_broken_by spoiled event) ≡ true
      shown facts spoiled event None is differs tells none = absurd (cc)
      shown facts spoiled event (Some watched) is differs tells none =
          has_content facts spoiled input within watched.level watched.shaded is (differs.watched watched is) (if is_some (latest_said is_loading events place) then None else facts.seen)
          (λ seen at. by (is_some (latest_said is_loading events place)) seen differs.times at) event tells none
        where
          by : (loaded : Bool) (seen : Seen) → (not loaded ≡ true → IsSameTime facts spoiled) → (if loaded then None else facts.seen) ≡ Some seen → AreJudged facts spoiled seen
          by true seen times at = absurd (cc at)
          by false seen times at = (let same = times refl in
              record { judged = same.judged; seen_is = at; spoiled_judged = same.spoiled_judged; spoiled_seen = same.seen seen at })

  event-shown : (found : Option LineEvent) → slice_get events place ≡ found → place_of_latest events input place ≡ Some from
      → is_some_and (option_map (λ (event : LineEvent). event.event) found)
      (λ event. is_some_and ((content_at events place).inputs input).watched (tells_of (seen_unloaded events place) input event)) ≡ true → is_some (first_fault_in spoiled_events) ≡ true
  event-shown None here at tells = absurd (cc)
  event-shown (Some found) here at tells = shown-at found here at tells

  -- the spoiled log has a fault
  pub shown_later : IsComparedAt events input from place → is_some (first_fault_in spoiled_events) ≡ true
  shown_later at = event-shown (slice_get events place) refl at.latest at.compared
