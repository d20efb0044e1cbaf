-- The least filters and the states that were asked for at the place below an event, by what is above the event.
use Rattle.fio_check.proofs.Names.{◌≡◌, ◌<◌, ◌≤◌, ◌∙◌, ◌++◌, ℕ, zero, suc, Bool, true, false, List, [], ◌∷◌, Option, Some, None, refl, sym, ap, ap₂, arith, drop, take, fold, if◌then◌else◌, is_some, nat_lt, not, option_map, option_and_then, slice_get, unwrap_or, option_or, Gap, ContentEvent, Sent, Heard, Recorded, FilterPair, LineEvent, Seen, SentItem, content_event_at, Placed, is_some_and, latest_above, Answer, Command, block_stamp, comes_to, fold-append, full_above, full_end, is_clear_end, is_far, is_gap, is_timely, item_of_input, latest_said, least_with, said_if, seen_at, seen_below, settled_at, settles, states_heard, ◌&&◌, ◌||◌}
use Rattle.fio_message.specs.declared.answers.Answer.TheVariants as answers
use Rattle.fio_check.specs.ContentAbove.{aging_at, losing_at, is_aged, is_lost_between, is_at, least_between, least_since, one_sample, seen_still, settled}
use Rattle.fio_check.proofs.ContentPlaces.{and-true, between-more, between_here, between_next, if-same, last_next, latest-here, latest_below, latest_next, less-true, none-between, or-none, placed, said, some-more, turn-more}

-- ---- the least filters

-- the first of a list, with one more
taken-more : {A : Type 0} (all : List A) (place : ℕ) (found : A) → slice_get all place ≡ Some found → take (suc place) all ≡ take place all ++ (found ∷ [])
taken-more [] place found here = absurd (cc)
taken-more (one ∷ all) zero found here = let same : one ≡ found = cc in ap (λ x. x ∷ []) same
taken-more (one ∷ all) (suc place) found here = ap (λ left. one ∷ left) (taken-more all place found here)

-- those from a place on
pub dropped_more : {A : Type 0} (all : List A) (from place : ℕ) (found : A) → from ≤ place → slice_get all place ≡ Some found
    → drop from (take (suc place) all) ≡ drop from (take place all) ++ (found ∷ [])
dropped_more all zero place found within here = taken-more all place found here
dropped_more [] (suc from) place found within here = absurd (cc)
dropped_more (one ∷ all) (suc from) zero found within here = absurd (omega arith)
dropped_more (one ∷ all) (suc from) (suc place) found within here = dropped_more all from place found (omega (arith, within)) here

nothing-left : {A : Type 0} (all : List A) (place : ℕ) → drop place (take place all) ≡ []
nothing-left [] zero = refl
nothing-left [] (suc place) = refl
nothing-left (one ∷ all) zero = refl
nothing-left (one ∷ all) (suc place) = nothing-left all place

event-is : (event : ContentEvent) (found : LineEvent) (at : Option LineEvent) → option_map (λ f. f.event) at ≡ Some event → at ≡ Some found → found.event ≡ event
event-is event found (Some one) is here = cc
event-is event found None is here = absurd (cc)

module _ (events : List LineEvent) (place : ℕ) (event : ContentEvent) (is : content_event_at events place ≡ Some event) (input : ℕ) (found : LineEvent) (here : slice_get events place ≡ Some found) where
  least-more : (filters : FilterPair) (from : ℕ) → from ≤ place
      → least_between filters input events from (suc place) ≡ least_with (least_between filters input events from place) (item_of_input input event)
  least-more filters from within =
      let step = λ (least : FilterPair) (f : LineEvent). least_with least (item_of_input input f.event) in
      ap (fold step filters) (dropped_more events from place found within here)
      ∙ fold-append step filters (drop from (take place events)) (found ∷ [])
      ∙ ap (λ e. least_with (least_between filters input events from place) (item_of_input input e)) (event-is event found (slice_get events place) is here)

  least-stays : (item : Option (Placed SentItem)) → settled events input place ≡ item
      → least_since events input (suc place) item ≡ least_with (least_since events input place item) (item_of_input input event)
  least-stays None at = least-more one_sample 0 (omega arith)
  least-stays (Some item) at =
      let below : item.place < place = (latest-here (settled_at events input) place item at).above in
      least-more item.value.filters item.place (omega (arith, below))

  pub least_next : settled_at events input place ≡ None
      → least_since events input (suc place) (settled events input (suc place)) ≡ least_with (least_since events input place (settled events input place)) (item_of_input input event)
  least_next none = grind (arith, least-stays, placed)

  pub least_here : (item : SentItem) → settled_at events input place ≡ Some item → item_of_input input event ≡ None
      → least_since events input (suc place) (settled events input (suc place)) ≡ item.filters
  least_here item settles none = grind (arith, least-more, nothing-left, placed)

-- ---- the states that were asked for

-- a block with this stamp, if any is heard, was made long after the latest block without C, which has that stamp
abbrev pub ages : Option ℕ → Option ℕ → Bool
ages full stamp = is_some_and stamp (λ now. is_some_and full (λ f. is_far f now))

-- they stay, if the event does not come to them, and no block is heard that was made long after the latest one without C
come-more : (clear aging comes between aged : Bool) (seen : Seen)
    → (if clear && not ((comes || between) || (aging || aged)) then Some seen else None)
    ≡ (if aging then None else (if clear && not (between || aged) then (if comes then None else Some seen) else None))
come-more clear aging comes between aged seen = grind arith

below-if : (event : ContentEvent) (still : Bool) (seen : Seen) → seen_below event (if still then Some seen else None) ≡ (if still then (if comes_to seen event then None else Some seen) else None)
below-if event true seen = refl
below-if event false seen = refl

said-some : (holds : Bool) → is_some (said_if holds) ≡ holds
said-some true = refl
said-some false = refl

module _ (events : List LineEvent) (place : ℕ) (event : ContentEvent) (is : content_event_at events place ≡ Some event) where
  abbrev pub aging : Bool
  aging = unwrap_or (aging_at events place) false || is_at (λ e. is_some (is_gap e)) events place

  pub aging_is : aging ≡ (ages (full_above events place) (block_stamp event) || is_some (is_gap event))
  aging_is = grind arith

  pub aged_next : is_aged events (suc place) ≡ (if is_some (block_stamp event) then ages (full_above events place) (block_stamp event) else is_aged events place)
  aged_next = grind (arith, turn-more)

  aged-between : (from : ℕ) → from < place → is_lost_between events from (suc place) ≡ (aging || is_lost_between events from place)
  aged-between from below = grind (arith, between-more, less-true, said-some)

  seen-stays : (found : Option (Placed Seen)) → latest_said states_heard events place ≡ found
      → option_and_then (seen_still events (suc place)) found ≡ (if aging then None else seen_below event (option_and_then (seen_still events place) found))
  seen-stays found at = grind (arith, aged-between, below-if, between_next, come-more, if-same, latest_below, said)

  pub seen_next : states_heard event ≡ None → seen_at events (suc place) ≡ (if aging then None else seen_below event (seen_at events place))
  seen_next unheard = grind (arith, latest_next, placed, seen-stays)

  -- where no block is heard
  pub seen_stays : block_stamp event ≡ None → is_gap event ≡ None → states_heard event ≡ None → seen_at events (suc place) ≡ seen_below event (seen_at events place)
  seen_stays none whole unheard = grind (arith, aging_is, seen_next)

  -- whether times are known
  pub timely_next : is_timely events (suc place) ≡ ((is_clear_end event && is_some (latest_said block_stamp events place)) || is_timely events place)
  timely_next = grind (arith, said, some-more)

  -- the stamp of the latest block without C
  timely-same : is_clear_end event ≡ false → is_timely events (suc place) ≡ is_timely events place
  timely-same unclear = timely_next ∙ ap (λ b. (b && is_some (latest_said block_stamp events place)) || is_timely events place) unclear

  pub full_stays : full_end event ≡ None → is_clear_end event ≡ false → full_above events (suc place) ≡ full_above events place
  full_stays none unclear = grind (arith, last_next, timely-same)

  pub full_unclear : is_clear_end event ≡ false → full_above events (suc place) ≡ (if is_timely events place then option_or (full_end event) (full_above events place) else None)
  full_unclear unclear = grind (arith, last_next, timely-same)

  pub full_clear : (stamp : ℕ) → is_clear_end event ≡ true → full_end event ≡ Some stamp
      → full_above events (suc place) ≡ (if is_some (latest_said block_stamp events place) || is_timely events place then Some stamp else None)
  full_clear stamp clear ends = grind (arith, last_next, timely_next)

-- at a command
pub seen_sent : (events : List LineEvent) (place : ℕ) (command : Command) → content_event_at events place ≡ Some (Sent command) → seen_at events (suc place) ≡ seen_at events place
seen_sent events place command is = grind (arith, seen_stays)

states-or-block : (answer : Answer) (seen : Seen) → states_heard (Heard answer) ≡ Some seen → block_stamp (Heard answer) ≡ None
states-or-block (answers.Block block entries status stamp) seen heard = absurd (cc)
states-or-block other seen heard = refl

-- the states of a 181, if times are known, or those that were above
abbrev pub heard_states : Bool → Option Seen → Option Seen → Option Seen
heard_states timely above None = above
heard_states timely above (Some seen) = if timely then Some seen else None

-- at an answer
pub seen_now : (events : List LineEvent) (place : ℕ) (answer : Answer) → content_event_at events place ≡ Some (Heard answer) → (states : Option Seen) → states_heard (Heard answer) ≡ states
    → seen_at events (suc place)
    ≡ (if ages (full_above events place) (block_stamp (Heard answer)) then None else heard_states (is_timely events place) (seen_at events place) states)
seen_now events place answer is (Some seen) heard =
    let unaged : aging events place (Heard answer) is ≡ false = aging_is events place (Heard answer) is ∙ ap (λ stamp. ages (full_above events place) stamp || false) (states-or-block answer seen heard) in
    ap (option_and_then (seen_still events (suc place)))
    (latest_next events place (Heard answer) is states_heard ∙ ap (λ now. option_or (placed place now) (latest_said states_heard events place)) heard)
    ∙ ap₂ (λ b g. if is_timely events place && not (b || g) then Some seen else None)
    (between_here events place (Heard answer) is (λ e. said_if (comes_to seen e)) refl) (none-aged unaged)
    ∙ ap (λ timely. if timely then Some seen else None) (and-true (is_timely events place))
    ∙ ap (λ stamp. if ages (full_above events place) stamp then None else (if is_timely events place then Some seen else None)) (sym (states-or-block answer seen heard))
  where
    none-aged : aging events place (Heard answer) is ≡ false → is_lost_between events place (suc place) ≡ false
    none-aged unaged =
        ap (λ now. is_some_and (option_or (placed place (said_if now)) (latest_above (losing_at events) place)) (λ found. nat_lt place found.place)) unaged
        ∙ none-between place (latest_above (losing_at events) place) (λ found found_is. (latest-here (losing_at events) place found found_is).above)
seen_now events place answer is None heard =
    seen_next events place (Heard answer) is heard
    ∙ ap₂ (λ a s. if a then None else s) (aging_is events place (Heard answer) is ∙ or-none (ages (full_above events place) (block_stamp (Heard answer)))) (below-heard answer (seen_at events place))
  where
    below-heard : (answer : Answer) (seen : Option Seen) → seen_below (Heard answer) seen ≡ seen
    below-heard answer None = refl
    below-heard answer (Some seen) = refl

-- at a gap mark
pub seen_gap : (events : List LineEvent) (place : ℕ) → content_event_at events place ≡ Some (Recorded Gap) → seen_at events (suc place) ≡ None
seen_gap events place is =
    seen_next events place (Recorded Gap) is refl
    ∙ ap (λ a. if a then None else seen_below (Recorded Gap) (seen_at events place)) (aging_is events place (Recorded Gap) is)
