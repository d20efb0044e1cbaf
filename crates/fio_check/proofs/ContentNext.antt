-- What is kept event by event is what is above the next event.
use Rattle.fio_check.proofs.Names.{◌≡◌, ◌≤◌, ◌∙◌, ◌+◌, ℕ, zero, suc, arith, drop, subst, Bool, true, false, List, Option, Some, None, refl, sym, ap, ◌==◌, if◌then◌else◌, nat_lt, slice_get, option_or, option_and_then, option_map, is_some, Entry, Gap, ContentEvent, Sent, Heard, Recorded, Ended, ContentFacts, LineEvent, Seen, content_at, content_with, content_event_at, INPUTS, below_clear, block_stamp, coming, content_step, floor_known, floor_of, forgetting, full_above, full_end, fun_ext, input_coming, input_ended, is_aging, is_clear_end, is_loading, is_timely, is_touched, latest_said, one_excuse_more, said_if, seen_at, seen_below, seen_with, settles, states_heard, ◌&&◌, ◌-◌, ◌||◌}
use Rattle.fio_check.specs.ContentAbove.{Excuses, content_above, content_from, excuses_at, excuses_below, one_excuse_less}
use Rattle.fio_check.specs.ContentRules.{is_excused}
use Rattle.fio_check.specs.ContentSaid.{is_set_dog, stamp_heard}
use Rattle.fio_check.specs.ContentLaws.{KeepsContent}
use Rattle.fio_check.proofs.ContentPlaces.{floor_here, floor_next, last_next, polled_next, since_next, some_next}
use Rattle.fio_check.proofs.StatePlaces.{aged_next, ages, full_clear, full_stays, full_unclear, heard_states, seen_gap, seen_now, seen_stays, seen_sent, timely_next}
use Rattle.fio_check.proofs.ShownPlaces.{event_of, timed_event, touched_same}
use Rattle.fio_check.proofs.InputNext.{input-end, input-entry, input-gap, input-heard, input-sent, since-sent}

-- ---- all facts

-- two are the same if each part is
same-facts : (a b : ContentFacts) → a.excuses ≡ b.excuses → a.watchdog_set ≡ b.watchdog_set → a.clearing ≡ b.clearing → a.absent_named ≡ b.absent_named
    → a.clear ≡ b.clear → a.polled ≡ b.polled → ((input : ℕ) → a.since_poll input ≡ b.since_poll input) → a.clock ≡ b.clock → a.block_heard ≡ b.block_heard → a.timely ≡ b.timely → a.full ≡ b.full → a.aged ≡ b.aged → a.floor ≡ b.floor → a.seen ≡ b.seen
    → ((input : ℕ) → a.inputs input ≡ b.inputs input) → a ≡ b
same-facts a b excuses dog clearing absent clear polled since clock heard timely full aged floor seen inputs = grind (arith, fun_ext)

-- a clear block has no C
full-of-clear : (status stamp : ℕ) → is_clear_end (Ended status stamp) ≡ true → full_end (Ended status stamp) ≡ Some stamp
full-of-clear status stamp clear = grind arith

-- the end of a block, as the floor
floor-ended : (events : List LineEvent) (place status stamp : ℕ) → content_event_at events place ≡ Some (Ended status stamp)
    → option_and_then (floor_known events) (latest_said floor_of events (suc place)) ≡ option_or (floor_of (Ended status stamp)) (option_and_then (floor_known events) (latest_said floor_of events place))
floor-ended events place status stamp is = grind (arith, floor_here, floor_next)

-- one excuse more at a load
abbrev excuses_with : ℕ → ContentEvent → ℕ
excuses_with excuses event = if is_some (is_loading event) then one_excuse_more excuses else excuses

module _ (timed : List LineEvent) (at : ℕ) (events : List LineEvent) (place : ℕ) (found : LineEvent) (here : slice_get events place ≡ Some found)
    (same : content_event_at timed at ≡ content_event_at events place)
    (touched : (input : ℕ) → is_timely timed at ≡ true → is_touched timed input at ≡ is_touched events input place) (excuses : ℕ) where
  abbrev above : ContentFacts
  above = content_above excuses timed at events place

  abbrev below : ContentEvent → ContentFacts
  below event = content_above (excuses_with excuses event) timed (suc at) events (suc place)

  timely-same : (event : ContentEvent) → content_event_at events place ≡ Some event → is_clear_end event ≡ false → is_timely timed (suc at) ≡ is_timely timed at
  timely-same event is unclear = timely_next timed at event (same ∙ is) ∙ ap (λ b. (b && is_some (latest_said block_stamp timed at)) || is_timely timed at) unclear

  -- the end of a block, by whether it is clear
  step-ended : (status stamp : ℕ) (clear : Bool) → content_event_at events place ≡ Some (Ended status stamp)
      → is_clear_end (Ended status stamp) ≡ clear → below (Ended status stamp) ≡ content_step above (Ended status stamp)
  step-ended status stamp clear is at_end = by clear at_end
    where
      event : ContentEvent
      event = Ended status stamp

      at_is : content_event_at timed at ≡ Some event
      at_is = same ∙ is

      ended : ContentFacts
      ended = record above {
        full = if above.timely then option_or (full_end event) above.full else None;
        floor = option_or (floor_of event) above.floor;
        seen = seen_below event above.seen;
        polled = false;
        since_poll = λ input. false;
        inputs = λ input. input_ended (settles above input event) (input_coming input (coming above event) (above.inputs input));
      }

      by : (clear : Bool) → is_clear_end event ≡ clear → below event ≡ content_step above event
      by true clear =
          same-facts (below event) (below_clear ended stamp)
          refl (some_next events place event is is_set_dog) (rw is refl) (rw is refl)
          (some_next events place event is (λ e. said_if (is_clear_end e)) ∙ rw clear refl) (polled_next events place event is) (λ input. since_next events place event is input)
          (last_next timed at event at_is stamp_heard) (some_next timed at event at_is block_stamp)
          (timely_next timed at event at_is ∙ ap (λ b. (b && is_some (latest_said block_stamp timed at)) || is_timely timed at) clear)
          (full_clear timed at event at_is stamp clear (full-of-clear status stamp clear)) (aged_next timed at event at_is) (floor-ended timed at status stamp at_is)
          (seen_stays timed at event at_is refl refl refl)
          (λ input. input-end timed at events place found here same touched input status stamp (settles above input event) is refl)
          ∙ ap (λ (b : Bool). if b then below_clear ended stamp else ended) (sym clear)
      by false unclear =
          same-facts (below event) ended
          refl (some_next events place event is is_set_dog) (rw is refl) (rw is refl)
          (some_next events place event is (λ e. said_if (is_clear_end e)) ∙ rw unclear refl) (polled_next events place event is) (λ input. since_next events place event is input)
          (last_next timed at event at_is stamp_heard) (some_next timed at event at_is block_stamp) (timely-same event is unclear)
          (full_unclear timed at event at_is unclear) (aged_next timed at event at_is) (floor-ended timed at status stamp at_is)
          (seen_stays timed at event at_is refl refl refl)
          (λ input. input-end timed at events place found here same touched input status stamp (settles above input event) is refl)
          ∙ ap (λ (b : Bool). if b then below_clear ended stamp else ended) (sym unclear)

  -- with an event more that is not excused
  step-next : (event : ContentEvent) → content_event_at events place ≡ Some event → below event ≡ content_step above event
  step-next (Sent command) is =
      let event = Sent command in
      let at_is = same ∙ is in
      same-facts (below event) (content_step above event)
      refl (some_next events place event is is_set_dog) (rw is refl) (rw is refl) (some_next events place event is (λ e. said_if (is_clear_end e))) (polled_next events place event is)
      (λ input. since-sent timed at events place found here same touched input command is)
      (last_next timed at event at_is stamp_heard) (some_next timed at event at_is block_stamp) (timely-same event is refl)
      (full_stays timed at event at_is refl refl) (aged_next timed at event at_is) (floor_next timed at event at_is refl)
      (seen_sent timed at command at_is)
      (λ input. input-sent timed at events place found here same touched input command is)
  step-next (Heard answer) is =
      let event = Heard answer in
      let at_is = same ∙ is in
      same-facts (below event) (content_step above event)
      refl (some_next events place event is is_set_dog) (rw is refl) (rw is refl) (some_next events place event is (λ e. said_if (is_clear_end e))) (polled_next events place event is)
      (λ input. since_next events place event is input)
      (last_next timed at event at_is stamp_heard) (some_next timed at event at_is block_stamp) (timely-same event is refl)
      (full_stays timed at event at_is refl refl) (aged_next timed at event at_is) (floor_next timed at event at_is refl)
      (seen_now timed at answer at_is (states_heard (Heard answer)) refl ∙ with-states (states_heard (Heard answer)))
      (λ input. input-heard timed at events place found here same touched input answer is)
    where
      with-states : (states : Option Seen) → (if ages (full_above timed at) (block_stamp (Heard answer)) then None else heard_states (is_timely timed at) (seen_at timed at) states)
          ≡ (if is_aging above (block_stamp (Heard answer)) then None else seen_with above states)
      with-states None = refl
      with-states (Some seen) = refl
  step-next (Recorded Gap) is =
      let event = Recorded Gap in
      let at_is = same ∙ is in
      same-facts (below event) (content_step above event)
      refl (some_next events place event is is_set_dog) (rw is refl) (rw is refl) (some_next events place event is (λ e. said_if (is_clear_end e))) (polled_next events place event is)
      (λ input. since_next events place event is input)
      (last_next timed at event at_is stamp_heard) (some_next timed at event at_is block_stamp) (timely-same event is refl)
      (full_stays timed at event at_is refl refl) (aged_next timed at event at_is) (floor_next timed at event at_is refl)
      (seen_gap timed at at_is)
      (λ input. input-gap timed at events place found here same touched input is)
  step-next (Recorded (Entry recorded level stamp wide)) is =
      let event = Recorded (Entry recorded level stamp wide) in
      let at_is = same ∙ is in
      same-facts (below event) (content_step above event)
      refl (some_next events place event is is_set_dog) (rw is refl) (rw is refl) (some_next events place event is (λ e. said_if (is_clear_end e))) (polled_next events place event is)
      (λ input. since_next events place event is input)
      (last_next timed at event at_is stamp_heard) (some_next timed at event at_is block_stamp) (timely-same event is refl)
      (full_stays timed at event at_is refl refl) (aged_next timed at event at_is) (floor_here timed at event at_is (record { time = wide; input = Some recorded }) refl)
      (seen_stays timed at event at_is refl refl refl)
      (λ input. input-entry timed at events place found here same touched input recorded stamp wide level (input == recorded && nat_lt input INPUTS) is refl)
  step-next (Ended status stamp) is = step-ended status stamp (is_clear_end (Ended status stamp)) is refl

-- ---- what loads excuse

excuses-next : (events : List LineEvent) (place : ℕ) → excuses_at events (suc place)
    ≡ excuses_below (excuses_at events place) (content_from (excuses_at events place) events place) place (content_event_at events place)
unfolding excuses_at
excuses-next events place = refl

excuses-first : (events : List LineEvent) → excuses_at events 0 ≡ (record { left = 0; from = 0 })
unfolding excuses_at
excuses-first events = refl

from-below : (excuses : Excuses) (facts : ContentFacts) (place : ℕ) (event : Option ContentEvent) → excuses.from ≤ place → (excuses_below excuses facts place event).from ≤ suc place
from-below excuses facts place event low = grind arith

-- times are read from above
from-within : (events : List LineEvent) (place : ℕ) → (excuses_at events place).from ≤ place
from-within events zero = subst (λ (e : Excuses). e.from ≤ 0) (sym (excuses-first events)) (omega arith)
from-within events (suc place) =
    subst (λ (e : Excuses). e.from ≤ suc place) (sym (excuses-next events place))
    (from-below (excuses_at events place) (content_from (excuses_at events place) events place) place (content_event_at events place) (from-within events place))

module _ (events : List LineEvent) (place : ℕ) (found : LineEvent) (here : slice_get events place ≡ Some found) where
  abbrev is : content_event_at events place ≡ Some found.event
  is = ap (option_map event_of) here

  module _ (excuses : Excuses) (low : excuses.from ≤ place) where
    abbrev facts : ContentFacts
    facts = content_from excuses events place

    abbrev timed : List LineEvent
    timed = drop excuses.from events

    abbrev at : ℕ
    at = place - excuses.from

    count : excuses.from + at ≡ place
    count = omega (arith, low)

    -- with the event more, if it is not excused
    stepped : content_above (excuses_with excuses.left found.event) timed (suc at) events (suc place) ≡ content_step facts found.event
    stepped = step-next timed at events place found here (timed_event events excuses.from at ∙ ap (content_event_at events) count)
        (λ input timely. touched_same events excuses.from at input timely ∙ ap (is_touched events input) count) excuses.left found.event is

    kept : content_above (excuses_with excuses.left found.event) timed (suc place - excuses.from) events (suc place) ≡ content_step facts found.event
    kept = (let more : suc place - excuses.from ≡ suc at = omega (arith, low) in
        ap (λ n. content_above (excuses_with excuses.left found.event) timed n events (suc place)) more ∙ stepped)

    -- an excused event is no load
    no_load : (event : ContentEvent) → is_excused facts event ≡ true → is_loading event ≡ None
    unfolding is_excused
    no_load (Sent command) excused = absurd (cc excused)
    no_load (Heard answer) excused = refl
    no_load (Recorded item) excused = refl
    no_load (Ended status stamp) excused = refl

    by-excuse : (excused : Bool) → is_excused facts found.event ≡ excused
        → content_from (if excused then record { left = one_excuse_less excuses.left; from = suc place }
        else (if is_some (is_loading found.event) then record excuses { left = one_excuse_more excuses.left } else excuses)) events (suc place)
        ≡ forgetting excused (content_step facts found.event)
    by-excuse true excused =
        let none : suc place - suc place ≡ 0 = omega arith in
        let left : excuses_with excuses.left found.event ≡ excuses.left = ap (λ loading. if is_some loading then one_excuse_more excuses.left else excuses.left) (no_load found.event excused) in
        ap (λ n. content_above (one_excuse_less excuses.left) (drop (suc place) events) n events (suc place)) none
        ∙ ap (λ l. forgetting true (content_above l timed (suc at) events (suc place))) (sym left)
        ∙ ap (forgetting true) stepped
    by-excuse false excused = by-load (is_some (is_loading found.event)) refl
      where
        by-load : (loads : Bool) → is_some (is_loading found.event) ≡ loads
            → content_from (if loads then record excuses { left = one_excuse_more excuses.left } else excuses) events (suc place) ≡ forgetting false (content_step facts found.event)
        by-load true loads = ap (λ l. content_above (if l then one_excuse_more excuses.left else excuses.left) timed (suc place - excuses.from) events (suc place)) (sym loads) ∙ kept
        by-load false loads = ap (λ l. content_above (if l then one_excuse_more excuses.left else excuses.left) timed (suc place - excuses.from) events (suc place)) (sym loads) ∙ kept

  pub content_next : content_at events (suc place) ≡ content_with (content_at events place) found.event
  content_next =
      let above = excuses_at events place in
      ap (λ e. content_from e events (suc place))
      (excuses-next events place ∙ ap (excuses_below above (content_from above events place) place) is)
      ∙ by-excuse above (from-within events place) (is_excused (content_at events place) found.event) refl

pub content_is_kept : (events : List LineEvent) → KeepsContent events
content_is_kept events = record { first = ap (λ e. content_from e events 0) (excuses-first events); next = content_next events }
