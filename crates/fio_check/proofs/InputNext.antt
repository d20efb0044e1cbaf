-- What is known of one input below an event, by what is known of it above.
use Rattle.fio_check.proofs.Names.{◌≡◌, ◌∙◌, ℕ, suc, arith, Bool, true, false, List, Option, Some, None, refl, sym, ap, ap₂, ◌==◌, if◌then◌else◌, nat_lt, not, slice_get, option_and_then, is_some, Entry, Gap, ContentEvent, Sent, Heard, Recorded, Ended, ContentFacts, LineEvent, Seen, SentItem, content_event_at, Answer, Command, INPUTS, InputAbove, coming, content_step, ends_shown, if_comes, ignores, input_below_clear, input_coming, input_ended, input_with_answer, input_with_entry, input_with_item, is_since_poll, is_timely, is_touched, is_unlogged, item_for, item_of_input, items_sent, opens, said_if, seen_at, settled_at, settled_now, settles, shows_other, shown_at, unnamed, ◌&&◌, ◌||◌}
use Rattle.fio_check.specs.ContentAbove.{awaited_command, content_above, input_at, item_named}
use Rattle.fio_check.specs.ContentSaid.{accepts_items, item_sent}
use Rattle.fio_check.specs.ContentFacts.{unwatched}
use Rattle.fio_check.specs.ContentKnown.{shown_after, unlogged_after}
use Rattle.fio_check.proofs.ContentPlaces.{hidden_next, last_next, reopened_next, said, since_next, shut_here, shut_next, taken_next, timed_here, timed_next, watched_after, watched_here, watched_next}
use Rattle.fio_check.proofs.StatePlaces.{least_here, least_next}
use Rattle.fio_check.proofs.ShownPlaces.{seen_timely, shown_within, unlogged_within, shown_next, touched_next, unlogged_next}
use Rattle.fio_check.proofs.KeptSettled.{same-input}
use Rattle.fio_check.proofs.InputParts.{heard-taken, item_parts, sent-taken, unwatched_none, watched_same}

module _ (timed : List LineEvent) (at : ℕ) (events : List LineEvent) (place : ℕ) (found : LineEvent) (here : slice_get events place ≡ Some found)
    (same : content_event_at timed at ≡ content_event_at events place)
    (touched : (input : ℕ) → is_timely timed at ≡ true → is_touched timed input at ≡ is_touched events input place) (input : ℕ) where
  abbrev here_above : ContentFacts
  here_above = content_above 0 timed at events place

  abbrev now : InputAbove
  now = input_at timed at events input place

  -- what states tell of the input
  shown-next : (event : ContentEvent) → content_event_at events place ≡ Some event
      → shown_at timed input (suc at) ≡ (if ends_shown input event then None else shown_after input (option_and_then (if_comes event) (seen_at timed at)) now)
  shown-next event is = grind (arith, seen_timely, shown_next, shown_within)

  unlogged-next : (event : ContentEvent) → content_event_at events place ≡ Some event
      → is_unlogged timed input (suc at) ≡ (if is_some (item_of_input input event) then false else unlogged_after input (option_and_then (if_comes event) (seen_at timed at)) now)
  unlogged-next event is =
      unlogged_next timed at event (same ∙ is) input
      ∙ ap (λ unlogged. if is_some (item_of_input input event) then false else unlogged) (by (seen_at timed at) refl)
    where
      with-states : (comes : Option Seen) → is_touched timed input at ≡ is_touched events input place
          → unlogged_within timed at event (same ∙ is) input (is_touched timed input at) comes ≡ unlogged_after input comes now
      with-states None alike = refl
      with-states (Some seen) alike = ap (λ t. (nat_lt input INPUTS && shows_other input t (shown_at timed input at) seen) || is_unlogged timed input at) alike

      by : (seen : Option Seen) → seen_at timed at ≡ seen
          → unlogged_within timed at event (same ∙ is) input (is_touched timed input at) (option_and_then (if_comes event) seen)
          ≡ unlogged_after input (option_and_then (if_comes event) seen) now
      by None none = refl
      by (Some seen) some = with-states (if_comes event seen) (touched input (seen_timely timed at seen some))

  -- a command
  pub input-sent : (command : Command) → content_event_at events place ≡ Some (Sent command)
      → input_at timed (suc at) events input (suc place) ≡ input_with_item (unnamed (input_at timed at events input place)) (item_for input (items_sent command))
  input-sent command is =
      let item = item_for input (items_sent command) in
      let sent = item_parts now item in
      same-input (input_at timed (suc at) events input (suc place)) (input_with_item (unnamed now) item)
      (rw is (sym sent.named))
      (taken_next events place (Sent command) is input ∙ rw is (sent-taken (is_some item) (is_some (item_named input (awaited_command events place))) now.taken) ∙ sym sent.taken)
      (hidden_next events place (Sent command) is input ∙ heard-taken (ignores item) now.hidden ∙ sym sent.hidden)
      (reopened_next events place (Sent command) is input ∙ rw is (heard-taken (is_some (said_if (opens item)) && now.hidden) now.reopened)
      ∙ ap (λ b. (b && now.hidden) || now.reopened) (said (opens item)) ∙ sym sent.reopened)
      (watched_next events place (Sent command) is input refl
      ∙ ap₂ (λ o i. option_and_then (watched_after o i false) now.watched) (said (opens item)) (said (ignores item)) ∙ sym sent.watched)
      (touched_next events place (Sent command) is input ∙ heard-taken (is_some item) now.touched ∙ sym sent.touched)
      (shown-next (Sent command) is ∙ ends-sent (is_some item) (none-comes (seen_at timed at)) ∙ sym sent.shown)
      (unlogged-next (Sent command) is ∙ ap (λ c. if is_some item then false else unlogged_after input c now) (none-comes (seen_at timed at)) ∙ sym sent.unlogged)
      (shut_next events place (Sent command) is input (rw is refl) ∙ ap (λ b. not b && now.shut) (said (opens item)) ∙ sym sent.shut)
      (last_next events place (Sent command) is (item_sent input) ∙ sym sent.item)
      (timed_next timed at (Sent command) (same ∙ is) input refl ∙ sym sent.timed)
      (least_next events place (Sent command) is input found here (rw is refl) ∙ sym sent.least)
    where
      none-comes : (seen : Option Seen) → option_and_then (if_comes (Sent command)) seen ≡ None
      none-comes None = refl
      none-comes (Some seen) = refl

      ends-sent : (some : Bool) → option_and_then (if_comes (Sent command)) (seen_at timed at) ≡ None
          → (if (some || false) || false then None else shown_after input (option_and_then (if_comes (Sent command)) (seen_at timed at)) (input_at timed at events input place))
          ≡ (if some then None else (input_at timed at events input place).shown)
      ends-sent true none = refl
      ends-sent false none = ap (λ c. shown_after input c (input_at timed at events input place)) none

  -- an answer
  pub input-heard : (answer : Answer) → content_event_at events place ≡ Some (Heard answer)
      → input_at timed (suc at) events input (suc place) ≡ input_with_answer (accepts_items answer) (input_at timed at events input place)
  input-heard answer is =
      same-input (input_at timed (suc at) events input (suc place)) (input_with_answer (accepts_items answer) now)
      (rw is refl)
      (taken_next events place (Heard answer) is input ∙ rw is (heard-taken (accepts_items answer && is_some (item_named input (awaited_command events place))) now.taken))
      (hidden_next events place (Heard answer) is input)
      (reopened_next events place (Heard answer) is input ∙ rw is refl)
      (watched_next events place (Heard answer) is input refl ∙ sym (watched_same (input_at timed at events input place).watched))
      (touched_next events place (Heard answer) is input)
      (shown-next (Heard answer) is ∙ ap (λ c. shown_after input c now) (none-comes (seen_at timed at)))
      (unlogged-next (Heard answer) is ∙ ap (λ c. unlogged_after input c now) (none-comes (seen_at timed at)))
      (shut_next events place (Heard answer) is input (rw is refl))
      (last_next events place (Heard answer) is (item_sent input))
      (timed_next timed at (Heard answer) (same ∙ is) input refl)
      (least_next events place (Heard answer) is input found here (rw is refl))
    where
      none-comes : (seen : Option Seen) → option_and_then (if_comes (Heard answer)) seen ≡ None
      none-comes None = refl
      none-comes (Some seen) = refl

  -- a gap mark
  pub input-gap : content_event_at events place ≡ Some (Recorded Gap) → input_at timed (suc at) events input (suc place) ≡ unwatched (input_at timed at events input place)
  input-gap is =
      same-input (input_at timed (suc at) events input (suc place)) (unwatched (input_at timed at events input place))
      (rw is refl)
      (taken_next events place (Recorded Gap) is input ∙ rw is refl)
      (hidden_next events place (Recorded Gap) is input)
      (reopened_next events place (Recorded Gap) is input ∙ rw is refl)
      (watched_next events place (Recorded Gap) is input refl ∙ unwatched_none (input_at timed at events input place).watched)
      (touched_next events place (Recorded Gap) is input)
      (shown-next (Recorded Gap) is)
      (unlogged-next (Recorded Gap) is ∙ ap (λ c. unlogged_after input c (input_at timed at events input place)) (none-comes (seen_at timed at)))
      (shut_next events place (Recorded Gap) is input (rw is refl))
      (last_next events place (Recorded Gap) is (item_sent input))
      (timed_next timed at (Recorded Gap) (same ∙ is) input refl)
      (least_next events place (Recorded Gap) is input found here (rw is refl))
    where
      none-comes : (seen : Option Seen) → option_and_then (if_comes (Recorded Gap)) seen ≡ None
      none-comes None = refl
      none-comes (Some seen) = refl

  -- an entry, by whether it is of this input
  pub input-entry : (recorded stamp wide : ℕ) (level own : Bool) → content_event_at events place ≡ Some (Recorded (Entry recorded level stamp wide)) → (input == recorded && nat_lt input INPUTS) ≡ own
      → input_at timed (suc at) events input (suc place) ≡ (let above = input_coming input (coming here_above (Recorded (Entry recorded level stamp wide))) (input_at timed at events input place) in
      if own then input_with_entry here_above level wide above else above)
  input-entry recorded stamp wide level true is own =
      let event = Recorded (Entry recorded level stamp wide) in
      let above = input_coming input (coming here_above event) (input_at timed at events input place) in
      same-input (input_at timed (suc at) events input (suc place)) (input_with_entry here_above level wide above)
      (rw is refl)
      (taken_next events place event is input ∙ rw is refl)
      (hidden_next events place event is input)
      (reopened_next events place event is input ∙ rw is refl)
      (watched_here events place event is input (record { level = level; wide = wide }) (rw own refl) refl refl refl)
      (touched_next events place event is input)
      (shown-next event is ∙ rw own refl)
      (unlogged-next event is)
      (shut_next events place event is input (rw is refl))
      (last_next events place event is (item_sent input))
      (timed_here timed at event (same ∙ is) input (record { level = level; wide = wide }) (rw own refl))
      (least_next events place event is input found here (rw is refl))
  input-entry recorded stamp wide level false is own =
      let event = Recorded (Entry recorded level stamp wide) in
      let above = input_coming input (coming here_above event) (input_at timed at events input place) in
      same-input (input_at timed (suc at) events input (suc place)) above
      (rw is refl)
      (taken_next events place event is input ∙ rw is refl)
      (hidden_next events place event is input)
      (reopened_next events place event is input ∙ rw is refl)
      (watched_next events place event is input (rw own refl) ∙ sym (watched_same (input_at timed at events input place).watched))
      (touched_next events place event is input)
      (shown-next event is ∙ rw own refl)
      (unlogged-next event is)
      (shut_next events place event is input (rw is refl))
      (last_next events place event is (item_sent input))
      (timed_next timed at event (same ∙ is) input (rw own refl))
      (least_next events place event is input found here (rw is refl))

  -- the end of a block that does not settle the input
  input-ended : (status stamp : ℕ) → content_event_at events place ≡ Some (Ended status stamp) → settles here_above input (Ended status stamp) ≡ false
      → input_at timed (suc at) events input (suc place) ≡ input_coming input (coming here_above (Ended status stamp)) (input_at timed at events input place)
  input-ended status stamp is unclear =
      let event = Ended status stamp in
      let above = input_coming input (coming here_above event) (input_at timed at events input place) in
      same-input (input_at timed (suc at) events input (suc place)) above
      (rw is refl)
      (taken_next events place event is input ∙ rw is refl)
      (hidden_next events place event is input ∙ rw unclear refl)
      (reopened_next events place event is input ∙ rw (is, unclear) refl)
      (watched_next events place event is input refl ∙ sym (watched_same (input_at timed at events input place).watched))
      (touched_next events place event is input ∙ rw unclear refl)
      (shown-next event is)
      (unlogged-next event is)
      (shut_next events place event is input (rw (is, unclear) refl))
      (last_next events place event is (item_sent input))
      (timed_next timed at event (same ∙ is) input refl)
      (least_next events place event is input found here (rw (is, unclear) refl))

  -- the end of one that settles it, by the item that is settled
  input-settled : (status stamp : ℕ) (item : Option SentItem) → content_event_at events place ≡ Some (Ended status stamp) → settles here_above input (Ended status stamp) ≡ true
      → settled_at events input place ≡ item → input_at timed (suc at) events input (suc place) ≡ input_below_clear (input_coming input (coming here_above (Ended status stamp)) (input_at timed at events input place)) item
  input-settled status stamp None is clear settles =
      let event = Ended status stamp in
      let above = input_coming input (coming here_above event) (input_at timed at events input place) in
      same-input (input_at timed (suc at) events input (suc place)) (input_below_clear above None)
      (rw is refl)
      (taken_next events place event is input ∙ rw is refl)
      (hidden_next events place event is input ∙ rw clear refl)
      (reopened_next events place event is input ∙ rw (is, clear) refl)
      (watched_next events place event is input refl ∙ sym (watched_same (input_at timed at events input place).watched))
      (touched_next events place event is input ∙ rw clear refl)
      (shown-next event is)
      (unlogged-next event is)
      (shut_next events place event is input settles)
      (last_next events place event is (item_sent input))
      (timed_next timed at event (same ∙ is) input refl)
      (least_next events place event is input found here settles)
  input-settled status stamp (Some item) is clear settles =
      let event = Ended status stamp in
      let above = input_coming input (coming here_above event) (input_at timed at events input place) in
      same-input (input_at timed (suc at) events input (suc place)) (input_below_clear above (Some item))
      (rw is refl)
      (taken_next events place event is input ∙ rw is refl)
      (hidden_next events place event is input ∙ rw clear refl)
      (reopened_next events place event is input ∙ rw (is, clear) refl)
      (watched_next events place event is input refl ∙ sym (watched_same (input_at timed at events input place).watched))
      (touched_next events place event is input ∙ rw clear refl)
      (shown-next event is)
      (unlogged-next event is)
      (shut_here events place event is input item settles refl)
      (last_next events place event is (item_sent input))
      (timed_next timed at event (same ∙ is) input refl)
      (least_here events place event is input found here item settles refl)

  -- the end of any
  pub input-end : (status stamp : ℕ) (settling : Bool) → content_event_at events place ≡ Some (Ended status stamp) → settles here_above input (Ended status stamp) ≡ settling
      → input_at timed (suc at) events input (suc place) ≡ input_ended settling (input_coming input (coming here_above (Ended status stamp)) (input_at timed at events input place))
  input-end status stamp true is settling = input-settled status stamp (settled_now (input_at timed at events input place)) is settling (rw (is, settling) refl)
  input-end status stamp false is unsettled = input-ended status stamp is unsettled

  -- an item that is sent below a poll
  pub since-sent : (command : Command) → content_event_at events place ≡ Some (Sent command)
      → is_since_poll events input (suc place) ≡ (content_step here_above (Sent command)).since_poll input
  since-sent command is = grind (arith, item_parts, since_next)
