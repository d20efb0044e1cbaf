-- A block of which an entry is turned, or dropped, breaks a rule.
use Rattle.fio_check.proofs.Names.{◌≡◌, subst, Placed, slice_get_within, ◌<◌, ◌∙◌, ◌+◌, ◌++◌, ◌%◌, ℕ, suc, Bool, true, false, List, [], ◌∷◌, Option, Some, None, refl, sym, ap, arith, if◌then◌else◌, is_some, not, nat_lt, nat_tests, ◌==◌, slice_get, ContentFacts, InputAbove, content_at, content_with, ContentEvent, LineEvent, content_event_at, is_some_and, option_map, same_Some, events_below, events_of_log, INPUTS, Seen, WatchedState, beq, coming, content_below, content_step, entry_recorded, input_coming, input_with_entry, is_loading, latest_said, place_of_entry, place_of_latest, rule_broken_by, seen_below, seen_unloaded, tells_of, ◌&&◌}
use Rattle.fio_message.specs.declared.fields.Entry.{Entry as EntryOf}
use Rattle.fio_input.specs.Widening.{wide_time_of}
use Rattle.fio_check.specs.ContentRules.{steady_state}
use Rattle.fio_check.specs.Finding.{FindsDropped, FindsTurned, FindsTurnedLater, turned, with_octets}
use Rattle.fio_check.proofs.BlockLines.{events_from, facts_within}
use Rattle.fio_check.proofs.ContentCourse.{dropped_first, tagged}
use Rattle.fio_check.proofs.LogFaults.{fault_at_event, found_by, no_fault_at}
use Rattle.fio_check.proofs.RulesFound.{breaks_alternate, keeps_both, timed}
use Rattle.fio_check.proofs.Shaded.{steady_unhidden}
use Rattle.fio_check.proofs.Unexcused.{none_above, none_loaded_above, step_only}
use Rattle.fio_check.proofs.ShownLater.{IsSameTime, IsSpoiled, latest_place, latest_said_there, seen_above, shown_later, turned_state}
use Rattle.fio_check.proofs.Found.{facts_are, first_is, left_is, next_are, recorded}

-- ---- turned, dropped

-- an entry that is compared and breaks no rule: its input had the other state
compared-state : (facts : ContentFacts) (stamp : ℕ) (entry : EntryOf) (watched : Option WatchedState) → (facts.inputs entry.input).watched ≡ watched → is_some watched ≡ true
    → rule_broken_by facts (recorded stamp entry) ≡ None → (shaded : Bool) × (watched ≡ Some (record { level = not entry.level; shaded = shaded }))
compared-state facts stamp entry None is some none = absurd (cc)
compared-state facts stamp entry (Some watched) is some none =
    let kept = (keeps_both facts entry.input entry.stamp (wide_time_of stamp entry.stamp) entry.level none).1 in
    (watched.shaded, ap (λ level. Some (record { level = level; shaded = watched.shaded })) (opposite entry.level watched.level (rw is at kept)))
  where
    opposite : (now before : Bool) → beq now before ≡ false → before ≡ not now
    opposite now before is = grind arith

-- the same entry turned
turned-breaks : (facts : ContentFacts) (stamp : ℕ) (entry : EntryOf) (shaded : Bool) → (facts.inputs entry.input).watched ≡ Some (record { level = not entry.level; shaded = shaded })
    → is_some (rule_broken_by facts (recorded stamp (turned entry))) ≡ true
turned-breaks facts stamp entry shaded is = grind (arith, breaks_alternate)

-- what is compared is watched
watched-some : (seen : Option Seen) (input : ℕ) (event : Option ContentEvent) (watched : Option WatchedState)
    → is_some_and event (λ e. is_some_and watched (tells_of seen input e)) ≡ true → is_some watched ≡ true
watched-some seen input event watched is = grind arith

pub finds_turned : (begun : Bool) → FindsTurned begun
finds_turned begun above line octets block front back entry none changes compared =
    let known = facts_within (content_below begun above) block front in
    let place = place_of_entry begun above block front in
    let right = events_of_log begun (above ++ (line ∷ [])) in
    let changed = with_octets line octets in
    let item = tagged line.number (recorded block.stamp entry) in
    let other = tagged line.number (recorded block.stamp (turned entry)) in
    let above_is = facts_are begun above [] line block front (entry ∷ back) changes.was in
    let watched = sym (ap (λ facts. is_some (facts.inputs entry.input).watched) above_is)
    ∙ watched-some (seen_unloaded right place) entry.input (content_event_at right place) ((content_at right place).inputs entry.input).watched compared in
    let state = compared-state known block.stamp entry (known.inputs entry.input).watched refl watched
    (sym (ap (λ facts. rule_broken_by facts item.event) above_is) ∙ no_fault_at right place item (first_is begun above [] line block front (entry ∷ back) changes.was item refl) none) in
    found_by begun (above ++ (changed ∷ []))
    (fault_at_event (events_of_log begun (above ++ (changed ∷ []))) place other (first_is begun above [] changed block front (turned entry ∷ back) changes.is other refl)
    (ap (λ facts. is_some (rule_broken_by facts other.event)) (facts_are begun above [] changed block front (turned entry ∷ back) changes.is)
    ∙ turned-breaks known block.stamp entry state.0 state.1))

-- an entry of an input up to 63 has that input's event
entry-within : (stamp input : ℕ) (entry : EntryOf) → is_some (entry_recorded input (recorded stamp entry)) ≡ true → input < INPUTS
entry-within stamp input entry some = grind (arith, nat_tests, timed)

-- what is above of the input of an entry, where the record comes to states with it, or not
abbrev above-entry : ContentFacts → ℕ → EntryOf → InputAbove
above-entry facts stamp entry = input_coming entry.input (coming facts (recorded stamp entry)) (facts.inputs entry.input)

-- what is above differs in the state of the input alone below an entry and below the one turned
turned-spoils : (facts : ContentFacts) (stamp : ℕ) (entry : EntryOf) → entry.input < INPUTS
    → (unloaded : Bool) → (unloaded ≡ true → facts.excuses ≡ 0)
    → IsSpoiled entry.input unloaded (content_with facts (recorded stamp entry)) (content_with facts (recorded stamp (turned entry)))
turned-spoils facts stamp entry within unloaded judged = record {
  times = λ is.
      subst (λ f. IsSameTime f (content_with facts (recorded stamp (turned entry)))) (sym (step_only facts (recorded stamp entry) (judged is)))
      (subst (IsSameTime (content_step facts (recorded stamp entry))) (sym (step_only facts (recorded stamp (turned entry)) (judged is)))
      (record { judged = judged is; spoiled_judged = judged is; heard = refl; timely = refl; full = refl; seen = λ states is. same-seen facts.seen states is }));
  watched = λ watched is. own-watched (entry.input == entry.input && nat_lt entry.input INPUTS) (named entry.input within) watched is;
}
  where
    named : (n : ℕ) → n < INPUTS → (n == n && nat_lt n INPUTS) ≡ true
    named n below = grind (arith, nat_tests)

    same-seen : (seen : Option Seen) (states : Seen) → seen_below (recorded stamp entry) seen ≡ Some states → seen_below (recorded stamp (turned entry)) seen ≡ Some states
    same-seen None states is = is
    same-seen (Some seen) states is = is

    by-open : (opened hidden now : Bool) (watched : WatchedState) → ◌≡◌ {A = Option WatchedState} (if opened then Some (record { level = now; shaded = hidden }) else None) (Some watched)
        → ◌≡◌ {A = Option WatchedState} (if opened then Some (record { level = not now; shaded = hidden }) else None) (Some (turned_state watched))
    by-open true hidden now watched is = ap (option_map turned_state) is
    by-open false hidden now watched is = absurd (cc)

    own-watched : (own : Bool) → own ≡ true → (watched : WatchedState)
        → (if own then input_with_entry facts entry.level (wide_time_of stamp entry.stamp) (above-entry facts stamp entry) else above-entry facts stamp entry).watched ≡ Some watched
        → (if own then input_with_entry facts (not entry.level) (wide_time_of stamp entry.stamp) (above-entry facts stamp entry) else above-entry facts stamp entry).watched ≡ Some (turned_state watched)
    own-watched true refl_is watched is = by-open (facts.clear && not (facts.inputs entry.input).reopened) (facts.inputs entry.input).hidden entry.level watched is
    own-watched false other watched is = absurd (cc)

-- below an entry, and below none in its place
dropped-spoils : (facts : ContentFacts) (stamp : ℕ) (entry : EntryOf) → entry.input < INPUTS → (facts.inputs entry.input).hidden ≡ false
    → (facts.inputs entry.input).watched ≡ Some (record { level = not entry.level; shaded = false })
    → (unloaded : Bool) → (unloaded ≡ true → facts.excuses ≡ 0) → IsSpoiled entry.input unloaded (content_with facts (recorded stamp entry)) facts
dropped-spoils facts stamp entry within unhidden before unloaded judged = record {
  times = λ is.
      subst (λ f. IsSameTime f facts) (sym (step_only facts (recorded stamp entry) (judged is)))
      (record { judged = judged is; spoiled_judged = judged is; heard = refl; timely = refl; full = refl; seen = λ states is. seen_above (recorded stamp entry) states facts.seen is });
  watched = λ watched is. before ∙ own-watched (entry.input == entry.input && nat_lt entry.input INPUTS) (named entry.input within) watched is;
}
  where
    named : (n : ℕ) → n < INPUTS → (n == n && nat_lt n INPUTS) ≡ true
    named n below = grind (arith, nat_tests)

    by-open : (opened hidden now : Bool) (watched : WatchedState) → hidden ≡ false → ◌≡◌ {A = Option WatchedState} (if opened then Some (record { level = now; shaded = hidden }) else None) (Some watched)
        → ◌≡◌ {A = Option WatchedState} (Some (record { level = not now; shaded = false })) (Some (turned_state watched))
    by-open true hidden now watched unhidden is = ap (λ shaded. Some (record { level = not now; shaded = shaded })) (sym unhidden) ∙ ap (option_map turned_state) is
    by-open false hidden now watched unhidden is = absurd (cc)

    own-watched : (own : Bool) → own ≡ true → (watched : WatchedState)
        → (if own then input_with_entry facts entry.level (wide_time_of stamp entry.stamp) (above-entry facts stamp entry) else above-entry facts stamp entry).watched ≡ Some watched
        → ◌≡◌ {A = Option WatchedState} (Some (record { level = not entry.level; shaded = false })) (Some (turned_state watched))
    own-watched true is_own watched is = by-open (facts.clear && not (facts.inputs entry.input).reopened) (facts.inputs entry.input).hidden entry.level watched unhidden is
    own-watched false other watched is = absurd (cc)

-- the latest entry above a place is of an input up to 63
latest-within : (events : List LineEvent) (from place stamp line : ℕ) (entry : EntryOf) → slice_get events from ≡ Some (tagged line (recorded stamp entry))
    → place_of_latest events entry.input place ≡ Some from → entry.input < INPUTS
latest-within events from place stamp line entry here at =
    entry-within stamp entry.input entry (rw here at (latest_said_there events entry.input place from at))

-- where no load is above a place none excuses anything above the latest entry of an input
judged-within : (events : List LineEvent) (from place : ℕ) (facts : ContentFacts) → content_at events from ≡ facts → (found : LineEvent) → slice_get events from ≡ Some found → (input : ℕ)
    → place_of_latest events input place ≡ Some from → not (is_some (latest_said is_loading events place)) ≡ true → facts.excuses ≡ 0
judged-within events from place facts is found here input latest unloaded =
    let below = latest_place events input place from latest in
    let inside = slice_get_within events from found here in
    sym (ap (λ (f : ContentFacts). f.excuses) is) ∙ none_above events from (omega (arith, inside))
    (none_loaded_above events place from (omega (arith, below)) (absent (latest_said is_loading events place) unloaded))
  where
    absent : (found : Option (Placed Bool)) → not (is_some found) ≡ true → found ≡ None
    absent None is = refl
    absent (Some found) is = absurd (cc is)

pub finds_turned_later : (begun : Bool) → FindsTurnedLater begun
finds_turned_later begun above below line octets block front back entry place none changes compared =
    let known = facts_within (content_below begun above) block front in
    let from = place_of_entry begun above block front in
    let right = events_of_log begun (above ++ (line ∷ below)) in
    let changed = with_octets line octets in
    let spoiled = events_of_log begun (above ++ (changed ∷ below)) in
    let item = tagged line.number (recorded block.stamp entry) in
    let other = tagged line.number (recorded block.stamp (turned entry)) in
    let here = first_is begun above below line block front (entry ∷ back) changes.was item refl in
    let there = first_is begun above below changed block front (turned entry ∷ back) changes.is other refl in
    let within = latest-within right from place block.stamp line.number entry here compared.latest in
    found_by begun (above ++ (changed ∷ below))
    (shown_later right spoiled (events_from line.number block back ++ events_below (Some ((block.number + 1) % 256)) below) from (suc from) place entry.input
    (content_with known item.event) (content_with known other.event) within none
    (dropped_first right from item _ (left_is begun above below line block front (entry ∷ back) changes.was)).1
    (next_are begun above below line block front (entry ∷ back) changes.was item refl)
    (dropped_first spoiled from other _ (left_is begun above below changed block front (turned entry ∷ back) changes.is)).1
    (next_are begun above below changed block front (turned entry ∷ back) changes.is other refl)
    (turned-spoils known block.stamp entry within (not (is_some (latest_said is_loading right place)))
    (judged-within right from place known (facts_are begun above below line block front (entry ∷ back) changes.was) item here entry.input compared.latest)) compared)

-- what is steady is watched, and not shaded
steady-some : (watched : Option WatchedState) → is_some (steady_state watched) ≡ true → (level : Bool) × (watched ≡ Some (record { level = level; shaded = false }))
steady-some None some = absurd (cc)
steady-some (Some watched) some = (watched.level, ap (λ shaded. Some (record { level = watched.level; shaded = shaded })) (unshaded watched.shaded some))
  where
    unshaded : (shaded : Bool) → is_some (if shaded then None else Some watched.level) ≡ true → shaded ≡ false
    unshaded true some = absurd (cc)
    unshaded false some = refl

both-states : (watched : Option WatchedState) (level shaded other : Bool) → watched ≡ Some (record { level = level; shaded = shaded })
    → watched ≡ Some (record { level = other; shaded = false }) → watched ≡ Some (record { level = level; shaded = false })
both-states watched level shaded other is steady = grind (arith, same_Some)

pub finds_dropped : (begun : Bool) → FindsDropped begun
finds_dropped begun above below line octets block front back entry place none changes compared_there compared =
    let known = facts_within (content_below begun above) block front in
    let from = place_of_entry begun above block front in
    let right = events_of_log begun (above ++ (line ∷ below)) in
    let changed = with_octets line octets in
    let spoiled = events_of_log begun (above ++ (changed ∷ below)) in
    let item = tagged line.number (recorded block.stamp entry) in
    let here = first_is begun above below line block front (entry ∷ back) changes.was item refl in
    let within = latest-within right from place block.stamp line.number entry here compared.latest in
    let above_is = facts_are begun above below line block front (entry ∷ back) changes.was in
    let steady = steady-some ((content_at right from).inputs entry.input).watched compared_there in
    let watched = sym (ap (λ facts. (facts.inputs entry.input).watched) above_is) ∙ steady.1 in
    let state = compared-state known block.stamp entry (known.inputs entry.input).watched refl (ap is_some watched)
    (sym (ap (λ facts. rule_broken_by facts item.event) above_is) ∙ no_fault_at right from item here none) in
    let unhidden = sym (ap (λ facts. (facts.inputs entry.input).hidden) above_is)
    ∙ steady_unhidden right from item here entry.input steady.0 steady.1 in
    let before = both-states (known.inputs entry.input).watched (not entry.level) state.0 steady.0 state.1 watched in
    found_by begun (above ++ (changed ∷ below))
    (shown_later right spoiled (events_from line.number block back ++ events_below (Some ((block.number + 1) % 256)) below) from from place entry.input
    (content_with known item.event) known within none
    (dropped_first right from item _ (left_is begun above below line block front (entry ∷ back) changes.was)).1
    (next_are begun above below line block front (entry ∷ back) changes.was item refl)
    (left_is begun above below changed block front back changes.is)
    (facts_are begun above below changed block front back changes.is)
    (dropped-spoils known block.stamp entry within unhidden before (not (is_some (latest_said is_loading right place)))
    (judged-within right from place known above_is item here entry.input compared.latest)) compared)
