use Rattle.fio_world.proofs.Names.{◌≡◌, ◌≢◌, ℕ, ◌+◌, ◌-◌, ◌<◌, ◌≤◌, length, map, take, zero, suc, Bool, true, false, List, [], ◌∷◌, ◌++◌, Option, Some, None, Result, Ok, Err, codes, refl, ap, sym, append_assoc, append-nil, arith, ◌∙◌, IfSome, option_map_or, ok_or, take_all, drop_all, length-map, map-append, decoded_command, Command, settings_with, event_at, IsReadAs, plain_event, frame_at, sending_at, octets_in, is_skipped, numbered, Scenario, readings, script_events, HasGoodFront, HaveGoodFront, event_of, Event, MAX_EVENTS}
use Rattle.fio_message.specs.declared.faults.DecodeError.{DecodeError}
use Rattle.fio_text.specs.FirstFaults.{values_or_fault, with_first}
use Rattle.fio_world.specs.Headers.{header_of}
use Rattle.fio_text.specs.Words.{after_prefix}
use Rattle.fio_world.specs.declared.script.header.Header.{Header}
use Rattle.fio_world.specs.declared.script.steps.ScriptStep.{ScriptStep}
use Rattle.fio_world.specs.declared.script.ScriptError.{ScriptError}
use Rattle.fio_world.specs.declared.script.ScriptError.TheVariants.{BadLine, Memory, TooManyEvents}

-- no value in front of what comes changes nothing
with_first-none : {A E : Type 0} (more : Result (List A) E) → with_first [] more ≡ more
with_first-none (Ok values) = refl
with_first-none (Err e) = refl

-- a value that moves to the end of those before
with_first-pushed : {A E : Type 0} (values : List A) (value : A) (more : Result (List A) E)
    → with_first values (with_first (value ∷ []) more) ≡ with_first (values ++ value ∷ []) more
with_first-pushed values value (Ok more) = ap Ok (sym (append_assoc values (value ∷ []) more))
with_first-pushed values value (Err e) = refl

-- with no value in front, and everything still to be read, it is what all lines give
with_first-start : {L A E : Type 0} (read : ℕ → List L → Result (List A) E) (most count : ℕ) (values : List A) (left lines : List L)
    → values ≡ [] → count ≡ 0 → left ≡ lines → with_first values (read (most - count) left) ≡ read most lines
with_first-start read most count values left lines none zeroth all =
    let nothing_less : most - count ≡ most = omega (arith, zeroth) in
    rw (none, nothing_less, all) (with_first-none (read most lines))

-- what is read in all, if these events come before the lines
unfoldable pub read_on : List Event → ℕ → Bool → List (ℕ × List ℕ) → Result (List Event) ScriptError
read_on events count restarts lines = with_first events (values_or_fault (readings (MAX_EVENTS - count) restarts lines))

-- with no event before, it is what all lines give
pub read_on-start : (events : List Event) (count : ℕ) (restarts : Bool) (left lines : List (ℕ × List ℕ))
    → events ≡ [] → count ≡ 0 → left ≡ lines
    → read_on events count restarts left ≡ values_or_fault (readings MAX_EVENTS restarts lines)
unfolding read_on
read_on-start events count restarts left lines none zeroth all =
    with_first-start (λ most lines. values_or_fault (readings most restarts lines)) MAX_EVENTS count events left lines none zeroth all

readings-end : (most : ℕ) (restarts : Bool) → readings most restarts [] ≡ []
readings-end zero restarts = refl
readings-end (suc most) restarts = refl

-- with no line left, it is the events before
pub read_on-end : (events : List Event) (count : ℕ) (restarts : Bool) → read_on events count restarts [] ≡ Ok events
unfolding read_on
read_on-end events count restarts = rw (readings-end (MAX_EVENTS - count) restarts) (ap Ok (append-nil events))

readings-first : (count : ℕ) (restarts : Bool) (line : ℕ × List ℕ) (lines : List (ℕ × List ℕ)) → count < MAX_EVENTS
    → readings (MAX_EVENTS - count) restarts (line ∷ lines) ≡ event_at restarts line ∷ readings (MAX_EVENTS - (count + 1)) restarts lines
readings-first count restarts line lines few =
    let e : MAX_EVENTS - count ≡ suc (MAX_EVENTS - (count + 1)) = omega arith in rw e refl

-- a line that is read joins the events above
pub read_on-event : (events : List Event) (count : ℕ) (restarts : Bool) (line : ℕ × List ℕ) (lines : List (ℕ × List ℕ)) (event : Event)
    → count < MAX_EVENTS → event_at restarts line ≡ Ok event
    → read_on events count restarts (line ∷ lines) ≡ read_on (events ++ event ∷ []) (count + 1) restarts lines
unfolding read_on
read_on-event events count restarts line lines event few gives =
    rw (readings-first count restarts line lines few, gives) (with_first-pushed events event _)

-- a fault ends it
pub read_on-fault : (events : List Event) (count : ℕ) (restarts : Bool) (left : List (ℕ × List ℕ)) (line : ℕ × List ℕ) (lines : List (ℕ × List ℕ)) (fault : ScriptError)
    → left ≡ line ∷ lines → count < MAX_EVENTS → event_at restarts line ≡ Err fault
    → read_on events count restarts left ≡ Err fault
unfolding read_on
read_on-fault events count restarts left line lines fault first few gives =
    rw (first, readings-first count restarts line lines few, gives) refl

-- a line after the most events that a script may have ends the reading
pub read_on-full : (events : List Event) (count : ℕ) (restarts : Bool) (left : List (ℕ × List ℕ)) (line : ℕ × List ℕ) (lines : List (ℕ × List ℕ))
    → left ≡ line ∷ lines → count ≡ MAX_EVENTS
    → read_on events count restarts left ≡ Err (TooManyEvents line.0)
unfolding read_on
read_on-full events count restarts left line lines first full =
    let none_more : MAX_EVENTS - count ≡ 0 = omega (arith, full) in
    rw (first, none_more) refl

-- the event of a line is the same at another number
sent_at : (number other : ℕ) (decoded : Result Command DecodeError) (event : Event)
    → sending_at number decoded ≡ Ok event → sending_at other decoded ≡ Ok event
sent_at number other (Ok command) event is = is
sent_at number other (Err fault) event is = absurd (cc is)

framed_at : (number other : ℕ) (found : Option (List ℕ)) (event : Event)
    → frame_at number found ≡ Ok event → frame_at other found ≡ Ok event
framed_at number other None event is = absurd (cc is)
framed_at number other (Some octets) event is = sent_at number other (decoded_command octets) event is

read_at : (number other : ℕ) (word : Option (List ℕ)) (plain : Option Event) (event : Event)
    → option_map_or (λ word. frame_at number (octets_in word)) word (ok_or plain (BadLine number)) ≡ Ok event
    → option_map_or (λ word. frame_at other (octets_in word)) word (ok_or plain (BadLine other)) ≡ Ok event
read_at number other None None event is = absurd (cc is)
read_at number other None (Some plain) event is = is
read_at number other (Some word) plain event is = framed_at number other (octets_in word) event is

pub is_read_as : (restarts : Bool) (number : ℕ) (line : List ℕ) (event : Event)
    → event_at restarts (number, line) ≡ Ok event → IsReadAs restarts line event
is_read_as restarts number line event is = λ other.
    read_at number other (after_prefix (codes "send ") line) (plain_event restarts line) event is

-- the same line is read as the same event
pub same_line : (restarts : Bool) (number : ℕ) (above line : List ℕ) (found : Option ScriptStep) (step : ScriptStep)
    → IfSome found (λ step. IsReadAs restarts above (event_of step)) → found ≡ Some step → above ≡ line
    → Ok (event_of step) ≡ event_at restarts (number, line)
same_line restarts number above line None step read is same = absurd (cc is)
same_line restarts number above line (Some other) step read is same =
    let step_is : other ≡ step = cc is in
    rw (← same, ← step_is) (sym (read number))

-- lines that give these events come before the lines that remain
pub record HaveRead (restarts : Bool) (all left : List (ℕ × List ℕ)) (events : List Event) : Type 0 where
  pub above : List (ℕ × List ℕ)
  pub all_are : all ≡ above ++ left
  pub give : map (event_at restarts) above ≡ map Ok events

-- above the first line there is none
pub HaveRead-start : (restarts : Bool) (all left : List (ℕ × List ℕ)) (events : List Event)
    → left ≡ all → events ≡ [] → HaveRead restarts all left events
HaveRead-start restarts all left events same none = record { above = []; all_are = sym same; give = rw none refl }

-- a line that is read joins those above
pub HaveRead-event : (restarts : Bool) (all left lines : List (ℕ × List ℕ)) (events : List Event) (line : ℕ × List ℕ) (event : Event)
    → HaveRead restarts all left events → left ≡ line ∷ lines → event_at restarts line ≡ Ok event
    → HaveRead restarts all lines (events ++ event ∷ [])
HaveRead-event restarts all left lines events line event read first gives = record {
  above = read.above ++ line ∷ [];
  all_are = read.all_are ∙ ap (λ ls. read.above ++ ls) first ∙ sym (append_assoc read.above (line ∷ []) lines);
  give = rw (map-append, map-append, read.give, gives) refl;
}

-- the first of some numbered lines are the numbered lines of some first lines
numbered-front : (number : ℕ) (lines : List (List ℕ)) (above left : List (ℕ × List ℕ)) → numbered number lines ≡ above ++ left
    → (count : ℕ) × (numbered number (take count lines) ≡ above)
numbered-front number lines [] left same = (0, refl)
numbered-front number [] (first ∷ above) left same = absurd (cc same)
numbered-front number (line ∷ lines) (first ∷ above) left same =
    in_front (is_skipped line) refl (numbered-front (suc number) lines) where
      in_front : (skipped : Bool) → is_skipped line ≡ skipped
          → ((above left : List (ℕ × List ℕ)) → numbered (suc number) lines ≡ above ++ left
          → (count : ℕ) × (numbered (suc number) (take count lines) ≡ above))
          → (count : ℕ) × (numbered number (take count (line ∷ lines)) ≡ first ∷ above)
      in_front true says further =
          let rest = further (first ∷ above) left (rw says at same) in
          (suc rest.0, rw says rest.1)
      in_front false says further =
          let here : (number, line) ∷ numbered (suc number) lines ≡ first ∷ (above ++ left) = rw says at same in
          let rest = further above left (cc here) in
          let line_is : (number, line) ≡ first = cc here in
          (suc rest.0, rw (says, rest.1, line_is) refl)

values_or_fault-values : (events : List Event) → values_or_fault (map {B = Result Event ScriptError} Ok events) ≡ Ok events
values_or_fault-values [] = refl
values_or_fault-values (event ∷ events) = rw (values_or_fault-values events) refl

readings-few : (restarts : Bool) (lines : List (ℕ × List ℕ)) → length lines ≤ MAX_EVENTS
    → readings MAX_EVENTS restarts lines ≡ map (event_at restarts) lines
readings-few restarts lines few = rw (take_all MAX_EVENTS lines few, drop_all MAX_EVENTS lines few) (append-nil (map (event_at restarts) lines))

-- if at most `MAX_EVENTS` lines have given events, those lines are a good front
pub good_front : (restarts : Bool) (lines : List (List ℕ)) (left : List (ℕ × List ℕ)) (events : List Event)
    → HaveRead restarts (numbered 2 lines) left events → length events ≤ MAX_EVENTS → events ≢ []
    → HaveGoodFront restarts lines
good_front restarts lines left events read few some =
    let front = numbered-front 2 lines read.above left read.all_are in
    let as_many : length read.above ≡ length events = sym (length-map read.above (event_at restarts)) ∙ ap length read.give ∙ length-map {A = Event} {B = Result Event ScriptError} events Ok in
    let good : script_events restarts (take front.0 lines) ≡ Ok events =
    rw (front.1, readings-few restarts read.above (rw as_many few), read.give) (values_or_fault-values events) in
    (front.0, events, good, some)

-- lines that give some event are a good front
pub whole_front : (restarts : Bool) (lines : List (List ℕ)) (events : List Event)
    → script_events restarts lines ≡ Ok events → events ≢ [] → HaveGoodFront restarts lines
whole_front restarts lines events good some =
    (length lines, events, rw (take_all (length lines) lines (omega arith)) good, some)

-- a header above such lines makes them the front of a script
pub front_with_header : (header : Header) (line : List ℕ) (lines : List (List ℕ))
    → header_of line ≡ Some header → HaveGoodFront header.restarts lines → HasGoodFront (line ∷ lines)
front_with_header header line lines is good =
    let scenario : Scenario = record { settings = settings_with header.id header.limits; first = header.first; events = good.1 } in
    (suc good.0, scenario, rw (is, good.2) refl, good.3)

-- no line runs out of memory
decodes : (number : ℕ) (decoded : Result Command DecodeError) → sending_at number decoded ≡ Err Memory → ⊥
decodes number (Ok command) is = cc is
decodes number (Err fault) is = cc is

spells : (number : ℕ) (found : Option (List ℕ)) → frame_at number found ≡ Err Memory → ⊥
spells number None is = cc is
spells number (Some octets) is = decodes number (decoded_command octets) is

reads : (number : ℕ) (word : Option (List ℕ)) (plain : Option Event)
    → option_map_or (λ word. frame_at number (octets_in word)) word (ok_or plain (BadLine number)) ≡ Err Memory → ⊥
reads number None None is = cc is
reads number None (Some event) is = cc is
reads number (Some word) plain is = spells number (octets_in word) is

pub no_memory : (restarts : Bool) (line : ℕ × List ℕ) → event_at restarts line ≡ Err Memory → ⊥
no_memory restarts line is = reads line.0 (after_prefix (codes "send ") line.1) (plain_event restarts line.1) is

pub more_than_none : (events : List Event) (event : Event) → events ++ event ∷ [] ≢ []
more_than_none [] event none = cc none
more_than_none (first ∷ events) event none = cc none

-- some steps are some events
pub some_events : (steps : List ScriptStep) → steps ≢ [] → map event_of steps ≢ []
some_events [] some none = some refl
some_events (step ∷ steps) some none = cc none
