-- Events that keep a rule on content, frame by frame, are those of a log in which none breaks it.
use Rattle.fio_ends.proofs.Names.{◌&&◌, true, false, ◌≡◌, ◌∙◌, ◌-◌, ◌≤◌, inl, inr, ℕ, suc, Bool, List, [], ◌∷◌, ◌++◌, drop, length, map, Option, Some, None, refl, ap, sym, subst, arith, fold, option_map, slice_get, eqb_tells, length-drop, same_Some, slice_get_within, ContentFacts, content_with, no_content, ContentKept, kept_at_start, kept_with, ContentEvent, LineEvent, content_event_at, events_above, events_below, events_in, events_of_lines, TranscriptLine, ContentRule, CpuFrame, cpu_frame_on, KeepsRule, content_at, state_breach, dropped_first, content_is_kept, content_next}

-- this holds of each of these events, by what is kept of content step by step
abbrev pub EachKeeps : (ContentFacts → ContentEvent → Type 0) → (ContentFacts → ContentEvent → ContentFacts) → ContentFacts → List ContentEvent → Type 0
EachKeeps keeps step facts [] = Unit {0}
EachKeeps keeps step facts (event ∷ events) = keeps facts event × EachKeeps keeps step (step facts event) events

-- each of these events keeps a rule
abbrev pub EventsKeep : ContentRule → ContentFacts → List ContentEvent → Type 0
EventsKeep rule facts events = EachKeeps (KeepsRule rule) content_with facts events

-- and each of those of frames
abbrev pub FramesKeep : ContentRule → ContentKept → List CpuFrame → Type 0
FramesKeep rule kept [] = Unit {0}
FramesKeep rule kept (frame ∷ frames) =
    EventsKeep rule kept.facts (events_in kept.number frame.from_cpu frame.octets)
    × FramesKeep rule (kept_with kept frame.from_cpu frame.octets) frames

-- what is kept below frames
abbrev pub content_below : ContentKept → List CpuFrame → ContentKept
content_below kept [] = kept
content_below kept (frame ∷ frames) = content_below (kept_with kept frame.from_cpu frame.octets) frames

-- frames and more of them
pub frames_keep : (rule : ContentRule) (kept : ContentKept) (frames more : List CpuFrame) → FramesKeep rule kept frames
    → FramesKeep rule (content_below kept frames) more → FramesKeep rule kept (frames ++ more)
frames_keep rule kept [] more above rest = rest
frames_keep rule kept (frame ∷ frames) more above rest =
    (above.0, frames_keep rule (kept_with kept frame.from_cpu frame.octets) frames more above.1 rest)

-- events and more of them
pub events_keep : (rule : ContentRule) (facts : ContentFacts) (events more : List ContentEvent) → EventsKeep rule facts events
    → EventsKeep rule (fold content_with facts events) more → EventsKeep rule facts (events ++ more)
events_keep rule facts [] more above rest = rest
events_keep rule facts (event ∷ events) more above rest =
    (above.0, events_keep rule (content_with facts event) events more above.1 rest)

-- the event of a line's event
abbrev event_of : LineEvent → ContentEvent
event_of found = found.event

untagged : (line : ℕ) (events : List ContentEvent) (more : List LineEvent)
    → map event_of (map (λ event. record { line = line; event = event }) events ++ more) ≡ events ++ map event_of more
untagged line [] more = refl
untagged line (event ∷ events) more = ap (λ all. event ∷ all) (untagged line events more)

-- the events of lines whose frames keep the rule
lines_keep : (rule : ContentRule) (kept : ContentKept) (lines : List TranscriptLine) → FramesKeep rule kept (map cpu_frame_on lines)
    → EventsKeep rule kept.facts (map event_of (events_below kept.number lines))
lines_keep rule kept [] keep = tt
lines_keep rule kept (line ∷ lines) keep =
    let events = events_in kept.number line.from_cpu line.octets in
    let below = kept_with kept line.from_cpu line.octets in
    subst (EventsKeep rule kept.facts) (sym (untagged line.number events (events_below below.number lines)))
    (events_keep rule kept.facts events (map event_of (events_below below.number lines)) keep.0 (lines_keep rule below lines keep.1))

event_here : (all : List LineEvent) (place : ℕ) (event : ContentEvent) (found : Option LineEvent) → slice_get all place ≡ found
    → option_map event_of found ≡ Some event → (there : LineEvent) × (slice_get all place ≡ Some there) × (there.event ≡ event)
event_here all place event None is at = absurd (cc at)
event_here all place event (Some there) is at = (there, is, same_Some _ _ at)

-- at each place from one on, where what is left keeps the rule
at_places : (rule : ContentRule) (all rest : List LineEvent) (place : ℕ) → drop place all ≡ rest
    → EventsKeep rule (content_at all place) (map event_of rest)
    → (above : ℕ) (event : ContentEvent) → place ≤ above → content_event_at all above ≡ Some event
    → KeepsRule rule (content_at all above) event
at_places rule all [] place left keep above event low at =
    let there = event_here all above event (slice_get all above) refl at in
    let count : length all - place ≡ 0 = sym (length-drop place all) ∙ ap length left in
    absurd (omega (arith, slice_get_within all above there.0 there.1))
at_places rule all (found ∷ rest) place left keep above event low at =
    let cut = dropped_first all place found rest left in
    elim (eqb_tells above place) as (λ _. KeepsRule rule (content_at all above) event) [
      | inl same ↦
          let there = event_here all above event (slice_get all above) refl at in
          let is : found ≡ there.0 = same_Some _ _ (sym cut.0 ∙ ap (slice_get all) (sym same.1) ∙ there.1) in
          let event_is : found.event ≡ event = ap event_of is ∙ there.2 in
          subst (KeepsRule rule (content_at all above)) event_is
          (subst (λ p. KeepsRule rule (content_at all p) found.event) (sym same.1) keep.0)
      | inr other ↦
          at_places rule all rest (suc place) cut.1
          (subst (λ facts. EventsKeep rule facts (map event_of rest)) (sym (content_next all place found cut.0)) keep.1)
          above event (omega (arith, other.1)) at
    ]

-- an event with which the record comes to no states
pub none_comes : (judged : Bool) (input : Option ℕ) → state_breach (judged && false) input ≡ None
none_comes true input = refl
none_comes false input = refl

-- no event of a log with these lines breaks the rule, where the lines are those that are judged
abbrev pub NoneBreaksIn : Bool → ContentRule → List TranscriptLine → Type 0
NoneBreaksIn begun rule lines =
    let events = map (λ event. record { line = 0; event = event }) (events_above begun) ++ events_of_lines lines in
    (place : ℕ) (event : ContentEvent) → content_event_at events place ≡ Some event → KeepsRule rule (content_at events place) event

-- lines whose frames keep the rule, and so do the events above them
pub none_breaks : (rule : ContentRule) (begun : Bool) (lines : List TranscriptLine) → EventsKeep rule no_content (events_above begun)
    → FramesKeep rule (kept_at_start begun) (map cpu_frame_on lines) → NoneBreaksIn begun rule lines
none_breaks rule begun lines above keep place event at =
    let all : List LineEvent = map (λ event. record { line = 0; event = event }) (events_above begun) ++ events_of_lines lines in
    at_places rule all all 0 refl
    (subst (λ facts. EventsKeep rule facts (map event_of all)) (sym ((content_is_kept all).first))
    (subst (EventsKeep rule no_content) (sym (untagged 0 (events_above begun) (events_of_lines lines)))
    (events_keep rule no_content (events_above begun) (map event_of (events_of_lines lines)) above (lines_keep rule (kept_at_start begun) lines keep))))
    place event (omega arith) at
