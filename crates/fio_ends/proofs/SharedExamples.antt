-- A worked run of two stations over lines that carry the same to all, by computation: each is configured and polled, and answers.
use Rattle.fio_ends.proofs.Names.{◌≡◌, ◌∙◌, ◌-◌, ◌^◌, ◌<◌, ◌≤◌, ℕ, false, List, [], ◌∷◌, ◌++◌, Some, None, refl, ap, sym, subst, arith, Polling, Event, Entry, FLAG, Octet, Scan, Send, frame_of, stuffed, MayHappen, BusEnds, after_bus_event, bus_at_start, bus_of, ArrivesAtAll, AtDecoders, AtModules, EndOfFrame, HappensAt, LeadOverShared, SharedEvent, SharedLinesBringRecords, at_each, part_to_all, nat_tests}
use Rattle.fio_message.specs.declared.commands.Command.TheVariants as commands
use Rattle.fio_message.specs.Bits.{is_set}
use Rattle.fio_message.specs.Decoding.{message_in}
use Rattle.fio_input.specs.Widening.{wide_time_of}
use Rattle.fio_module.specs.Log.{transitions_below}
use Rattle.fio_link.specs.declared.event.Event.TheVariants.{Poll}
use Rattle.fio_wire.specs.Checks.{divided, with_octet}
use Rattle.fio_ends.proofs.SharedLines.{frames_to_all_decoders, frames_to_all_modules}

-- the ends after these events
abbrev done : BusEnds → List SharedEvent → BusEnds
done ends [] = ends
done ends (event ∷ events) = done (after_bus_event (bus_of 2) ends (at_each event)) events

-- all inputs are 1 except input 0
abbrev zero_low : ℕ
zero_low = 2 ^ 64 - 2

-- a configuration that opens input 0, with both filters 1
abbrev opened : Event
opened =
    Send (commands.ConfigureInputs (record {
      items = record { input = 0; ignore = false; leading = 1; trailing = 1 } ∷ [];
    }))

-- what is between the flags of a message of a station
abbrev between_flags : ℕ → List ℕ → List ℕ
between_flags station message = stuffed (frame_of station 131 message)

abbrev configuration : List ℕ
configuration = 51 ∷ 1 ∷ 0 ∷ 1 ∷ 1 ∷ []

abbrev poll : List ℕ
poll = 54 ∷ 0 ∷ []

-- the answer to the poll
abbrev answer : List ℕ
answer = 182 ∷ 0 ∷ 1 ∷ 0 ∷ 0 ∷ 1 ∷ 0 ∷ 0 ∷ 0 ∷ 0 ∷ 1 ∷ []

-- a frame comes to all modules, or to all decoders
abbrev to_modules : ℕ → ℕ → List ℕ → List SharedEvent
to_modules station number message = part_to_all AtModules (between_flags station message) (EndOfFrame station number)

abbrev to_decoders : ℕ → ℕ → List ℕ → List SharedEvent
to_decoders station number message = part_to_all AtDecoders (between_flags station message) (EndOfFrame station number)

-- flags come, and configurations are sent; then inputs change, and polls are sent
abbrev sent_first : List SharedEvent
sent_first = AtModules (ArrivesAtAll (Octet FLAG)) ∷ AtDecoders (ArrivesAtAll (Octet FLAG)) ∷ HappensAt 0 opened ∷ HappensAt 1 opened ∷ []

abbrev polled : List SharedEvent
polled = HappensAt 0 (Scan zero_low) ∷ HappensAt 1 (Scan zero_low) ∷ HappensAt 0 Poll ∷ HappensAt 1 Poll ∷ []

-- ---- they may come

abbrev Follow : BusEnds → List SharedEvent → Type 0
Follow ends events = LeadOverShared (bus_of 2) ends events (done ends events)

leads_done : (events : List SharedEvent) (ends last : BusEnds) → LeadOverShared (bus_of 2) ends events last → last ≡ done ends events
leads_done [] ends last lead = lead
leads_done (event ∷ events) ends last lead = leads_done events (after_bus_event (bus_of 2) ends (at_each event)) last lead.1

follows : (ends : BusEnds) (events : List SharedEvent) → ((later : BusEnds) × LeadOverShared (bus_of 2) ends events later) → Follow ends events
follows ends events may = subst (LeadOverShared (bus_of 2) ends events) (leads_done events ends may.0 may.1) may.1

join : (front back : List SharedEvent) (ends middle last : BusEnds) → LeadOverShared (bus_of 2) ends front middle
    → LeadOverShared (bus_of 2) middle back last → LeadOverShared (bus_of 2) ends (front ++ back) last
join [] back ends middle last a b = subst (λ e. LeadOverShared (bus_of 2) e back last) a b
join (event ∷ front) back ends middle last a b =
    (a.0, join front back (after_bus_event (bus_of 2) ends (at_each event)) middle last a.1 b)

abbrev ends_1 : BusEnds
ends_1 = done (bus_at_start (bus_of 2)) sent_first

abbrev ends_2 : BusEnds
ends_2 = done ends_1 (to_modules 0 1 configuration)

abbrev ends_3 : BusEnds
ends_3 = done ends_2 (to_modules 1 1 configuration)

abbrev ends_4 : BusEnds
ends_4 = done ends_3 polled

abbrev ends_5 : BusEnds
ends_5 = done ends_4 (to_modules 0 2 poll)

abbrev ends_6 : BusEnds
ends_6 = done ends_5 (to_modules 1 2 poll)

abbrev ends_7 : BusEnds
ends_7 = done ends_6 (to_decoders 0 2 answer)

abbrev ends_8 : BusEnds
ends_8 = done ends_7 (to_decoders 1 2 answer)

first_there : 0 < 2
first_there = omega arith

second_there : 1 < 2
second_there = omega arith

before_first : 0 ≤ 1
before_first = omega arith

before_second : 1 ≤ 2
before_second = omega arith

before_answer : 0 ≤ 2
before_answer = omega arith

-- nothing is asked of a flag with no part before it
no_part : (part : List ℕ) (A : Type 0) → None ≡ Some part → A
no_part part A is = absurd (cc is)

in_ranges : MayHappen opened
in_ranges = grind arith

leads_1 : Follow (bus_at_start (bus_of 2)) sent_first
leads_1 = grind (arith, nat_tests, no_part, in_ranges)

leads_2 : Follow ends_1 (to_modules 0 1 configuration)
unfolding message_in is_set wide_time_of transitions_below divided with_octet
leads_2 = follows ends_1 (to_modules 0 1 configuration) (frames_to_all_modules (bus_of 2) ends_1 0 1 configuration first_there refl before_first refl)

leads_3 : Follow ends_2 (to_modules 1 1 configuration)
unfolding message_in is_set wide_time_of transitions_below divided with_octet
leads_3 = follows ends_2 (to_modules 1 1 configuration) (frames_to_all_modules (bus_of 2) ends_2 1 1 configuration second_there refl before_first refl)

leads_4 : Follow ends_3 polled
leads_4 = (tt, (tt, (tt, (tt, refl))))

leads_5 : Follow ends_4 (to_modules 0 2 poll)
unfolding message_in is_set wide_time_of transitions_below divided with_octet
leads_5 = follows ends_4 (to_modules 0 2 poll) (frames_to_all_modules (bus_of 2) ends_4 0 2 poll first_there refl before_second refl)

leads_6 : Follow ends_5 (to_modules 1 2 poll)
unfolding message_in is_set wide_time_of transitions_below divided with_octet
leads_6 = follows ends_5 (to_modules 1 2 poll) (frames_to_all_modules (bus_of 2) ends_5 1 2 poll second_there refl before_second refl)

leads_7 : Follow ends_6 (to_decoders 0 2 answer)
unfolding message_in is_set wide_time_of transitions_below divided with_octet
leads_7 = follows ends_6 (to_decoders 0 2 answer) (frames_to_all_decoders (bus_of 2) ends_6 0 2 answer first_there refl before_answer refl)

leads_8 : Follow ends_7 (to_decoders 1 2 answer)
unfolding message_in is_set wide_time_of transitions_below divided with_octet
leads_8 = follows ends_7 (to_decoders 1 2 answer) (frames_to_all_decoders (bus_of 2) ends_7 1 2 answer second_there refl before_answer refl)

abbrev back_6 : List SharedEvent
back_6 = to_modules 1 2 poll ++ (to_decoders 0 2 answer ++ to_decoders 1 2 answer)

abbrev back_4 : List SharedEvent
back_4 = polled ++ (to_modules 0 2 poll ++ back_6)

abbrev all_events : List SharedEvent
all_events = sent_first ++ (to_modules 0 1 configuration ++ (to_modules 1 1 configuration ++ back_4))

leads_back_6 : LeadOverShared (bus_of 2) ends_5 back_6 ends_8
leads_back_6 =
    join (to_modules 1 2 poll) (to_decoders 0 2 answer ++ to_decoders 1 2 answer) ends_5 ends_6 ends_8 leads_6
    (join (to_decoders 0 2 answer) (to_decoders 1 2 answer) ends_6 ends_7 ends_8 leads_7 leads_8)

leads_back_4 : LeadOverShared (bus_of 2) ends_3 back_4 ends_8
leads_back_4 =
    join polled (to_modules 0 2 poll ++ back_6) ends_3 ends_4 ends_8 leads_4
    (join (to_modules 0 2 poll) back_6 ends_4 ends_5 ends_8 leads_5 leads_back_6)

leads : LeadOverShared (bus_of 2) (bus_at_start (bus_of 2)) all_events ends_8
leads =
    join sent_first (to_modules 0 1 configuration ++ (to_modules 1 1 configuration ++ back_4)) (bus_at_start (bus_of 2)) ends_1 ends_8 leads_1
    (join (to_modules 0 1 configuration) (to_modules 1 1 configuration ++ back_4) ends_1 ends_2 ends_8 leads_2
    (join (to_modules 1 1 configuration) back_4 ends_2 ends_3 ends_8 leads_3 leads_back_4))

taken_first : (ends_8 0).polling ≡ record { number = 1; items = Entry 0 false 1 1 ∷ [] }
unfolding message_in is_set wide_time_of transitions_below divided with_octet
taken_first = refl

taken_second : (ends_8 1).polling ≡ record { number = 1; items = Entry 0 false 1 1 ∷ [] }
unfolding message_in is_set wide_time_of transitions_below divided with_octet
taken_second = refl

-- there are such lines
pub shared_lines_bring_records : SharedLinesBringRecords
shared_lines_bring_records = (
  all_events,
  ends_8,
  leads,
  (λ none. (let no : Entry 0 false 1 1 ∷ [] ≡ [] = sym (ap (λ (p : Polling). p.items) taken_first) ∙ none in absurd (cc no))),
  (λ none. (let no : Entry 0 false 1 1 ∷ [] ≡ [] = sym (ap (λ (p : Polling). p.items) taken_second) ∙ none in absurd (cc no))),
)
