-- A worked run over lines, by computation: noise, a frame whole, one struck, one sent again, octets lost, an answer that comes
-- twice.
use Rattle.fio_ends.proofs.Names.{◌≡◌, ◌∙◌, ◌-◌, ◌^◌, ◌≤◌, inl, ℕ, true, false, List, [], ◌∷◌, ◌++◌, Some, None, nat_tests, ◌==◌, refl, ap, sym, subst, arith, Polling, Event, Arrives, AtCpu, AtModule, EndOf, Entry, FLAG, Framing, Happens, IsStruck, LeadOverLines, Loss, MayFollow, Octet, Scan, Send, ToCpu, ToModule, Whole, WireEvent, WiredEnds, after_line_event, ends_at_start, events_on_wire, frame_of, part_brought, sent, standard_settings, stuffed, LinesBringRecords}
use Rattle.fio_message.specs.declared.commands.Command.TheVariants as commands
use Rattle.fio_message.specs.Bits.{is_set}
use Rattle.fio_message.specs.Decoding.{message_in}
use Rattle.fio_input.specs.Widening.{wide_time_of}
use Rattle.fio_module.specs.Log.{transitions_below}
use Rattle.fio_link.specs.declared.event.Event.TheVariants.{Poll}
use Rattle.fio_wire.specs.Checks.{divided, with_octet}
use Rattle.fio_wire.specs.Octets as wire
use Rattle.fio_module.specs.Life as lives
use Rattle.fio_ends.proofs.LinePremises.{at_module, at_cpu, frame_comes, struck_comes}

abbrev framing : Framing
framing = record { address = 20; control = 131; own = record { address = 20; control = 131 } }

-- the ends after these events
abbrev done : WiredEnds → List WireEvent → WiredEnds
done ends [] = ends
done ends (event ∷ events) = done (after_line_event (standard_settings 2) framing ends event) events

-- all inputs are 1 except input 0
abbrev zero_low : ℕ
zero_low = 2 ^ 64 - 2

-- a configuration that opens input 0, with both filters 1
abbrev opened : Event
opened =
    Send (commands.ConfigureInputs (record {
      items = record { input = 0; ignore = false; leading = 1; trailing = 1 } ∷ [];
    }))

abbrev between_flags : List ℕ → List ℕ
between_flags message = stuffed (frame_of 20 131 message)

-- the octets between the flags of a poll, of which one bit was flipped
abbrev struck : List ℕ
struck = 20 ∷ 131 ∷ 55 ∷ 125 ∷ 93 ∷ 11 ∷ 228 ∷ []

is_struck : IsStruck struck
unfolding divided with_octet
is_struck = (
  20 ∷ 131 ∷ 54 ∷ 125 ∷ 11 ∷ 228 ∷ [],
  false ∷ false ∷ false ∷ false ∷ false ∷ false ∷ false ∷ false ∷ false ∷ false ∷ false ∷ false ∷ false ∷ false ∷ false ∷ false ∷ true ∷ false ∷ false ∷ false ∷ false ∷ false ∷ false ∷ false ∷ false ∷ false ∷ false ∷ false ∷ false ∷ false ∷ false ∷ false ∷ false ∷ false ∷ false ∷ false ∷ false ∷ false ∷ false ∷ false ∷ false ∷ false ∷ false ∷ false ∷ false ∷ false ∷ false ∷ false ∷ [],
  (
    (λ e. omega (arith, e), (λ e. omega (arith, e), (λ e. omega (arith, e), (λ e. omega (arith, e), (λ e. omega (arith, e), (λ e. omega (arith, e), (λ e. omega (arith, e), tt))))))),
    (
      refl,
      (
        record {
          octets_sent = (omega arith, (omega arith, (omega arith, (omega arith, (omega arith, (omega arith, tt))))));
          octets_got = (omega arith, (omega arith, (omega arith, (omega arith, (omega arith, (omega arith, tt))))));
          size = refl;
          bits = refl;
        },
        inl refl,
      ),
    ),
  ),
)

-- the answer to the poll
abbrev answer : List ℕ
answer = 182 ∷ 125 ∷ 1 ∷ 0 ∷ 0 ∷ 1 ∷ 0 ∷ 0 ∷ 0 ∷ 0 ∷ 1 ∷ []

-- a configuration is sent; noise comes before the first flag, and then the frame whole
abbrev sent_first : List WireEvent
sent_first = Happens opened ∷ AtModule (Arrives (Octet 85)) ∷ AtModule (Arrives (Octet FLAG)) ∷ []

abbrev configured : List WireEvent
configured = part_brought AtModule (between_flags (51 ∷ 1 ∷ 0 ∷ 1 ∷ 1 ∷ [])) (EndOf 1)

-- input 0 changes, and a poll is sent, which is struck
abbrev polled : List WireEvent
polled = Happens (Scan zero_low) ∷ Happens Poll ∷ part_brought AtModule struck (Arrives (Octet FLAG))

-- it is sent again, and comes whole
abbrev polled_again : List WireEvent
polled_again = Happens Poll ∷ part_brought AtModule (between_flags (54 ∷ 125 ∷ [])) (EndOf 3)

-- on the line to the CPU an octet is lost; then the answer comes, twice
abbrev answered : List WireEvent
answered = AtCpu (Arrives (Octet FLAG)) ∷ AtCpu (Arrives (Octet 20)) ∷ AtCpu (Arrives Loss) ∷ AtCpu (Arrives (Octet FLAG)) ∷ part_brought AtCpu (between_flags answer) (EndOf 2)

abbrev answered_again : List WireEvent
answered_again = part_brought AtCpu (between_flags answer) (EndOf 2)

-- ---- they may come

abbrev Follow : WiredEnds → List WireEvent → Type 0
Follow ends events = LeadOverLines (standard_settings 2) framing ends events (done ends events)

leads_done : (events : List WireEvent) (ends last : WiredEnds) → LeadOverLines (standard_settings 2) framing ends events last → last ≡ done ends events
leads_done [] ends last lead = lead
leads_done (event ∷ events) ends last lead = leads_done events (after_line_event (standard_settings 2) framing ends event) last lead.1

follows : (ends : WiredEnds) (events : List WireEvent) → MayFollow (standard_settings 2) framing ends events → Follow ends events
follows ends events may = subst (LeadOverLines (standard_settings 2) framing ends events) (leads_done events ends may.0 may.1) may.1

join : (front back : List WireEvent) (ends middle last : WiredEnds) → LeadOverLines (standard_settings 2) framing ends front middle
    → LeadOverLines (standard_settings 2) framing middle back last → LeadOverLines (standard_settings 2) framing ends (front ++ back) last
join [] back ends middle last a b = subst (λ e. LeadOverLines (standard_settings 2) framing e back last) a b
join (event ∷ front) back ends middle last a b =
    (a.0, join front back (after_line_event (standard_settings 2) framing ends event) middle last a.1 b)

abbrev ends_1 : WiredEnds
ends_1 = done (ends_at_start 125) sent_first

abbrev ends_2 : WiredEnds
ends_2 = done ends_1 configured

abbrev ends_3 : WiredEnds
ends_3 = done ends_2 polled

-- what there is when the poll has been answered
abbrev ends_4 : WiredEnds
ends_4 = record {
  history = lives.Received (54 ∷ 125 ∷ []) ∷ lives.Scan zero_low ∷ lives.Received (51 ∷ 1 ∷ 0 ∷ 1 ∷ 1 ∷ []) ∷ [];
  polling = record { number = 125; items = [] };
  to_module = record {
    written =
        sent 20 131 (51 ∷ 1 ∷ 0 ∷ 1 ∷ 1 ∷ []) ∷ sent 20 131 (54 ∷ 125 ∷ []) ∷ sent 20 131 (54 ∷ 125 ∷ []) ∷ [];
    last = 3;
    part = Some [];
    reading = record { octets = frame_of 20 131 (54 ∷ 125 ∷ []); phase = Whole };
  };
  to_cpu = record {
    written = sent 20 131 (179 ∷ 0 ∷ []) ∷ sent 20 131 answer ∷ [];
    last = 0;
    part = None;
    reading = wire.start;
  };
}

has_answered : done ends_3 polled_again ≡ ends_4
unfolding message_in is_set wide_time_of transitions_below divided with_octet
has_answered = refl

abbrev ends_5 : WiredEnds
ends_5 = done ends_4 answered

-- an octet that is no flag
plain : (octet : ℕ) (A : Type 0) → (octet == FLAG) ≡ false → octet ≡ FLAG → A
plain octet A other flag = absurd (grind (arith, nat_tests))

-- nothing is asked of a flag with no part before it
no_part : (part : List ℕ) (A : Type 0) → None ≡ Some part → A
no_part part A is = absurd (cc is)

leads_1 : Follow (ends_at_start 125) sent_first
leads_1 = grind (arith, no_part)

leads_2 : Follow ends_1 configured
unfolding message_in is_set wide_time_of transitions_below divided with_octet
leads_2 = follows ends_1 configured (frame_comes at_module (standard_settings 2) framing ends_1 1 (51 ∷ 1 ∷ 0 ∷ 1 ∷ 1 ∷ []) refl (omega arith) refl)

leads_3 : Follow ends_2 polled
unfolding message_in is_set wide_time_of transitions_below divided with_octet
leads_3 = grind (arith, nat_tests, follows, part_brought, struck_comes, at_module, standard_settings, is_struck)

leads_4 : Follow ends_3 polled_again
unfolding message_in is_set wide_time_of transitions_below divided with_octet
leads_4 =
    let sent_poll = done ends_3 (Happens Poll ∷ []) in (
      tt,
      follows sent_poll (part_brought AtModule (between_flags (54 ∷ 125 ∷ [])) (EndOf 3))
          (frame_comes at_module (standard_settings 2) framing sent_poll 3 (54 ∷ 125 ∷ []) refl (omega arith) refl),
    )

leads_5 : Follow ends_4 answered
unfolding message_in is_set wide_time_of transitions_below divided with_octet
leads_5 =
    let lost_octet = done ends_4 (AtCpu (Arrives (Octet FLAG)) ∷ AtCpu (Arrives (Octet 20)) ∷ AtCpu (Arrives Loss) ∷ AtCpu (Arrives (Octet FLAG)) ∷ []) in (
      λ flag part is. no_part part _ is,
      (
        λ flag part is. absurd (omega (arith, flag)),
        (
          tt,
          (
            λ flag part is. no_part part _ is,
            follows lost_octet (part_brought AtCpu (between_flags answer) (EndOf 2))
                (frame_comes at_cpu (standard_settings 2) framing lost_octet 2 answer refl (omega arith) refl),
          ),
        ),
      ),
    )

last_before : 2 ≤ 2
last_before = omega arith

leads_6 : Follow ends_5 answered_again
unfolding divided with_octet
leads_6 = follows ends_5 answered_again (frame_comes at_cpu (standard_settings 2) framing ends_5 2 answer refl last_before refl)

abbrev all_events : List WireEvent
all_events = sent_first ++ (configured ++ (polled ++ (polled_again ++ (answered ++ answered_again))))

abbrev ends_6 : WiredEnds
ends_6 = done ends_5 answered_again

leads : LeadOverLines (standard_settings 2) framing (ends_at_start 125) all_events ends_6
leads =
    join sent_first (configured ++ (polled ++ (polled_again ++ (answered ++ answered_again)))) (ends_at_start 125) ends_1 ends_6 leads_1
    (join configured (polled ++ (polled_again ++ (answered ++ answered_again))) ends_1 ends_2 ends_6 leads_2
    (join polled (polled_again ++ (answered ++ answered_again)) ends_2 ends_3 ends_6 leads_3
    (join polled_again (answered ++ answered_again) ends_3 ends_4 ends_6
    (subst (LeadOverLines (standard_settings 2) framing ends_3 polled_again) has_answered leads_4)
    (join answered answered_again ends_4 ends_5 ends_6 leads_5 leads_6))))

-- the events of the link, and what the CPU has at the end
delivered : events_on_wire all_events ≡ opened ∷ ToModule 1 ∷ Scan zero_low ∷ Poll ∷ Poll ∷ ToModule 3 ∷ ToCpu 2 ∷ ToCpu 2 ∷ []
unfolding divided with_octet
delivered = refl

taken : ends_6.polling ≡ record { number = 126; items = Entry 0 false 1 1 ∷ [] }
unfolding message_in is_set wide_time_of transitions_below divided with_octet
taken = refl

-- there are such lines
pub lines_bring_records : LinesBringRecords
lines_bring_records = (
  framing,
  record { address = omega arith; control = omega arith; own = refl },
  all_events,
  ends_6,
  leads,
  λ none. (let no : Entry 0 false 1 1 ∷ [] ≡ [] = sym (ap (λ (p : Polling). p.items) taken) ∙ none in absurd (cc no)),
)
