-- A link beyond its rate, by computation: 64 open inputs with filters of 1, blocks of 64 entries, and rounds of 2 scans where
-- each scan should have one.
use Rattle.fio_link.proofs.Names.{◌≡◌, ℕ, ◌+◌, ◌*◌, ◌≤◌, List, [], ◌∷◌, ◌++◌, length, slice_get, Some, refl, ap, sym, subst, ◌∙◌, arith, ConfigureInputs, Poll, OpenHaveFiltersOf, NoneIsApplied, none_applied, Settings, Life, Commanded, life_of, scans_of, filter_events, waiting_of, opened, Event, Machine, start, after, IsRun, next_round, HasTakenAll, LeadsOn, IsCleanRound}
use Rattle.fio_message.specs.Bits.{is_set}
use Rattle.fio_message.specs.Decoding.{message_in}
use Rattle.fio_input.proofs.FewStayOpen.{all_may_open, filters_stay}
use Rattle.fio_input.specs.Widening.{wide_time_of}
use Rattle.fio_module.specs.Log.{transitions_below}
use Rattle.fio_module.proofs.Densest.{items_below, densest, filters_of_1}
use Rattle.fio_cpu.specs.declared.record.Item.TheVariants as items
use Rattle.fio_wire.specs.declared.line_kind.LineKind.TheVariants.{Synchronous}
use Rattle.fio_link.specs.declared.event.Event.TheVariants as events
use Rattle.fio_link.specs.declared.line.TimedLine.{TimedLine}
use Rattle.fio_link.specs.Pace.{answer_scans}
use Rattle.fio_link.specs.Rate.{IsNextRound, octets_answered}
use Rattle.fio_link.specs.Sharpness.{LosesWhereARoundIsLonger}
use Rattle.fio_link.proofs.DenseRuns.{done, dense}

abbrev pub settings : Settings
settings = record { id = 0; per_block = 64; waiting = 128 }

abbrev pub slow : TimedLine
slow = record { kind = Synchronous; rate = 2000000; answer = 0; other = 1900; lost = 0; drift = 0; jitter = 0 }

abbrev beginning : List Event
beginning = events.Send (ConfigureInputs (record { items = items_below 1 64 })) ∷ events.ToModule 1 ∷ []

unfoldable machine0 : Machine
machine0 = done settings start beginning

-- a round whose answer is heard 2 scans after the poll was received
abbrev round_events : ℕ → List Event
round_events number = events.Poll ∷ events.ToModule (number + 2) ∷ (dense 1 (2 * number) 2 ++ events.ToCpu (number + 2) ∷ [])

unfoldable machine1 : Machine
machine1 = done settings machine0 (round_events 0)

unfoldable machine2 : Machine
machine2 = done settings machine1 (round_events 1)

unfoldable machine3 : Machine
machine3 = done settings machine2 (round_events 2)

abbrev receipt1 : Machine
receipt1 = after settings 0 machine0 events.Poll

abbrev receipt2 : Machine
receipt2 = after settings 0 machine1 events.Poll

abbrev receipt3 : Machine
receipt3 = after settings 0 machine2 events.Poll

clean1 : IsCleanRound settings 0 machine0 receipt1 machine1
unfolding machine0 machine1 done dense items_below message_in is_set transitions_below wide_time_of
clean1 = record { before = []; after = dense 1 0 2; none_before = tt; none_after = (tt, (tt, tt)); sent = (refl, refl); answered = (refl, (refl, (refl, (refl, refl)))) }

clean2 : IsCleanRound settings 0 machine1 receipt2 machine2
unfolding machine0 machine1 machine2 done dense items_below message_in is_set transitions_below wide_time_of
clean2 = record { before = []; after = dense 1 2 2; none_before = tt; none_after = (tt, (tt, tt)); sent = (refl, refl); answered = (refl, (refl, (refl, (refl, refl)))) }

clean3 : IsCleanRound settings 0 machine2 receipt3 machine3
unfolding machine0 machine1 machine2 machine3 done dense items_below message_in is_set transitions_below wide_time_of
clean3 = record { before = []; after = dense 1 4 2; none_before = tt; none_after = (tt, (tt, tt)); sent = (refl, refl); answered = (refl, (refl, (refl, (refl, refl)))) }

gap : slice_get machine3.items 64 ≡ Some items.Gap
unfolding machine0 machine1 machine2 machine3 done dense items_below message_in is_set transitions_below wide_time_of
gap = refl

scans0 : scans_of (life_of machine0.history) ≡ 0
unfolding machine0 done items_below message_in is_set transitions_below
scans0 = refl

scans1 : scans_of (life_of machine1.history) ≡ 2
unfolding machine0 machine1 done dense items_below message_in is_set transitions_below
scans1 = refl

scans2 : scans_of (life_of machine2.history) ≡ 4
unfolding machine0 machine1 machine2 done dense items_below message_in is_set transitions_below
scans2 = refl

scans3 : scans_of (life_of machine3.history) ≡ 6
unfolding machine0 machine1 machine2 machine3 done dense items_below message_in is_set transitions_below
scans3 = refl

taken0 : HasTakenAll 0 machine0
unfolding machine0 done items_below message_in is_set transitions_below
taken0 = record { answered = refl; present = refl }

taken1 : next_round machine1.polls ≡ machine1.round
unfolding machine0 machine1 done dense items_below message_in is_set transitions_below
taken1 = refl

taken2 : next_round machine2.polls ≡ machine2.round
unfolding machine0 machine1 machine2 done dense items_below message_in is_set transitions_below
taken2 = refl

waits0 : waiting_of settings (life_of machine0.history) ≡ []
unfolding machine0 done items_below message_in is_set transitions_below
waits0 = refl

run0 : IsRun settings 0 beginning machine0
unfolding machine0 done
run0 = (refl, (refl, refl))

life0 : life_of machine0.history ≡ opened 1
unfolding machine0 done densest items_below message_in is_set transitions_below
life0 = refl

abbrev later3 : Life
later3 =
    densest 1 4 2 ++ Commanded (Poll 2) ∷ (densest 1 2 2 ++ Commanded (Poll 1) ∷ (densest 1 0 2 ++ Commanded (Poll 0) ∷ []))

life3 : life_of machine3.history ≡ later3 ++ opened 1
unfolding machine0 machine1 machine2 machine3 done dense densest items_below message_in is_set transitions_below
life3 = refl

none_applied3 : NoneIsApplied (filter_events later3)
none_applied3 =
    none_applied 1 4 2 (Commanded (Poll 2) ∷ (densest 1 2 2 ++ Commanded (Poll 1) ∷ (densest 1 0 2 ++ Commanded (Poll 0) ∷ [])))
    (none_applied 1 2 2 (Commanded (Poll 1) ∷ (densest 1 0 2 ++ Commanded (Poll 0) ∷ [])) (none_applied 1 0 2 (Commanded (Poll 0) ∷ []) tt))

stays : (machine : Machine) → LeadsOn settings 0 machine machine
stays machine = record { events = []; no_restart = tt; leads = refl }

-- a round that begins as soon as the one before has ended
next_round_now : (earlier begin last : Machine) → next_round begin.polls ≡ begin.round
    → IsCleanRound settings 0 begin (after settings 0 begin events.Poll) last
    → scans_of (life_of last.history) ≡ scans_of (life_of begin.history) + 2
    → 2 ≤ answer_scans slow (octets_answered settings 0 (after settings 0 begin events.Poll) (length begin.to_module + 1))
    → IsNextRound settings 0 slow 1 0 earlier begin begin (after settings 0 begin events.Poll) last
next_round_now earlier begin last taken clean scans slow_answer =
    record {
      again = begin;
      leads_on = stays begin;
      all_taken = omega (arith, taken);
      paced = omega arith;
      repeats = stays begin;
      lost_paced = omega arith;
      round = record { round = clean; poll = omega arith; answer = omega (arith, scans, slow_answer) };
    }

-- blocks of 64 entries take 2 scans, and so does one without entries, of 8 octets
slow1 : 2 ≤ answer_scans slow (octets_answered settings 0 receipt1 (length machine0.to_module + 1))
unfolding machine0 done dense items_below message_in is_set transitions_below
slow1 = omega arith

slow2 : 2 ≤ answer_scans slow (octets_answered settings 0 receipt2 (length machine1.to_module + 1))
unfolding machine0 machine1 done dense items_below message_in is_set transitions_below
slow2 = omega arith

slow3 : 2 ≤ answer_scans slow (octets_answered settings 0 receipt3 (length machine2.to_module + 1))
unfolding machine0 machine1 machine2 done dense items_below message_in is_set transitions_below
slow3 = omega arith

pub loses : LosesWhereARoundIsLonger settings slow 64 1 1
loses =
    record {
      in_range = record { id_fits = omega arith; some_per_block = omega arith; few_per_block = omega arith };
      first = 0;
      events = beginning;
      losses = 0 ∷ 0 ∷ 0 ∷ [];
      machine = machine0;
      begin = machine2;
      receipt = receipt3;
      last = machine3;
      later = later3;
      is_run = run0;
      longer = refl;
      enough = omega arith;
      room = omega arith;
      polled = record {
        some_wait = omega arith;
        some = omega arith;
        some_open = omega arith;
        settled = record { all_taken = taken0; nothing_waits = waits0 };
        rounds = (
          machine1,
          receipt2,
          machine2,
          (
            machine0,
            receipt1,
            machine1,
            (machine0, machine0, machine0, (refl, refl, refl), next_round_now machine0 machine0 machine1 taken0.answered clean1 (scans1 ∙ omega (arith, scans0)) slow1),
            next_round_now machine0 machine1 machine2 taken1 clean2 (scans2 ∙ omega (arith, scans1)) slow2,
          ),
          next_round_now machine1 machine2 machine3 taken2 clean3 (scans3 ∙ omega (arith, scans2)) slow3,
        );
        few_lost = (omega arith, (omega arith, (omega arith, tt)));
        since = life3 ∙ ap (λ l. later3 ++ l) (sym life0);
        few_open = all_may_open 1 (filter_events later3) (filter_events (life_of machine0.history))
            (filters_stay 1 (filter_events later3) (filter_events (life_of machine0.history)) none_applied3
            (subst (λ l. OpenHaveFiltersOf (filter_events l) 1) (sym life0) filters_of_1));
      };
      place = 64;
      gap = gap;
    }
