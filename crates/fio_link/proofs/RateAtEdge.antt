-- A link at the edge of its rate, by computation: 64 open inputs with filters of 5, polled every 4 scans over a synchronous
-- line of 614,400 bit/s.
use Rattle.fio_link.proofs.Names.{◌≡◌, [], ◌∷◌, drop, slice_get, Some, refl, ap, arith, false, Poll, Life, Commanded, life_of, scans_of, filter_events, log_of, Machine, after, Leads, clean_round, LeadsOn, end_recorded}
use Rattle.fio_message.specs.Bits.{is_set}
use Rattle.fio_message.specs.Decoding.{message_in}
use Rattle.fio_input.proofs.FewStayOpen.{all_may_open, filters_stay}
use Rattle.fio_module.specs.Log.{transitions_below}
use Rattle.fio_module.proofs.Densest.{items_below}
use Rattle.fio_wire.specs.declared.line_kind.LineKind.TheVariants.{Synchronous}
use Rattle.fio_link.specs.declared.event.Event.TheVariants as events
use Rattle.fio_link.specs.declared.line.TimedLine.{TimedLine}
use Rattle.fio_link.specs.Sharpness.{IsAsLateAtARate}
use Rattle.fio_link.proofs.DenseRuns.{done, dense, leads_scans, no_restart}
use Rattle.fio_link.proofs.Sharpness.{standard, beginning, machine0, run0, taken0, waits0, filters0, polls0}
use Rattle.fio_link.proofs.WithinRounds.{nothing_between_is_clean}

abbrev pub fast : TimedLine
fast = record { kind = Synchronous; rate = 614400; answer = 0; other = 0; lost = 0; drift = 0; jitter = 0 }

-- one round in which nothing is taken, and 8 scans, the last 4 of them while the next round goes on
unfoldable last1 : Machine
last1 = done standard machine0 (clean_round machine0)

unfoldable now1 : Machine
now1 = done standard last1 (dense 5 4 8)

clean1 : Leads standard 0 machine0 (clean_round machine0) last1
unfolding machine0 last1 done dense items_below message_in is_set transitions_below
clean1 = (refl, (refl, (refl, refl)))

life1 : life_of last1.history ≡ Commanded (Poll 0) ∷ life_of machine0.history
unfolding machine0 last1 done dense items_below message_in is_set transitions_below
life1 = refl

scans1 : scans_of (life_of last1.history) ≡ scans_of (life_of machine0.history)
scans1 = ap scans_of life1

scans0 : scans_of (life_of machine0.history) ≡ 4
unfolding machine0 done dense items_below message_in is_set transitions_below
scans0 = refl

scans_now1 : scans_of (life_of now1.history) ≡ 12
unfolding machine0 last1 now1 done dense items_below message_in is_set transitions_below
scans_now1 = refl

log_now1 : slice_get (drop (end_recorded standard now1) (log_of (life_of now1.history))) 0
    ≡ Some (record { input = 0; level = false; counter = 5; scans = 5; loads = 0 })
unfolding machine0 last1 now1 done dense items_below message_in is_set transitions_below
log_now1 = refl

taken : machine0.round ≡ 0
unfolding machine0 done dense items_below message_in is_set transitions_below
taken = refl

on1 : LeadsOn standard 0 last1 now1
unfolding now1
on1 = record { events = dense 5 4 8; no_restart = no_restart 5 4 8; leads = leads_scans standard last1 5 4 8 }

stays : LeadsOn standard 0 machine0 machine0
stays = record { events = []; no_restart = tt; leads = refl }

pub late_7 : IsAsLateAtARate fast 64 5 4 7
late_7 =
    let receipt1 = after standard 0 machine0 events.Poll in
    let later : Life = Commanded (Poll 0) ∷ [] in
    record {
      id = 0;
      first = 0;
      events = beginning;
      losses = 0 ∷ [];
      machine = machine0;
      begin = machine0;
      receipt = receipt1;
      last = last1;
      now = now1;
      later = later;
      is_run = run0;
      is_pace = record { some_rate = omega arith; ends = omega arith; enough = omega arith; room = omega arith };
      edge = refl;
      polled = record {
        some_wait = omega arith;
        some = omega arith;
        some_open = omega arith;
        settled = record { all_taken = taken0; nothing_waits = waits0 };
        rounds = (
          machine0,
          machine0,
          machine0,
          (refl, refl, refl),
          record {
            again = machine0;
            leads_on = stays;
            all_taken = omega (arith, polls0);
            paced = omega arith;
            repeats = stays;
            lost_paced = omega arith;
            round = record {
              round = nothing_between_is_clean standard 0 machine0 last1 clean1;
              poll = omega arith;
              answer = omega (arith, scans1);
            };
          },
        );
        few_lost = (omega arith, tt);
        since = life1;
        few_open = all_may_open 5 (filter_events later) (filter_events (life_of machine0.history))
            (filters_stay 5 (filter_events later) (filter_events (life_of machine0.history)) tt filters0);
      };
      leads_on = on1;
      within = omega (arith, scans_now1, scans0);
      bound = refl;
      transition = record { input = 0; level = false; counter = 5; scans = 5; loads = 0 };
      lacking = log_now1;
      old = scans_now1;
    }
