-- How late the densest traffic is on a standard link, by computation: 64 open inputs with filters of 5.
use Rattle.std.proofs.lemmas.Bool.Decides.{nat_tests}
use Rattle.fio_link.proofs.Names.{◌≡◌, ℕ, List, [], ◌∷◌, ◌++◌, drop, slice_get, Some, None, refl, ap, sym, subst, ◌∙◌, arith, ConfigureInputs, Poll, OpenHaveFiltersOf, NoneIsApplied, Settings, standard_settings, Life, Commanded, life_of, scans_of, filter_events, waiting_of, log_of, opened, none_applied, Event, Machine, start, refusal, after, Leads, IsRun, clean_round, IsWithin, LeadsInTime, next_round, end_recorded, HasTakenAll, Pause, true}
use Rattle.fio_message.specs.Bits.{is_set}
use Rattle.fio_message.specs.Decoding.{message_in}
use Rattle.fio_input.proofs.FewStayOpen.{filters_stay}
use Rattle.fio_module.specs.Log.{transitions_below}
use Rattle.fio_module.proofs.Densest.{items_below, densest, filters_of_5}
use Rattle.fio_link.specs.declared.event.Event.TheVariants as events
use Rattle.fio_link.specs.Delivery.{HasNothingBetween}
use Rattle.fio_link.specs.Sharpness.{StandardLinkIsAsLate}
use Rattle.fio_link.proofs.DenseRuns.{done, dense, leads_scans, no_restart, few_scans, dense_in_time}
use Rattle.fio_link.specs.KeptUp.{IsPauseOf, IsRoundAfter}
use Rattle.fio_link.proofs.Grown.{few_in_time}
use Rattle.fio_link.proofs.Pauses.{quick_round_after}

abbrev pub standard : Settings
standard = standard_settings 0

abbrev pub beginning : List Event
beginning = events.Send (ConfigureInputs (record { items = items_below 5 64 })) ∷ events.ToModule 1 ∷ dense 5 0 4

unfoldable pub machine0 : Machine
machine0 = done standard start beginning

unfoldable begin1 : Machine
begin1 = done standard machine0 (dense 5 4 19)

unfoldable last1 : Machine
last1 = done standard begin1 (clean_round begin1)

unfoldable now1 : Machine
now1 = done standard last1 (dense 5 23 19)

life1 : life_of last1.history ≡ Commanded (Poll 0) ∷ (densest 5 4 19 ++ opened 5)
unfolding machine0 begin1 last1 done dense densest items_below message_in is_set transitions_below
life1 = refl

begin1_leads : LeadsInTime standard 0 19 machine0 machine0 begin1
unfolding begin1
begin1_leads = dense_in_time standard machine0 machine0 5 4 19 (omega arith)

clean1 : Leads standard 0 begin1 (clean_round begin1) last1
unfolding machine0 begin1 last1 done dense items_below message_in is_set transitions_below
clean1 = (refl, (refl, (refl, refl)))

pub taken0 : HasTakenAll 0 machine0
unfolding machine0 done dense items_below message_in is_set transitions_below
taken0 = record { answered = refl; present = refl }

pub waits0 : waiting_of standard (life_of machine0.history) ≡ []
unfolding machine0 done dense items_below message_in is_set transitions_below
waits0 = refl

pub run0 : IsRun standard 0 beginning machine0
unfolding machine0 done
run0 = (refl, (refl, leads_scans standard (after standard 0 (after standard 0 start (events.Send (ConfigureInputs (record { items = items_below 5 64 })))) (events.ToModule 1)) 5 0 4))

pub life0 : life_of machine0.history ≡ opened 5
unfolding machine0 done dense densest items_below message_in is_set transitions_below
life0 = refl

log_now1 : slice_get (drop (end_recorded standard now1) (log_of (life_of now1.history))) 0 ≡ Some (record { input = 63; level = true; counter = 20; scans = 20; loads = 0 })
unfolding machine0 begin1 last1 now1 done dense items_below message_in is_set transitions_below
log_now1 = refl

scans_now1 : scans_of (life_of now1.history) ≡ 42
unfolding machine0 begin1 last1 now1 done dense items_below message_in is_set transitions_below
scans_now1 = refl

taken1 : next_round begin1.polls ≡ begin1.round
unfolding machine0 begin1 done dense items_below message_in is_set transitions_below
taken1 = refl

-- a pause after which all had been taken, and one with a lost answer
abbrev whole : Pause
whole = record { settled = 19; untaken = 0 }

abbrev kept : Pause
kept = record { settled = 0; untaken = 19 }

-- nothing leads on
stays : (machine : Machine) → LeadsInTime standard 0 0 machine machine machine
stays machine = record { leads_on = record { events = []; no_restart = tt; leads = refl }; in_time = omega arith }

pub filters0 : OpenHaveFiltersOf (filter_events (life_of machine0.history)) 5
filters0 = subst (λ l. OpenHaveFiltersOf (filter_events l) 5) (sym life0) filters_of_5

-- the round, and the machine at which its poll is received
abbrev receipt1 : Machine
receipt1 = after standard 0 begin1 events.Poll

round1 : (round : IsRoundAfter standard 0 whole machine0 machine0 receipt1 last1) × HasNothingBetween standard 0 round.begin receipt1 last1 round.round × IsWithin 0 receipt1 last1
round1 = quick_round_after standard 0 machine0 whole machine0 begin1 begin1 last1 begin1_leads (stays begin1) (omega (arith, taken1)) clean1

until1 : LeadsInTime standard 0 19 receipt1 last1 now1
unfolding now1
until1 = dense_in_time standard receipt1 last1 5 23 19 round1.2

not_applied1 : NoneIsApplied (filter_events (densest 5 4 19))
unfolding densest
not_applied1 = none_applied 5 4 19 [] tt

in_time_whole : (untaken : ℕ) → IsPauseOf 19 untaken whole
in_time_whole untaken = record { few = omega arith; few_untaken = omega arith }

pub late_22 : StandardLinkIsAsLate 19 0 22
late_22 = record {
  id = 0;
  first = 0;
  events = beginning;
  pauses = whole ∷ [];
  machine = machine0;
  receipt = receipt1;
  last = last1;
  now = now1;
  later = Commanded (Poll 0) ∷ densest 5 4 19;
  next = whole;
  link = record {
    id_fits = omega arith;
    is_run = run0;
    settled = record { all_taken = taken0; nothing_waits = waits0 };
    rounds = (machine0, machine0, (refl, refl), round1.0);
    since = life1 ∙ ap (λ l. Commanded (Poll 0) ∷ (densest 5 4 19 ++ l)) (sym life0);
    filters = filters_stay 5 (filter_events (Commanded (Poll 0) ∷ densest 5 4 19)) (filter_events (life_of machine0.history)) not_applied1 filters0;
  };
  no_restart = (tt, (tt, no_restart 5 0 4));
  in_time = (in_time_whole 0, (in_time_whole 0, tt));
  until = until1;
  not_applied = not_applied1;
  nothing_between = (round1.1, tt);
  transition = record { input = 63; level = true; counter = 20; scans = 20; loads = 0 };
  lacking = log_now1;
  old = scans_now1;
}

-- the same, if the answer to a poll just before is lost
abbrev lost_first : List Event
lost_first = events.Poll ∷ events.ToModule 2 ∷ dense 5 4 19

unfoldable lost1 : Machine
lost1 = done standard machine0 lost_first

unfoldable heard1 : Machine
heard1 = done standard lost1 (clean_round lost1)

unfoldable lost2 : Machine
lost2 = done standard heard1 (dense 5 23 19)

unfoldable heard2 : Machine
heard2 = done standard lost2 (clean_round lost2)

unfoldable late2 : Machine
late2 = done standard heard2 (dense 5 42 19)

poll_fine : refusal (after standard 0 machine0 events.Poll) (events.ToModule 2) ≡ None
unfolding machine0 done dense items_below message_in is_set transitions_below
poll_fine = refl

lost1_leads : LeadsInTime standard 0 19 machine0 machine0 lost1
unfolding machine0 lost1 done
lost1_leads =
    let polled = after standard 0 machine0 events.Poll in
    few_in_time standard 0 19 machine0 machine0 lost1 lost_first (tt, (tt, no_restart 5 4 19))
    (refl, (poll_fine, leads_scans standard (after standard 0 polled (events.ToModule 2)) 5 4 19)) (few_scans 5 4 19) (omega arith)

heard1_leads : Leads standard 0 lost1 (clean_round lost1) heard1
unfolding machine0 lost1 heard1 done dense items_below message_in is_set transitions_below
heard1_leads = (refl, (refl, (refl, refl)))

heard2_leads : Leads standard 0 lost2 (clean_round lost2) heard2
unfolding machine0 lost1 heard1 lost2 heard2 done dense items_below message_in is_set transitions_below
heard2_leads = (refl, (refl, (refl, refl)))

-- both rounds
abbrev receipt2 : Machine
receipt2 = after standard 0 lost1 events.Poll

pub polls0 : next_round machine0.polls ≡ 0
unfolding machine0 done dense items_below message_in is_set transitions_below
polls0 = refl

round2 : (round : IsRoundAfter standard 0 kept machine0 machine0 receipt2 heard1) × HasNothingBetween standard 0 round.begin receipt2 heard1 round.round × IsWithin 0 receipt2 heard1
round2 = quick_round_after standard 0 machine0 kept machine0 machine0 lost1 heard1 (stays machine0) lost1_leads (omega (arith, polls0)) heard1_leads

lost2_leads : LeadsInTime standard 0 19 receipt2 heard1 lost2
unfolding lost2
lost2_leads = dense_in_time standard receipt2 heard1 5 23 19 round2.2

abbrev receipt3 : Machine
receipt3 = after standard 0 lost2 events.Poll

taken3 : next_round lost2.polls ≡ lost2.round
unfolding machine0 lost1 heard1 lost2 done dense items_below message_in is_set transitions_below
taken3 = refl

round3 : (round : IsRoundAfter standard 0 whole receipt2 heard1 receipt3 heard2) × HasNothingBetween standard 0 round.begin receipt3 heard2 round.round × IsWithin 0 receipt3 heard2
round3 = quick_round_after standard 0 heard1 whole receipt2 lost2 lost2 heard2 lost2_leads (stays lost2) (omega (arith, taken3)) heard2_leads

late2_leads : LeadsInTime standard 0 19 receipt3 heard2 late2
unfolding late2
late2_leads = dense_in_time standard receipt3 heard2 5 42 19 round3.2

abbrev later2 : Life
later2 = Commanded (Poll 1) ∷ (densest 5 23 19 ++ Commanded (Poll 0) ∷ (densest 5 4 19 ++ Commanded (Poll 0) ∷ []))

life2 : life_of heard2.history ≡ later2 ++ opened 5
unfolding machine0 lost1 heard1 lost2 heard2 done dense densest items_below message_in is_set transitions_below
life2 = refl

log_late2 : slice_get (drop (end_recorded standard late2) (log_of (life_of late2.history))) 0
    ≡ Some (record { input = 63; level = true; counter = 20; scans = 20; loads = 0 })
unfolding machine0 lost1 heard1 lost2 heard2 late2 done dense items_below message_in is_set transitions_below
log_late2 = refl

scans_late2 : scans_of (life_of late2.history) ≡ 61
unfolding machine0 lost1 heard1 lost2 heard2 late2 done dense items_below message_in is_set transitions_below
scans_late2 = refl

not_applied2 : NoneIsApplied (filter_events later2)
unfolding densest
not_applied2 = grind (arith, nat_tests, none_applied)

pub late_41 : StandardLinkIsAsLate 19 19 41
late_41 = record {
  id = 0;
  first = 0;
  events = beginning;
  pauses = whole ∷ kept ∷ [];
  machine = machine0;
  receipt = receipt3;
  last = heard2;
  now = late2;
  later = later2;
  next = whole;
  link = record {
    id_fits = omega arith;
    is_run = run0;
    settled = record { all_taken = taken0; nothing_waits = waits0 };
    rounds = (receipt2, heard1, (machine0, machine0, (refl, refl), round2.0), round3.0);
    since = life2 ∙ ap (λ l. later2 ++ l) (sym life0);
    filters = filters_stay 5 (filter_events later2) (filter_events (life_of machine0.history)) not_applied2 filters0;
  };
  no_restart = (tt, (tt, no_restart 5 0 4));
  in_time = (in_time_whole 19, (in_time_whole 19, (record { few = omega arith; few_untaken = omega arith }, tt)));
  until = late2_leads;
  not_applied = not_applied2;
  nothing_between = (round3.1, (round2.1, tt));
  transition = record { input = 63; level = true; counter = 20; scans = 20; loads = 0 };
  lacking = log_late2;
  old = scans_late2;
}
