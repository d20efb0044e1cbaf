-- A link whose module has restarted and that is kept up with, by computation: 64 open inputs with filters of 5, and two
-- clean rounds, the first with the answer to a poll whose own was lost.
use Rattle.std.proofs.lemmas.Bool.Decides.{nat_tests}
use Rattle.fio_link.proofs.Names.{◌≡◌, ℕ, ◌+◌, ◌≤◌, List, [], ◌∷◌, ◌++◌, None, length, refl, ap, sym, subst, ◌∙◌, arith, ConfigureInputs, Poll, OpenHaveFiltersOf, NoneIsApplied, Settings, standard_settings, Life, Commanded, life_of, filter_events, waiting_of, opened, none_applied, Event, Machine, start, refusal, after, Leads, IsRun, clean_round, IsWithin, LeadsInTime, next_round, HasTakenAll, transitions_arrived, past_lives, Pause}
use Rattle.fio_message.specs.Bits.{is_set}
use Rattle.fio_message.specs.Decoding.{message_in}
use Rattle.fio_input.specs.Delivery.{OpenKeepFiltersOf, sum_below}
use Rattle.fio_input.specs.FiltersThatDiffer.{IsAsPlanned, StaysAsPlanned, most_reports}
use Rattle.fio_input.proofs.Counted.{at_each_scan-map}
use Rattle.fio_input.proofs.FewReports.{sum-ones}
use Rattle.fio_input.proofs.FewStayOpen.{all_may_open, filters_stay}
use Rattle.fio_module.specs.Log.{transitions_below}
use Rattle.fio_module.proofs.Densest.{items_below, densest, filters_of_5}
use Rattle.fio_link.specs.declared.event.Event.TheVariants as events
use Rattle.fio_link.specs.Delivery.{HasNothingBetween}
use Rattle.fio_link.specs.KeptUp.{AreInTime, IsRoundAfter, RoundsAfter, HasRounds}
use Rattle.fio_link.specs.Instances.{one_group, IsKeptUpAfterRestarts}
use Rattle.fio_link.proofs.DenseRuns.{done, dense, leads_scans, no_restart, few_scans, dense_in_time}
use Rattle.fio_link.proofs.Grown.{few_in_time, leads-append}
use Rattle.fio_link.proofs.Pauses.{quick_round_after}

abbrev standard : Settings
standard = standard_settings 0

-- a clean round and a restart, and all inputs opened
abbrev restarting : List Event
restarting =
    events.Poll ∷ events.ToModule 1 ∷ events.ToCpu 1 ∷ events.Restart
    ∷ events.Send (ConfigureInputs (record { items = items_below 5 64 })) ∷ events.ToModule 2 ∷ []

unfoldable machine0 : Machine
machine0 = done standard start restarting

unfoldable machine1 : Machine
machine1 = done standard machine0 (dense 5 0 4)

-- a clean round, after which the link is settled
abbrev settling : List Event
settling = events.Poll ∷ events.ToModule 3 ∷ events.ToCpu 3 ∷ []

unfoldable settled1 : Machine
settled1 = done standard machine1 settling

abbrev lost_first : List Event
lost_first = events.Poll ∷ events.ToModule 4 ∷ dense 5 4 15

unfoldable lost1 : Machine
lost1 = done standard settled1 lost_first

unfoldable heard1 : Machine
heard1 = done standard lost1 (clean_round lost1)

unfoldable lost2 : Machine
lost2 = done standard heard1 (dense 5 19 15)

unfoldable heard2 : Machine
heard2 = done standard lost2 (clean_round lost2)

restarted : Leads standard 0 start restarting machine0
unfolding machine0 done items_below message_in is_set transitions_below
restarted = (refl, (refl, (refl, (refl, (refl, (refl, refl))))))

settles : Leads standard 0 machine1 settling settled1
unfolding machine0 machine1 settled1 done dense items_below message_in is_set transitions_below
settles = (refl, (refl, (refl, refl)))

scanned : Leads standard 0 machine0 (dense 5 0 4) machine1
unfolding machine1
scanned = leads_scans standard machine0 5 0 4

run1 : IsRun standard 0 (restarting ++ (dense 5 0 4 ++ settling)) settled1
run1 = grind (arith, nat_tests, leads-append, restarted, scanned, settles)

lives1 : length (past_lives settled1.history) ≡ 1
unfolding machine0 machine1 settled1 done dense items_below message_in is_set transitions_below
lives1 = refl

life1 : life_of settled1.history ≡ Commanded (Poll 1) ∷ opened 5
unfolding machine0 machine1 settled1 done dense densest items_below message_in is_set transitions_below
life1 = refl

taken1 : HasTakenAll 0 settled1
unfolding machine0 machine1 settled1 done dense items_below message_in is_set transitions_below
taken1 = record { answered = refl; present = refl }

waits1 : waiting_of standard (life_of settled1.history) ≡ []
unfolding machine0 machine1 settled1 done dense items_below message_in is_set transitions_below
waits1 = refl

poll_fine : refusal (after standard 0 settled1 events.Poll) (events.ToModule 4) ≡ None
unfolding machine0 machine1 settled1 done dense items_below message_in is_set transitions_below
poll_fine = refl

-- the pauses: one with a lost answer, and one after which all had been taken
abbrev kept : Pause
kept = record { settled = 0; untaken = 15 }

abbrev whole : Pause
whole = record { settled = 15; untaken = 0 }

stays : (machine : Machine) → LeadsInTime standard 0 0 machine machine machine
stays machine = record { leads_on = record { events = []; no_restart = tt; leads = refl }; in_time = omega arith }

lost1_leads : LeadsInTime standard 0 15 settled1 settled1 lost1
unfolding lost1 done
lost1_leads =
    let polled = after standard 0 settled1 events.Poll in
    few_in_time standard 0 15 settled1 settled1 lost1 lost_first (tt, (tt, no_restart 5 4 15))
    (refl, (poll_fine, leads_scans standard (after standard 0 polled (events.ToModule 4)) 5 4 15)) (few_scans 5 4 15) (omega arith)

heard1_leads : Leads standard 0 lost1 (clean_round lost1) heard1
unfolding machine0 machine1 settled1 lost1 heard1 done dense items_below message_in is_set transitions_below
heard1_leads = (refl, (refl, (refl, refl)))

heard2_leads : Leads standard 0 lost2 (clean_round lost2) heard2
unfolding machine0 machine1 settled1 lost1 heard1 lost2 heard2 done dense items_below message_in is_set transitions_below
heard2_leads = (refl, (refl, (refl, refl)))

abbrev receipt1 : Machine
receipt1 = after standard 0 lost1 events.Poll

polls1 : next_round settled1.polls ≤ lost1.round
unfolding machine0 machine1 settled1 lost1 done dense items_below message_in is_set transitions_below
polls1 = omega arith

round1 : (round : IsRoundAfter standard 0 kept settled1 settled1 receipt1 heard1) × HasNothingBetween standard 0 round.begin receipt1 heard1 round.round × IsWithin 0 receipt1 heard1
round1 = quick_round_after standard 0 settled1 kept settled1 settled1 lost1 heard1 (stays settled1) lost1_leads polls1 heard1_leads

lost2_leads : LeadsInTime standard 0 15 receipt1 heard1 lost2
unfolding lost2
lost2_leads = dense_in_time standard receipt1 heard1 5 19 15 round1.2

abbrev receipt2 : Machine
receipt2 = after standard 0 lost2 events.Poll

polls2 : next_round lost2.polls ≤ lost2.round
unfolding machine0 machine1 settled1 lost1 heard1 lost2 done dense items_below message_in is_set transitions_below
polls2 = omega arith

round2 : (round : IsRoundAfter standard 0 whole receipt1 heard1 receipt2 heard2) × HasNothingBetween standard 0 round.begin receipt2 heard2 round.round × IsWithin 0 receipt2 heard2
round2 = quick_round_after standard 0 heard1 whole receipt1 lost2 lost2 heard2 lost2_leads (stays lost2) polls2 heard2_leads

abbrev later2 : Life
later2 = Commanded (Poll 3) ∷ (densest 5 19 15 ++ Commanded (Poll 2) ∷ (densest 5 4 15 ++ Commanded (Poll 2) ∷ []))

life2 : life_of heard2.history ≡ later2 ++ Commanded (Poll 1) ∷ opened 5
unfolding machine0 machine1 settled1 lost1 heard1 lost2 heard2 done dense densest items_below message_in is_set transitions_below
life2 = refl

arrived2 : length (transitions_arrived standard settled1 heard2) ≡ 255
unfolding machine0 machine1 settled1 lost1 heard1 lost2 heard2 done dense items_below message_in is_set transitions_below
arrived2 = refl

not_applied2 : NoneIsApplied (filter_events later2)
unfolding densest
not_applied2 = grind (arith, nat_tests, none_applied)

filters1 : OpenHaveFiltersOf (filter_events (life_of settled1.history)) 5
filters1 = subst (λ l. OpenHaveFiltersOf (filter_events l) 5) (sym life1) filters_of_5

keep_filters : OpenKeepFiltersOf 5 (filter_events later2) (filter_events (life_of settled1.history))
keep_filters = filters_stay 5 (filter_events later2) (filter_events (life_of settled1.history)) not_applied2 filters1

-- they are one group
planned : StaysAsPlanned (one_group 64 5) (filter_events later2) (filter_events (life_of settled1.history))
planned =
    at_each_scan-map (λ before. OpenHaveFiltersOf before 5) (IsAsPlanned (one_group 64 5))
    (λ before filters. record {
      few = λ group. sum-ones 64 _;
      in_group = λ input low opened. omega arith;
      filters = λ input low opened. filters input low opened;
    }) (filter_events later2) (filter_events (life_of settled1.history)) keep_filters

enough2 : most_reports (one_group 64 5) 15 ≤ 255
unfolding sum_below
enough2 = omega arith

room2 : most_reports (one_group 64 5) (15 + 15) ≤ 1024
unfolding sum_below
room2 = omega arith

abbrev both_pauses : List Pause
both_pauses = whole ∷ kept ∷ []

both_rounds : RoundsAfter standard 0 settled1 both_pauses receipt2 heard2
both_rounds = (receipt1, heard1, (settled1, settled1, (refl, refl), round1.0), round2.0)

in_time2 : AreInTime 15 15 both_pauses
in_time2 = (record { few = omega arith; few_untaken = omega arith }, (record { few = omega arith; few_untaken = omega arith }, tt))

since2 : life_of heard2.history ≡ later2 ++ life_of settled1.history
since2 = life2 ∙ ap (λ l. later2 ++ l) (sym life1)

from2 : HasRounds standard 0 64 5 15 settled1 both_pauses receipt2 heard2 later2
from2 = grind (arith, nat_tests, taken1, both_rounds, since2, waits1, all_may_open, keep_filters)

heard_in_time : (scans : ℕ) → IsWithin scans receipt2 heard2
heard_in_time scans = omega (arith, round2.2)

pub kept_up_after_a_restart : IsKeptUpAfterRestarts (standard_settings 0) 64 5 15 15 1 2 255
kept_up_after_a_restart =
    record {
      first = 0;
      events = restarting ++ (dense 5 0 4 ++ settling);
      machine = settled1;
      pauses = both_pauses;
      receipt = receipt2;
      last = heard2;
      later = later2;
      is_run = run1;
      restarted = lives1;
      settled = record { all_taken = taken1; nothing_waits = waits1 };
      kept_up_with = record {
        some_wait = omega arith;
        room = omega arith;
        near = (omega arith, (omega arith, tt));
        from = from2;
        heard_near = heard_in_time _;
      };
      in_time = record { some_wait = omega arith; room = omega arith; in_time = in_time2; from = from2; heard_in_time = heard_in_time 15 };
      for_each = record {
        some_wait = omega arith;
        room = room2;
        few_untaken = omega arith;
        in_time = in_time2;
        all_taken = taken1;
        rounds = both_rounds;
        since = since2;
        few_change = record { nothing_waits = waits1; as_planned = planned; enough = enough2 };
        heard_in_time = heard_in_time 15;
      };
      counted = refl;
      arrived = arrived2;
    }
