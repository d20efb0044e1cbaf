-- A link that is polled a scan too seldom, by computation: 17 clean rounds, each after 2 scans.
use Rattle.fio_link.proofs.Names.{◌≡◌, ℕ, zero, suc, ◌*◌, List, [], ◌∷◌, ◌++◌, slice_get, Some, refl, ap, sym, subst, ◌∙◌, arith, ConfigureInputs, Poll, OpenHaveFiltersOf, NoneIsApplied, Settings, AreInRange, Life, Commanded, life_of, filter_events, waiting_of, opened, none_applied, Event, Machine, start, after, Leads, IsRun, clean_round, IsWithin, next_round, HasTakenAll, Pause, ◌≤◌, LeadsInTime}
use Rattle.fio_message.specs.Bits.{is_set}
use Rattle.fio_message.specs.Decoding.{message_in}
use Rattle.fio_input.specs.Widening.{wide_time_of}
use Rattle.fio_input.specs.Delivery.{open_inputs, sum_below}
use Rattle.fio_module.specs.Log.{transitions_below}
use Rattle.fio_module.proofs.Densest.{items_below, densest, filters_of_1}
use Rattle.fio_cpu.specs.declared.record.Item.TheVariants as items
use Rattle.fio_link.specs.declared.event.Event.TheVariants as events
use Rattle.fio_link.specs.Sharpness.{HaveNothingBetween, LosesWhereAScanLater}
use Rattle.fio_link.proofs.CleanRounds.{last_were_sent, takes_block}
use Rattle.fio_link.proofs.WithinRounds.{nothing_between_is_clean}
use Rattle.fio_link.specs.KeptUp.{RoundsAfter, AreInTime}
use Rattle.fio_link.proofs.Rows.{invariant}
use Rattle.fio_link.proofs.Settled.{IsOpen, goes_on, ends_round}
use Rattle.fio_link.proofs.Pauses.{quick_round_after}
use Rattle.fio_link.proofs.DenseRuns.{done, dense, leads_scans, dense_in_time}

abbrev settings : Settings
settings = record { id = 0; per_block = 64; waiting = 1024 }

in_range : AreInRange settings
in_range = record { id_fits = omega arith; some_per_block = omega arith; few_per_block = omega arith }

abbrev beginning : List Event
beginning = events.Send (ConfigureInputs (record { items = items_below 1 64 })) ∷ events.ToModule 1 ∷ []

unfoldable machine0 : Machine
machine0 = done settings start beginning

unfoldable after_rounds : ℕ → Machine
after_rounds zero = machine0
after_rounds (suc n) =
    let begin = done settings (after_rounds n) (dense 1 (2 * n) 2) in
    done settings begin (clean_round begin)

unfoldable receipt_after : ℕ → Machine
receipt_after zero = machine0
receipt_after (suc n) = after settings 0 (done settings (after_rounds n) (dense 1 (2 * n) 2)) events.Poll

abbrev pause : Pause
pause = record { settled = 2; untaken = 0 }

abbrev pauses_of : ℕ → List Pause
pauses_of zero = []
pauses_of (suc n) = pause ∷ pauses_of n

unfoldable life_after : ℕ → Life
life_after zero = []
life_after (suc n) = Commanded (Poll n) ∷ (densest 1 (2 * n) 2 ++ life_after n)

gap : slice_get (after_rounds 16).items 960 ≡ Some items.Gap
unfolding machine0 after_rounds done dense items_below message_in is_set transitions_below wide_time_of
gap = refl

grown : life_of (after_rounds 16).history ≡ life_after 16 ++ opened 1
unfolding machine0 after_rounds life_after done dense densest items_below message_in is_set transitions_below wide_time_of
grown = refl

life0 : life_of machine0.history ≡ opened 1
unfolding machine0 done densest items_below message_in is_set transitions_below
life0 = refl

run0 : IsRun settings 0 beginning machine0
unfolding machine0 done
run0 = (refl, (refl, refl))

taken0 : HasTakenAll 0 machine0
unfolding machine0 done items_below message_in is_set transitions_below
taken0 = record { answered = refl; present = refl }

waits0 : waiting_of settings (life_of machine0.history) ≡ []
unfolding machine0 done items_below message_in is_set transitions_below
waits0 = refl

none_in : (n : ℕ) → NoneIsApplied (filter_events (life_after n))
unfolding life_after
none_in zero = tt
none_in (suc n) = none_applied 1 (2 * n) 2 (life_after n) (none_in n)

-- what holds after n rounds
record HasRun (n : ℕ) : Type 0 where
  is_open : IsOpen settings in_range 0 (after_rounds n)
  all_taken : HasTakenAll 0 (after_rounds n)
  rounds : RoundsAfter settings 0 machine0 (pauses_of n) (receipt_after n) (after_rounds n)
  nothing_between : HaveNothingBetween settings 0 machine0 (pauses_of n) (receipt_after n) (after_rounds n) rounds
  no_later : IsWithin 0 (receipt_after n) (after_rounds n)

-- events that lead on lead to the machine after them
leads_done : (machine last : Machine) (events : List Event) → Leads settings 0 machine events last → last ≡ done settings machine events
unfolding done
leads_done machine last [] leads = leads
leads_done machine last (event ∷ events) leads = leads_done (after settings 0 machine event) last events leads.1

-- scans make no block
taken_then : (n : ℕ) → next_round (after_rounds n).polls ≤ (after_rounds n).round
    → next_round (done settings (after_rounds n) (dense 1 (2 * n) 2)).polls ≤ (done settings (after_rounds n) (dense 1 (2 * n) 2)).round
unfolding done dense
taken_then n taken = taken

-- nothing leads on
stays : (machine : Machine) → LeadsInTime settings 0 0 machine machine machine
stays machine = record { leads_on = record { events = []; no_restart = tt; leads = refl }; in_time = omega arith }

has_run : (n : ℕ) → HasRun n
unfolding after_rounds receipt_after
has_run zero =
    record {
      is_open = record {
        sent = last_were_sent settings 0 beginning machine0 run0;
        always = invariant settings in_range 0 beginning machine0 run0;
      };
      all_taken = taken0;
      rounds = (refl, refl);
      nothing_between = tt;
      no_later = omega arith;
    }
has_run (suc n) =
    let r = has_run n in
    let scans = dense 1 (2 * n) 2 in
    let begin = done settings (after_rounds n) scans in
    let last = done settings begin (clean_round begin) in
    let receipt = after settings 0 begin events.Poll in
    let t = dense_in_time settings (receipt_after n) (after_rounds n) 1 (2 * n) 2 r.no_later in
    let o = goes_on settings in_range 0 scans (after_rounds n) begin (leads_scans settings (after_rounds n) 1 (2 * n) 2) r.is_open in
    let found = takes_block settings in_range 0 begin o.sent in
    let clean : Leads settings 0 begin (clean_round begin) last =
    subst (λ m. Leads settings 0 begin (clean_round begin) m) (leads_done begin found.0 (clean_round begin) found.1.takes.leads) found.1.takes.leads in
    let x = quick_round_after settings 0 (after_rounds n) pause (receipt_after n) begin begin last t (stays begin) (taken_then n (omega (arith, r.all_taken.answered))) clean in
    let e = ends_round settings in_range 0 begin receipt last o (nothing_between_is_clean settings 0 begin last clean) in
    record {
      is_open = e.is_open;
      all_taken = e.all_taken;
      rounds = (receipt_after n, after_rounds n, r.rounds, x.0);
      nothing_between = (x.1, r.nothing_between);
      no_later = x.2;
    }

in_time : (n : ℕ) → AreInTime 2 0 (pauses_of n)
in_time zero = tt
in_time (suc n) = (record { few = omega arith; few_untaken = omega arith }, in_time n)

all_open : open_inputs (filter_events (opened 1)) ≡ 64
unfolding densest items_below sum_below
all_open = refl

pub loses : LosesWhereAScanLater settings 1 1
loses =
    let opened_now : open_inputs (filter_events (life_of machine0.history)) ≡ 64 = ap (λ l. open_inputs (filter_events l)) life0 ∙ all_open in
    record {
      in_range = in_range;
      room = omega arith;
      first = 0;
      events = beginning;
      pauses = pauses_of 16;
      machine = machine0;
      receipt = receipt_after 16;
      last = after_rounds 16;
      later = life_after 16;
      no_restart = (tt, (tt, tt));
      is_run = run0;
      settled = record { all_taken = taken0; nothing_waits = waits0 };
      some = omega arith;
      filters = subst (λ l. OpenHaveFiltersOf (filter_events l) 1) (sym life0) filters_of_1;
      enough = omega arith;
      in_time = in_time 16;
      rounds = (has_run 16).rounds;
      nothing_between = (has_run 16).nothing_between;
      since = grown ∙ ap (λ l. life_after 16 ++ l) (sym life0);
      not_applied = none_in 16;
      place = 960;
      gap = gap;
    }
