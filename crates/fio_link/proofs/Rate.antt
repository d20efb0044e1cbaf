-- Links that are polled at a pace of their line lose nothing and are never late.
use Rattle.fio_link.proofs.Names.{◌≡◌, ℕ, ◌+◌, ◌-◌, ◌*◌, ◌≤◌, Bool, true, false, List, [], ◌∷◌, ◌++◌, refl, ap, sym, subst, ◌∙◌, arith, append_assoc, append_cancel_right, AllByRecursion, HasFewOpen, if◌then◌else◌, nat_lt, nat_tests, Settings, AreInRange, Life, life_of, Machine, IsSettled, left_behind}
use Rattle.std.proofs.Common.{◌/◌}
use Rattle.fio_module.proofs.Pace.{each_before}
use Rattle.fio_link.specs.declared.line.TimedLine.{TimedLine}
use Rattle.fio_link.specs.KeptUp.{IsLateBy}
use Rattle.fio_link.specs.Pace.{IsPace, traffic_of, clean_pace, most_apart, most_behind, most_changes, round_scans}
use Rattle.fio_link.specs.Rate.{ArrivesInTimeAtARate, IsNoLater, RoundsOnLine}
use Rattle.fio_link.specs.Sound.{HoldsWhateverRestarts}
use Rattle.fio_link.proofs.AllArrives.{all_arrives_where_kept_up_with}
use Rattle.fio_link.proofs.Grown.{grows}
use Rattle.fio_link.proofs.LinePauses.{IsFew, IsPunctual, ends_before, next, next_leads_on, no_fewer, none_yet, time}
use Rattle.fio_link.proofs.MadeBlocks.{each-map}
use Rattle.fio_link.proofs.PaceNumbers.{no_more_scans}
use Rattle.fio_link.proofs.Promises.{opens}
use Rattle.fio_link.proofs.Settled.{IsOpen}

module _ (settings : Settings) (range : AreInRange settings) (first : ℕ) (machine : Machine) (o : IsOpen settings range first machine)
    (line : TimedLine) (opened filter pace : ℕ) (p : IsPace line (traffic_of settings opened filter) pace) (some_wait : 1 ≤ settings.waiting)
    (some : 1 ≤ filter) (settled : IsSettled settings first machine) where
  abbrev life : Life
  life = life_of machine.history

  abbrev IsFewOpen : Life → Type 0
  IsFewOpen l = IsFew settings range first machine o line opened filter pace p some_wait some settled l

  abbrev IsInTime : Machine → Machine → Machine → Type 0
  IsInTime begin receipt last = IsPunctual settings range first machine o line opened filter pace p some_wait some settled begin receipt last

  -- all rounds
  punctual : (losses : List ℕ) (begin receipt last : Machine) → RoundsOnLine settings first line pace machine losses begin receipt last
      → AllByRecursion (λ lost. lost ≤ line.lost) losses → ((l : Life) → life_of last.history ≡ l ++ life → IsFewOpen l)
      → IsInTime begin receipt last
  punctual [] begin receipt last rounds few_lost few =
      let start : IsInTime machine machine machine = none_yet settings range first machine o line opened filter pace p some_wait some settled in
      subst (λ m. IsInTime m receipt last) (sym rounds.0) (subst (λ m. IsInTime machine m last) (sym rounds.1)
      (subst (λ m. IsInTime machine machine m) (sym rounds.2) start))
  punctual (lost ∷ losses) begin receipt last rounds few_lost few =
      let on = next_leads_on settings first line pace lost rounds.0 rounds.2 begin receipt last rounds.4 in
      let g = grows settings first rounds.2 last on.events on.no_restart on.leads in
      let few_done : (l : Life) → life_of rounds.2.history ≡ l ++ life → IsFewOpen l = λ l is.
      each_before (HasFewOpen opened filter) g.stretch l life
      (few (g.stretch ++ l) (g.life ∙ ap (λ m. g.stretch ++ m) is ∙ sym (append_assoc g.stretch l life))) in
      next settings range first machine o line opened filter pace p some_wait some settled lost rounds.0 rounds.1 rounds.2 begin receipt last
      (punctual losses rounds.0 rounds.1 rounds.2 rounds.3 few_lost.1 few_done) few_lost.0 rounds.4 few

-- no transition is later than it may be, if a block takes all that may come, or not
late_by : (is : Bool) (settings : Settings) (opened filter scans most behind lag : ℕ) (machine last now : Machine) (later : Life)
    → 1 ≤ opened → 1 ≤ filter → behind ≤ lag → nat_lt settings.per_block (opened * (1 + (scans - 1) / filter)) ≡ is
    → IsLateBy settings opened filter scans most behind machine last now later
    → IsNoLater settings (lag + (if is then filter - 1 else 0) - 1) now
late_by true settings opened filter scans most behind lag machine last now later some_open some low is l =
    each-map _ _ (λ transition young. omega arith) _ l.late
late_by false settings opened filter scans most behind lag machine last now later some_open some low is l =
    let takes : opened * (1 + (scans - 1) / filter) ≤ settings.per_block = grind (arith, nat_tests) in
    let made_up = no_more_scans opened filter settings.per_block scans l.exactly.blocks some_open some takes in
    each-map _ _ (λ transition young. omega arith) _ l.exactly.young

pub arrives_in_time_at_a_rate : HoldsWhateverRestarts ArrivesInTimeAtARate
arrives_in_time_at_a_rate settings first events machine range run line opened filter pace losses begin receipt last later p polled =
    let o = opens settings first events machine range run in
    let few : (l : Life) → life_of last.history ≡ l ++ life_of machine.history → IsFew settings range first machine o line opened filter pace p polled.some_wait polled.some polled.settled l =
    λ l is. subst (IsFew settings range first machine o line opened filter pace p polled.some_wait polled.some polled.settled)
    (append_cancel_right later l (life_of machine.history) (sym polled.since ∙ is)) polled.few_open in
    let t = punctual settings range first machine o line opened filter pace p polled.some_wait polled.some polled.settled losses begin receipt last polled.rounds polled.few_lost few in
    let ends = ends_before settings range first machine o line opened filter pace p polled.some_wait polled.some polled.settled in
    let a = all_arrives_where_kept_up_with settings range first machine o opened filter (clean_pace line pace) (most_behind line pace) t.pauses receipt last later
    (record {
      some_wait = polled.some_wait;
      room = p.room;
      near = t.near;
      from = record {
        all_taken = polled.settled.all_taken;
        rounds = t.rounds;
        since = polled.since;
        few_change = record { nothing_waits = polled.settled.nothing_waits; some = polled.some; few_open = polled.few_open; enough = p.enough };
      };
      heard_near = omega (arith, t.ends, t.left, ends);
    }) in
    record {
      ends = t.ends;
      whole = a.whole;
      times = a.times;
      late = λ now on within.
          let between = time now - time receipt in
          let grown = no_fewer settings first last now on in
          late_by (nat_lt settings.per_block (most_changes (traffic_of settings opened filter) (clean_pace line pace))) settings opened filter
          (clean_pace line pace) (most_behind line pace) (between + left_behind (clean_pace line pace) t.pauses)
          (line.lost * most_apart line pace + clean_pace line pace + round_scans line (traffic_of settings opened filter) pace) machine last now later
          polled.some_open polled.some (omega (arith, t.ends, t.left, t.order)) refl
          (a.at between now (record { leads_on = on; in_time = omega arith }));
    }
