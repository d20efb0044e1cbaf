-- Settled points, and what holds since one, whatever came before it.
use Rattle.std.proofs.lemmas.Bool.Decides.{nat_tests}
use Rattle.fio_link.proofs.Names.{◌≡◌, ℕ, ◌+◌, ◌-◌, List, [], ◌∷◌, ◌++◌, length, ap, sym, ◌∙◌, arith, length-append, append-nil, take_all, Settings, AreInRange, life_of, newest_poll, newest_end, Event, Machine, Leads, HaveNoRestart, blocks_in, next_round, IsCleanRound, newest_number, HasTakenAll, end_recorded}
use Rattle.fio_link.specs.Settled.{StandsWithoutRestart, CleanRoundTakesAll, RoundsMakeBlocks}
use Rattle.fio_link.specs.declared.event.Event.TheVariants as events
use Rattle.fio_link.proofs.Kept.{HasInvariant}
use Rattle.fio_link.proofs.OneLife.{record_of}
use Rattle.fio_link.proofs.OneLifeRows.{IsKept}
use Rattle.fio_link.proofs.Rows.{keeps_all}
use Rattle.fio_link.proofs.CleanRounds.{LastWereSent, sent_all}
use Rattle.fio_link.proofs.WithinRounds.{HasCleanRound, has_clean_round}
use Rattle.fio_link.proofs.NewestPolls.{newest_all}
use Rattle.fio_link.proofs.Grown.{grows}
use Rattle.fio_link.proofs.SinceRound.{IsSince, since_all}

-- if the CPU has taken all blocks, the record goes to the end of the newest
pub recorded_end : (settings : Settings) (machine : Machine) → next_round machine.polls ≡ machine.round
    → end_recorded settings machine ≡ newest_end settings (life_of machine.history)
recorded_end settings machine all = grind (arith, nat_tests, take_all)

-- without restarts
pub stands_without_restart : (settings : Settings) (first : ℕ) (machine : Machine) → IsKept settings first machine
    → StandsWithoutRestart settings first machine
stands_without_restart settings first machine k = grind (arith, nat_tests)

module _ (settings : Settings) (range : AreInRange settings) (first : ℕ) where
  -- what holds of a machine, whatever was restarted
  pub record IsOpen (machine : Machine) : Type 0 where
    pub sent : LastWereSent machine
    pub always : HasInvariant settings first machine

  pub goes_on : (events : List Event) (machine last : Machine) → Leads settings first machine events last → IsOpen machine → IsOpen last
  goes_on events machine last leads o =
      record {
        sent = sent_all settings first events machine last leads o.sent;
        always = keeps_all settings range first events machine last leads o.always;
      }

  -- a clean round, with other events in it
  pub record EndsRound (begin receipt last : Machine) : Type 0 where
    pub round : HasCleanRound settings first begin receipt last
    pub is_open : IsOpen last
    pub all_taken : HasTakenAll first last

  pub ends_round : (begin receipt last : Machine) → IsOpen begin → IsCleanRound settings first begin receipt last → EndsRound begin receipt last
  ends_round begin receipt last o c =
      let h = has_clean_round settings range first begin receipt last o.always c in
      let at_poll = goes_on (events.ToModule (length begin.to_module + 1) ∷ []) receipt h.polled h.received (goes_on h.before begin receipt h.sent o) in
      let polled : newest_poll (life_of h.polled.history) ≡ newest_number first h.polled.polls =
      ap newest_poll h.life ∙ ap (newest_number first) (sym h.polls) in
      record {
        round = h;
        is_open = goes_on h.after_it h.polled last h.rest at_poll;
        all_taken = record {
          answered = h.newest ∙ sym h.takes.round;
          present = newest_all settings range first h.after_it h.polled last h.none_after h.rest at_poll.always polled;
        };
      }

  -- after one the CPU has taken all blocks
  pub clean_round_takes_all : (machine : Machine) → IsOpen machine → CleanRoundTakesAll settings first machine
  clean_round_takes_all machine o receipt later c = (ends_round machine receipt later o c).all_taken

  -- what holds since a time at which it had
  pub record IsAlong (base machine : Machine) : Type 0 where
    pub is_open : IsOpen machine
    pub since : IsSince settings first base machine

  pub at_base : (base : Machine) → IsOpen base → HasTakenAll first base → IsAlong base base
  at_base base o taken =
      let none : base.round - base.round ≡ 0 = omega arith in
      let all = taken.answered in
      record {
        is_open = o;
        since = record {
          rest = [];
          split = sym (append-nil (blocks_in settings base));
          made = omega arith;
          polled = taken.present;
          started = omega arith;
          kept = sym (append-nil base.items) ∙ ap (λ n. base.items ++ record_of n []) (sym none);
          carries = λ place answer r has le. absurd (omega (arith, o.always.answers.answered place answer r has));
        };
      }

  pub along : (base machine last : Machine) (events : List Event) → HaveNoRestart events → Leads settings first machine events last
      → IsAlong base machine → IsAlong base last
  along base machine last events none leads a =
      record {
        is_open = goes_on events machine last leads a.is_open;
        since = since_all settings range first base events machine last none leads a.is_open.always a.since;
      }

  -- the blocks are those before, and one for each round of the polls received since
  pub count_blocks : (base machine : Machine) → IsAlong base machine
      → length (blocks_in settings machine) + base.round ≡ length (blocks_in settings base) + next_round machine.polls
  count_blocks base machine a =
      let count = ap length a.since.split ∙ length-append (blocks_in settings base) a.since.rest in
      omega (arith, a.since.made)

  -- a clean round with what comes before it
  pub along_round : (base begin receipt last : Machine) → IsAlong base begin → (h : HasCleanRound settings first begin receipt last)
      → IsAlong base h.polled × IsAlong base last
  along_round base begin receipt last a h =
      let at_receipt = along base begin receipt h.before h.none_before h.sent a in
      let at_poll = along base receipt h.polled (events.ToModule (length begin.to_module + 1) ∷ []) (tt, tt) h.received at_receipt in
      (at_poll, along base h.polled last h.after_it h.none_after h.rest at_poll)

  -- it makes a block
  pub makes_block : (machine : Machine) → IsOpen machine → RoundsMakeBlocks settings first machine
  makes_block machine o begin receipt last taken t c =
      let a = along machine machine begin t.events t.no_restart t.leads (at_base machine o taken) in
      let e = ends_round begin receipt last a.is_open c in
      let count = count_blocks machine last (along_round machine begin receipt last a e.round).1 in
      let more = (grows settings first machine begin t.events t.no_restart t.leads).round in
      record { one_more = omega (arith, e.all_taken.answered, e.round.newest); all_taken = e.all_taken }
