-- A command passes a tap: the judge that leaves late answers out finds no breach there.
use Rattle.fio_ends.proofs.Names.{◌≡◌, ◌∙◌, ◌+◌, ◌<◌, ◌≤◌, inl, inr, ℕ, Bool, true, false, List, ◌∷◌, length, Option, Some, None, refl, ap, sym, subst, arith, same_Some, slice_get, slice_get_within, BLOCK_ANSWER, Block, Checker, Command, Facts, HasBlock, HasPoll, IsCommand, IsKept, Machine, MadeBlock, Nothing, Rule, RuleLimits, SentFrame, Settings, answer_type_to, blocks_of, breaks_within, checker_below_breach, command_octets, facts_with, life_of, names_absent, no_poll_in, number_of, number_of-fits, observation_in, poll_in, polled_number, sending_refusal, checker_within, is_rule_of_late, LateAnswers, Bus, HasPassed, Tap, last_passed}
use Rattle.fio_message.specs.declared.commands.Command.TheVariants as commands
use Rattle.fio_check.specs.declared.observation.Observation.TheVariants as seen
use Rattle.fio_check.specs.declared.rules.Rule.TheVariants as tried
use Rattle.fio_ends.proofs.LateCommands.{command_keeps, facts_passed, facts_taken, no_block_type}
use Rattle.fio_ends.proofs.LateKnown.{found_late, with_frame}
use Rattle.fio_ends.proofs.LateRules.{Holds, Takes, may_be_late}
use Rattle.fio_ends.proofs.LateTests.{none_above}
use Rattle.fio_ends.proofs.Sends.{other_said, read_back, said_of}
use Rattle.fio_ends.proofs.TapKnown.{HasTaken, IsAboveTap, IsLatestTapped, KeepsTap, TappedOf, more_pass, none_tapped}

-- a poll breaks no rule but one that late answers may break at a tap
poll_keeps_most : (limits : RuleLimits) (facts : Facts) (number : ℕ) (rule : Rule) → is_rule_of_late Bus rule ≡ false
    → breaks_within limits facts (seen.Poll number) rule ≡ false
poll_keeps_most limits facts number tried.Advance other = absurd (cc other)
poll_keeps_most limits facts number rule other = refl

module _ (settings : Settings) (limits : RuleLimits) (first : ℕ) (machine : Machine) (tap : Tap) (kept : IsKept settings first machine) (keeps : KeepsTap first machine tap)
    (place : ℕ) (frame : SentFrame) (le : last_passed tap.to_module ≤ place + 1) (at : slice_get machine.to_module place ≡ Some frame) where
  abbrev blocks : List MadeBlock
  blocks = blocks_of settings (life_of machine.history)

  abbrev below : Tap
  below = record tap { to_module = (place + 1) ∷ tap.to_module }

  pub command_passes : KeepsTap first machine below
  command_passes =
      let within = slice_get_within machine.to_module place frame at in
      let last : machine.last_to_module ≤ last_passed tap.to_module = keeps.to_module in
      record {
        commands_pass = more_pass (length machine.to_module) tap.to_module (place + 1) le (omega arith) keeps.commands_pass;
        answers_pass = keeps.answers_pass;
        to_module = omega arith;
        to_cpu = keeps.to_cpu;
        sent = keeps.sent;
        taken = keeps.taken;
      }

  abbrev Below : Checker → Option ℕ → Option ℕ → Bool → Type 0
  Below = TappedOf settings limits first machine below

  -- what has passed is not above this frame
  not_above : (p : ℕ) → HasPassed ((place + 1) ∷ tap.to_module) (p + 1) → p ≤ place
  not_above p (inl same) = omega (arith, same)
  not_above p (inr older) = let each = keeps.commands_pass.each (p + 1) older in omega arith

  -- ---- a poll

  module _ (same : frame.octets ≡ command_octets (commands.Poll (number_of first frame.round))) where
    abbrev number : ℕ
    number = number_of first frame.round

    number_fits : number < 256
    number_fits = let fits : number ≤ 255 = number_of-fits first frame.round in omega arith

    has : HasPoll machine.to_module place number frame.round
    has = record {
      frame = frame;
      at_place = at;
      spells = ap poll_in same ∙ ap polled_number (read_back (commands.Poll number) number_fits);
      of_round = refl;
    }

    latest_poll : (above : Option Bool) → ((m : Bool) → above ≡ Some m → IsAboveTap blocks machine.to_cpu tap.to_cpu frame.round false m)
        → (n : ℕ) → Some number ≡ Some n
        → IsLatestTapped first machine.to_module machine.to_cpu below machine.polls machine.round blocks above n false
    latest_poll above more n is = record {
      round = frame.round;
      named = sym (same_Some _ _ is);
      passed = λ p n r passed h. kept.always.polls.rise p place n number r frame.round (not_above p passed) h has;
      ahead = λ p n r low h. kept.always.polls.rise place p number n frame.round r (omega arith) has h;
      received = (let last : machine.last_to_module ≤ last_passed tap.to_module = keeps.to_module in
          kept.always.polls.ahead place number frame.round (omega arith) has);
      upto = kept.always.polls.sent place number frame.round has;
      more = more;
    }

    poll_lost : (checker : Checker) → checker.limits ≡ limits → Below (checker_below_breach checker.limits) (Some BLOCK_ANSWER) (Some number) false
    poll_lost checker limited = record { limited = limited; facts = refl; latest = latest_poll None (λ m is. absurd (cc is)); waits = λ is. refl }

    poll_taken : (checker : Checker) → checker.limits ≡ limits
        → ((m : Bool) → checker.facts.more ≡ Some m → IsAboveTap blocks machine.to_cpu tap.to_cpu frame.round false m)
        → Below (record checker { facts = facts_with checker.facts (seen.Poll number); skips = Nothing }) (Some BLOCK_ANSWER) (Some number) false
    poll_taken checker limited more = record {
      limited = limited;
      facts = record { awaits = refl; polls = refl; answers = refl; none = λ is. absurd (cc is) };
      latest = latest_poll checker.facts.more more;
      waits = λ is. refl;
    }

    -- the block above, if one is, was that of the poll above or of the one before
    still_above : (checker : Checker) (late : LateAnswers) → Holds (TappedOf settings limits first machine tap) checker late
        → (polled : Option ℕ) → late.polled ≡ polled
        → (m : Bool) → checker.facts.more ≡ Some m → IsAboveTap blocks machine.to_cpu tap.to_cpu frame.round false m
    still_above checker late k None is m some =
        absurd (cc (sym (none_above checker.skips checker.facts late.awaited late.polled late.answered is k.facts) ∙ some))
    still_above checker late k (Some polled) is m some =
        let l = k.latest polled is in
        let t = l.more m some in
        record {
          earlier = t.earlier;
          block = t.block;
          at_place = t.at_place;
          same = t.same;
          near = by t.earlier t.all keeps.taken;
          low = (let low : t.earlier ≤ l.round = t.low in let ahead = l.ahead place number frame.round le has in omega arith);
          now = λ is. absurd (cc is);
          all = t.all;
        }
      where
        by : (earlier : ℕ) → ((p : ℕ) (b : Block) (r : ℕ) → HasPassed tap.to_cpu (p + 1) → HasBlock machine.to_cpu p b r → r ≤ earlier)
            → HasTaken machine.to_cpu tap.to_cpu machine.round → frame.round ≤ earlier + 1
        by earlier all (inl none) = let upto = kept.always.polls.sent place number frame.round has in omega (arith, none)
        by earlier all (inr (p, b, r, passed, h, is)) =
            let upto = kept.always.polls.sent place number frame.round has in
            let low = all p b r passed h in
            omega (arith, is)

    takes_poll : (checker : Checker) (late : LateAnswers) → Holds (TappedOf settings limits first machine tap) checker late
        → Takes Bus Below checker late true (seen.Poll number)
    takes_poll checker late k =
        let lost = poll_lost checker k.limited in
        inl (record {
          timely = refl;
          found = may_be_late Bus checker.limits checker.facts (seen.Poll number) (poll_keeps_most checker.limits checker.facts number);
          lost = lost;
          kept = with_frame (λ c. Below c (Some BLOCK_ANSWER) (Some number) false) checker true (seen.Poll number)
              (λ over. absurd (cc over)) lost (λ over. poll_taken checker k.limited (still_above checker late k late.polled refl));
          anew = λ is. with_frame (λ c. Below c (Some BLOCK_ANSWER) (Some number) false) (checker_within checker.limits) true (seen.Poll number)
              (λ over. absurd (cc over)) (poll_lost (checker_within checker.limits) k.limited)
              (λ over. poll_taken (checker_within checker.limits) k.limited (λ m is. absurd (cc is)));
        })

    pub poll_passes : (checker : Checker) (late : LateAnswers) → Holds (TappedOf settings limits first machine tap) checker late
        → Takes Bus Below checker late true (observation_in true frame.octets)
    poll_passes checker late k =
        subst (Takes Bus Below checker late true) (sym (ap (observation_in true) same ∙ said_of (commands.Poll number) number_fits)) (takes_poll checker late k)

  -- ---- another command

  module _ (command : Command) (fine : sending_refusal command ≡ None) (within : IsCommand command) (same : frame.octets ≡ command_octets command) where
    latest_other : (above : Option Bool) (n : ℕ) (answered : Bool)
        → IsLatestTapped first machine.to_module machine.to_cpu tap machine.polls machine.round blocks above n answered
        → IsLatestTapped first machine.to_module machine.to_cpu below machine.polls machine.round blocks above n answered
    latest_other above n answered l = record {
      round = l.round;
      named = l.named;
      passed = λ p m r passed h. by p m r passed h;
      ahead = λ p m r low h. l.ahead p m r (omega arith) h;
      received = l.received;
      upto = l.upto;
      more = l.more;
    }
      where
        by : (p m r : ℕ) → HasPassed ((place + 1) ∷ tap.to_module) (p + 1) → HasPoll machine.to_module p m r → r ≤ l.round
        by p m r (inl here) h =
            let there : p ≡ place = omega (arith, here) in
            let is : h.frame ≡ frame = same_Some _ _ (sym h.at_place ∙ ap (slice_get machine.to_module) there ∙ at) in
            let none : poll_in h.frame.octets ≡ None = ap (λ (f : SentFrame). poll_in f.octets) is ∙ ap poll_in same ∙ no_poll_in command fine in
            absurd (cc (sym none ∙ h.spells))
        by p m r (inr older) h = l.passed p m r older h

    other_waits : (answered : Bool) → Some (answer_type_to command) ≡ Some BLOCK_ANSWER → answered ≡ false
    other_waits answered is = absurd (no_block_type command fine (same_Some _ _ is))

    takes_other : (checker : Checker) (late : LateAnswers) → Holds (TappedOf settings limits first machine tap) checker late
        → Takes Bus Below checker late true (seen.Command (answer_type_to command) (names_absent command))
    takes_other checker late k =
        let code = answer_type_to command in
        let said = seen.Command code (names_absent command) in
        let latest = λ (n : ℕ) (is : late.polled ≡ Some n). latest_other checker.facts.more n late.answered (k.latest n is) in
        let lost : Below (checker_below_breach checker.limits) (Some code) late.polled late.answered =
        record {
          limited = k.limited;
          facts = refl;
          latest = λ n is. none_tapped first machine.to_module machine.to_cpu below machine.polls machine.round blocks checker.facts.more n late.answered (latest n is) late.answered;
          waits = other_waits late.answered;
        } in
        inl (record {
          timely = refl;
          found = found_late Bus checker true said
              (λ over. may_be_late Bus checker.limits checker.facts said (λ rule other. command_keeps checker.limits checker.facts code (names_absent command) rule));
          lost = lost;
          kept = with_frame (λ c. Below c (Some code) late.polled late.answered) checker true said
              (λ over. record {
                limited = k.limited;
                facts = facts_passed checker.skips checker.facts late.awaited (Some code) late.polled late.answered over k.facts;
                latest = latest;
                waits = other_waits late.answered;
              })
              lost
              (λ over. record {
                limited = k.limited;
                facts = facts_taken checker.skips checker.facts late.awaited late.polled late.answered code (names_absent command) over k.facts;
                latest = latest;
                waits = other_waits late.answered;
              });
          anew = λ is. absurd (cc is);
        })

    pub other_passes : (checker : Checker) (late : LateAnswers) → Holds (TappedOf settings limits first machine tap) checker late
        → Takes Bus Below checker late true (observation_in true frame.octets)
    other_passes checker late k =
        subst (Takes Bus Below checker late true) (sym (ap (observation_in true) same ∙ said_of command within ∙ other_said command fine)) (takes_other checker late k)
