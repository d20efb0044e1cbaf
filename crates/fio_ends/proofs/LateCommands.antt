-- The CPU's end sends a command: the judge that leaves late answers out finds no breach.
use Rattle.fio_ends.proofs.Names.{◌≡◌, ◌∙◌, ◌+◌, ◌%◌, ◌≤◌, inl, inr, ℕ, Bool, true, false, List, [], ◌∷◌, ◌++◌, Option, Some, None, refl, ap, sym, subst, arith, if◌then◌else◌, option_map, same_Some, BLOCK_ANSWER, Checker, Command, Facts, HasPoll, IsCommand, IsKept, Machine, Nothing, RuleLimits, SentFrame, Settings, Skips, ToCommand, ToPoll, after_sending, answer_type_to, blocks_of, checker_below_breach, command_octets, facts_with, get_after_push, life_of, names_absent, no_poll_in, none_more, number_of, number_of-fits, number_of-next, observation_in, poll_in, sending_refusal, breaks_within, Rule, MadeBlock, number_due, checker_within, skips_frame, LateAnswers, Cpu}
use Rattle.fio_message.specs.declared.commands.Command.TheVariants as commands
use Rattle.fio_check.specs.declared.observation.Observation.TheVariants as seen
use Rattle.fio_ends.proofs.Following.{TookBlock}
use Rattle.fio_ends.proofs.LateRules.{Holds, Takes, may_be_late}
use Rattle.fio_ends.proofs.LateKnown.{AgreesLate, HasLatest, KnownOf, KnowsFacts, found_late, with_frame}
use Rattle.fio_ends.proofs.Sends.{other_said, poll_keeps, said_of}

-- ---- what a command needs

-- the number due is that of the CPU's round
due_is : (first : ℕ) (frames : List SentFrame) (polls : List ℕ) (now : ℕ) (polled : Option ℕ) (answered : Bool)
    → ((n : ℕ) → polled ≡ Some n → HasLatest first frames polls now n answered)
    → (due : ℕ) → option_map (λ p. if answered then (p + 1) % 256 else p) polled ≡ Some due → due ≡ number_of first now
due_is first frames polls now None answered latest due is = absurd (cc is)
due_is first frames polls now (Some polled) true latest due is =
    let l = latest polled refl in
    sym (same_Some _ _ is) ∙ ap (λ p. (p + 1) % 256) l.named ∙ sym (number_of-next first l.round) ∙ ap (number_of first) (sym l.reached)
due_is first frames polls now (Some polled) false latest due is =
    let l = latest polled refl in
    sym (same_Some _ _ is) ∙ l.named ∙ ap (number_of first) (sym l.reached)

-- also by the facts of the checker
due_by : (first : ℕ) (frames : List SentFrame) (polls : List ℕ) (now : ℕ) (skips : Skips) (facts : Facts) (awaited polled : Option ℕ) (answered : Bool)
    → KnowsFacts skips facts awaited polled answered → ((n : ℕ) → polled ≡ Some n → HasLatest first frames polls now n answered)
    → (due : ℕ) → number_due facts ≡ Some due → due ≡ number_of first now
due_by first frames polls now Nothing facts awaited polled answered k latest due is =
    due_is first frames polls now polled answered latest due
    (sym (ap (λ (a : Bool). option_map (λ p. if a then (p + 1) % 256 else p) polled) k.answers)
    ∙ sym (ap (option_map (λ p. if facts.answered then (p + 1) % 256 else p)) k.polls) ∙ is)
due_by first frames polls now ToCommand facts awaited polled answered k latest due is = absurd (cc (sym (ap number_due k.0) ∙ is))
due_by first frames polls now ToPoll facts awaited polled answered k latest due is = absurd (cc (sym (ap number_due k) ∙ is))

-- no other command has the answer of a poll
pub no_block_type : (command : Command) → sending_refusal command ≡ None → answer_type_to command ≡ BLOCK_ANSWER → ⊥
no_block_type (commands.Poll number) fine is = cc fine
no_block_type (commands.Other kind body) fine is = grind arith
no_block_type command fine is = omega (arith, is)

-- a command breaks no rule but of polls
pub command_keeps : (limits : RuleLimits) (facts : Facts) (code : ℕ) (absent : Bool) (rule : Rule) → breaks_within limits facts (seen.Command code absent) rule ≡ false
command_keeps limits facts code absent rule = refl

-- ---- what is known below it

-- where another command is passed over
pub facts_passed : (skips : Skips) (facts : Facts) (awaited next polled : Option ℕ) (answered : Bool) → skips_frame skips true ≡ true
    → KnowsFacts skips facts awaited polled answered → KnowsFacts skips facts next polled answered
facts_passed Nothing facts awaited next polled answered over k = absurd (cc over)
facts_passed ToCommand facts awaited next polled answered over k = absurd (cc over)
facts_passed ToPoll facts awaited next polled answered over k = k

-- and where it is taken
pub facts_taken : (skips : Skips) (facts : Facts) (awaited polled : Option ℕ) (answered : Bool) (code : ℕ) (absent : Bool) → skips_frame skips true ≡ false
    → KnowsFacts skips facts awaited polled answered → AgreesLate (facts_with facts (seen.Command code absent)) (Some code) polled answered
facts_taken Nothing facts awaited polled answered code absent over k = record { awaits = refl; polls = k.polls; answers = k.answers; none = k.none }
facts_taken ToCommand facts awaited polled answered code absent over k = record {
  awaits = refl;
  polls = ap (λ (f : Facts). f.polled) k.0 ∙ sym k.1.0;
  answers = ap (λ (f : Facts). f.answered) k.0 ∙ sym k.1.1;
  none = λ is. ap (λ (f : Facts). f.more) k.0;
}
facts_taken ToPoll facts awaited polled answered code absent over k = absurd (cc over)

module _ (settings : Settings) (limits : RuleLimits) (first : ℕ) (machine : Machine) (kept : IsKept settings first machine) where
  abbrev blocks : List MadeBlock
  blocks = blocks_of settings (life_of machine.history)

  abbrev frame_of : Command → SentFrame
  frame_of command = record { octets = command_octets command; round = machine.round }

  abbrev Below : Command → Checker → Option ℕ → Option ℕ → Bool → Type 0
  Below command = KnownOf settings limits first (after_sending machine command)

  -- ---- a poll

  abbrev number : ℕ
  number = number_of first machine.round

  abbrev poll : Command
  poll = commands.Poll number

  sent_more : (place n r : ℕ) → HasPoll (machine.to_module ++ frame_of poll ∷ []) place n r → r ≤ machine.round
  sent_more place n r h =
      elim (get_after_push machine.to_module (frame_of poll) place h.frame h.at_place) as (λ _. r ≤ machine.round) [
        | inl old ↦ kept.always.polls.sent place n r (record { frame = h.frame; at_place = old; spells = h.spells; of_round = h.of_round })
        | inr new ↦ (let same : machine.round ≡ r = sym (ap (λ (f : SentFrame). f.round) new.1) ∙ h.of_round in omega arith)
      ]

  latest_poll : (n : ℕ) → Some number ≡ Some n → HasLatest first (machine.to_module ++ frame_of poll ∷ []) machine.polls machine.round n false
  latest_poll n is = record {
    round = machine.round;
    named = sym (same_Some _ _ is);
    sent = sent_more;
    received = kept.always.at_most;
    reached = refl;
  }

  poll_lost : (checker : Checker) → checker.limits ≡ limits → Below poll (checker_below_breach checker.limits) (Some BLOCK_ANSWER) (Some number) false
  poll_lost checker limited = record { limited = limited; facts = refl; latest = latest_poll; waits = λ is. refl; more = λ m is. absurd (cc is) }

  poll_taken : (checker : Checker) → checker.limits ≡ limits → ((m : Bool) → checker.facts.more ≡ Some m → TookBlock blocks machine.round m)
      → Below poll (record checker { facts = facts_with checker.facts (seen.Poll number); skips = Nothing }) (Some BLOCK_ANSWER) (Some number) false
  poll_taken checker limited more = record {
    limited = limited;
    facts = record { awaits = refl; polls = refl; answers = refl; none = λ is. absurd (cc is) };
    latest = latest_poll;
    waits = λ is. refl;
    more = more;
  }

  takes_poll : (checker : Checker) (late : LateAnswers) → Holds (KnownOf settings limits first machine) checker late
      → Takes Cpu (Below poll) checker late true (seen.Poll number)
  takes_poll checker late k =
      let lost = poll_lost checker k.limited in
      inl (record {
        timely = refl;
        found = may_be_late Cpu checker.limits checker.facts (seen.Poll number)
            (λ rule other. poll_keeps checker.facts number
            (due_by first machine.to_module machine.polls machine.round checker.skips checker.facts late.awaited late.polled late.answered k.facts k.latest) checker.limits rule);
        lost = lost;
        kept = with_frame (λ c. Below poll c (Some BLOCK_ANSWER) (Some number) false) checker true (seen.Poll number)
            (λ over. absurd (cc over)) lost (λ over. poll_taken checker k.limited k.more);
        anew = λ is. with_frame (λ c. Below poll c (Some BLOCK_ANSWER) (Some number) false) (checker_within checker.limits) true (seen.Poll number)
            (λ over. absurd (cc over)) (poll_lost (checker_within checker.limits) k.limited)
            (λ over. poll_taken (checker_within checker.limits) k.limited (λ m is. absurd (cc is)));
      })

  -- what the frame says
  pub sent_poll : (checker : Checker) (late : LateAnswers) → Holds (KnownOf settings limits first machine) checker late
      → Takes Cpu (Below poll) checker late true (observation_in true (command_octets poll))
  sent_poll checker late k =
      let fits : number ≤ 255 = number_of-fits first machine.round in
      subst (Takes Cpu (Below poll) checker late true) (sym (said_of poll (omega arith))) (takes_poll checker late k)

  -- ---- another command

  module _ (command : Command) (fine : sending_refusal command ≡ None) (within : IsCommand command) where
    latest_other : (n : ℕ) (answered : Bool) → HasLatest first machine.to_module machine.polls machine.round n answered
        → HasLatest first (machine.to_module ++ frame_of command ∷ []) machine.polls machine.round n answered
    latest_other n answered l = record {
      round = l.round;
      named = l.named;
      sent = λ place n r h. l.sent place n r (none_more poll_in machine.to_module (frame_of command) (no_poll_in command fine) place n r h);
      received = l.received;
      reached = l.reached;
    }

    other_waits : (answered : Bool) → Some (answer_type_to command) ≡ Some BLOCK_ANSWER → answered ≡ false
    other_waits answered is = absurd (no_block_type command fine (same_Some _ _ is))

    takes_other : (checker : Checker) (late : LateAnswers) → Holds (KnownOf settings limits first machine) checker late
        → Takes Cpu (Below command) checker late true (seen.Command (answer_type_to command) (names_absent command))
    takes_other checker late k =
        let code = answer_type_to command in
        let said = seen.Command code (names_absent command) in
        let latest = λ (n : ℕ) (is : late.polled ≡ Some n). latest_other n late.answered (k.latest n is) in
        let lost : Below command (checker_below_breach checker.limits) (Some code) late.polled late.answered =
        record { limited = k.limited; facts = refl; latest = latest; waits = other_waits late.answered; more = λ m is. absurd (cc is) } in
        inl (record {
          timely = refl;
          found = found_late Cpu checker true said
              (λ over. may_be_late Cpu checker.limits checker.facts said (λ rule other. command_keeps checker.limits checker.facts code (names_absent command) rule));
          lost = lost;
          kept = with_frame (λ c. Below command c (Some code) late.polled late.answered) checker true said
              (λ over. record {
                limited = k.limited;
                facts = facts_passed checker.skips checker.facts late.awaited (Some code) late.polled late.answered over k.facts;
                latest = latest;
                waits = other_waits late.answered;
                more = k.more;
              })
              lost
              (λ over. record {
                limited = k.limited;
                facts = facts_taken checker.skips checker.facts late.awaited late.polled late.answered code (names_absent command) over k.facts;
                latest = latest;
                waits = other_waits late.answered;
                more = k.more;
              });
          anew = λ is. absurd (cc is);
        })

    pub sent_other : (checker : Checker) (late : LateAnswers) → Holds (KnownOf settings limits first machine) checker late
        → Takes Cpu (Below command) checker late true (observation_in true (command_octets command))
    sent_other checker late k =
        subst (Takes Cpu (Below command) checker late true) (sym (said_of command within ∙ other_said command fine)) (takes_other checker late k)
