-- In the lines of one life of a module, below whatever a judge took, the judge of a link accuses nobody, and says once at most
-- that the module was restarted: it goes on up to the first stamp, which is set back, and begins anew at the next poll.
use Rattle.fio_ends.proofs.Names.{◌%◌, ◌≡◌, ◌∙◌, ◌+◌, ◌<◌, same_Some, nat_tests, command_in, ◌⊎◌, inl, inr, ℕ, Bool, true, false, List, [], ◌∷◌, ◌++◌, map, Option, Some, None, refl, ap, sym, subst, arith, is_some, option_and_then, AllByRecursion, Answer, Command, IsCommand, answer_in, answered_block, block_in, command_octets, Life, life_of, loads_of, Settings, AreInRange, ContentKept, kept_with, facts_with, number_due, Facts, RuleLimits, Observation, first_broken_within, is_some_and, observation_in, Event, Machine, SentFrame, start, number_of, number_of-fits, after, after_delivered_block, after_delivery_to_cpu, after_delivery_to_module, item_numbered, kept, CpuFrame, frame_heard, frames_at, SuitModule, AreLogged, BLOCK_ANSWER, Breach, Checker, Excused, FrameOutcome, Judging, Load, LogLine, LogPlace, LogStep, Logged, Marked, Missing, Nothing, Restarted, ToPoll, answer_type_to, any_stamp_in, any_stamp_of, breach_of, checker_below_breach, checker_skipping, checking_above, events_of, found-taking, found_by, found_in_frame, is_before, is_set_back, judging_at, judging_below, judging_below_outcome, judging_taken, judging_with, loads_below, loads_left, log_from, logged_at, may_be_anew, names_absent, nat_le, nat_lt, option_map, outcome_in, outcome_set_back, outcomes_of, passes_over, place_lost, polls_below, stamp_of, taking, ◌==◌, stamp_in, BeginsEarlier, is_earlier}
use Rattle.std.specs.Prelude.{not}
use Rattle.fio_message.specs.declared.commands.Command.TheVariants as commands
use Rattle.fio_check.specs.declared.observation.Observation.TheVariants as seen
use Rattle.fio_check.specs.declared.rules.Rule.TheVariants as tried
use Rattle.fio_link.specs.declared.event.Event.TheVariants as events
use Rattle.fio_ends.proofs.Following.{goes_on-both, goes_on-same}
use Rattle.fio_ends.proofs.JudgeLost.{life_on}
use Rattle.fio_ends.proofs.JudgeStamps.{IsOf, StampState, of_later, stamps_heard, stamps_polled}
use Rattle.fio_ends.proofs.JudgeSteps.{KeepsFrame, frame_kept, heard_passed, outcomes-append, passed, passed_is, takes_all}
use Rattle.fio_ends.proofs.JudgedCalm.{Beside, EndsAt, Goes, Knows, Rest, begins_anew, below_both, below_frames, ends_judging, goes, later, none_loaded, rest_on, step}
use Rattle.fio_ends.proofs.Lives.{loads_grow}
use Rattle.fio_ends.proofs.Rules.{KeepsRules, no_rule_broken, rules_kept_within}
use Rattle.fio_ends.proofs.Sends.{other_said, poll_keeps, said_of}
use Rattle.fio_ends.proofs.RestartedFrames.{IsAgain, IsBlockAgain, KnowsPolls, again_found, anew_is, block_again, breach_is_rest, none_of_breach, polls_kept, polls_polled, either, lost_by, set_back_is, watchdog_is}
use Rattle.fio_ends.proofs.AnewFrames.{HaveOneRestart, any_heard, IsPlain, IsQuiet, IsSame, back_of, is_none, not_back, one_back, one_quiet, plain_heard, quiet_of, same_stamp, sent_absent, sent_none, answered_option}

module _ (settings : Settings) (range : AreInRange settings) (first : ℕ) (limits : RuleLimits) (suit : SuitModule settings limits) where
  -- if a judge judges each frame there, the next poll has the number that is due
  abbrev pub IsEnd : Machine → Judging → Type 0
  IsEnd last judging = EndsAt first limits last judging

  -- lines of one life, and what the judge is below them
  abbrev pub AllQuietTo : Machine → Judging → List LogLine → Type 0
  AllQuietTo last judging lines = AllByRecursion IsQuiet (outcomes_of judging lines) × IsEnd last (judging_below judging lines)

  abbrev pub OneRestartTo : Machine → Judging → List LogLine → Type 0
  OneRestartTo last judging lines = HaveOneRestart (outcomes_of judging lines) × IsEnd last (judging_below judging lines)

  quiet_both : (last : Machine) (judging : Judging) (front rest : List LogLine) → AllByRecursion IsQuiet (outcomes_of judging front) → AllQuietTo last (judging_below judging front) rest
      → AllQuietTo last judging (front ++ rest)
  quiet_both last judging front rest above below =
      (outcomes-append IsQuiet front rest judging above below.0, subst (IsEnd last) (sym (below_both judging front rest)) below.1)

  abbrev pub below_event : Beside → Event → Beside
  below_event = step settings range first limits suit start

  abbrev pub KnowsOf : Beside → Type 0
  KnowsOf = Knows settings range first limits suit start

  abbrev pub RestOf : Beside → Machine → List Event → Type 0
  RestOf g last rest = Rest settings range first limits suit start g.times g.machine g.due last rest

  abbrev GoesOf : Beside → List CpuFrame → Type 0
  GoesOf = Goes settings range first limits suit start

  on_rest : (g : Beside) (last : Machine) (event : Event) (rest : List Event) → RestOf g last (event ∷ rest) → RestOf (below_event g event) last rest
  on_rest g last event rest r = rest_on settings range first limits suit start g.times g.machine g.due last event rest r

  on_knows : (g : Beside) (last : Machine) (event : Event) (rest : List Event) → KnowsOf g → RestOf g last (event ∷ rest) → KnowsOf (below_event g event)
  on_knows g last event rest k r = (goes settings range first limits suit start g last event rest k r).knows

  -- ---- where the place is lost

  -- with a stamp of this life, if with any
  pub record IsLostAt (life : Life) (judging : Judging) : Type 0 where
    pub checker_is : judging.checker ≡ checker_skipping ToPoll limits
    pub asked_is : judging.asked ≡ None
    pub latest_of : (stamp : ℕ) → judging.latest ≡ Some stamp → IsOf settings range first start life stamp

  -- a frame that is passed over
  over_it : (judging : Judging) (at : LogPlace) (frame : CpuFrame) → passes_over judging.checker frame.from_cpu (observation_in frame.from_cpu frame.octets) ≡ true
      → IsQuiet (outcome_in judging at frame.from_cpu frame.octets)
  over_it judging at frame over = subst IsQuiet (sym (passed_is judging at frame.from_cpu frame.octets over)) tt

  -- what is heard
  heard_over : (judging : Judging) (life : Life) (at : LogPlace) (found : Option SentFrame) → IsLostAt life judging
      → AllByRecursion IsQuiet (outcomes_of judging (map (logged_at at) (frame_heard found))) × (judging_below judging (map (logged_at at) (frame_heard found)) ≡ judging)
  heard_over judging life at found l = grind (arith, heard_passed, over_it, passed)

  -- all events from there on
  lost : (steps : List LogStep) (last : Machine) → AreLogged steps → (g : Beside) (judging : Judging) → KnowsOf g → IsLostAt (life_of g.machine.history) judging → RestOf g last (events_of steps)
      → AllQuietTo last judging (log_from settings first g.machine steps)
  lost [] last logged g judging k l r = (tt, λ all. absurd (let is : ToPoll ≡ Nothing = sym (ap (λ (c : Checker). c.skips) l.checker_is) ∙ all in cc is))
  lost (Missing event ∷ steps) last logged g judging k l r = absurd logged
  lost (Marked ∷ steps) last logged g judging k l r = absurd logged
  lost (Logged at event ∷ steps) last logged g judging k l r = by (lost steps last logged) event r
    where
      now : Life
      now = life_of g.machine.history

      LostAll : Type 0
      LostAll = (g : Beside) (judging : Judging) → KnowsOf g → IsLostAt (life_of g.machine.history) judging → RestOf g last (events_of steps) → AllQuietTo last judging (log_from settings first g.machine steps)

      AllQuiet : Event → Type 0
      AllQuiet event = AllQuietTo last judging (log_from settings first g.machine (Logged at event ∷ steps))

      further : LostAll → (event : Event) (below : Judging) → RestOf g last (event ∷ events_of steps) → IsLostAt now below → AllQuietTo last below (log_from settings first (after settings first g.machine event) steps)
      further again event below r l = again (below_event g event) below (on_knows g last event (events_of steps) k r)
          (record { checker_is = l.checker_is; asked_is = l.asked_is; latest_of = λ stamp is. of_later settings range first start _ _ stamp (life_on settings first g.machine event r.none.0) (l.latest_of stamp is) })
          (on_rest g last event (events_of steps) r)

      begins : RestOf g last (events.Poll ∷ events_of steps) → AllQuiet events.Poll
      begins r =
          let number = number_of first g.machine.round in
          let steady = r.steady in
          let begun = goes_on-both (life_of start.history) g.from now k.known.begun k.known.now in
          let grown = loads_grow (life_of start.history) now begun in
          let right = begins_anew settings range first limits suit start
          (record g { times = record g.times { sent = 0 }; stamps = record { latest = judging.latest; asked = None; any = None; polled = None; back = false } })
          last steps at judging ToPoll (loads_left judging) (record { is_kept = k.known.is_kept; begun = begun; rounds = k.known.rounds; now = goes_on-same now now refl }) k.follows
          (record { enough = inr (omega (arith, grown)) })
          (record { none = refl; latest = λ stamp is. l.latest_of stamp is; asked = λ stamp is. absurd (cc is); any = λ first stamp is. absurd (cc is); polled = λ number is. absurd (cc is) })
          (record { latest = refl; asked = l.asked_is; polled = refl }) l.checker_is refl logged events.Poll tt
          (ap (passes_over (checker_skipping ToPoll limits) true) (said_of (commands.Poll number) (omega (arith, number_of-fits first g.machine.round))), tt)
          (record {
            asks = record {
              taken = r.asks.taken;
              stamps = r.asks.stamps;
              states = r.asks.states;
              loads = none_loaded settings range first (events.Poll ∷ events_of steps) g.machine last (loads_of (life_of start.history) + 0) r.leads r.none (omega (arith, steady));
            };
            calm = r.calm;
            leads = r.leads;
            none = r.none;
            within = r.within;
            prompt = r.prompt;
            steady = r.steady;
          }) in
          (quiet_of (outcomes_of judging (log_from settings first g.machine (Logged at events.Poll ∷ steps))) right.0, right.1)

      by : LostAll → (event : Event) → RestOf g last (event ∷ events_of steps) → AllQuiet event
      by again events.Poll r = begins r
      by again (events.Send command) r =
          let octets = command_octets command in
          let over : passes_over judging.checker true (observation_in true octets) ≡ true =
          ap (λ c. passes_over c true (observation_in true octets)) l.checker_is ∙ ap (passes_over (checker_skipping ToPoll limits) true) (said_of command r.within.0 ∙ other_said command r.leads.0) in
          let rest = further again (events.Send command) (judging_with judging at true octets) r
          (subst (IsLostAt now) (sym (passed judging at true octets over).is) (record { checker_is = l.checker_is; asked_is = l.asked_is; latest_of = l.latest_of })) in
          ((over_it judging at (record { from_cpu = true; octets = octets }) over, rest.0), rest.1)
      by again (events.ToCpu index) r =
          let lines = map (logged_at at) (frame_heard (item_numbered g.machine.to_cpu index)) in
          let heard = heard_over judging now at (item_numbered g.machine.to_cpu index) l in
          quiet_both last judging lines (log_from settings first (after settings first g.machine (events.ToCpu index)) steps) heard.0
          (further again (events.ToCpu index) (judging_below judging lines) r (subst (IsLostAt now) (sym heard.1) l))
      by again (events.ToModule index) r = further again (events.ToModule index) judging r l
      by again (events.Scan raw) r = further again (events.Scan raw) judging r l
      by again events.LineSync r = further again events.LineSync judging r l
      by again (events.Raise mask) r = further again (events.Raise mask) judging r l
      by again events.Restart r = absurd r.none.0

  -- ---- above the first stamp

  -- each frame is judged
  pub record Between (latest : Option ℕ) (g : Beside) (judging : Judging) : Type 0 where
    pub above : Facts
    pub content : ContentKept
    pub checker_is : judging.checker ≡ taking limits above
    pub content_is : judging.content ≡ record { begun = true; kept = content }
    pub due : (due : ℕ) → number_due above ≡ Some due → due ≡ number_of first g.machine.round
    pub same : (g.facts.awaited ≡ None) ⊎ IsSame above g.facts content.facts g.kept.facts
    pub latest_is : judging.latest ≡ latest
    pub polls : KnowsPolls above g.facts judging.polls

  -- where nothing was sent or heard
  moved_on : (latest : Option ℕ) (g n : Beside) (judging : Judging) → n.facts ≡ g.facts → n.kept ≡ g.kept → n.machine.round ≡ g.machine.round → Between latest g judging → Between latest n judging
  moved_on latest g n judging facts kept round b = record {
    above = b.above;
    content = b.content;
    checker_is = b.checker_is;
    content_is = b.content_is;
    due = λ due is. b.due due is ∙ ap (number_of first) (sym round);
    same = rw (facts, kept) b.same;
    latest_is = b.latest_is;
    polls = rw facts b.polls;
  }

  module _ (last : Machine) (latest : Option ℕ) (g m : Beside) (at : LogPlace) (lines : List LogLine) where
    -- the frames of an event are below this
    abbrev with_stamps : StampState → Beside
    with_stamps stamps = record m { stamps = stamps; facts = g.facts; kept = g.kept }

    abbrev JudgesBelow : Beside → Type 0
    JudgesBelow n = (judging : Judging) → Between latest n judging → BeginsEarlier latest lines → OneRestartTo last judging lines

    abbrev LosesBelow : Type 0
    LosesBelow = (judging : Judging) → IsLostAt (life_of m.machine.history) judging → AllQuietTo last judging lines

    module _ (from_cpu : Bool) (octets : List ℕ) (stamps : StampState) (judging : Judging) (b : Between latest g judging) where
      abbrev frame : CpuFrame
      frame = record { from_cpu = from_cpu; octets = octets }

      abbrev said : Observation
      said = observation_in from_cpu octets

      abbrev n : Beside
      n = below_frames (with_stamps stamps) (frame ∷ [])

      -- a frame that keeps all rules, and has no stamp that counts
      passes : KeepsFrame limits judging at frame (facts_with b.above said) (kept_with b.content from_cpu octets) → stamp_in from_cpu octets ≡ None
          → ((due : ℕ) → number_due (facts_with b.above said) ≡ Some due → due ≡ number_of first m.machine.round)
          → (n.facts.awaited ≡ None) ⊎ IsSame (facts_with b.above said) n.facts (kept_with b.content from_cpu octets).facts n.kept.facts
          → KnowsPolls (facts_with b.above said) n.facts (polls_below judging.polls said)
          → JudgesBelow n → BeginsEarlier latest lines → OneRestartTo last judging (logged_at at frame ∷ lines)
      passes k no_stamp due same polls again earlier =
          let rest = again (judging_with judging at from_cpu octets) (record {
            above = facts_with b.above said;
            content = kept_with b.content from_cpu octets;
            checker_is = k.checker;
            content_is = k.content;
            due = due;
            same = same;
            latest_is = ap (λ (j : Judging). j.latest) k.is ∙ ap (λ stamp. (judging_at (judging_taken judging judging.checker from_cpu octets) stamp).latest) no_stamp ∙ b.latest_is;
            polls = subst (KnowsPolls (facts_with b.above said) n.facts)
                (sym (ap (λ (j : Judging). j.polls) k.is ∙ ap (λ stamp. (judging_at (judging_taken judging judging.checker from_cpu octets) stamp).polls) no_stamp)) polls;
          }) earlier in
          (one_quiet (outcome_in judging at from_cpu octets) (outcomes_of (judging_with judging at from_cpu octets) lines) k.outcome rest.0, rest.1)

    -- a command
    sent_between : (command : Command) → IsCommand command → (judging : Judging) → Between latest g judging
        → ((above : Facts) → ((due : ℕ) → number_due above ≡ Some due → due ≡ number_of first g.machine.round)
        → (first_broken_within limits above (observation_in true (command_octets command)) ≡ None)
        × ((due : ℕ) → number_due (facts_with above (observation_in true (command_octets command))) ≡ Some due → due ≡ number_of first m.machine.round)
        × ((facts_with above (observation_in true (command_octets command))).awaited ≡ (facts_with g.facts (observation_in true (command_octets command))).awaited)
        × ((facts_with above (observation_in true (command_octets command))).absent_named ≡ (facts_with g.facts (observation_in true (command_octets command))).absent_named))
        → ((above : Facts) (polls : ℕ) → KnowsPolls above g.facts polls
        → KnowsPolls (facts_with above (observation_in true (command_octets command))) (facts_with g.facts (observation_in true (command_octets command))) (polls_below polls (observation_in true (command_octets command))))
        → (stamps : StampState) → JudgesBelow (below_frames (with_stamps stamps) (record { from_cpu = true; octets = command_octets command } ∷ [])) → BeginsEarlier latest lines
        → OneRestartTo last judging (logged_at at (record { from_cpu = true; octets = command_octets command }) ∷ lines)
    sent_between command within judging b rules polls_on stamps again earlier =
        let octets = command_octets command in
        let r = rules b.above b.due in
        passes true octets stamps judging b
        (frame_kept limits judging at (record { from_cpu = true; octets = octets }) b.above b.content b.checker_is b.content_is refl r.0 (sent_none b.content.facts b.content.number (command_in octets)))
        refl r.1 (inr (record { awaited = r.2; named = r.3; absent = sent_absent b.content g.kept command within })) (polls_on b.above judging.polls b.polls) again earlier

    -- what is heard: its stamp is set back, or it has none
    abbrev stamped_by : Option SentFrame → Beside
    stamped_by found = with_stamps (stamps_heard g.stamps (option_and_then (λ (frame : SentFrame). answer_in frame.octets) found))

    heard_between : (judging : Judging) (found : Option SentFrame) → Between latest g judging
        → (option_and_then (λ (frame : SentFrame). block_in frame.octets) found ≡ None → m.machine.round ≡ g.machine.round)
        → GoesOf (stamped_by found) (frame_heard found) → LosesBelow → JudgesBelow (below_frames (stamped_by found) (frame_heard found))
        → BeginsEarlier latest (map (logged_at at) (frame_heard found) ++ lines) → OneRestartTo last judging (map (logged_at at) (frame_heard found) ++ lines)
    heard_between judging None b round_is goes_by lost_below between_on earlier = between_on judging (moved_on latest g (with_stamps g.stamps) judging refl refl (round_is refl) b) earlier
    heard_between judging (Some sent_frame) b round_is goes_by lost_below between_on earlier = by (is_some (any_stamp_in false octets)) refl
      where
        octets : List ℕ
        octets = sent_frame.octets

        frame : CpuFrame
        frame = record { from_cpu = false; octets = octets }

        said : Observation
        said = observation_in false octets

        stamped : StampState
        stamped = stamps_heard g.stamps (answer_in octets)

        below : Judging
        below = judging_with judging at false octets

        goal : Type 0
        goal = OneRestartTo last judging (logged_at at frame ∷ lines)

        over : passes_over judging.checker false said ≡ false
        over = ap (λ c. passes_over c false said) b.checker_is ∙ takes_all limits b.above false said

        -- below an outcome with which the place is lost
        lost_at : (outcome : FrameOutcome) → outcome_in judging at false octets ≡ outcome → (outcome ≡ Restarted) ⊎ (outcome ≡ Excused Load)
            → ((stamp : ℕ) → any_stamp_in false octets ≡ Some stamp → IsOf settings range first start m.from stamp) → goal
        lost_at outcome is which of =
            let below_is : below ≡ place_lost judging (loads_below judging false octets) (any_stamp_in false octets) =
            ap (λ o. judging_below_outcome o judging false octets) is ∙ lost_by judging false octets outcome which in
            let rest = lost_below below (record {
              checker_is = ap (λ (j : Judging). j.checker) below_is ∙ ap (λ (c : Checker). checker_below_breach c.limits) b.checker_is;
              asked_is = ap (λ (j : Judging). j.asked) below_is;
              latest_of = λ stamp at. of_later settings range first start m.from (life_of m.machine.history) stamp goes_by.knows.known.now (of stamp (sym (ap (λ (j : Judging). j.latest) below_is) ∙ at));
            }) in
            (subst (λ o. HaveOneRestart (o ∷ outcomes_of below lines)) (sym is) (one_back outcome (outcomes_of below lines) which rest.0), rest.1)

        of : (stamp : ℕ) → any_stamp_in false octets ≡ Some stamp → IsOf settings range first start m.from stamp
        of stamp is = goes_by.knows.stamps.any refl stamp (any_heard g.stamps (answer_in octets) stamp is)

        back_at : is_set_back judging false octets ≡ true → goal
        back_at back = lost_at (outcome_set_back judging) (set_back_is judging at false octets over back) (either (nat_lt 0 (loads_left judging))) of

        set_back : is_some (option_and_then stamp_of (answer_in octets)) ≡ true → is_earlier latest false octets ≡ true → goal
        set_back stamped early =
            let same = same_stamp (answer_in octets) stamped in
            back_at (back_of judging (answer_in octets)
            (ap (λ l. is_some_and (option_and_then stamp_of (answer_in octets)) (λ s. is_some_and l (is_before s))) b.latest_is
            ∙ sym (ap (λ stamp. is_some_and stamp (λ s. is_some_and latest (is_before s))) same) ∙ early))

        -- a block that is sent again
        again : IsBlockAgain (answer_in octets) → is_earlier latest false octets ≡ true → option_and_then stamp_of (answer_in octets) ≡ None → BeginsEarlier latest lines → goal
        again block early no_stamp earlier_rest = by_back (is_set_back judging false octets) refl
          where
            heard_said : Observation
            heard_said = seen.Block block.number block.status block.count block.absent

            keeps : KeepsRules limits g.facts heard_said
            keeps = rules_kept_within limits g.facts heard_said (sym (ap (first_broken_within limits g.facts) block.said) ∙ (goes_by.went.rules limits suit).0)

            awaited : b.above.awaited ≡ g.facts.awaited
            awaited = elim b.same as (λ _. b.above.awaited ≡ g.facts.awaited) [
              | inl nothing ↦
                  absurd (let unasked : true ≡ false = sym (ap (λ a. not (is_some_and a (λ awaited. awaited == BLOCK_ANSWER))) nothing) ∙ keeps tried.Pair in cc unasked)
              | inr is ↦ is.awaited
            ]

            found : IsAgain limits b.above g.facts judging.polls heard_said
            found = again_found limits b.above g.facts judging.polls block.number block.status block.count block.absent block.again awaited b.polls keeps

            may : may_be_anew judging false octets ≡ true
            may =
                let before : is_some_and latest (is_before block.stamp) ≡ true =
                sym (ap (λ stamp. is_some_and stamp (λ s. is_some_and latest (is_before s))) block.any) ∙ early in
                let enough : nat_le 2 judging.polls ≡ true = (let twice = found.twice in grind (arith, nat_tests, twice)) in
                block.may judging ∙ rw (block.again, enough, b.latest_is) before

            found_here : found_by judging.checker false said ≡ breach_of limits b.above said
            found_here = ap (λ c. found_by c false said) b.checker_is ∙ found-taking limits b.above false said

            rest_alone : (breach : Breach) → found_by judging.checker false said ≡ Some breach → breach.rule ≡ tried.Rest
            rest_alone breach is = breach_is_rest limits b.above said heard_said breach (ap (first_broken_within limits b.above) block.said) found.found (sym found_here ∙ is)

            by_back : (back : Bool) → is_set_back judging false octets ≡ back → goal
            by_back true back = back_at back
            by_back false back =
                elim (anew_is judging at octets block.number block.status block.count block.absent block.said over back may rest_alone) as (λ _. goal) [
                  | inl restarted ↦ lost_at Restarted restarted (inl refl) of
                  | inr none ↦
                      passes false octets stamped judging b
                      (frame_kept limits judging at frame b.above b.content b.checker_is b.content_is back (none_of_breach limits b.above said (sym found_here ∙ none.0))
                      (sym (ap (λ c. found_in_frame c false octets) (ap (λ (c : Checker). checking_above judging c.skips) b.checker_is ∙ b.content_is)) ∙ none.1))
                      no_stamp
                      (λ due is. goes_by.knows.follows.number due
                      (ap (λ said. number_due (facts_with g.facts said)) block.said ∙ sym (ap (option_map (λ polled. (polled + 1) % 256)) found.polled.polled)
                      ∙ sym (ap (λ said. number_due (facts_with b.above said)) block.said) ∙ is))
                      (inl (ap (λ said. (facts_with g.facts said).awaited) block.said))
                      (subst (λ said. KnowsPolls (facts_with b.above said) (facts_with g.facts said) (polls_below judging.polls said)) (sym block.said)
                      (inr (record { polled = found.polled.polled; once = found.polled.once; twice = found.polled.twice }))) between_on earlier_rest
                ]

        none_heard : option_and_then any_stamp_of (answer_in octets) ≡ None → IsPlain limits b.above b.content (answer_in octets) → BeginsEarlier latest lines → goal
        none_heard none p earlier_rest = elim p.found as (λ _. goal) [
          | inl quiet ↦
              passes false octets stamped judging b
              (frame_kept limits judging at frame b.above b.content b.checker_is b.content_is (not_back judging (answer_in octets) none) p.rules quiet) p.no_stamp
              (λ due is. b.due due (sym (ap (λ said. number_due (facts_with b.above said)) p.said) ∙ is) ∙ ap (number_of first) (sym (round_is (block_none (answer_in octets) p.no_block))))
              (inl (ap (λ said. (facts_with g.facts said).awaited) p.said))
              (subst (λ said. KnowsPolls (facts_with b.above said) (facts_with g.facts said) (polls_below judging.polls said)) (sym p.said)
              (polls_kept b.above g.facts judging.polls None None false false b.polls)) between_on earlier_rest
          | inr (breach, dog, is) ↦
              lost_at Restarted
              (watchdog_is judging at octets breach over (not_back judging (answer_in octets) none)
              (ap (λ c. found_by c false said) b.checker_is ∙ found-taking limits b.above false said ∙ rw p.rules refl)
              (ap (λ c. found_in_frame c false octets) (ap (λ (c : Checker). checking_above judging c.skips) b.checker_is ∙ b.content_is) ∙ dog) is)
              (inl refl) (λ stamp some. absurd (cc (sym none ∙ some)))
        ]
          where
            block_none : (answer : Option Answer) → option_and_then answered_option answer ≡ None → answered_block answer ≡ None
            block_none None is = refl
            block_none (Some answer) is = is

        stamp_absent : (answer : Option Answer) → is_some (option_and_then any_stamp_of answer) ≡ false → is_some (option_and_then stamp_of answer) ≡ false
        stamp_absent answer is = grind arith

        with_stamp : is_some (any_stamp_in false octets) ≡ true → (first_of : Bool) → is_some (option_and_then stamp_of (answer_in octets)) ≡ first_of → goal
        with_stamp is true stamped = set_back stamped (earlier.0 is)
        with_stamp is false stamped = again (block_again (answer_in octets) is stamped) (earlier.0 is) (is_none (option_and_then stamp_of (answer_in octets)) stamped) (earlier.1 stamped)

        by : (stamped : Bool) → is_some (any_stamp_in false octets) ≡ stamped → goal
        by true is = with_stamp is (is_some (option_and_then stamp_of (answer_in octets))) refl
        by false is =
            none_heard (is_none (option_and_then any_stamp_of (answer_in octets)) is)
            (plain_heard limits b.above g.facts b.content g.kept b.same (answer_in octets) is (goes_by.went.rules limits suit).0 goes_by.went.content.keep.done.0 goes_by.went.content.keep.accepted.0) (earlier.1 (stamp_absent (answer_in octets) is))

  -- the round goes on with a block alone
  round_heard : (machine : Machine) (index : ℕ) (found : Option SentFrame) → option_and_then (λ (frame : SentFrame). block_in frame.octets) found ≡ None
      → (after_delivery_to_cpu first machine index found).round ≡ machine.round
  round_heard machine index None none = refl
  round_heard machine index (Some frame) none = ap (λ block. (after_delivered_block first (record machine { last_to_cpu = index }) block).round) none

  round_received : (machine : Machine) (index : ℕ) (found : Option SentFrame) → (after_delivery_to_module settings machine index found).round ≡ machine.round
  round_received machine index None = refl
  round_received machine index (Some frame) = refl

  -- all events of a log above its first stamp
  pub between : (latest : Option ℕ) (steps : List LogStep) (last : Machine) → AreLogged steps → (g : Beside) (judging : Judging) → KnowsOf g → Between latest g judging → RestOf g last (events_of steps)
      → BeginsEarlier latest (log_from settings first g.machine steps) → OneRestartTo last judging (log_from settings first g.machine steps)
  between latest [] last logged g judging k b r earlier =
      (record { none_accused = tt; few = omega arith }, ends_judging first limits last b.above b.content judging b.checker_is b.content_is (λ n is. b.due n is ∙ ap (λ (m : Machine). number_of first m.round) (sym r.leads)))
  between latest (Missing event ∷ steps) last logged g judging k b r earlier = absurd logged
  between latest (Marked ∷ steps) last logged g judging k b r earlier = absurd logged
  between latest (Logged at event ∷ steps) last logged g judging k b r earlier = by (between latest steps last logged) event r earlier
    where
      BetweenAll : Type 0
      BetweenAll = (g : Beside) (judging : Judging) → KnowsOf g → Between latest g judging → RestOf g last (events_of steps)
          → BeginsEarlier latest (log_from settings first g.machine steps) → OneRestartTo last judging (log_from settings first g.machine steps)

      OneRestart : Event → Type 0
      OneRestart event = BeginsEarlier latest (log_from settings first g.machine (Logged at event ∷ steps)) → OneRestartTo last judging (log_from settings first g.machine (Logged at event ∷ steps))

      lines : Event → List LogLine
      lines event = log_from settings first (after settings first g.machine event) steps

      went : (event : Event) → RestOf g last (event ∷ events_of steps) → GoesOf (later settings range first limits suit start g event) (frames_at first g.machine event)
      went event r = goes settings range first limits suit start g last event (events_of steps) k r

      on : BetweenAll → (event : Event) → RestOf g last (event ∷ events_of steps) → (judging : Judging) → Between latest (below_event g event) judging
          → BeginsEarlier latest (lines event) → OneRestartTo last judging (lines event)
      on again event r judging b earlier = again (below_event g event) judging (went event r).knows b (on_rest g last event (events_of steps) r) earlier

      off : (event : Event) → RestOf g last (event ∷ events_of steps) → (judging : Judging) → IsLostAt (life_of (after settings first g.machine event).history) judging → AllQuietTo last judging (lines event)
      off event r judging l = lost steps last logged (below_event g event) judging (went event r).knows l (on_rest g last event (events_of steps) r)

      by : BetweenAll → (event : Event) → RestOf g last (event ∷ events_of steps) → OneRestart event
      by again events.Poll r earlier =
          let number = number_of first g.machine.round in
          let fits : number < 256 = omega (arith, number_of-fits first g.machine.round) in
          let said = said_of (commands.Poll number) fits in
          sent_between last latest g (later settings range first limits suit start g events.Poll) at (lines events.Poll) (commands.Poll number) fits judging b
          (λ above due. (
            ap (first_broken_within limits above) said ∙ no_rule_broken limits above (seen.Poll number) (poll_keeps above number due limits),
            (λ n is. sym (same_Some _ _ (sym (ap (λ said. number_due (facts_with above said)) said) ∙ is))),
            ap (λ said. (facts_with above said).awaited) said ∙ sym (ap (λ said. (facts_with g.facts said).awaited) said),
            ap (λ said. (facts_with above said).absent_named) said ∙ sym (ap (λ said. (facts_with g.facts said).absent_named) said),
          ))
          (λ above polls know. subst (λ said. KnowsPolls (facts_with above said) (facts_with g.facts said) (polls_below polls said)) (sym said)
          (polls_polled above g.facts polls number (λ n is. k.follows.number n is) know)) (stamps_polled g.stamps number) (on again events.Poll r) (earlier.1 refl)
      by again (events.Send command) r earlier =
          let said = said_of command r.within.0 ∙ other_said command r.leads.0 in
          sent_between last latest g (later settings range first limits suit start g (events.Send command)) at (lines (events.Send command)) command r.within.0 judging b
          (λ above due. (
            ap (first_broken_within limits above) said,
            (λ n is. due n (sym (ap (λ said. number_due (facts_with above said)) said) ∙ is)),
            ap (λ said. (facts_with above said).awaited) said ∙ sym (ap (λ said. (facts_with g.facts said).awaited) said),
            ap (λ said. (facts_with above said).absent_named) said ∙ sym (ap (λ said. (facts_with g.facts said).absent_named) said),
          ))
          (λ above polls know. subst (λ said. KnowsPolls (facts_with above said) (facts_with g.facts said) (polls_below polls said)) (sym said)
          (polls_kept above g.facts polls (Some (answer_type_to command)) (Some (answer_type_to command)) (names_absent command) (names_absent command) know)) g.stamps (on again (events.Send command) r) (earlier.1 refl)
      by again (events.ToCpu index) r earlier =
          let event = events.ToCpu index in
          heard_between last latest g (later settings range first limits suit start g event) at (lines event) judging (item_numbered g.machine.to_cpu index) b (round_heard g.machine index (item_numbered g.machine.to_cpu index)) (went event r) (off event r) (on again event r) earlier
      by again (events.ToModule index) r earlier =
          on again (events.ToModule index) r judging (moved_on latest g (below_event g (events.ToModule index)) judging refl refl (round_received g.machine index (item_numbered g.machine.to_module index)) b) earlier
      by again (events.Scan raw) r earlier = on again (events.Scan raw) r judging (moved_on latest g (below_event g (events.Scan raw)) judging refl refl refl b) earlier
      by again events.LineSync r earlier = on again events.LineSync r judging (moved_on latest g (below_event g events.LineSync) judging refl refl refl b) earlier
      by again (events.Raise mask) r earlier = on again (events.Raise mask) r judging (moved_on latest g (below_event g (events.Raise mask)) judging refl refl refl b) earlier
      by again events.Restart r earlier = absurd r.none.0
