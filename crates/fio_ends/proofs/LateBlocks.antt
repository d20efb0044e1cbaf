-- The CPU's end hears a block answer, in time or late: the judge that leaves late answers out finds no breach.
use Rattle.fio_ends.proofs.Names.{◌≡◌, ◌≢◌, ◌∙◌, ◌+◌, ◌%◌, ◌<◌, ◌≤◌, ◌||◌, ◌==◌, inl, inr, ℕ, Bool, true, false, List, length, Option, Some, None, refl, ap, sym, subst, arith, if◌then◌else◌, nat_tests, slice_get, list_any, same_Some, AreInRange, BLOCK_ANSWER, Block, CarriesBlockOf, Checker, Facts, HasBlock, IsKept, Machine, MadeBlock, Nothing, Observation, Rule, RuleLimits, SentFrame, Settings, Skips, SuitModule, ToCommand, ToPoll, after_delivered_block, after_delivery_to_cpu, after_taken, answer_in, block_in, blocks_of, breaks_within, carries_own, checker_below_breach, checker_below_lines, facts_with, in_order, is_absent, is_some_and, life_of, next_round, no_facts, number_of, number_of-fits, number_of-next, observation_in, same_round, skips_frame, awaits, late_below_answer, late_with, lateness_below, lateness_of_block, lateness_of_polled, is_rule_of_late, LateAnswers, Lateness, InTime, Late, LateButTaken, Cpu}
use Rattle.fio_check.specs.declared.observation.Observation.TheVariants as seen
use Rattle.fio_ends.proofs.BlocksOfLives.{blocks_leave}
use Rattle.fio_ends.proofs.Hears.{block_said}
use Rattle.fio_ends.proofs.BlockRules.{block_keeps, counted}
use Rattle.fio_ends.proofs.LateRules.{Holds, Takes, may_be_late}
use Rattle.fio_ends.proofs.LateKnown.{AgreesLate, HasLatest, KnownLate, KnownOf, KnowsFacts, found_late, with_frame}
use Rattle.fio_ends.proofs.LateTests.{awaits_is, awaits_same, facts_agree, is_latest, late_before, none_above, or_false, timely_block, unawaited}

module _ (settings : Settings) (range : AreInRange settings) (limits : RuleLimits) (suit : SuitModule settings limits) (first : ℕ) (machine : Machine)
    (kept : IsKept settings first machine) (checker : Checker) (late : LateAnswers) (k : Holds (KnownOf settings limits first machine) checker late) where
  abbrev blocks : List MadeBlock
  blocks = blocks_of settings (life_of machine.history)

  abbrev At : ℕ → Checker → Option ℕ → Option ℕ → Bool → Type 0
  At now = KnownLate limits first machine.to_module machine.polls now blocks

  -- the frame at this place is heard, and is a block answer
  module _ (place : ℕ) (frame : SentFrame) (at : slice_get machine.to_cpu place ≡ Some frame) (le : machine.last_to_cpu ≤ place + 1)
      (b : Block) (spells : block_in frame.octets ≡ Some b) where
    has : HasBlock machine.to_cpu place b frame.round
    has = record { frame = frame; at_place = at; spells = spells; of_round = refl }

    carries : CarriesBlockOf first blocks b frame.round
    carries = carries_own settings range first machine kept.always kept.one_life place b frame.round has

    near : machine.round ≤ frame.round + 1
    near = kept.always.answers.ahead place b frame.round le has

    below_next : frame.round < next_round machine.polls
    below_next = kept.always.answers.answered place b frame.round has

    high : next_round machine.polls ≤ machine.round + 1
    high = kept.always.at_most

    abbrev entries : ℕ
    entries = length b.entries

    abbrev absent : Bool
    absent = list_any (λ entry. is_absent entry.input) b.entries

    abbrev said : Observation
    said = seen.Block b.number b.status entries absent

    -- whether the latest poll is answered below it
    abbrev answered_now : Bool
    answered_now = late.answered || is_some_and late.polled (λ polled. polled == b.number)

    below : (Q : Checker → Option ℕ → Option ℕ → Bool → Type 0) (c : Checker) (lateness : Lateness) → lateness_of_block late b.number ≡ lateness
        → Holds Q c (late_below_answer (record late { answered = answered_now }) lateness late.first) → Holds Q c (late_with late said)
    below Q c lateness is q =
        subst (λ (l : Lateness). Holds Q c (late_below_answer (record late { answered = answered_now }) l late.first)) (sym is) q

    lateness_by : (polled : Option ℕ) (lateness : Lateness) → late.polled ≡ polled → lateness_of_polled late polled b.number ≡ lateness
        → lateness_of_block late b.number ≡ lateness
    lateness_by polled lateness is of = ap (λ (p : Option ℕ). lateness_of_polled late p b.number) is ∙ of

    answered_by : (polled : Option ℕ) → late.polled ≡ polled → answered_now ≡ (late.answered || is_some_and polled (λ p. p == b.number))
    answered_by polled is = ap (λ (p : Option ℕ). late.answered || is_some_and p (λ p. p == b.number)) is

    -- ---- no poll is above

    first_late : late.polled ≡ None → (now : ℕ) → Takes Cpu (At now) checker late false said
    first_late none now =
        let is : lateness_of_block late b.number ≡ Late = lateness_by None Late none refl in
        let same : answered_now ≡ late.answered = answered_by None none ∙ or_false late.answered in
        let nothing = none_above checker.skips checker.facts late.awaited late.polled late.answered none k.facts in
        let held : At now checker late.awaited late.polled late.answered = record {
          limited = k.limited;
          facts = k.facts;
          latest = λ n some. absurd (cc (sym none ∙ some));
          waits = k.waits;
          more = λ m some. absurd (cc (sym nothing ∙ some));
        } in
        inr (inl (is, below (At now) checker Late is (subst (λ (a : Bool). At now checker late.awaited late.polled a) (sym same) held)))

    -- ---- an earlier block, or the latest one again

    module _ (polled : ℕ) (polls : late.polled ≡ Some polled) where
      abbrev latest : HasLatest first machine.to_module machine.polls machine.round polled late.answered
      latest = k.latest polled polls

      again_late : (answered : Bool) → late.answered ≡ answered → answered_now ≡ answered → lateness_below late polled b.number ≡ Late
          → Takes Cpu (At machine.round) checker late false said
      again_late answered was now of =
          let is : lateness_of_block late b.number ≡ Late = lateness_by (Some polled) Late polls of in
          inr (inl (
            is,
            below (At machine.round) checker Late is
                (subst (λ (a : Bool). At machine.round checker late.awaited late.polled a) (was ∙ sym now) k),
          ))

      -- below a poll that is answered
      not_waits : (waits : Bool) → awaits late BLOCK_ANSWER ≡ waits → late.answered ≡ true → waits ≡ false
      not_waits true is answered = absurd (cc (sym answered ∙ k.waits (awaits_is late.awaited BLOCK_ANSWER is)))
      not_waits false is answered = refl

      low : b.number < 256
      low = let named : b.number ≡ number_of first frame.round = carries.number in let fits = number_of-fits first frame.round in omega arith

      -- the CPU's round, by whether the latest poll is answered
      round_by : (answered : Bool) → late.answered ≡ answered → machine.round ≡ (if answered then latest.round + 1 else latest.round)
      round_by answered was = latest.reached ∙ ap (λ (a : Bool). if a then latest.round + 1 else latest.round) was

      heard_other : b.number ≢ number_of first machine.round → (answered : Bool) → late.answered ≡ answered → Takes Cpu (At machine.round) checker late false said
      heard_other apart false was =
          let named : b.number ≡ number_of first frame.round = carries.number in
          let reached : machine.round ≡ latest.round = round_by false was in
          let received : next_round machine.polls ≤ latest.round + 1 = latest.received in
          let not_now : frame.round ≢ machine.round = λ same. apart (named ∙ ap (number_of first) same) in
          let earlier : latest.round ≡ frame.round + 1 = omega (arith, near, below_next) in
          let of_latest : polled ≡ number_of first latest.round = latest.named in
          let next : polled ≡ (b.number + 1) % 256 =
          of_latest ∙ ap (number_of first) earlier ∙ number_of-next first frame.round ∙ ap (λ n. (n + 1) % 256) (sym named) in
          let other : polled ≢ b.number = λ same. apart (sym same ∙ of_latest ∙ ap (number_of first) (sym reached)) in
          let unlike : (polled == b.number) ≡ false = grind (arith, nat_tests) in
          let now : answered_now ≡ false = answered_by (Some polled) polls ∙ ap (λ (a : Bool). a || (polled == b.number)) was ∙ unlike in
          again_late false was now (late_before late polled b.number next)
      heard_other apart true was =
          let named : b.number ≡ number_of first frame.round = carries.number in
          let reached : machine.round ≡ latest.round + 1 = round_by true was in
          let received : next_round machine.polls ≤ latest.round + 1 = latest.received in
          let here : latest.round ≡ frame.round = omega (arith, near, below_next) in
          let same : polled ≡ b.number = latest.named ∙ ap (number_of first) here ∙ sym named in
          let now : answered_now ≡ true = answered_by (Some polled) polls ∙ ap (λ (a : Bool). a || (polled == b.number)) was in
          again_late true was now
          (unawaited late polled b.number same low (not_waits (awaits late BLOCK_ANSWER) refl was) ∙ ap (λ (a : Bool). if a then Late else LateButTaken) was)

      -- ---- the block that the CPU's end takes

      next_latest : late.answered ≡ false → (n : ℕ) → late.polled ≡ Some n
          → HasLatest first machine.to_module machine.polls (machine.round + 1) n true
      next_latest was n is =
          let l = k.latest n is in
          record {
            round = l.round;
            named = l.named;
            sent = l.sent;
            received = l.received;
            reached = ap (λ r. r + 1) (l.reached ∙ ap (λ (a : Bool). if a then l.round + 1 else l.round) was);
          }

      module _ (alike : b.number ≡ number_of first machine.round) where
        same : frame.round ≡ machine.round
        same = same_round first machine (in_order settings first machine kept.always) place b frame.round le has alike

        unanswered : (answered : Bool) → late.answered ≡ answered → answered ≡ false
        unanswered false was = refl
        unanswered true was =
            let reached : machine.round ≡ latest.round + 1 = round_by true was in
            let received : next_round machine.polls ≤ latest.round + 1 = latest.received in
            absurd (omega (arith, same, below_next))

        was : late.answered ≡ false
        was = unanswered late.answered refl

        numbered : polled ≡ b.number
        numbered = latest.named ∙ ap (number_of first) (sym (round_by false was)) ∙ sym alike

        now_answered : answered_now ≡ true
        now_answered =
            answered_by (Some polled) polls ∙ ap (λ (a : Bool). a || (polled == b.number)) was ∙ is_latest late polled b.number numbered low

        here : CarriesBlockOf first blocks b machine.round
        here = subst (CarriesBlockOf first blocks b) same carries

        -- below one with C it has entries
        some_entries : checker.facts.more ≡ Some true → 1 ≤ length b.entries
        some_entries is =
            let t = k.more true is in
            let leaves = blocks_leave settings range.some_per_block (life_of machine.history) in
            let some = leaves.next t.earlier t.block here.block t.at_place (ap (slice_get blocks) (sym t.next) ∙ here.is_made) t.same in
            omega (arith, counted settings (life_of machine.history) first machine.round b here, some)

        -- each rule but those of late answers is kept
        most_kept : late.awaited ≡ Some BLOCK_ANSWER → SuitModule settings checker.limits → AgreesLate checker.facts late.awaited late.polled late.answered
            → (rule : Rule) → is_rule_of_late Cpu rule ≡ false → breaks_within checker.limits checker.facts said rule ≡ false
        most_kept asked fit agrees rule other =
            block_keeps settings (life_of machine.history) first machine.round b here checker.limits fit checker.facts polled
            (agrees.awaits ∙ asked) (agrees.polls ∙ polls) (sym numbered) some_entries rule (λ is. cc (sym other ∙ ap (is_rule_of_late Cpu) is))

        block_lost : (awaited : Option ℕ) → (awaited ≡ Some BLOCK_ANSWER → ⊥) → At (machine.round + 1) (checker_below_breach checker.limits) awaited late.polled true
        block_lost awaited other = record {
          limited = k.limited;
          facts = refl;
          latest = next_latest was;
          waits = λ is. absurd (other is);
          more = λ m is. absurd (cc is);
        }

        block_passed : (skips : Skips) → skips_frame skips false ≡ true → KnowsFacts skips checker.facts late.awaited late.polled late.answered
            → KnowsFacts skips checker.facts None late.polled true × (checker.facts ≡ no_facts)
        block_passed Nothing over facts = absurd (cc over)
        block_passed ToCommand over facts = absurd (cc (sym facts.1.0 ∙ polls))
        block_passed ToPoll over facts = (facts, facts)

        block_taken : AgreesLate checker.facts late.awaited late.polled late.answered
            → At (machine.round + 1) (record checker { facts = facts_with checker.facts said; skips = Nothing }) None late.polled true
        block_taken agrees = record {
          limited = k.limited;
          facts = record { awaits = refl; polls = agrees.polls; answers = refl; none = λ none. absurd (cc (sym none ∙ polls)) };
          latest = next_latest was;
          waits = λ is. absurd (cc is);
          more = λ m is. record {
            earlier = machine.round;
            block = here.block;
            next = refl;
            at_place = here.is_made;
            same = sym here.carried.more ∙ same_Some _ _ is;
          };
        }

        -- by whether its poll still waits for it
        heard_taken : (waits : Bool) → awaits late BLOCK_ANSWER ≡ waits → Takes Cpu (At (machine.round + 1)) checker late false said
        heard_taken true waits =
            let is : lateness_of_block late b.number ≡ InTime = lateness_by (Some polled) InTime polls (timely_block late polled b.number numbered low waits) in
            let asked : late.awaited ≡ Some BLOCK_ANSWER = awaits_is late.awaited BLOCK_ANSWER waits in
            let under : (c : Checker) → At (machine.round + 1) c None late.polled true → Holds (At (machine.round + 1)) c (late_with late said) =
            λ c q. below (At (machine.round + 1)) c InTime is (subst (λ (a : Bool). At (machine.round + 1) c None late.polled a) (sym now_answered) q) in
            inl (record {
              timely = is;
              found = found_late Cpu checker false said
                  (λ over. may_be_late Cpu checker.limits checker.facts said
                  (most_kept asked (subst (SuitModule settings) (sym k.limited) suit)
                  (facts_agree checker.skips checker.facts late.awaited late.polled late.answered over k.facts)));
              lost = under (checker_below_breach checker.limits) (block_lost None (λ is. cc is));
              kept = with_frame (λ c. Holds (At (machine.round + 1)) c (late_with late said)) checker false said
                  (λ over.
                  let passed = block_passed checker.skips over k.facts in
                  under checker (record {
                    limited = k.limited;
                    facts = passed.0;
                    latest = next_latest was;
                    waits = λ is. absurd (cc is);
                    more = λ m some. absurd (cc (sym (ap (λ (f : Facts). f.more) passed.1) ∙ some));
                  }))
                  (under (checker_below_breach checker.limits) (block_lost None (λ is. cc is)))
                  (λ over. under (record checker { facts = facts_with checker.facts said; skips = Nothing })
                  (block_taken (facts_agree checker.skips checker.facts late.awaited late.polled late.answered over k.facts)));
              anew = λ is. absurd (cc is);
            })
        heard_taken false waits =
            let is : lateness_of_block late b.number ≡ LateButTaken =
            lateness_by (Some polled) LateButTaken polls
            (unawaited late polled b.number numbered low waits ∙ ap (λ (a : Bool). if a then Late else LateButTaken) was) in
            let other : late.awaited ≡ Some BLOCK_ANSWER → ⊥ = λ asked. cc (sym waits ∙ awaits_same late.awaited BLOCK_ANSWER asked) in
            inr (inr (
              is,
              below (At (machine.round + 1)) (checker_below_lines checker checker.skips) LateButTaken is
                  (subst (λ (a : Bool). At (machine.round + 1) (checker_below_lines checker checker.skips) late.awaited late.polled a) (sym now_answered)
                  (by_skips checker.skips k.facts other)),
            ))
          where
            by_skips : (skips : Skips) → KnowsFacts skips checker.facts late.awaited late.polled late.answered → (late.awaited ≡ Some BLOCK_ANSWER → ⊥)
                → At (machine.round + 1) (checker_below_lines checker skips) late.awaited late.polled true
            by_skips ToCommand facts other = absurd (cc (sym facts.1.0 ∙ polls))
            by_skips Nothing facts other = block_lost late.awaited other
            by_skips ToPoll facts other = block_lost late.awaited other

    -- ---- any block answer

    by_polled : (polled : Option ℕ) → late.polled ≡ polled → (same : Bool) → (b.number == number_of first machine.round) ≡ same
        → Takes Cpu (KnownOf settings limits first (if same then after_taken machine place b else record machine { last_to_cpu = place + 1 })) checker late false said
    by_polled None is true same = first_late is (machine.round + 1)
    by_polled None is false same = first_late is machine.round
    by_polled (Some polled) is true same =
        let alike : b.number ≡ number_of first machine.round = grind (arith, nat_tests) in
        heard_taken polled is alike (awaits late BLOCK_ANSWER) refl
    by_polled (Some polled) is false same =
        let apart : b.number ≢ number_of first machine.round = grind (arith, nat_tests) in
        heard_other polled is apart late.answered refl

    pub heard_block : Takes Cpu (KnownOf settings limits first (after_delivery_to_cpu first machine (place + 1) (Some frame))) checker late false (observation_in false frame.octets)
    heard_block =
        subst (λ found. Takes Cpu (KnownOf settings limits first (after_delivered_block first (record machine { last_to_cpu = place + 1 }) found)) checker late false (observation_in false frame.octets))
        (sym spells)
        (subst (λ o. Takes Cpu (KnownOf settings limits first (after_delivered_block first (record machine { last_to_cpu = place + 1 }) (Some b))) checker late false o)
        (sym (block_said (answer_in frame.octets) b spells))
        (by_polled late.polled refl (b.number == number_of first machine.round) refl))
