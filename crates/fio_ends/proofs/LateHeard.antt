-- The CPU's end hears an answer that is no block answer, in time or late: the judge that leaves late answers out finds no breach.
use Rattle.fio_ends.proofs.Names.{◌≡◌, ◌∙◌, ◌+◌, inl, inr, ℕ, Bool, true, false, List, Option, Some, None, refl, ap, sym, subst, if◌then◌else◌, Checker, Facts, Machine, MadeBlock, Nothing, Rule, RuleLimits, SentFrame, Settings, after_delivered_block, after_delivery_to_cpu, answer_in, block_in, blocks_of, breaks_within, checker_below_breach, facts_with, life_of, observation_in, awaits, late_below_answer, late_with, lateness_of, is_rule_of_late, LateAnswers, Lateness, InTime, Late, Cpu, nat_tests, arith}
use Rattle.fio_check.specs.declared.observation.Observation.TheVariants as seen
use Rattle.fio_check.specs.declared.rules.Rule.TheVariants as tried
use Rattle.fio_ends.proofs.Hears.{is_asked, no_block_said}
use Rattle.fio_ends.proofs.LateRules.{Holds, Takes, may_be_late}
use Rattle.fio_ends.proofs.LateKnown.{KnownLate, KnownOf, found_late, with_frame}
use Rattle.fio_ends.proofs.LateTests.{awaits_is, facts_agree, facts_passed}

-- ---- an answer that is no block answer

-- it keeps each rule but that on refusals
answer_keeps : (limits : RuleLimits) (facts : Facts) (code : ℕ) (accepted : Bool) → facts.awaited ≡ Some code
    → (rule : Rule) → is_rule_of_late Cpu rule ≡ false → breaks_within limits facts (seen.Answer code accepted) rule ≡ false
answer_keeps limits facts code accepted asked tried.Pair other = is_asked facts.awaited code asked
answer_keeps limits facts code accepted asked tried.Refusal other = absurd (cc other)
answer_keeps limits facts code accepted asked rule other = refl

module _ (limits : RuleLimits) (first : ℕ) (frames : List SentFrame) (polls : List ℕ) (now : ℕ) (blocks : List MadeBlock) where
  abbrev Known : Checker → Option ℕ → Option ℕ → Bool → Type 0
  Known = KnownLate limits first frames polls now blocks

  module _ (checker : Checker) (late : LateAnswers) (k : Holds Known checker late) (code : ℕ) (accepted : Bool) where
    -- no answer is awaited below it
    answer_lost : Known (checker_below_breach checker.limits) None late.polled late.answered
    answer_lost = record { limited = k.limited; facts = refl; latest = k.latest; waits = λ is. absurd (cc is); more = λ m is. absurd (cc is) }

    by_awaits : (waits : Bool) → awaits late code ≡ waits → Takes Cpu Known checker late false (seen.Answer code accepted)
    by_awaits true is =
        let said = seen.Answer code accepted in
        let timely : lateness_of late said ≡ InTime = ap (λ (b : Bool). if b then InTime else Late) is in
        let asked : late.awaited ≡ Some code = awaits_is late.awaited code is in
        let below : (c : Checker) → Known c None late.polled late.answered → Holds Known c (late_with late said) =
        λ c q. subst (λ (l : Lateness). Holds Known c (late_below_answer late l false)) (sym timely) q in
        inl (record {
          timely = timely;
          found = found_late Cpu checker false said
              (λ over. may_be_late Cpu checker.limits checker.facts said
              (answer_keeps checker.limits checker.facts code accepted
              ((facts_agree checker.skips checker.facts late.awaited late.polled late.answered over k.facts).awaits ∙ asked)));
          lost = below (checker_below_breach checker.limits) answer_lost;
          kept = with_frame (λ c. Holds Known c (late_with late said)) checker false said
              (λ over. below checker (record {
                limited = k.limited;
                facts = facts_passed checker.skips checker.facts late.awaited None late.polled late.answered over k.facts;
                latest = k.latest;
                waits = λ is. absurd (cc is);
                more = k.more;
              }))
              (below (checker_below_breach checker.limits) answer_lost)
              (λ over.
              let agrees = facts_agree checker.skips checker.facts late.awaited late.polled late.answered over k.facts in
              below (record checker { facts = facts_with checker.facts said; skips = Nothing }) (record {
                limited = k.limited;
                facts = record { awaits = refl; polls = agrees.polls; answers = agrees.answers; none = agrees.none };
                latest = k.latest;
                waits = λ is. absurd (cc is);
                more = k.more;
              }));
          anew = λ is. absurd (cc is);
        })
    by_awaits false is =
        let said = seen.Answer code accepted in
        let is_late : lateness_of late said ≡ Late = ap (λ (b : Bool). if b then InTime else Late) is in
        inr (inl (is_late, subst (λ (l : Lateness). Holds Known checker (late_below_answer late l false)) (sym is_late) k))

    pub takes_answer : Takes Cpu Known checker late false (seen.Answer code accepted)
    takes_answer = by_awaits (awaits late code) refl

-- it is heard
pub heard_answer : (settings : Settings) (limits : RuleLimits) (first : ℕ) (machine : Machine) (checker : Checker) (late : LateAnswers)
    → Holds (KnownOf settings limits first machine) checker late
    → (place : ℕ) (frame : SentFrame) (code : ℕ) (accepted : Bool) → observation_in false frame.octets ≡ seen.Answer code accepted
    → Takes Cpu (KnownOf settings limits first (after_delivery_to_cpu first machine (place + 1) (Some frame))) checker late false (observation_in false frame.octets)
heard_answer settings limits first machine checker late k place frame code accepted is = grind (arith, nat_tests, block_in, no_block_said, answer_in, after_delivered_block, observation_in, blocks_of, life_of)
