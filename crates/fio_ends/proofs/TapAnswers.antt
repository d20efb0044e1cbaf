-- An answer that is no block answer passes a tap, in time or late: the judge that leaves late answers out finds no breach there.
use Rattle.fio_ends.proofs.Names.{◌≡◌, ◌∙◌, ◌+◌, ◌≤◌, inl, inr, ℕ, Bool, true, false, List, ◌∷◌, length, Option, Some, None, refl, ap, sym, subst, arith, if◌then◌else◌, same_Some, slice_get, slice_get_within, Block, Checker, Facts, HasBlock, Machine, MadeBlock, Nothing, Rule, RuleLimits, SentFrame, Settings, answer_in, block_in, blocks_of, breaks_within, checker_below_breach, facts_with, life_of, observation_in, awaits, late_below_answer, late_with, lateness_of, is_rule_of_late, LateAnswers, Lateness, InTime, Late, Bus, HasPassed, Tap, last_passed}
use Rattle.fio_check.specs.declared.observation.Observation.TheVariants as seen
use Rattle.fio_check.specs.declared.rules.Rule.TheVariants as tried
use Rattle.fio_ends.proofs.Hears.{is_asked, no_block_said}
use Rattle.fio_ends.proofs.LateKnown.{found_late, with_frame}
use Rattle.fio_ends.proofs.LateRules.{Holds, Takes, may_be_late}
use Rattle.fio_ends.proofs.LateTests.{awaits_is, facts_agree, facts_passed}
use Rattle.fio_ends.proofs.TapKnown.{HasTaken, IsLatestTapped, KeepsTap, TappedOf, more_pass, none_tapped}

-- it keeps each rule but that on refusals
answer_keeps : (limits : RuleLimits) (facts : Facts) (code : ℕ) (accepted : Bool) → facts.awaited ≡ Some code
    → (rule : Rule) → is_rule_of_late Bus rule ≡ false → breaks_within limits facts (seen.Answer code accepted) rule ≡ false
answer_keeps limits facts code accepted asked tried.Pair other = is_asked facts.awaited code asked
answer_keeps limits facts code accepted asked tried.Refusal other = absurd (cc other)
answer_keeps limits facts code accepted asked rule other = refl

module _ (settings : Settings) (limits : RuleLimits) (first : ℕ) (machine : Machine) (tap : Tap) (keeps : KeepsTap first machine tap)
    (place : ℕ) (frame : SentFrame) (le : last_passed tap.to_cpu ≤ place + 1) (at : slice_get machine.to_cpu place ≡ Some frame) where
  abbrev blocks : List MadeBlock
  blocks = blocks_of settings (life_of machine.history)

  abbrev under : Tap
  under = record tap { to_cpu = (place + 1) ∷ tap.to_cpu }

  taken_still : HasTaken machine.to_cpu tap.to_cpu machine.round → HasTaken machine.to_cpu under.to_cpu machine.round
  taken_still (inl none) = inl none
  taken_still (inr (p, b, r, passed, h, is)) = inr (p, b, r, inr passed, h, is)

  -- what is known of the tap, below any answer
  pub answer_passed : KeepsTap first machine under
  answer_passed =
      let within = slice_get_within machine.to_cpu place frame at in
      let last : machine.last_to_cpu ≤ last_passed tap.to_cpu = keeps.to_cpu in
      record {
        commands_pass = keeps.commands_pass;
        answers_pass = more_pass (length machine.to_cpu) tap.to_cpu (place + 1) le (omega arith) keeps.answers_pass;
        to_module = keeps.to_module;
        to_cpu = omega arith;
        sent = keeps.sent;
        taken = taken_still keeps.taken;
      }

  abbrev Below : Checker → Option ℕ → Option ℕ → Bool → Type 0
  Below = TappedOf settings limits first machine under

  module _ (checker : Checker) (late : LateAnswers) (k : Holds (TappedOf settings limits first machine tap) checker late) (code : ℕ) (accepted : Bool)
      (is_said : observation_in false frame.octets ≡ seen.Answer code accepted) where
    none : block_in frame.octets ≡ None
    none = no_block_said (answer_in frame.octets) code accepted is_said

    latest : (n : ℕ) → late.polled ≡ Some n
        → IsLatestTapped first machine.to_module machine.to_cpu under machine.polls machine.round blocks checker.facts.more n late.answered
    latest n is =
        let l = k.latest n is in
        record {
          round = l.round;
          named = l.named;
          passed = l.passed;
          ahead = l.ahead;
          received = l.received;
          upto = l.upto;
          more = λ m some. (let t = l.more m some in
              record {
                earlier = t.earlier;
                block = t.block;
                at_place = t.at_place;
                same = t.same;
                near = t.near;
                low = t.low;
                now = t.now;
                all = λ p c r passed h. by t.earlier t.all p c r passed h;
              });
        }
      where
        by : (earlier : ℕ) → ((p : ℕ) (c : Block) (r : ℕ) → HasPassed tap.to_cpu (p + 1) → HasBlock machine.to_cpu p c r → r ≤ earlier)
            → (p : ℕ) (c : Block) (r : ℕ) → HasPassed ((place + 1) ∷ tap.to_cpu) (p + 1) → HasBlock machine.to_cpu p c r → r ≤ earlier
        by earlier all p c r (inl here) h =
            let there : p ≡ place = omega (arith, here) in
            let same : h.frame ≡ frame = same_Some _ _ (sym h.at_place ∙ ap (slice_get machine.to_cpu) there ∙ at) in
            absurd (cc (sym (ap (λ (f : SentFrame). block_in f.octets) same ∙ none) ∙ h.spells))
        by earlier all p c r (inr older) h = all p c r older h

    answer_lost : Below (checker_below_breach checker.limits) None late.polled late.answered
    answer_lost = record {
      limited = k.limited;
      facts = refl;
      latest = λ n is. none_tapped first machine.to_module machine.to_cpu under machine.polls machine.round blocks checker.facts.more n late.answered (latest n is) late.answered;
      waits = λ is. absurd (cc is);
    }

    by_awaits : (waits : Bool) → awaits late code ≡ waits → Takes Bus Below checker late false (seen.Answer code accepted)
    by_awaits true is =
        let said = seen.Answer code accepted in
        let timely : lateness_of late said ≡ InTime = ap (λ (b : Bool). if b then InTime else Late) is in
        let asked : late.awaited ≡ Some code = awaits_is late.awaited code is in
        let next : (c : Checker) → Below c None late.polled late.answered → Holds Below c (late_with late said) =
        λ c q. subst (λ (l : Lateness). Holds Below c (late_below_answer late l false)) (sym timely) q in
        inl (record {
          timely = timely;
          found = found_late Bus checker false said
              (λ over. may_be_late Bus checker.limits checker.facts said
              (answer_keeps checker.limits checker.facts code accepted
              ((facts_agree checker.skips checker.facts late.awaited late.polled late.answered over k.facts).awaits ∙ asked)));
          lost = next (checker_below_breach checker.limits) answer_lost;
          kept = with_frame (λ c. Holds Below c (late_with late said)) checker false said
              (λ over. next checker (record {
                limited = k.limited;
                facts = facts_passed checker.skips checker.facts late.awaited None late.polled late.answered over k.facts;
                latest = latest;
                waits = λ is. absurd (cc is);
              }))
              (next (checker_below_breach checker.limits) answer_lost)
              (λ over.
              let agrees = facts_agree checker.skips checker.facts late.awaited late.polled late.answered over k.facts in
              next (record checker { facts = facts_with checker.facts said; skips = Nothing }) (record {
                limited = k.limited;
                facts = record { awaits = refl; polls = agrees.polls; answers = agrees.answers; none = agrees.none };
                latest = latest;
                waits = λ is. absurd (cc is);
              }));
          anew = λ is. absurd (cc is);
        })
    by_awaits false is =
        let said = seen.Answer code accepted in
        let is_late : lateness_of late said ≡ Late = ap (λ (b : Bool). if b then InTime else Late) is in
        let held : Below checker late.awaited late.polled late.answered =
        record { limited = k.limited; facts = k.facts; latest = latest; waits = k.waits } in
        inr (inl (is_late, subst (λ (l : Lateness). Holds Below checker (late_below_answer late l false)) (sym is_late) held))

    pub answer_passes : Takes Bus Below checker late false (observation_in false frame.octets)
    answer_passes = subst (Takes Bus Below checker late false) (sym is_said) (by_awaits (awaits late code) refl)
