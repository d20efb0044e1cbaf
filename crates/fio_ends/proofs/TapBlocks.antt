-- A block answer passes a tap, in time or late: the judge that leaves late answers out finds no breach there.
use Rattle.fio_ends.proofs.Names.{◌≡◌, ◌≢◌, ◌∙◌, ◌+◌, ◌%◌, ◌<◌, ◌≤◌, ◌||◌, ◌==◌, inl, inr, ℕ, Bool, true, false, List, ◌∷◌, length, Option, Some, None, refl, ap, sym, subst, arith, if◌then◌else◌, nat_tests, eqb_tells, slice_get, list_any, same_Some, AreInRange, BLOCK_ANSWER, Block, CarriesBlockOf, Checker, Facts, HasBlock, IsKept, Machine, MadeBlock, Nothing, Observation, Rule, RuleLimits, SentFrame, Settings, Skips, SuitModule, ToCommand, ToPoll, answer_in, block_in, blocks_of, breaks_within, carries_own, checker_below_breach, checker_below_lines, facts_with, is_absent, is_some_and, life_of, next_round, no_facts, number_of, number_of-fits, number_of-next, observation_in, says_more, skips_frame, awaits, late_below_answer, late_with, lateness_below, lateness_of_block, lateness_of_polled, is_rule_of_late, LateAnswers, Lateness, InTime, Late, LateButTaken, Bus, HasPassed, Tap, last_passed}
use Rattle.fio_check.specs.declared.observation.Observation.TheVariants as seen
use Rattle.fio_ends.proofs.BlocksOfLives.{blocks_leave}
use Rattle.fio_ends.proofs.Hears.{block_said}
use Rattle.fio_ends.proofs.BlockRules.{block_keeps, counted, limits_kept}
use Rattle.fio_ends.proofs.LateKnown.{AgreesLate, KnowsFacts, found_late, with_frame}
use Rattle.fio_ends.proofs.LateRules.{Holds, Takes, may_be_late}
use Rattle.fio_ends.proofs.LateTests.{awaits_is, awaits_same, facts_agree, is_latest, late_before, or_false, timely_block, unawaited}
use Rattle.fio_ends.proofs.TapKnown.{IsAboveTap, IsLatestTapped, KeepsTap, TappedOf}

or_true : (answered : Bool) → (answered || true) ≡ true
or_true true = refl
or_true false = refl

module _ (settings : Settings) (range : AreInRange settings) (limits : RuleLimits) (suit : SuitModule settings limits) (first : ℕ) (machine : Machine) (tap : Tap)
    (kept : IsKept settings first machine) (keeps : KeepsTap first machine tap)
    (place : ℕ) (frame : SentFrame) (le : last_passed tap.to_cpu ≤ place + 1) (at : slice_get machine.to_cpu place ≡ Some frame)
    (checker : Checker) (late : LateAnswers) (k : Holds (TappedOf settings limits first machine tap) checker late)
    (b : Block) (spells : block_in frame.octets ≡ Some b) where
  abbrev blocks : List MadeBlock
  blocks = blocks_of settings (life_of machine.history)

  abbrev under : Tap
  under = record tap { to_cpu = (place + 1) ∷ tap.to_cpu }

  abbrev Below : Checker → Option ℕ → Option ℕ → Bool → Type 0
  Below = TappedOf settings limits first machine under

  has : HasBlock machine.to_cpu place b frame.round
  has = record { frame = frame; at_place = at; spells = spells; of_round = refl }

  carries : CarriesBlockOf first blocks b frame.round
  carries = carries_own settings range first machine kept.always kept.one_life place b frame.round has

  near : machine.round ≤ frame.round + 1
  near = let last : machine.last_to_cpu ≤ last_passed tap.to_cpu = keeps.to_cpu in kept.always.answers.ahead place b frame.round (omega arith) has

  below_next : frame.round < next_round machine.polls
  below_next = kept.always.answers.answered place b frame.round has

  -- no block of a round after it has passed
  none_after : (p : ℕ) (c : Block) (r : ℕ) → HasPassed ((place + 1) ∷ tap.to_cpu) (p + 1) → HasBlock machine.to_cpu p c r → r ≤ frame.round
  none_after p c r passed h = kept.always.answers.rise p place c b r frame.round (not_above passed) h has
    where
      not_above : HasPassed ((place + 1) ∷ tap.to_cpu) (p + 1) → p ≤ place
      not_above (inl same) = omega (arith, same)
      not_above (inr older) = let each = keeps.answers_pass.each (p + 1) older in omega arith

  abbrev entries : ℕ
  entries = length b.entries

  abbrev absent : Bool
  absent = list_any (λ entry. is_absent entry.input) b.entries

  abbrev said : Observation
  said = seen.Block b.number b.status entries absent

  -- whether the latest poll is answered below it
  abbrev answered_now : Bool
  answered_now = late.answered || is_some_and late.polled (λ polled. polled == b.number)

  below : (Q : Checker → Option ℕ → Option ℕ → Bool → Type 0) (c : Checker) (lateness : Lateness) → lateness_of_block late b.number ≡ lateness
      → Holds Q c (late_below_answer (record late { answered = answered_now }) lateness late.first) → Holds Q c (late_with late said)
  below Q c lateness is q =
      subst (λ (l : Lateness). Holds Q c (late_below_answer (record late { answered = answered_now }) l late.first)) (sym is) q

  lateness_by : (polled : Option ℕ) (lateness : Lateness) → late.polled ≡ polled → lateness_of_polled late polled b.number ≡ lateness
      → lateness_of_block late b.number ≡ lateness
  lateness_by polled lateness is of = ap (λ (p : Option ℕ). lateness_of_polled late p b.number) is ∙ of

  answered_by : (polled : Option ℕ) → late.polled ≡ polled → answered_now ≡ (late.answered || is_some_and polled (λ p. p == b.number))
  answered_by polled is = ap (λ (p : Option ℕ). late.answered || is_some_and p (λ p. p == b.number)) is

  low : b.number < 256
  low = let named : b.number ≡ number_of first frame.round = carries.number in let fits = number_of-fits first frame.round in omega arith

  -- ---- late ones

  -- no poll is above
  first_late : late.polled ≡ None → Takes Bus Below checker late false said
  first_late none =
      let is : lateness_of_block late b.number ≡ Late = lateness_by None Late none refl in
      let same : answered_now ≡ late.answered = answered_by None none ∙ or_false late.answered in
      let held : Below checker late.awaited late.polled late.answered = record {
        limited = k.limited;
        facts = k.facts;
        latest = λ n some. absurd (cc (sym none ∙ some));
        waits = k.waits;
      } in
      inr (inl (is, below Below checker Late is (subst (λ (a : Bool). Below checker late.awaited late.polled a) (sym same) held)))

  -- the latest poll above, below this frame, if no known block is before it
  latest_then : (above : Option Bool) (n : ℕ) (answered : Bool) → (l : IsLatestTapped first machine.to_module machine.to_cpu tap machine.polls machine.round blocks above n answered)
      → ((m : Bool) (is : above ≡ Some m) → frame.round ≤ (l.more m is).earlier)
      → IsLatestTapped first machine.to_module machine.to_cpu under machine.polls machine.round blocks above n answered
  latest_then above n answered l upto = record {
    round = l.round;
    named = l.named;
    passed = l.passed;
    ahead = l.ahead;
    received = l.received;
    upto = l.upto;
    more = λ m is. (let t = l.more m is in
        record {
          earlier = t.earlier;
          block = t.block;
          at_place = t.at_place;
          same = t.same;
          near = t.near;
          low = t.low;
          now = t.now;
          all = λ p c r passed h. (let one = none_after p c r passed h in let other = upto m is in omega arith);
        });
  }

  module _ (polled : ℕ) (polls : late.polled ≡ Some polled) where
    abbrev latest : IsLatestTapped first machine.to_module machine.to_cpu tap machine.polls machine.round blocks checker.facts.more polled late.answered
    latest = k.latest polled polls

    round_low : frame.round ≤ latest.round
    round_low = let received : next_round machine.polls ≤ latest.round + 1 = latest.received in omega (arith, below_next)

    round_high : latest.round ≤ frame.round + 1
    round_high = let upto : latest.round ≤ machine.round = latest.upto in omega (arith, near)

    -- the latest poll, by its number
    by_number : (above : Option Bool) (answered : Bool)
        → IsLatestTapped first machine.to_module machine.to_cpu under machine.polls machine.round blocks above polled answered
        → (n : ℕ) → late.polled ≡ Some n → IsLatestTapped first machine.to_module machine.to_cpu under machine.polls machine.round blocks above n answered
    by_number above answered l n is =
        subst (λ (x : ℕ). IsLatestTapped first machine.to_module machine.to_cpu under machine.polls machine.round blocks above x answered)
        (same_Some _ _ (sym polls ∙ is)) l

    -- it leaves all as it is
    still : (answered : Bool) → late.answered ≡ answered → answered_now ≡ answered → lateness_below late polled b.number ≡ Late
        → ((m : Bool) (some : checker.facts.more ≡ Some m) → frame.round ≤ (latest.more m some).earlier)
        → Takes Bus Below checker late false said
    still answered was now of upto =
        let is : lateness_of_block late b.number ≡ Late = lateness_by (Some polled) Late polls of in
        let held : Below checker late.awaited late.polled late.answered = record {
          limited = k.limited;
          facts = k.facts;
          latest = by_number checker.facts.more late.answered (latest_then checker.facts.more polled late.answered latest upto);
          waits = k.waits;
        } in
        inr (inl (is, below Below checker Late is (subst (λ (a : Bool). Below checker late.awaited late.polled a) (was ∙ sym now) held)))

    -- one of the round before
    before_late : frame.round + 1 ≡ latest.round → Takes Bus Below checker late false said
    before_late earlier =
        let named : b.number ≡ number_of first frame.round = carries.number in
        let next : polled ≡ (b.number + 1) % 256 =
        latest.named ∙ ap (number_of first) (sym earlier) ∙ number_of-next first frame.round ∙ ap (λ n. (n + 1) % 256) (sym named) in
        let other : polled ≢ b.number = omega (arith, next, low) in
        let unlike : (polled == b.number) ≡ false = grind (arith, nat_tests) in
        let now : answered_now ≡ late.answered =
        answered_by (Some polled) polls ∙ ap (λ (a : Bool). late.answered || a) unlike ∙ or_false late.answered in
        still late.answered refl now (late_before late polled b.number next)
        (λ m some. (let near : latest.round ≤ (latest.more m some).earlier + 1 = (latest.more m some).near in omega (arith, earlier)))

    -- ---- one of the round of the latest poll

    module _ (alike : frame.round ≡ latest.round) where
      numbered : polled ≡ b.number
      numbered = latest.named ∙ ap (number_of first) (sym alike) ∙ sym carries.number

      now_answered : answered_now ≡ true
      now_answered =
          answered_by (Some polled) polls ∙ ap (λ (a : Bool). late.answered || a) (is_latest late polled b.number numbered low) ∙ or_true late.answered

      -- the latest poll is answered below it
      latest_answered : (above : Option Bool) → ((m : Bool) → above ≡ Some m → IsAboveTap blocks machine.to_cpu under.to_cpu latest.round true m)
          → (n : ℕ) → late.polled ≡ Some n → IsLatestTapped first machine.to_module machine.to_cpu under machine.polls machine.round blocks above n true
      latest_answered above more =
          by_number above true (record {
            round = latest.round;
            named = latest.named;
            passed = latest.passed;
            ahead = latest.ahead;
            received = latest.received;
            upto = latest.upto;
            more = more;
          })

      block_lost : (awaited : Option ℕ) → (awaited ≡ Some BLOCK_ANSWER → ⊥) → Below (checker_below_breach checker.limits) awaited late.polled true
      block_lost awaited other = record {
        limited = k.limited;
        facts = refl;
        latest = latest_answered None (λ m is. absurd (cc is));
        waits = λ is. absurd (other is);
      }

      -- below one with C it has entries
      some_entries : (m : Bool) → m ≡ true → IsAboveTap blocks machine.to_cpu tap.to_cpu latest.round late.answered m → 1 ≤ length b.entries
      some_entries m is t =
          elim (eqb_tells t.earlier frame.round) as (λ _. 1 ≤ length b.entries) [
            | inl same ↦
                let block : t.block ≡ carries.block = same_Some _ _ (sym t.at_place ∙ ap (slice_get blocks) same.1 ∙ carries.is_made) in
                let full = (limits_kept settings (life_of machine.history) first frame.round b carries).more (sym (ap (λ (x : MadeBlock). x.more) block) ∙ t.same ∙ is) in
                omega (arith, counted settings (life_of machine.history) first frame.round b carries, full, range.some_per_block)
            | inr other ↦
                let near : latest.round ≤ t.earlier + 1 = t.near in
                let high : t.earlier ≤ latest.round = t.low in
                let next : t.earlier + 1 ≡ frame.round = omega (arith, alike, other.1) in
                let leaves = blocks_leave settings range.some_per_block (life_of machine.history) in
                let some = leaves.next t.earlier t.block carries.block t.at_place (ap (slice_get blocks) next ∙ carries.is_made) (t.same ∙ is) in
                omega (arith, counted settings (life_of machine.history) first frame.round b carries, some)
          ]

      -- each rule but those of late answers is kept
      most_kept : late.awaited ≡ Some BLOCK_ANSWER → SuitModule settings checker.limits → AgreesLate checker.facts late.awaited late.polled late.answered
          → (rule : Rule) → is_rule_of_late Bus rule ≡ false → breaks_within checker.limits checker.facts said rule ≡ false
      most_kept asked fit agrees rule other =
          block_keeps settings (life_of machine.history) first frame.round b carries checker.limits fit checker.facts polled
          (agrees.awaits ∙ asked) (agrees.polls ∙ polls) (sym numbered) (λ is. some_entries true refl (latest.more true is)) rule
          (λ is. cc (sym other ∙ ap (is_rule_of_late Bus) is))

      block_passed : (skips : Skips) → skips_frame skips false ≡ true → KnowsFacts skips checker.facts late.awaited late.polled late.answered
          → KnowsFacts skips checker.facts None late.polled true × (checker.facts ≡ no_facts)
      block_passed Nothing over facts = absurd (cc over)
      block_passed ToCommand over facts = absurd (cc (sym facts.1.0 ∙ polls))
      block_passed ToPoll over facts = (facts, facts)

      block_taken : AgreesLate checker.facts late.awaited late.polled late.answered
          → Below (record checker { facts = facts_with checker.facts said; skips = Nothing }) None late.polled true
      block_taken agrees = record {
        limited = k.limited;
        facts = record { awaits = refl; polls = agrees.polls; answers = refl; none = λ none. absurd (cc (sym none ∙ polls)) };
        latest = latest_answered (Some (says_more b.status)) (λ m is. record {
          earlier = frame.round;
          block = carries.block;
          at_place = carries.is_made;
          same = sym carries.carried.more ∙ same_Some _ _ is;
          near = omega (arith, alike);
          low = omega (arith, alike);
          now = λ is. alike;
          all = none_after;
        });
        waits = λ is. absurd (cc is);
      }

      -- by whether its poll still waits for it, and whether it was answered
      by_waits : (waits answered : Bool) → awaits late BLOCK_ANSWER ≡ waits → late.answered ≡ answered → Takes Bus Below checker late false said
      by_waits true answered waits was =
          let is : lateness_of_block late b.number ≡ InTime = lateness_by (Some polled) InTime polls (timely_block late polled b.number numbered low waits) in
          let asked : late.awaited ≡ Some BLOCK_ANSWER = awaits_is late.awaited BLOCK_ANSWER waits in
          let next : (c : Checker) → Below c None late.polled true → Holds Below c (late_with late said) =
          λ c q. below Below c InTime is (subst (λ (a : Bool). Below c None late.polled a) (sym now_answered) q) in
          inl (record {
            timely = is;
            found = found_late Bus checker false said
                (λ over. may_be_late Bus checker.limits checker.facts said
                (most_kept asked (subst (SuitModule settings) (sym k.limited) suit)
                (facts_agree checker.skips checker.facts late.awaited late.polled late.answered over k.facts)));
            lost = next (checker_below_breach checker.limits) (block_lost None (λ is. cc is));
            kept = with_frame (λ c. Holds Below c (late_with late said)) checker false said
                (λ over.
                let passed = block_passed checker.skips over k.facts in
                next checker (record {
                  limited = k.limited;
                  facts = passed.0;
                  latest = latest_answered checker.facts.more (λ m some. absurd (cc (sym (ap (λ (f : Facts). f.more) passed.1) ∙ some)));
                  waits = λ is. absurd (cc is);
                }))
                (next (checker_below_breach checker.limits) (block_lost None (λ is. cc is)))
                (λ over. next (record checker { facts = facts_with checker.facts said; skips = Nothing })
                (block_taken (facts_agree checker.skips checker.facts late.awaited late.polled late.answered over k.facts)));
            anew = λ is. absurd (cc is);
          })
      by_waits false true waits was =
          still true was now_answered
          (unawaited late polled b.number numbered low waits ∙ ap (λ (a : Bool). if a then Late else LateButTaken) was)
          (λ m some. (let now : (latest.more m some).earlier ≡ latest.round = (latest.more m some).now was in omega (arith, alike)))
      by_waits false false waits was =
          let is : lateness_of_block late b.number ≡ LateButTaken =
          lateness_by (Some polled) LateButTaken polls
          (unawaited late polled b.number numbered low waits ∙ ap (λ (a : Bool). if a then Late else LateButTaken) was) in
          let other : late.awaited ≡ Some BLOCK_ANSWER → ⊥ = λ asked. cc (sym waits ∙ awaits_same late.awaited BLOCK_ANSWER asked) in
          inr (inr (
            is,
            below Below (checker_below_lines checker checker.skips) LateButTaken is
                (subst (λ (a : Bool). Below (checker_below_lines checker checker.skips) late.awaited late.polled a) (sym now_answered)
                (by_skips checker.skips k.facts other)),
          ))
        where
          by_skips : (skips : Skips) → KnowsFacts skips checker.facts late.awaited late.polled late.answered → (late.awaited ≡ Some BLOCK_ANSWER → ⊥)
              → Below (checker_below_lines checker skips) late.awaited late.polled true
          by_skips ToCommand facts other = absurd (cc (sym facts.1.0 ∙ polls))
          by_skips Nothing facts other = block_lost late.awaited other
          by_skips ToPoll facts other = block_lost late.awaited other

    -- by the round of the latest poll
    by_round : Takes Bus Below checker late false said
    by_round =
        elim (eqb_tells frame.round latest.round) as (λ _. Takes Bus Below checker late false said) [
          | inl same ↦ by_waits same.1 (awaits late BLOCK_ANSWER) late.answered refl refl
          | inr other ↦ before_late (omega (arith, other.1, round_low, round_high))
        ]

  by_polled : (polled : Option ℕ) → late.polled ≡ polled → Takes Bus Below checker late false said
  by_polled None is = first_late is
  by_polled (Some polled) is = by_round polled is

  pub block_passes : Takes Bus Below checker late false (observation_in false frame.octets)
  block_passes = subst (Takes Bus Below checker late false) (sym (block_said (answer_in frame.octets) b spells)) (by_polled late.polled refl)
