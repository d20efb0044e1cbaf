-- The CPU hears the answer that is due: its line breaks no rule.
use Rattle.fio_ends.proofs.Names.{◌≡◌, ◌∙◌, ◌+◌, ◌%◌, ◌<◌, ◌≤◌, ◌&&◌, ◌||◌, inl, inr, ℕ, Bool, true, false, List, [], ◌∷◌, length, map, Option, Some, None, refl, ap, sym, subst, arith, if◌then◌else◌, ◌==◌, not, nat_le, nat_lt, option_map, slice_get, AllByRecursion, list_any, option_map_or, nat_tests, same_Some, Answer, Command, answer_in, answered_block, block_in, says_again, says_lost, says_more, Settings, AreInRange, Life, life_of, Transition, entry_of, MadeBlock, blocks_of, facts_with, answer_type_to, is_absent, observation_in, observation_of, first_broken_within, Facts, RuleLimits, ToCpu, SentFrame, Machine, number_of, after_delivered_block, after_delivery_to_cpu, refusal, after, item_numbered, HasBlock, next_round, CarriesBlockOf, number_of-next, HasInput, each-at, after_taken, in_order, same_round, after_delivery, IsKept, carries_own, frame_heard, SuitModule, is_some, length-map, is_overfull_within}
use Rattle.fio_message.specs.declared.commands.Command.TheVariants as commands
use Rattle.fio_message.specs.Blocks.{Block as BlockOf}
use Rattle.fio_check.specs.declared.rules.Rule.TheVariants as tried
use Rattle.fio_check.specs.declared.observation.Observation.TheVariants as seen
use Rattle.fio_ends.proofs.Rules.{KeepsRules, no_rule_broken}
use Rattle.fio_ends.proofs.BlocksOfLives.{KeepsLimits, blocks_keep, blocks_leave}
use Rattle.fio_ends.proofs.Heard.{IsHeardAs}
use Rattle.fio_ends.proofs.Following.{IsAsked, IsReceived, IsBlockFor, Answers, Stage, Follows, Keeps}

-- ---- tests

-- directly above is the command that an answer of this type answers
pub is_asked : (awaited : Option ℕ) (code : ℕ) → awaited ≡ Some code
    → not (option_map_or (λ a. a == code) awaited false) ≡ false
is_asked awaited code is = grind arith

-- an answer to the command directly above, which takes no configuration of an absent input, breaks no rule
answer_keeps : (facts : Facts) (code : ℕ) (accepted : Bool) → facts.awaited ≡ Some code
    → (accepted && facts.absent_named) ≡ false → (limits : RuleLimits) → KeepsRules limits facts (seen.Answer code accepted)
answer_keeps facts code accepted asked fair limits tried.Pair = is_asked facts.awaited code asked
answer_keeps facts code accepted asked fair limits tried.Refusal = fair
answer_keeps facts code accepted asked fair limits rule = refl

pub has_number : (polled : Option ℕ) (number n : ℕ) → polled ≡ Some number → n ≡ number
    → option_map_or (λ p. not (n == p)) polled false ≡ false
has_number polled number n is same = grind arith

not_both : (advanced again : Bool) → (advanced ≡ true → again ≡ false) → (again && advanced) ≡ false
not_both advanced again apart = grind arith

pub within_limits : (fewer lost more : Bool) (entries per_block : ℕ) → (fewer ≡ true → lost ≡ true → more ≡ true)
    → (more ≡ true → entries ≡ per_block)
    → ((fewer && (lost && not more)) || (more && not (entries == per_block))) ≡ false
within_limits fewer lost more entries per_block implied full = grind arith

never : (b : Bool) → (b && false) ≡ false
never true = refl
never false = refl

pub has_rest : (more : Option Bool) (entries : ℕ) → (more ≡ Some true → 1 ≤ entries)
    → ((entries == 0) && option_map_or (λ m. m) more false) ≡ false
has_rest more entries rest = grind (arith, never)

-- a module's entries name no absent input
pub none_absent : (transitions : List Transition) → AllByRecursion HasInput transitions
    → list_any (λ entry. is_absent entry.input) (map entry_of transitions) ≡ false
none_absent [] there = refl
none_absent (transition ∷ transitions) there =
    let low : transition.input < 64 = there.0 in
    let here : nat_le 64 transition.input ≡ false = grind (arith, nat_tests) in
    ap (λ b. b || list_any (λ entry. is_absent entry.input) (map entry_of transitions)) here
    ∙ none_absent transitions there.1

-- ---- what is heard

-- a block answer
pub block_said : (answer : Option Answer) (block : BlockOf) → answered_block answer ≡ Some block
    → observation_of None answer
    ≡ seen.Block block.number block.status (length block.entries) (list_any (λ entry. is_absent entry.input) block.entries)
block_said answer block is = grind arith

-- another answer
pub no_block_said : (answer : Option Answer) (code : ℕ) (accepted : Bool) → observation_of None answer ≡ seen.Answer code accepted
    → answered_block answer ≡ None
no_block_said answer code accepted is = grind arith

module _ (settings : Settings) (range : AreInRange settings) (first : ℕ) (machine : Machine)
    (k : IsKept settings first machine) (from : Life) (due : ℕ) (facts : Facts) (f : Follows settings first from machine due facts) where
  abbrev life : Life
  life = life_of machine.history

  abbrev blocks : List MadeBlock
  blocks = blocks_of settings life

  -- ---- an answer that is no block answer

  keeps_answer : (earlier : Life) (command : Command) (place : ℕ) (octets : List ℕ) → IsReceived settings first from life facts machine.to_module machine.to_cpu machine.last_to_module machine.round due command
      → due ≤ place + 1
      → IsHeardAs settings earlier command octets
      → Keeps settings first life facts (record { from_cpu = false; octets = octets } ∷ [])
      (after_delivered_block first (record machine { last_to_cpu = place + 1 }) (block_in octets)) due
  keeps_answer earlier command place octets r past h =
      let code = answer_type_to command in
      let none : block_in octets ≡ None = no_block_said (answer_in octets) code h.accepted h.heard in
      let fair : (h.accepted && facts.absent_named) ≡ false = ap (λ named. h.accepted && named) r.asked.named ∙ h.fair in
      let follows : Follows settings first life (record machine { last_to_cpu = place + 1 }) due (facts_with facts (seen.Answer code h.accepted)) =
      record {
        number = f.number;
        answered = f.answered;
        more = f.more;
        now = record { more = []; is = refl };
        stage = inl (record { all = r.all; past = past });
      } in
      record {
        rules = λ limits suit. (
          ap (first_broken_within limits facts) h.heard
              ∙ no_rule_broken limits facts (seen.Answer code h.accepted) (answer_keeps facts code h.accepted r.asked.awaited fair limits),
          tt,
        );
        follows = subst (λ found. Follows settings first life (after_delivered_block first (record machine { last_to_cpu = place + 1 }) found) due (facts_with facts (observation_in false octets))) (sym none)
            (subst (λ o. Follows settings first life (record machine { last_to_cpu = place + 1 }) due (facts_with facts o)) (sym h.heard) follows);
      }

  -- ---- a block answer

  entries_of_made : (b : BlockOf) (c : CarriesBlockOf first blocks b machine.round)
      → length b.entries ≡ length c.block.transitions
  entries_of_made b c = ap length c.carried.entries ∙ length-map c.block.transitions entry_of

  -- what the rules ask of a block answer that carries the block of the CPU's round
  block_keeps : (limits : RuleLimits) → SuitModule settings limits → (number : ℕ) (b : BlockOf) → IsAsked first facts machine.round (commands.Poll number)
      → b.number ≡ number → (facts.advanced ≡ true → says_again b.status ≡ false)
      → CarriesBlockOf first blocks b machine.round
      → KeepsRules limits facts (seen.Block b.number b.status (length b.entries) (list_any (λ entry. is_absent entry.input) b.entries))
  block_keeps limits suit number b asked numbered again c tried.Pair = is_asked facts.awaited 182 asked.awaited
  block_keeps limits suit number b asked numbered again c tried.Number =
      let polled = asked.polled number refl in
      has_number facts.polled number b.number polled.0 numbered
  block_keeps limits suit number b asked numbered again c tried.Same = not_both facts.advanced (says_again b.status) again
  block_keeps limits suit number b asked numbered again c tried.Sequence =
      ap (λ out. out && (says_again b.status || is_some facts.more)) c.in_sequence
  block_keeps limits suit number b asked numbered again c tried.RuleLimits =
      let m = c.block in
      let keeps = each-at (KeepsLimits settings) blocks machine.round m (blocks_keep settings life) c.is_made in
      let over : is_overfull_within limits b.status (length b.entries) ≡ false =
      within_limits (nat_lt limits.per_block limits.waiting) (says_lost b.status) (says_more b.status) (length b.entries) limits.per_block
      (λ fewer lost.
      (let less : limits.per_block < limits.waiting = grind (arith, nat_tests) in
      c.carried.more ∙ keeps.lost (omega (arith, suit.per_block, suit.waiting)) (sym c.carried.lost ∙ lost)))
      (λ more. omega (arith, entries_of_made b c, keeps.more (sym c.carried.more ∙ more), suit.per_block)) in
      let absent : list_any (λ entry. is_absent entry.input) b.entries ≡ false =
      ap (list_any (λ entry. is_absent entry.input)) c.carried.entries ∙ none_absent m.transitions keeps.inputs in
      ap (λ o. o || list_any (λ entry. is_absent entry.input) b.entries) over ∙ absent
  block_keeps limits suit number b asked numbered again c tried.Rest =
      let m = c.block in
      let leaves = blocks_leave settings range.some_per_block life in
      let count = entries_of_made b c in
      has_rest facts.more (length b.entries) (λ is.
      (let t = f.more true is in
      let some = leaves.next t.earlier t.block m t.at_place (ap (slice_get blocks) (sym t.next) ∙ c.is_made) t.same in
      omega (arith, count, some)))
  block_keeps limits suit number b asked numbered again c rule = refl

  follows-block : (number : ℕ) (place : ℕ) (b : BlockOf) (entries : ℕ) (absent : Bool) → IsReceived settings first from life facts machine.to_module machine.to_cpu machine.last_to_module machine.round due (commands.Poll number)
      → due ≤ place + 1
      → b.number ≡ number → CarriesBlockOf first blocks b machine.round
      → Follows settings first life (after_taken machine place b) due (facts_with facts (seen.Block b.number b.status entries absent))
  follows-block number place b entries absent r past numbered c =
      let polled = r.asked.polled number refl in
      let high : next_round machine.polls ≤ machine.round + 1 = k.always.at_most in
      record {
        number = λ n is.
            (let due_is : Some ((number + 1) % 256) ≡ Some n =
            ap (option_map (λ p. (p + 1) % 256)) (sym polled.0) ∙ is in
            sym (same_Some _ _ due_is) ∙ ap (λ p. (p + 1) % 256) polled.1 ∙ sym (number_of-next first machine.round));
        answered = λ is.
            record { sent = λ p n s low h. omega (arith, k.always.polls.sent p n s h); received = high };
        more = λ m is. record {
          earlier = machine.round;
          block = c.block;
          next = refl;
          at_place = c.is_made;
          same = sym c.carried.more ∙ same_Some _ _ is;
        };
        now = record { more = []; is = refl };
        stage = inl (record { all = r.all; past = past });
      }

  keeps_block : (number : ℕ) (place : ℕ) (frame : SentFrame) → slice_get machine.to_cpu place ≡ Some frame
      → machine.last_to_cpu ≤ place + 1
      → (r : IsReceived settings first from life facts machine.to_module machine.to_cpu machine.last_to_module machine.round due (commands.Poll number))
      → due ≤ place + 1
      → IsBlockFor facts r.life number frame.octets
      → Keeps settings first life facts (record { from_cpu = false; octets = frame.octets } ∷ [])
      (after_delivered_block first (record machine { last_to_cpu = place + 1 }) (block_in frame.octets)) due
  keeps_block number place frame at le r past h =
      let b = h.block in
      let has : HasBlock machine.to_cpu place b frame.round =
      record { frame = frame; at_place = at; spells = h.spells; of_round = refl } in
      let alike : b.number ≡ number_of first machine.round = h.numbered ∙ (r.asked.polled number refl).1 in
      let same = same_round first machine (in_order settings first machine k.always) place b frame.round le has alike in
      let c : CarriesBlockOf first blocks b machine.round =
      subst (CarriesBlockOf first blocks b) same (carries_own settings range first machine k.always k.one_life place b frame.round has) in
      let entries = length b.entries in
      let absent = list_any (λ entry. is_absent entry.input) b.entries in
      let said : observation_in false frame.octets ≡ seen.Block b.number b.status entries absent =
      block_said (answer_in frame.octets) b h.spells in
      let met : (b.number == number_of first machine.round) ≡ true = grind (arith, nat_tests) in
      let taken : after_delivered_block first (record machine { last_to_cpu = place + 1 }) (block_in frame.octets) ≡ after_taken machine place b =
      ap (after_delivered_block first (record machine { last_to_cpu = place + 1 })) h.spells
      ∙ ap (λ is. if is then after_taken machine place b else record machine { last_to_cpu = place + 1 }) met in
      record {
        rules = λ limits suit. (
          ap (first_broken_within limits facts) said
              ∙ no_rule_broken limits facts (seen.Block b.number b.status entries absent)
              (block_keeps limits suit number b r.asked h.numbered h.again c),
          tt,
        );
        follows = subst (λ m. Follows settings first life m due (facts_with facts (observation_in false frame.octets))) (sym taken)
            (subst (λ o. Follows settings first life (after_taken machine place b) due (facts_with facts o)) (sym said)
            (follows-block number place b entries absent r past h.numbered c));
      }

  -- ---- any answer

  keeps_received : (command : Command) (place : ℕ) (frame : SentFrame) → slice_get machine.to_cpu place ≡ Some frame
      → machine.last_to_cpu ≤ place + 1
      → (r : IsReceived settings first from life facts machine.to_module machine.to_cpu machine.last_to_module machine.round due command)
      → due ≤ place + 1
      → Answers settings facts r.life command frame.octets
      → Keeps settings first life facts (record { from_cpu = false; octets = frame.octets } ∷ [])
      (after_delivery_to_cpu first machine (place + 1) (Some frame)) due
  keeps_received (commands.Poll number) place frame at le r past h = keeps_block number place frame at le r past h
  keeps_received other place frame at le r past h = keeps_answer r.life other place frame.octets r past h

  keeps_stage : (place : ℕ) (frame : SentFrame) → slice_get machine.to_cpu place ≡ Some frame
      → machine.last_to_cpu < place + 1 → place + 1 ≡ due → Stage settings first from facts machine due
      → Keeps settings first life facts (record { from_cpu = false; octets = frame.octets } ∷ [])
      (after_delivery_to_cpu first machine (place + 1) (Some frame)) due
  keeps_stage place frame at new is (inl quiet) = absurd (omega (arith, quiet.past))
  keeps_stage place frame at new is (inr (inl u)) = absurd (omega (arith, u.1.none_due))
  keeps_stage place frame at new is (inr (inr (command, r))) =
      let here : place ≡ r.place = (let e : due ≡ r.place + 1 = r.due_is in omega arith) in
      keeps_received command place frame at (omega arith) r (omega arith)
      (r.answer frame (ap (slice_get machine.to_cpu) (sym here) ∙ at))

  -- the frame that is due is delivered to the CPU
  pub keeps-to_cpu : (index : ℕ) → refusal machine (ToCpu index) ≡ None → machine.last_to_cpu < index → index ≡ due
      → Keeps settings first life facts (frame_heard (item_numbered machine.to_cpu index))
      (after settings first machine (ToCpu index)) due
  keeps-to_cpu index fine new is =
      after_delivery (λ n found. machine.last_to_cpu < n → n ≡ due
      → Keeps settings first life facts (frame_heard found) (after_delivery_to_cpu first machine n found) due)
      machine.to_cpu machine.last_to_cpu index fine
      (λ place frame le at new is. keeps_stage place frame at new is f.stage) new is
