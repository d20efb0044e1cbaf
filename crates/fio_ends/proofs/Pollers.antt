-- A good transcript is that of its poller.
use Rattle.fio_ends.proofs.Names.{◌≡◌, ◌∙◌, ◌+◌, ◌%◌, ◌<◌, ◌≤◌, ℕ, zero, suc, Bool, true, false, List, [], ◌∷◌, ◌++◌, length, take, Option, Some, None, refl, ap, sym, subst, arith, if◌then◌else◌, ◌==◌, not, option_map, slice_get, option_map_or, nat_tests, fold-append, same_Some, slice_get_within, Answer, Command, answer_in, answered_block, command_in, after_hearing, Polling, items_of_block, facts_at, facts_with, number_due, number_polled, TranscriptLine, observation_in, observation_of, observation_on, first_broken, rule_broken, standard_rule_limits, Facts, Observation, Good, facts_next, seen_at, take_one_more, block_on, poller_with, poller_of, answer_from, decoded_answer, heard_as, Stale, IsVerdict, KeepsRulesAbove, verdict_is, some_block, poller_at, IsTaken, IsOfPoller, GoodIsOfPoller}
use Rattle.fio_message.specs.declared.answers.Answer.TheVariants as answers
use Rattle.fio_message.specs.declared.commands.Command.TheVariants as commands
use Rattle.fio_message.specs.declared.commands.OtherCommand.TheVariants as other_commands
use Rattle.fio_message.specs.Blocks.{Block as BlockOf}
use Rattle.fio_check.specs.declared.rules.Rule.TheVariants as tried
use Rattle.fio_check.specs.declared.observation.Observation.TheVariants.{Poll, Command as CommandSeen, Block}
use Rattle.fio_ends.proofs.Rules.{KeepsRules, rules_kept}

-- ---- one line

-- the poller has the number that the rules have due, and where a block answer is awaited, its poll was
-- the latest and is not answered
pub record Agrees (facts : Facts) (poller : Option Polling) : Type 0 where
  pub due : number_due facts ≡ option_map (λ p. p.number) poller
  pub awaiting : facts.awaited ≡ Some 182 → (number : ℕ) × (facts.polled ≡ Some number) × (facts.answered ≡ false)

-- the poller with a line more that polls for this number, and spells this block
abbrev pub poller_by : Option Polling → Option ℕ → Option BlockOf → Option Polling
poller_by None polled block = option_map (λ first. record { number = first; items = [] }) polled
poller_by (Some poller) polled block = Some (after_hearing poller block)

pub poller_by-is : (poller : Option Polling) (line : TranscriptLine)
    → poller_with poller line ≡ poller_by poller (number_polled (observation_on line)) (block_on line)
poller_by-is None line = refl
poller_by-is (Some poller) line = refl

-- what is left to show of a line: what its poller is above and below it
pub record Goes (observation : Observation) (block : Option BlockOf) (facts : Facts) (above below : Option Polling) : Type 0 where
  pub agrees : Agrees (facts_with facts observation) below
  pub polls : (number : ℕ) → number_polled observation ≡ Some number → option_map (λ p. p.number) below ≡ Some number
  pub blocks : (heard : BlockOf) → block ≡ Some heard → IsTaken above below heard

-- a number that is compared with the one that is there, if any, is that one
same_as : (there : Option ℕ) (number : ℕ) → option_map_or (λ n. not (number == n)) there false ≡ false
    → (n : ℕ) → there ≡ Some n → number ≡ n
same_as None number kept n is = absurd (cc is)
same_as (Some m) number kept n is = let same : m ≡ n = same_Some _ _ is in let met : number ≡ m = grind (arith, nat_tests) in met ∙ same

-- a block answer that is asked for is awaited
is_awaited : (awaited : Option ℕ) → not (option_map_or (λ a. a == 182) awaited false) ≡ false → awaited ≡ Some 182
is_awaited None asked = absurd (cc asked)
is_awaited (Some a) asked = let same : a ≡ 182 = grind (arith, nat_tests) in ap Some same

-- a poller with a number
has_number : (poller : Option Polling) (number : ℕ) → option_map (λ p. p.number) poller ≡ Some number
    → (p : Polling) × (poller ≡ Some p) × (p.number ≡ number)
has_number None number is = absurd (cc is)
has_number (Some p) number is = (p, refl, same_Some _ _ is)

-- a line that neither polls nor spells a block leaves the poller as it is
stays : (poller : Option Polling) → poller_by poller None None ≡ poller
stays None = refl
stays (Some poller) = refl

module _ (facts : Facts) (poller : Option Polling) (agrees : Agrees facts poller) where
  -- ---- a poll

  poll_due : (above : Option Polling) (number : ℕ)
      → ((d : ℕ) → option_map (λ p. p.number) above ≡ Some d → number ≡ d)
      → option_map (λ p. p.number) (poller_by above (Some number) None) ≡ Some number
  poll_due None number kept = refl
  poll_due (Some p) number kept = ap Some (sym (kept p.number refl))

  goes-poll : (number : ℕ) → KeepsRules standard_rule_limits facts (Poll number)
      → Goes (Poll number) None facts poller (poller_by poller (Some number) None)
  goes-poll number k =
      let met = poll_due poller number (λ d is. same_as (number_due facts) number (k tried.Advance) d (agrees.due ∙ is)) in
      record {
        agrees = record { due = sym met; awaiting = λ is. (number, refl, refl) };
        polls = λ n is. met ∙ is;
        blocks = λ heard is. absurd (cc is);
      }

  -- ---- another command, or an answer that is no block answer

  goes-other : (observation : Observation) → number_polled observation ≡ None
      → number_due (facts_with facts observation) ≡ number_due facts
      → ((facts_with facts observation).awaited ≡ Some 182 → ⊥)
      → Goes observation None facts poller (poller_by poller None None)
  goes-other observation none due other =
      record {
        agrees = record {
          due = due ∙ agrees.due ∙ ap (option_map (λ p. p.number)) (sym (stays poller));
          awaiting = λ is. absurd (other is);
        };
        polls = λ n is. absurd (cc (none, is));
        blocks = λ heard is. absurd (cc is);
      }

  -- ---- a block answer

  taken_by : (p : Polling) (number : ℕ) (b : BlockOf) → b.number ≡ number → p.number ≡ number
      → after_hearing p (Some b) ≡ (record { number = (p.number + 1) % 256; items = p.items ++ items_of_block b })
  taken_by p number b of_block of_poller = grind arith

  goes-block : (number status entries : ℕ) (absent : Bool) (b : BlockOf) → b.number ≡ number
      → KeepsRules standard_rule_limits facts (Block number status entries absent)
      → Goes (Block number status entries absent) (Some b) facts poller (poller_by poller None (Some b))
  goes-block number status entries absent b of_block k =
      let asked = agrees.awaiting (is_awaited facts.awaited (k tried.Pair)) in
      let met : number ≡ asked.0 = same_as facts.polled number (k tried.Number) asked.0 asked.1 in
      let due : number_due facts ≡ Some asked.0 =
      ap (option_map (λ polled. if facts.answered then (polled + 1) % 256 else polled)) asked.1
      ∙ ap (λ answered. Some (if answered then (asked.0 + 1) % 256 else asked.0)) asked.2 in
      let found = has_number poller asked.0 (sym agrees.due ∙ due) in
      let p = found.0 in
      let of_poller : p.number ≡ number = found.2 ∙ sym met in
      let after = taken_by p number b of_block of_poller in
      let below : poller_by poller None (Some b) ≡ Some (record { number = (p.number + 1) % 256; items = p.items ++ items_of_block b }) =
      ap (λ above. poller_by above None (Some b)) found.1 ∙ ap Some after in
      record {
        agrees = record {
          due = ap (option_map (λ polled. (polled + 1) % 256)) asked.1
              ∙ ap (λ n. Some ((n + 1) % 256)) (sym found.2)
              ∙ sym (ap (option_map (λ q. q.number)) below);
          awaiting = λ is. absurd (cc is);
        };
        polls = λ n is. absurd (cc is);
        blocks = λ heard is.
            (let same : b ≡ heard = same_Some _ _ is in
            subst (IsTaken poller (poller_by poller None (Some b))) same
            (record { poller = p; there = found.1; same_number = of_block ∙ sym of_poller; taken = below }));
      }

  -- ---- a line by its message

  goes-command : (answer : ℕ) → (answer ≡ 182 → ⊥) → (absent : Bool)
      → Goes (CommandSeen answer absent) None facts poller (poller_by poller None None)
  goes-command answer other absent =
      goes-other (CommandSeen answer absent) refl refl (λ is. other (same_Some _ _ is))

  goes-sent : (command : Option Command) → KeepsRules standard_rule_limits facts (observation_of command None)
      → Goes (observation_of command None) None facts poller
      (poller_by poller (number_polled (observation_of command None)) None)
  goes-sent None k = absurd (cc (k tried.Readable))
  goes-sent (Some (commands.Poll number)) k = goes-poll number k
  goes-sent (Some (commands.Other other_commands.TrackInputs body)) k = goes-command _ (λ is. absurd (omega arith)) _
  goes-sent (Some other) k = goes-command _ (λ is. absurd (omega arith)) _

  goes-heard : (answer : Option Answer) → KeepsRules standard_rule_limits facts (observation_of None answer)
      → Goes (observation_of None answer) (answered_block answer) facts poller
      (poller_by poller (number_polled (observation_of None answer)) (answered_block answer))
  goes-heard None k = absurd (cc (k tried.Readable))
  goes-heard (Some (answers.Block number entries status stamp)) k =
      goes-block number status _ _ (record { number = number; entries = entries.items; status = status; stamp = stamp }) refl k
  goes-heard (Some other) k = goes-other (observation_of None (Some other)) refl refl (λ is. absurd (cc is))

  -- a line of the transcript, by whether the CPU sent it
  goes-frame : (from_cpu : Bool) (octets : List ℕ) → KeepsRules standard_rule_limits facts (observation_in from_cpu octets)
      → Goes (observation_in from_cpu octets) (answered_block (answer_from from_cpu octets)) facts poller
      (poller_by poller (number_polled (observation_in from_cpu octets)) (answered_block (answer_from from_cpu octets)))
  goes-frame true octets k = goes-sent (command_in octets) k
  goes-frame false octets k = goes-heard (answer_in octets) k

  goes : (line : TranscriptLine) → first_broken facts (observation_on line) ≡ None
      → Goes (observation_on line) (block_on line) facts poller (poller_with poller line)
  goes line none =
      subst (Goes (observation_on line) (block_on line) facts poller) (sym (poller_by-is poller line))
      (goes-frame line.from_cpu line.octets (rules_kept facts (observation_on line) none))

-- ---- all lines

-- the poller with the line at a place
poller_next : (lines : List TranscriptLine) (place : ℕ) (line : TranscriptLine) → slice_get lines place ≡ Some line
    → poller_at lines (suc place) ≡ poller_with (poller_at lines place) line
poller_next lines place line here =
    let next : suc place ≡ place + 1 = omega arith in
    ap (λ n. poller_of (take n lines)) next
    ∙ ap poller_of (take_one_more lines place line here)
    ∙ fold-append poller_with None (take place lines) (line ∷ [])

module _ (lines : List TranscriptLine) (kept : KeepsRulesAbove lines (length lines)) where
  goes_at : (place : ℕ) (line : TranscriptLine) → slice_get lines place ≡ Some line
      → Agrees (facts_at lines place) (poller_at lines place)
      → Goes (observation_on line) (block_on line) (facts_at lines place) (poller_at lines place) (poller_at lines (suc place))
  goes_at place line here agrees =
      let none : rule_broken lines place ≡ None = kept place (slice_get_within lines place line here) in
      subst (Goes (observation_on line) (block_on line) (facts_at lines place) (poller_at lines place))
      (sym (poller_next lines place line here))
      (goes (facts_at lines place) (poller_at lines place) agrees line
      (ap (first_broken (facts_at lines place)) (sym (seen_at lines place line here)) ∙ none))

  agrees_found : (place : ℕ) (found : Option TranscriptLine) → slice_get lines place ≡ found
      → Agrees (facts_at lines place) (poller_at lines place)
      → place < length lines
      → Agrees (facts_at lines (suc place)) (poller_at lines (suc place))
  agrees_found place None is agrees within = let there = some_block lines place within in absurd (cc (is, there.1))
  agrees_found place (Some line) is agrees within =
      subst (λ facts. Agrees facts (poller_at lines (suc place))) (sym (facts_next lines place line is))
      (goes_at place line is agrees).agrees

  agrees_at : (place : ℕ) → place ≤ length lines → Agrees (facts_at lines place) (poller_at lines place)
  agrees_at zero within = record { due = refl; awaiting = λ is. absurd (cc is) }
  agrees_at (suc place) within =
      agrees_found place (slice_get lines place) refl (agrees_at place (omega arith)) (omega arith)

  -- an answer that is heard is not stale
  not_stale : (p : Polling) (octets : List ℕ) (answer : Option Answer) → answer_in octets ≡ answer
      → ((b : BlockOf) → answered_block answer ≡ Some b → b.number ≡ p.number)
      → (number : ℕ) → heard_as p.number (decoded_answer octets) ≡ Stale number → ⊥
  not_stale p octets None is same number stale = let heard = rw is at stale in absurd (cc heard)
  not_stale p octets (Some (answers.Block block entries status stamp)) is same number stale =
      let named : block ≡ p.number =
      same (record { number = block; entries = entries.items; status = status; stamp = stamp }) refl in
      let met : (block == p.number) ≡ true = grind (arith, nat_tests) in
      let heard = rw (is, met) at stale in
      absurd (cc heard)
  not_stale p octets (Some other) is same number stale = let heard = rw is at stale in absurd (cc heard)

  at_line : (place : ℕ) (line : TranscriptLine) → slice_get lines place ≡ Some line
      → Goes (observation_on line) (block_on line) (facts_at lines place) (poller_at lines place) (poller_at lines (suc place))
  at_line place line here =
      goes_at place line here (agrees_at place (omega (arith, slice_get_within lines place line here)))

  is_of_poller : IsOfPoller lines
  is_of_poller =
      record {
        polls = λ place number line here is. (at_line place line here).polls number is;
        blocks = λ place line block here is. (at_line place line here).blocks block is;
        none_stale = λ place number line poller here heard there stale.
            not_stale poller line.octets (answer_in line.octets) refl
            (λ b is. (let taken = (at_line place line here).blocks b (ap (λ sent. answered_block (answer_from sent line.octets)) heard ∙ is) in
            let poller_is : taken.poller ≡ poller = same_Some _ _ (sym taken.there ∙ there) in
            taken.same_number ∙ ap (λ q. q.number) poller_is))
            number stale;
      }

-- a good transcript is that of its poller
pub good_is_of_poller : GoodIsOfPoller
good_is_of_poller lines frames good =
    let is : IsVerdict lines (Good frames) = subst (IsVerdict lines) good (verdict_is lines) in
    is_of_poller lines is.1
