-- The events of a block that the CPU takes, one by one.
use Rattle.fio_ends.proofs.Names.{◌==◌, ◌≡◌, ◌∙◌, ◌+◌, ◌≤◌, ℕ, suc, Bool, true, false, List, [], ◌∷◌, ◌++◌, length, map, Option, Some, None, refl, ap, sym, subst, arith, fold, slice_get, Block, says_lost, Settings, Life, Transition, entry_of, log_of, MadeBlock, blocks_of, item_of, Gap, ContentFacts, Ended, Heard, Recorded, events_of_block, ContentEvent, ContentRule, State, CarriesBlock, KeepsRule, Seen, block_answer, broken_state, gap_if, first_differing}
use Rattle.fio_ends.proofs.BlockPlaces.{IsNext, end_at, is_next}
use Rattle.fio_ends.proofs.ContentLines.{EachKeeps, none_comes}

state-gap : (facts : ContentFacts) (seen : Option Seen) → broken_state facts (Recorded Gap) seen ≡ None
state-gap facts None = refl
state-gap facts (Some seen) = none_comes (facts.excuses == 0) (first_differing facts seen)

-- a gap mark keeps each rule
pub gap_keeps : (rule : ContentRule) (facts : ContentFacts) → KeepsRule rule facts (Recorded Gap)
gap_keeps State facts = state-gap facts facts.seen
gap_keeps other facts = tt

-- an entry of the record, by its transition and the stamp of its block
abbrev pub entry_event : ℕ → Transition → ContentEvent
entry_event stamp transition = Recorded (item_of stamp (entry_of transition))

-- what is to be shown of the events of a block, step by step, where Q is known of the place of the log up to which all is recorded, of the
-- transitions of the block that are still to be recorded, and of what is known of content
pub record IsWalk (keeps : ContentFacts → ContentEvent → Type 0) (step : ContentFacts → ContentEvent → ContentFacts) (settings : Settings) (life : Life) (round : ℕ) (answer : Block) (block : MadeBlock)
    (Q : ℕ → List Transition → ContentFacts → Type 0) (Last : ContentFacts → Type 0) : Type 0 where
  pub gap : (facts : ContentFacts) → end_at settings life round ≤ block.start → Q (end_at settings life round) block.transitions facts
      → Q block.start block.transitions (step facts (Recorded Gap))
  pub entry : (k : ℕ) (transition : Transition) (rest : List Transition) (facts : ContentFacts) → slice_get block.transitions k ≡ Some transition
      → slice_get (log_of life) (block.start + k) ≡ Some transition → Q (block.start + k) (transition ∷ rest) facts
      → keeps facts (entry_event answer.stamp transition)
      × Q (block.start + (k + 1)) rest (step facts (entry_event answer.stamp transition))
  pub ended : (facts : ContentFacts) → Q block.end [] facts
      → keeps facts (Ended answer.status answer.stamp) × Last (step facts (Ended answer.status answer.stamp))

module _ (keeps : ContentFacts → ContentEvent → Type 0) (step : ContentFacts → ContentEvent → ContentFacts) (gap_keeps : (facts : ContentFacts) → keeps facts (Recorded Gap)) (settings : Settings) (life : Life) (round : ℕ) (answer : Block) (block : MadeBlock)
    (Q : ℕ → List Transition → ContentFacts → Type 0) (Last : ContentFacts → Type 0)
    (w : IsWalk keeps step settings life round answer block Q Last)
    (made : slice_get (blocks_of settings life) round ≡ Some block) (carried : CarriesBlock answer block) where
  next : IsNext settings life round block
  next = is_next settings life round block made

  -- events keep the rule, and leave what is to hold last
  abbrev Leave : ContentFacts → List ContentEvent → Type 0
  Leave facts events = EachKeeps keeps step facts events × Last (fold step facts events)

  abbrev end : List ContentEvent
  end = Ended answer.status answer.stamp ∷ []

  entries_leave : (transitions : List Transition) (k : ℕ) (facts : ContentFacts)
      → ((j : ℕ) (t : Transition) → slice_get transitions j ≡ Some t → slice_get block.transitions (k + j) ≡ Some t)
      → k + length transitions ≡ length block.transitions → Q (block.start + k) transitions facts
      → Leave facts (map Recorded (map (item_of answer.stamp) (map entry_of transitions)) ++ end)
  entries_leave [] k facts there count q =
      let at_end : block.start + k ≡ block.end = omega (arith, next.count) in
      let last = w.ended facts (subst (λ n. Q n [] facts) at_end q) in
      ((last.0, tt), last.1)
  entries_leave (transition ∷ rest) k facts there count q =
      let here : slice_get block.transitions k ≡ Some transition =
      (let same : k + 0 ≡ k = omega arith in ap (slice_get block.transitions) (sym same) ∙ there 0 transition refl) in
      let now = w.entry k transition rest facts here (next.logged k transition here) q in
      let left = entries_leave rest (k + 1) (step facts (entry_event answer.stamp transition))
      (λ j t at. (let same : (k + 1) + j ≡ k + suc j = omega arith in ap (slice_get block.transitions) same ∙ there (suc j) t at))
      (omega (arith, count)) now.1 in
      ((now.0, left.0), left.1)

  entries : (start : ℕ) (facts : ContentFacts) → start ≡ block.start → Q start block.transitions facts
      → Leave facts (map Recorded (map (item_of answer.stamp) (map entry_of block.transitions)) ++ end)
  entries start facts is q =
      let here : start ≡ block.start + 0 = omega arith in
      entries_leave block.transitions 0 facts (λ j t at. (let same : 0 + j ≡ j = omega arith in ap (slice_get block.transitions) same ∙ at))
      (omega arith) (subst (λ n. Q n block.transitions facts) here q)

  items_leave : (lost : Bool) (facts : ContentFacts) → block.lost ≡ lost → Q (end_at settings life round) block.transitions facts
      → Leave facts (map Recorded (gap_if lost ++ map (item_of answer.stamp) (map entry_of block.transitions)) ++ end)
  items_leave true facts is q =
      let left = entries block.start (step facts (Recorded Gap)) refl (w.gap facts next.forward q) in
      ((gap_keeps facts, left.0), left.1)
  items_leave false facts is q = entries (end_at settings life round) facts (next.begins is) q

  -- so all events of the block keep the rule
  pub walk : (facts : ContentFacts) → keeps facts (Heard (block_answer answer))
      → Q (end_at settings life round) block.transitions (step facts (Heard (block_answer answer)))
      → EachKeeps keeps step facts (events_of_block answer) × Last (fold step facts (events_of_block answer))
  walk facts heard q =
      let below = step facts (Heard (block_answer answer)) in
      let left = subst (λ es. Leave below (map Recorded (gap_if (says_lost answer.status) ++ map (item_of answer.stamp) es) ++ end)) (sym carried.entries)
      (items_leave (says_lost answer.status) below (sym carried.lost) q) in
      ((heard, left.0), left.1)
