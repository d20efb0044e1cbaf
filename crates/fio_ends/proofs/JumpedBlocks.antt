-- A block in whose time the counter jumped, or may have.
use Rattle.fio_ends.proofs.Names.{Block, events_of_block, items_of_block, eqb_tells, ◌≡◌, ◌∙◌, ◌+◌, ◌≤◌, ◌⊎◌, ℕ, true, false, List, [], ◌∷◌, refl, arith, fold, nat_tests, ◌==◌, Answer, Item, Entry, Gap, ContentFacts, content_with, ContentEvent, Ended, Heard, Recorded, block_answer, cases_lt, content_step, items_and_end, one_excuse_more, one_excuse_less}
use Rattle.fio_ends.proofs.ContentLines.{EachKeeps}
use Rattle.fio_ends.proofs.Timeless.{IsTimeless, KeepsTimeRules, WouldKeep, ended_timeless, excuses_all, item_timeless, keeps, not_excused, timeless_forgetting}

-- ---- a block in whose time the counter jumped, or may have

-- the excuses that are used are no more than the loads that took effect: so many have since these
pub record HasExcuses (sent jumps excuses : ℕ) : Type 0 where
  pub enough : (excuses ≡ 255) ⊎ (sent ≤ jumps + excuses)

-- where no load is sent more
pub as_many : (sent more jumps excuses : ℕ) → more ≡ 0 → HasExcuses sent jumps excuses → HasExcuses (sent + more) jumps excuses
as_many sent more jumps excuses none h = grind arith

-- one load more
pub one_more : (sent jumps excuses : ℕ) → HasExcuses sent jumps excuses → HasExcuses (sent + 1) jumps (one_excuse_more excuses)
one_more sent jumps excuses h = grind (arith, cases_lt)

-- so many more loads took effect than were sent before, or an excuse is left
pub some_left : (sent jumps now excuses : ℕ) → jumps + 1 ≤ now → now ≤ sent → HasExcuses sent jumps excuses → (excuses == 0) ≡ false
some_left sent jumps now excuses more most h = grind arith

-- one more jump for one excuse less
pub one_less : (sent jumps later excuses : ℕ) → jumps + 1 ≤ later → (excuses ≡ 0 → ⊥) → HasExcuses sent jumps excuses → HasExcuses sent later (one_excuse_less excuses)
one_less sent jumps later excuses more some h = grind (arith, eqb_tells)

-- an event of an answer or a block uses none, if it is not excused
step_excuses : (facts : ContentFacts) (item : Item) → (content_step facts (Recorded item)).excuses ≡ facts.excuses
step_excuses facts Gap = refl
step_excuses facts (Entry input level low wide) = refl

end_excuses : (facts : ContentFacts) (status stamp : ℕ) → (content_step facts (Ended status stamp)).excuses ≡ facts.excuses
end_excuses facts status stamp = grind arith

pub block_excuses : (facts : ContentFacts) (answer : Block) → (fold content_step facts (events_of_block answer)).excuses ≡ facts.excuses
block_excuses facts answer = below (content_step facts (Heard (block_answer answer))) (items_of_block answer)
  where
    below : (facts : ContentFacts) (items : List Item) → (fold content_step facts (items_and_end items answer.status answer.stamp)).excuses ≡ facts.excuses
    below facts [] = end_excuses facts answer.status answer.stamp
    below facts (item ∷ items) = below (content_step facts (Recorded item)) items ∙ step_excuses facts item

-- between the events of a block: none is excused yet, and one may be; or one was, and nothing is known of times
pub data Jumped (sent jumps later : ℕ) (facts : ContentFacts) : Type 0 where
  NotYet : (some : (facts.excuses == 0) ≡ false) (has : HasExcuses sent jumps facts.excuses) → Jumped sent jumps later facts
  Used : (timeless : IsTimeless facts) (has : HasExcuses sent later facts.excuses) → Jumped sent jumps later facts

module _ (sent jumps later : ℕ) (more : jumps + 1 ≤ later) where
  zero_not : (n : ℕ) → (n == 0) ≡ false → n ≡ 0 → ⊥
  zero_not n some none = (let same : (n == 0) ≡ true = grind (arith, nat_tests) in absurd (cc (some, same)))

  -- an event where none is excused yet
  jumped_step : (facts : ContentFacts) (event : ContentEvent) → (content_step facts event).excuses ≡ facts.excuses → (facts.excuses == 0) ≡ false → HasExcuses sent jumps facts.excuses
      → Jumped sent jumps later (content_with facts event)
  jumped_step facts event same some has = grind (arith, one_less, timeless_forgetting, zero_not)

  -- an event below one
  used_step : (facts : ContentFacts) (event : ContentEvent) → (content_step facts event).excuses ≡ facts.excuses → WouldKeep facts event → IsTimeless (content_step facts event)
      → HasExcuses sent later facts.excuses → Jumped sent jumps later (content_with facts event)
  used_step facts event same k timeless has = grind (arith, not_excused)

  item_jumped : (facts : ContentFacts) (item : Item) → Jumped sent jumps later facts → KeepsTimeRules facts (Recorded item) × Jumped sent jumps later (content_with facts (Recorded item))
  item_jumped facts item (NotYet some has) = (excuses_all facts some (Recorded item), jumped_step facts (Recorded item) (step_excuses facts item) some has)
  item_jumped facts item (Used timeless has) =
      let next = item_timeless facts timeless item in
      (keeps facts (Recorded item) next.0, used_step facts (Recorded item) (step_excuses facts item) next.0 next.1 has)

  pub items_jumped : (items : List Item) (facts : ContentFacts) (status stamp : ℕ) → Jumped sent jumps later facts
      → EachKeeps KeepsTimeRules content_with facts (items_and_end items status stamp) × Jumped sent jumps later (fold content_with facts (items_and_end items status stamp))
  items_jumped [] facts status stamp (NotYet some has) = ((excuses_all facts some (Ended status stamp), tt), jumped_step facts (Ended status stamp) (end_excuses facts status stamp) some has)
  items_jumped [] facts status stamp (Used timeless has) =
      let next = ended_timeless facts timeless status stamp in
      ((keeps facts (Ended status stamp) next.0, tt), used_step facts (Ended status stamp) (end_excuses facts status stamp) next.0 next.1 has)
  items_jumped (item ∷ items) facts status stamp jumped =
      let here = item_jumped facts item jumped in
      let rest = items_jumped items (content_with facts (Recorded item)) status stamp here.1 in
      ((here.0, rest.0), rest.1)

  -- an answer, and the items of its block
  pub answer_jumped : (facts : ContentFacts) (answer : Answer) → (facts.excuses == 0) ≡ false → HasExcuses sent jumps facts.excuses
      → KeepsTimeRules facts (Heard answer) × Jumped sent jumps later (content_with facts (Heard answer))
  answer_jumped facts answer some has = (excuses_all facts some (Heard answer), jumped_step facts (Heard answer) refl some has)
