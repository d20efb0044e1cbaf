-- A block answer without E has the block that the poll directly above it made.
use Rattle.fio_ends.proofs.Names.{◌≡◌, ◌∙◌, ◌+◌, ◌≤◌, inl, inr, ℕ, false, [], ◌∷◌, ◌++◌, length, Some, ap, sym, arith, if◌then◌else◌, slice_get, slice_get_within, length-append, Block, says_again, Settings, Life, Commanded, life_of, log_of, MadeBlock, blocks_of, next_block, blocks_in, Machine, get_after_push, blocks_without_more_take_all}
use Rattle.fio_message.specs.declared.commands.Command.TheVariants as commands
use Rattle.fio_ends.proofs.ContentSteps.{IsKnown, Takes}
use Rattle.fio_ends.proofs.Lives.{blocks_since}

-- the block was made after the life at which the module received the poll, and is the newest
pub record IsMadeNow (settings : Settings) (life : Life) (round : ℕ) (block : MadeBlock) : Type 0 where
  pub is : block ≡ next_block settings life
  pub newest : round ≡ length (blocks_of settings life)
  -- and where it has no C it took all that was logged
  pub took : block.more ≡ false → block.end ≡ length (log_of life)

pub made_now : (settings : Settings) (first : ℕ) (begin : Machine) (from : Life) (machine : Machine) (place number : ℕ) (answer : Block) (block : MadeBlock)
    → IsKnown settings first begin from machine → (t : Takes settings first from machine place number answer block)
    → says_again answer.status ≡ false → IsMadeNow settings t.life machine.round block
made_now settings first begin from machine place number answer block known t anew =
    let since = blocks_since settings (commands.Poll number) t.life (life_of machine.history) t.since in
    let new : blocks_of settings (Commanded (commands.Poll number) ∷ t.life) ≡ blocks_of settings t.life ++ next_block settings t.life ∷ [] =
    ap (λ is. if is then blocks_of settings t.life ++ next_block settings t.life ∷ [] else blocks_of settings t.life) (t.fresh anew) in
    let count = ap length (since ∙ new) ∙ length-append (blocks_of settings t.life) (next_block settings t.life ∷ []) in
    let within = slice_get_within (blocks_in settings machine) machine.round block t.made in
    let k = known.is_kept in
    let most : length (blocks_in settings machine) ≤ machine.round + 1 = omega (arith, k.always.at_most, k.one_life.made) in
    let at : slice_get (blocks_of settings t.life ++ next_block settings t.life ∷ []) machine.round ≡ Some block =
    ap (λ blocks. slice_get blocks machine.round) (sym (since ∙ new)) ∙ t.made in
    let is : block ≡ next_block settings t.life =
    elim (get_after_push (blocks_of settings t.life) (next_block settings t.life) machine.round block at) as (λ _. block ≡ next_block settings t.life) [
      | inl old ↦ absurd (omega (arith, slice_get_within (blocks_of settings t.life) machine.round block old))
      | inr added ↦ added.1
    ] in
    record {
      is = is;
      newest = omega arith;
      took = λ all.
          ap (λ (b : MadeBlock). b.end) is ∙ blocks_without_more_take_all settings t.life (ap (λ (b : MadeBlock). b.more) (sym is) ∙ all);
    }
