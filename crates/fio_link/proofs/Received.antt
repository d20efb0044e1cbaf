-- What a frame that the module receives does to its life and gets as its answer.
use Rattle.fio_link.proofs.Names.{◌≡◌, ℕ, ◌≤◌, false, List, [], ◌∷◌, ◌++◌, Option, Some, None, refl, ap, sym, subst, ◌∙◌, arith, option_map, AllByRecursion, nat_tests, same_Some, length-map, Command, Answer, answer_octets, says_again, says_out_of_sequence, polled_number, answered_block, block_in, Settings, Life, MadeBlock, newest_poll, is_new, blocks_of, next_block, Sending, answer_of_sending, first_sending, repeat_of, latest_sending, answer_if, CarriesBlock}
use Rattle.fio_message.specs.declared.commands.Command.TheVariants as commands
use Rattle.fio_message.proofs.StatusBits.{status_back}
use Rattle.fio_module.specs.Replies.{answer_to}
use Rattle.fio_module.specs.Laws.{Carries}
use Rattle.fio_module.proofs.SendingLaws.{sendings_carry, sendings_answer_polls}
use Rattle.fio_link.proofs.Spelled.{no_block_in, said, sending_back}
use Rattle.fio_link.proofs.MadeBlocks.{FitsAnswer, blocks_fit, entries_fit}

-- the answer to a command that is no poll is no block answer
no_block_answer : (settings : Settings) (life : Life) (command : Command)
    → polled_number (Some command) ≡ None
    → (answer : Answer) → answer_to settings life command ≡ Some answer
    → answered_block (Some answer) ≡ None
no_block_answer settings life (commands.Poll number) other answer is = absurd (cc other)
no_block_answer settings life (commands.Other kind body) other answer is = absurd (cc is)
no_block_answer settings life command other answer is = ap answered_block (sym is)

-- the reply to octets that are no poll is not read as a block answer
pub no_block_reply : (settings : Settings) (life : Life) (command : Option Command)
    → polled_number command ≡ None
    → (answer : Answer) → answer_if settings life command ≡ Some answer
    → block_in (answer_octets answer) ≡ None
no_block_reply settings life None other answer is = absurd (cc is)
no_block_reply settings life (Some command) other answer is = grind (arith, nat_tests, no_block_in, no_block_answer)

-- a poll that is not new has the number of the poll before it
pub same_number : (latest : Option ℕ) (number : ℕ) → is_new latest number ≡ false → latest ≡ Some number
same_number None number old = absurd (cc old)
same_number (Some before) number old = let same : before ≡ number = grind (arith, nat_tests) in ap Some same

-- the first sending of a block carries it
pub first_carries : (settings : Settings) (life : Life) (number : ℕ)
    → Carries (first_sending settings life number) (next_block settings life)
first_carries settings life number = record { entries = refl; more = refl; lost = refl; stamp = refl }

-- a sending that is sent again carries the same block
pub again_carries : (sending : Sending) (block : MadeBlock) → Carries sending block
    → Carries (repeat_of sending) block
again_carries sending block c = record { entries = c.entries; more = c.more; lost = c.lost; stamp = c.stamp }

-- a sending of a block that fits an answer is read back
pub carried_back : (per_block : ℕ) (sending : Sending) (block : MadeBlock) → per_block ≤ 255
    → sending.number ≤ 255
    → FitsAnswer per_block block → Carries sending block
    → block_in (answer_octets (answer_of_sending sending)) ≡ Some (said sending)
carried_back per_block sending block few number fits carried = grind (arith, nat_tests, sending_back, length-map, entries_fit)

-- and what is read carries the block
pub carried_says : (sending : Sending) (block : MadeBlock) → Carries sending block
    → CarriesBlock (said sending) block
carried_says sending block carried =
    let status = status_back sending.more sending.lost sending.again sending.out_of_sequence in
    record {
      entries = carried.entries;
      more = status.says_more ∙ carried.more;
      lost = status.says_lost ∙ carried.lost;
      stamp = carried.stamp;
    }

-- what is read says that the number was requested again exactly if the sending does
pub said_again : (sending : Sending) → says_again (said sending).status ≡ sending.again
said_again sending = (status_back sending.more sending.lost sending.again sending.out_of_sequence).says_again

-- and that it is out of sequence exactly if the sending does
pub said_out_of_sequence : (sending : Sending)
    → says_out_of_sequence (said sending).status ≡ sending.out_of_sequence
said_out_of_sequence sending = (status_back sending.more sending.lost sending.again sending.out_of_sequence).says_out_of_sequence

-- there is a sending if there is a poll
sent_with : (latest : Option ℕ) (found : Option Sending) (number : ℕ)
    → latest ≡ option_map (λ sending. sending.number) found
    → latest ≡ Some number → (sending : Sending) × (found ≡ Some sending) × (sending.number ≡ number)
sent_with latest None number same is = absurd (cc (same, is))
sent_with latest (Some sending) number same is = (sending, refl, same_Some _ _ (sym same ∙ is))

-- the latest sending, if a poll was received: it has the number of the latest poll, and carries the newest block
pub record IsLatestSending (settings : Settings) (life : Life) (polled : ℕ) (sending : Sending) : Type 0 where
  pub is : latest_sending settings life ≡ Some sending
  pub number : sending.number ≡ polled
  pub earlier : List MadeBlock
  pub block : MadeBlock
  pub made : blocks_of settings life ≡ earlier ++ block ∷ []
  pub carried : Carries sending block

-- if a poll was received, there is one
pub latest_sent : (settings : Settings) (life : Life) (number : ℕ) → newest_poll life ≡ Some number
    → (sending : Sending) × IsLatestSending settings life number sending
latest_sent settings life number is =
    let found = sent_with (newest_poll life) (latest_sending settings life) number (sendings_answer_polls settings life) is in
    let newest = sendings_carry settings life found.0 found.1 in
    (found.0, record { is = found.1; number = found.2; earlier = newest.0; block = newest.1; made = newest.2; carried = newest.3 })

-- what holds of each element holds of the last
each-last : {A : Type 0} (P : A → Type 0) (xs : List A) (x : A) → AllByRecursion P (xs ++ x ∷ []) → P x
each-last P [] x p = p.0
each-last P (y ∷ ys) x p = each-last P ys x p.1

-- the newest block fits an answer
pub newest_fits : (settings : Settings) (life : Life) (earlier : List MadeBlock) (block : MadeBlock)
    → blocks_of settings life ≡ earlier ++ block ∷ [] → FitsAnswer settings.per_block block
newest_fits settings life earlier block made =
    each-last (FitsAnswer settings.per_block) earlier block
    (subst (AllByRecursion (FitsAnswer settings.per_block)) made (blocks_fit settings life))
