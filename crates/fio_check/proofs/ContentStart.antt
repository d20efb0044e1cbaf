-- What is above the first line of a log that begins with both ends.
use Rattle.fio_check.proofs.Names.{◌≡◌, ◌<◌, ◌∙◌, ◌++◌, not, option_or, Block, block_answer, gap_if, items_of_block, Sent, Heard, Ended, events_of_block, items_and_end, ℕ, zero, suc, inl, inr, Bool, true, false, List, [], ◌∷◌, Option, None, Some, refl, sym, ap, ap₂, arith, fold, ◌==◌, if◌then◌else◌, nat_lt, nat_tests, is_some_and, eqb_tells, ContentFacts, content_with, no_content, Command, INPUTS, InputItem, below_clear, coming, content_begun, content_step, fun_ext, input_begun, input_below_clear, input_coming, input_ended, input_with_answer, input_with_item, is_aging, is_far, is_set-zero, item_for, last_item_of, no_input, says_again, says_error, says_lost, says_more, seen_below, settled_now, unnamed, ◌&&◌, ◌||◌}
use Rattle.fio_message.specs.declared.answers.Answer.TheVariants as answers
use Rattle.fio_message.specs.declared.commands.Command.TheVariants as commands
use Rattle.fio_check.specs.ContentEvents.{events_at_start, item_at_start, items_at_start}
use Rattle.fio_check.proofs.Unexcused.{sent_step, step_only}
use Rattle.fio_check.proofs.KeptContent.{option_or-none, option_or_assoc}

-- the status 0 says nothing
pub no_error : says_error 0 ≡ false
no_error = is_set-zero 0

pub no_more : says_more 0 ≡ false
no_more = is_set-zero 3

pub no_again : says_again 0 ≡ false
no_again = is_set-zero 1

pub no_lost : says_lost 0 ≡ false
no_lost = is_set-zero 2

-- the last item of an input in two lists
items-apart : (input : ℕ) (items others : List InputItem) → last_item_of input (items ++ others) ≡ option_or (last_item_of input others) (last_item_of input items)
items-apart input [] others = sym (option_or-none (last_item_of input others))
items-apart input (item ∷ items) others =
    ap (λ last. option_or last (if item.input == input then Some item else None)) (items-apart input items others)
    ∙ option_or_assoc (last_item_of input others) (last_item_of input items) (if item.input == input then Some item else None)

-- the item of an input among those of the start
start-items : (input count : ℕ) → last_item_of input (items_at_start count) ≡ (if nat_lt input count then Some (item_at_start input) else None)
unfolding items_at_start
start-items input zero = rw (none-below input) refl
  where
    none-below : (n : ℕ) → nat_lt n 0 ≡ false
    none-below n = grind (arith, nat_tests)
start-items input (suc count) =
    items-apart input (items_at_start count) (item_at_start count ∷ [])
    ∙ ap (option_or (if count == input then Some (item_at_start count) else None)) (start-items input count)
    ∙ elim (eqb_tells count input) as (λ _. option_or (if count == input then Some (item_at_start count) else None) (if nat_lt input count then Some (item_at_start input) else None)
    ≡ (if nat_lt input (suc count) then Some (item_at_start input) else None)) [
      | inl same ↦ rw (same.0, below-is input (suc count) (omega (arith, same.1))) (ap (λ n. Some (item_at_start n)) same.1)
      | inr other ↦ rw (other.0, same-below input count (λ e. other.1 (sym e))) refl
    ]
  where
    below-is : (a b : ℕ) → a < b → nat_lt a b ≡ true
    below-is a b below = grind (arith, nat_tests)

    same-below : (a b : ℕ) → (a ≡ b → ⊥) → nat_lt a b ≡ nat_lt a (suc b)
    same-below a b other = grind (arith, nat_tests)

start-item : (input : ℕ) → item_for input (items_at_start INPUTS) ≡ (if nat_lt input INPUTS then Some (item_at_start input) else None)
start-item input = ap (λ last. if nat_lt input INPUTS then last else None) (start-items input INPUTS) ∙ twice (nat_lt input INPUTS) (Some (item_at_start input))
  where
    twice : (b : Bool) (item : Option InputItem) → (if b then (if b then item else None) else None) ≡ (if b then item else None)
    twice true item = refl
    twice false item = refl

-- ---- what is above

start-input : (input : ℕ) (named : Bool)
    → (let configured = input_with_answer true (input_with_item (unnamed no_input) (if named then Some (item_at_start input) else None)) in
    let heard = input_with_answer false configured in
    input_below_clear heard (settled_now heard)) ≡ (if named then input_begun else no_input)
start-input input true = refl
start-input input false = refl

-- the answer that a configuration was taken
heard-taken : (facts : ContentFacts) (status : ℕ) → facts.excuses ≡ 0 → says_error status ≡ false
    → content_with facts (Heard (answers.ConfigureInputs status)) ≡ record facts { clearing = 0; absent_named = false; inputs = λ input. input_with_answer true (facts.inputs input) }
heard-taken facts status judged taken = step_only facts (Heard (answers.ConfigureInputs status)) judged ∙ ap (λ error. record facts { clearing = 0; absent_named = false; inputs = λ input. input_with_answer (not error) (facts.inputs input) }) taken

-- a block that is not sent again
heard-block : (facts : ContentFacts) (block : Block) → facts.excuses ≡ 0 → says_again block.status ≡ false → facts.full ≡ None → facts.aged ≡ false
    → content_with facts (Heard (block_answer block)) ≡ record facts { clearing = 0; absent_named = false; clock = Some block.stamp; block_heard = true; inputs = λ input. input_with_answer false (facts.inputs input) }
heard-block facts block judged first none young =
    step_only facts (Heard (block_answer block)) judged
    ∙ ap (λ again. record facts {
      clearing = 0;
      absent_named = false;
      clock = option_or (if again then None else Some block.stamp) facts.clock;
      block_heard = true;
      aged = is_aging facts (Some block.stamp);
      seen = if is_aging facts (Some block.stamp) then None else facts.seen;
      inputs = λ input. input_with_answer false (facts.inputs input);
    }) first
    ∙ ap (λ full. record facts {
      clearing = 0;
      absent_named = false;
      clock = Some block.stamp;
      block_heard = true;
      aged = is_some_and full (λ f. is_far f block.stamp);
      seen = if is_some_and full (λ f. is_far f block.stamp) then None else facts.seen;
      inputs = λ input. input_with_answer false (facts.inputs input);
    }) none
    ∙ ap (λ aged. record facts {
      clearing = 0;
      absent_named = false;
      clock = Some block.stamp;
      block_heard = true;
      aged = aged;
      inputs = λ input. input_with_answer false (facts.inputs input);
    }) (sym young)

-- the end of a clear block
ended-clear : (facts : ContentFacts) (status stamp : ℕ) → facts.excuses ≡ 0 → says_more status ≡ false → says_again status ≡ false
    → content_with facts (Ended status stamp) ≡ below_clear (record facts { full = if facts.timely then Some stamp else None; floor = Some (record { time = stamp; input = None }); seen = seen_below (Ended status stamp) facts.seen; polled = false; since_poll = λ input. false; inputs = λ input. input_ended true (input_coming input (coming facts (Ended status stamp)) (facts.inputs input)) }) stamp
ended-clear facts status stamp judged whole first = step_only facts (Ended status stamp) judged ∙ ap₂ (λ more again.
    let ended = record facts {
      full = if facts.timely then option_or (if more then None else Some stamp) facts.full else None;
      floor = option_or (if more then None else Some (record { time = stamp; input = None })) facts.floor;
      seen = seen_below (Ended status stamp) facts.seen;
      polled = false;
      since_poll = λ input. false;
      inputs = λ input. input_ended ((not more && not again) || ((not more && again) && (facts.clear && not (facts.since_poll input))))
          (input_coming input (coming facts (Ended status stamp)) (facts.inputs input));
    } in
    if not more && not again then below_clear ended stamp else ended) whole first

-- the block at the start
abbrev pub block_at_start : Block
block_at_start = record { number = 0; entries = []; status = 0; stamp = 0 }

-- the configuration at the start
abbrev pub command_at_start : Command
command_at_start = commands.ConfigureInputs (record { items = items_at_start INPUTS })

pub begun_is : fold content_with no_content events_at_start ≡ content_begun
begun_is =
    let sent = content_step no_content (Sent command_at_start) in
    let taken = record sent { clearing = 0; absent_named = false; inputs = λ input. input_with_answer true (sent.inputs input) } in
    let heard = record taken { clearing = 0; absent_named = false; clock = Some 0; block_heard = true; inputs = λ input. input_with_answer false (taken.inputs input) } in
    ap (λ facts. fold content_with facts (Heard (answers.ConfigureInputs 0) ∷ events_of_block block_at_start)) (sent_step no_content command_at_start)
    ∙ ap (λ facts. fold content_with facts (events_of_block block_at_start)) (heard-taken sent 0 refl no_error)
    ∙ ap (λ facts. fold content_with facts (items_and_end (items_of_block block_at_start) 0 0)) (heard-block taken block_at_start refl no_again refl refl)
    ∙ ap (λ lost. fold content_with heard (items_and_end (gap_if lost ++ []) 0 0)) no_lost
    ∙ ended-clear heard 0 0 refl no_more no_again
    ∙ ap (λ inputs. record content_begun { inputs = inputs })
    (fun_ext (λ input. ap (λ item. let configured = input_with_answer true (input_with_item (unnamed no_input) item) in
    let answered = input_with_answer false configured in input_below_clear answered (settled_now answered)) (start-item input) ∙ start-input input (nat_lt input INPUTS)))
