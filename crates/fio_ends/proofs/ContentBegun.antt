-- What is above a log that begins with both ends: events that break no rule, and what is known of each input.
use Rattle.fio_ends.proofs.Names.{◌∙◌, None, Answer, content_step, ◌≡◌, ◌<◌, ℕ, Bool, [], ◌∷◌, refl, ap, arith, if◌then◌else◌, nat_lt, ContentFacts, content_with, no_content, Ended, Heard, Sent, ContentRule, State, KeepsRule, block_answer, broken_state, events_above, no_input, sent_step, step_only, input_begun, block_at_start, command_at_start, no_again, no_error, no_lost}
use Rattle.fio_message.specs.declared.answers.Answer.TheVariants as answers
use Rattle.fio_ends.proofs.ContentFrame.{sent_keeps}
use Rattle.fio_ends.proofs.ContentLines.{EventsKeep}

-- ---- the events

-- below the command, the answer to it, and the block
abbrev sent_facts : ContentFacts
sent_facts = content_with no_content (Sent command_at_start)

abbrev taken_facts : ContentFacts
taken_facts = content_with sent_facts (Heard (answers.ConfigureInputs 0))

abbrev heard_facts : ContentFacts
heard_facts = content_with taken_facts (Heard (block_answer block_at_start))

-- no load excuses anything
sent_is : sent_facts ≡ content_step no_content (Sent command_at_start)
sent_is = sent_step no_content command_at_start

taken_is : taken_facts ≡ content_step (content_step no_content (Sent command_at_start)) (Heard (answers.ConfigureInputs 0))
taken_is = ap (λ facts. content_with facts (Heard (answers.ConfigureInputs 0))) sent_is ∙ step_only (content_step no_content (Sent command_at_start)) (Heard (answers.ConfigureInputs 0)) refl

heard_is : heard_facts ≡ content_step (content_step (content_step no_content (Sent command_at_start)) (Heard (answers.ConfigureInputs 0))) (Heard (block_answer block_at_start))
heard_is = ap (λ facts. content_with facts (Heard (block_answer block_at_start))) taken_is
    ∙ step_only (content_step (content_step no_content (Sent command_at_start)) (Heard (answers.ConfigureInputs 0))) (Heard (block_answer block_at_start)) refl

none_heard : (facts : ContentFacts) (answer : Answer) → facts.seen ≡ None → KeepsRule State facts (Heard answer)
none_heard facts answer none = ap (broken_state facts (Heard answer)) none

taken_keeps : (rule : ContentRule) → KeepsRule rule sent_facts (Heard (answers.ConfigureInputs 0))
taken_keeps rule = grind (arith, no_error, none_heard, sent_is)

heard_keeps : (rule : ContentRule) → KeepsRule rule taken_facts (Heard (block_answer block_at_start))
heard_keeps rule = grind (arith, block_at_start, no_again, none_heard, taken_is)

ended_keeps : (rule : ContentRule) → EventsKeep rule heard_facts (Ended 0 0 ∷ [])
ended_keeps State = (ap (broken_state heard_facts (Ended 0 0)) (ap (λ (facts : ContentFacts). facts.seen) heard_is), tt)
ended_keeps rule = (tt, tt)

-- the events above a log break no rule
pub start_keeps : (rule : ContentRule) (begun : Bool) → EventsKeep rule no_content (events_above begun)
start_keeps rule begun = grind (arith, command_at_start, ended_keeps, heard_keeps, no_lost, sent_keeps, taken_keeps)

-- ---- each input

pub begun_input : (input : ℕ) → input < 64 → (if nat_lt input 64 then input_begun else no_input) ≡ input_begun
begun_input input low = grind arith
