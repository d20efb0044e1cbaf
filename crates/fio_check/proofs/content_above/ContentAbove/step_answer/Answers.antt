use Rattle.fio_check.proofs.Names.{◌∙◌, None, Some, ap, if◌then◌else◌, true, refl, ContentFacts, is_aging}
use Rattle.fio_check.proofs.content_above.ContentAbove.step_answer.Goals as goal

pub returns-in-Watchdog : goal.returns-in-Watchdog
returns-in-Watchdog c = ap {A = ContentFacts} (λ facts. record facts { watchdog_set = true }) c.end_command.ensures ∙ rw c.in-Watchdog.is refl

pub returns-in-Block : goal.returns-in-Block
returns-in-Block c =
    c.begin_block.ensures
    ∙ ap {A = ContentFacts} (λ facts. record facts {
      block_heard = true;
      aged = is_aging facts (Some c.in-Block.stamp);
      seen = if is_aging facts (Some c.in-Block.stamp) then None else facts.seen;
    }) c.end_command.ensures
    ∙ rw c.in-Block.is refl
