use Rattle.std.proofs.Common.{ℕ, ◌==◌, ◌∙◌, ◌++◌, List, drop, not, ap, ap₂, sym, arith}
use Rattle.fio_c.specs.BatchItems.{frame_count, items_of_content}
use Rattle.fio_c.specs.LogJudges.{log_judge_in, outcomes_of_items}
use Rattle.fio_c.specs.Logs.{content_of}
use Rattle.fio_c.specs.declared.judge.JudgeOutcome.{JudgeOutcome}
use Rattle.fio_c.proofs.BatchItems.{count-items, told_frames}
use Rattle.fio_c.proofs.LogJudges.{length_outcomes}
use Rattle.fio_c.proofs.log_judge_batch.fio2070_log_judge_batch.Goals as goal

pub returns-clause-count : goal.returns-clause-count
returns-clause-count c = λ content holds.
    c.judge_items-count.ensures.count
    ∙ ap frame_count (c.items_of.ensures.items content holds)
    ∙ sym (length_outcomes (not (c.args.as_said == 0)) (log_judge_in c.args.judge.now) (items_of_content content))

pub returns-clause-outcomes : goal.returns-clause-outcomes
returns-clause-outcomes c = λ content holds.
    c.judge_items-count.ensures.outcomes
    ∙ ap₂ (λ (front : List JudgeOutcome) (n : ℕ). front ++ drop n c.args.outcomes.now)
    (ap₂ (outcomes_of_items (not (c.args.as_said == 0))) c.log_judge_from-kept.ensures (c.items_of.ensures.items content holds))
    (returns-clause-count c content holds)

pub returns-clause-each : goal.returns-clause-each
returns-clause-each c = λ content holds.
    returns-clause-count c content holds
    ∙ length_outcomes (not (c.args.as_said == 0)) (log_judge_in c.args.judge.now) (items_of_content content)
    ∙ count-items content.verdicts content.frames

pub returns-clause-all : goal.returns-clause-all
returns-clause-all c = λ told holds. omega (arith, returns-clause-each c (content_of told) holds, told_frames told)
