use Rattle.fio_check.proofs.Names.{◌≡◌, drop, find, answer_of, answer_rules, breaks_answer, facts_kept}
use Rattle.fio_check.proofs.content_above.ContentAbove.broken_by_answer.Given as goal

abbrev pub invariant-rules : goal.invariant-rules
invariant-rules l = find (breaks_answer (facts_kept l.self) (answer_of l.answer)) answer_rules
    ≡ find (breaks_answer (facts_kept l.self) (answer_of l.answer)) (drop l.rule-index answer_rules)
