use Rattle.fio_check.proofs.Names.{◌∙◌, sym, answer_of, Order, answer_rules, breaks_answer, facts_kept}
use Rattle.fio_check.proofs.FirstFound.{find-more}
use Rattle.fio_check.proofs.content_above.ContentAbove.broken_by_answer.Goals as goal

pub rules-preserved : goal.rules-preserved
rules-preserved c =
    c.rules.invariant ∙ find-more (breaks_answer (facts_kept c.args.self.now) (answer_of c.args.answer.now)) answer_rules c.rules.rule-index Order c.rules-test.true (sym c.breaks_answer.ensures ∙ c.if-breaks_answer.false)
