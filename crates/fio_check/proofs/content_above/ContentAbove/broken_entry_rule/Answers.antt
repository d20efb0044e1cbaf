use Rattle.fio_check.proofs.Names.{◌∙◌, sym, Order, breaks_entry, entry_rules, facts_kept}
use Rattle.fio_check.proofs.FirstFound.{find-more}
use Rattle.fio_check.proofs.content_above.ContentAbove.broken_entry_rule.Goals as goal

pub rules-preserved : goal.rules-preserved
rules-preserved c =
    c.rules.invariant ∙ find-more (breaks_entry (facts_kept c.args.self.now) c.args.input (record { level = c.args.level; wide = c.args.wide })) entry_rules c.rules.rule-index Order c.rules-test.true (sym c.breaks_entry.ensures ∙ c.if-breaks_entry.false)
