use Rattle.fio_check.proofs.Names.{◌∙◌, sym, rules, breaks_within}
use Rattle.fio_check.specs.declared.rules.Rule.TheVariants.{Readable}
use Rattle.fio_check.proofs.FirstFound.{find-more}
use Rattle.fio_check.proofs.rules.rule_broken_within.Goals as goal

pub rules-preserved : goal.rules-preserved
rules-preserved c =
    c.rules.invariant ∙ find-more (breaks_within c.args.limits c.args.facts.now c.args.observation) rules c.rules.rule-index Readable c.rules-test.true (sym c.is_broken.ensures ∙ c.if-is_broken.false)
