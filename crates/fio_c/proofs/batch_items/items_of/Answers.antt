use Rattle.std.proofs.Common.{◌∙◌, rules, arith}
use Rattle.std.proofs.lemmas.List.{length-take}
use Rattle.fio_c.specs.Logs.{content_of}
use Rattle.fio_c.proofs.BatchItems.{held, told_items}
use Rattle.fio_c.proofs.batch_items.items_of.Goals as goal

pub returns-clause-items : goal.returns-clause-items
returns-clause-items c = λ content holds.
    c.items_from.ensures.items
    ∙ held c.args.batch.now content c.min.result c.min-2.result holds (search rules) (search rules) (search rules) (search rules)

pub returns-clause-told : goal.returns-clause-told
returns-clause-told c = λ told holds. returns-clause-items c (content_of told) holds ∙ told_items told

pub returns-clause-few : goal.returns-clause-few
returns-clause-few c = omega (arith, c.items_from.ensures.few, length-take c.min-2.result c.args.batch.now.lengths, c.min-2.ensures)

pub returns-clause-lines : goal.returns-clause-lines
returns-clause-lines c = omega (arith, c.items_from.ensures.lines, length-take c.min.result c.args.batch.now.verdicts, c.min.ensures)
