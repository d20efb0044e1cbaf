use Rattle.fio_world.proofs.Names.{rules, settings_with, start, ShowsMachine}
use Rattle.fio_world.proofs.simulation.report_run.Goals as goal

pub returns-in-Ok-clause-text : goal.returns-in-Ok-clause-text
returns-in-Ok-clause-text g c =
    let shown : ShowsMachine (settings_with c.args.id c.args.limits) c.args.first start c.in-Ok.world = search rules in
    c.report_on.ensures.text _ _ _ shown

pub returns-in-Ok-clause-good : goal.returns-in-Ok-clause-good
returns-in-Ok-clause-good g c =
    let shown : ShowsMachine (settings_with c.args.id c.args.limits) c.args.first start c.in-Ok.world = search rules in
    c.report_on.ensures.good _ _ _ shown
