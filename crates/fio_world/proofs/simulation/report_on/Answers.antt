use Rattle.fio_world.proofs.Names.{ap, sym}
use Rattle.fio_world.proofs.simulation.report_on.Goals as goal

pub returns-clause-text : goal.returns-clause-text
returns-clause-text g c settings first machine shown =
    sym (ap (λ report. report.text) (rw c.new-text.ensures.items at c.in_ok-good.ensures settings first machine shown))

pub returns-clause-good : goal.returns-clause-good
returns-clause-good g c settings first machine shown =
    sym (ap (λ report. report.good) (c.in_ok-good.ensures settings first machine shown))
