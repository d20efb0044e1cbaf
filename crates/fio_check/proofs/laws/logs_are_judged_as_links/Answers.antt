use Rattle.fio_check.proofs.Names.{refl}
use Rattle.fio_check.proofs.LogLaws.{as_link, frames_alike}
use Rattle.fio_check.specs.LogJudges.{log_starting}
use Rattle.fio_check.proofs.laws.logs_are_judged_as_links.Goals as goal

pub returns-clause-whole : goal.returns-clause-whole
returns-clause-whole c = λ limits place start events none. as_link (log_starting limits place start) events none refl

pub returns-clause-below : goal.returns-clause-below
returns-clause-below c = as_link

pub returns-clause-frames : goal.returns-clause-frames
returns-clause-frames c = frames_alike
