use Rattle.fio_c.proofs.PartLaws.{counts_taken, joins_taken, judges_taken, signs_taken}
use Rattle.fio_c.proofs.laws.parts_stand_alone.Goals as goal

pub returns-clause-judge : goal.returns-clause-judge
returns-clause-judge c = judges_taken

pub returns-clause-counts : goal.returns-clause-counts
returns-clause-counts c = counts_taken

pub returns-clause-signs : goal.returns-clause-signs
returns-clause-signs c = signs_taken

pub returns-clause-lines : goal.returns-clause-lines
returns-clause-lines c = joins_taken
