use Rattle.fio_world.proofs.script.ScriptErrorDisplay.fmt.Goals as goal

pub returns-in-BadFrame-clause-writes : goal.returns-in-BadFrame-clause-writes
returns-in-BadFrame-clause-writes g c = λ plain done. rw c.in-BadFrame.is (c.write-in-BadFrame.ensures.writes plain done)
