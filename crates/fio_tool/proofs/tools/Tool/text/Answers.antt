use Rattle.fio_tool.proofs.tools.Tool.text.Goals as goal

pub returns-in-Show : goal.returns-in-Show
returns-in-Show c = record { text = rw c.in-Show.is c.show_text.ensures.text; good = rw c.in-Show.is c.show_text.ensures.good }

pub returns-in-Simulate : goal.returns-in-Simulate
returns-in-Simulate c = record { text = rw c.in-Simulate.is c.simulate_text.ensures.text; good = rw c.in-Simulate.is c.simulate_text.ensures.good }

pub returns-in-Check : goal.returns-in-Check
returns-in-Check c = record { text = rw c.in-Check.is c.check_text.ensures.text; good = rw c.in-Check.is c.check_text.ensures.good }

pub returns-in-Record : goal.returns-in-Record
returns-in-Record c = record { text = rw c.in-Record.is c.record_text.ensures.text; good = rw c.in-Record.is c.record_text.ensures.good }
