use Rattle.std.proofs.Common.{arith}
use Rattle.fio_link.proofs.StandardLinks.{never_later, never_later_exactly, near_in_time, near_where_answers_are_lost, near_where_rounds_are_lost}
use Rattle.fio_link.proofs.laws.standard_links_are_never_late.Goals as goal

pub returns-clause-no_answer_lost : goal.returns-clause-no_answer_lost
returns-clause-no_answer_lost c = never_later _ 19 19 (omega arith) (omega arith) near_in_time 22 (omega arith)

pub returns-clause-answers_lost : goal.returns-clause-answers_lost
returns-clause-answers_lost c = never_later _ 19 38 (omega arith) (omega arith) near_where_answers_are_lost 41 (omega arith)

pub returns-clause-kept_up : goal.returns-clause-kept_up
returns-clause-kept_up c = never_later _ 19 76 (omega arith) (omega arith) (λ pauses near. near) 79 (omega arith)

pub returns-clause-rounds_lost : goal.returns-clause-rounds_lost
returns-clause-rounds_lost c = never_later_exactly _ 15 72 (omega arith) (omega arith) near_where_rounds_are_lost 71 (omega arith) (omega arith)
