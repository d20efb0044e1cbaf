use Rattle.fio_message.proofs.Accepting.{decoded-exact}
use Rattle.fio_message.proofs.AnswerLaws.{answer_grammar}
use Rattle.fio_message.proofs.MessageLaws.{answer_refused}
use Rattle.fio_message.proofs.laws.answers_are_decoded.Goals as goal

pub returns-clause-accepted : goal.returns-clause-accepted
returns-clause-accepted c = decoded-exact answer_grammar

pub returns-clause-refused : goal.returns-clause-refused
returns-clause-refused c = answer_refused
