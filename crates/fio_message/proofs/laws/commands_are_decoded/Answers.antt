use Rattle.fio_message.proofs.Accepting.{decoded-exact}
use Rattle.fio_message.proofs.CommandLaws.{command_grammar}
use Rattle.fio_message.proofs.MessageLaws.{command_refused}
use Rattle.fio_message.proofs.laws.commands_are_decoded.Goals as goal

pub returns-clause-accepted : goal.returns-clause-accepted
returns-clause-accepted c = decoded-exact command_grammar

pub returns-clause-refused : goal.returns-clause-refused
returns-clause-refused c = command_refused
