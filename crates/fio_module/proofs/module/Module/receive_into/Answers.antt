use Rattle.fio_message.specs.Views.{command_of}
use Rattle.fio_module.proofs.PollAnswers.{received-obeyed}
use Rattle.fio_module.proofs.module.Module.receive_into.Goals as goal

pub returns-in-Ok-clause-stands : goal.returns-in-Ok-clause-stands
returns-in-Ok-clause-stands c settings history after =
    let received = received-obeyed _ _ _ _ c.args.octets.now (command_of c.in-Ok.command) _ c.in-Ok.ensures.exact c.obey.ensures.obeyed in
    (received settings history after).0
