use Rattle.fio_world.proofs.Names.{command_back, ap, command_in, ◌∙◌}
use Rattle.fio_world.proofs.world.World.send_command.Goals as goal

pub returns-clause-row : goal.returns-clause-row
returns-clause-row c =
    c.send_octets.ensures.row c.args.command.now
    (ap command_in c.deref.ensures.0 ∙ command_back c.args.command.now c.encode_command.result.items c.encode_command.ensures)
