use Rattle.fio_world.proofs.Names.{◌≡◌, None, option_map, sym, ap, ◌∙◌, arith, polled_number, PollIsOurs, sending_refusal, command_spelled}
use Rattle.fio_message.specs.Commands.{command_octets}
use Rattle.fio_message.proofs.Numbers.{octets_from_each}
use Rattle.fio_world.proofs.FrameWords.{refuses_polls}
use Rattle.fio_world.proofs.Shown.{sent_octets}
use Rattle.fio_world.proofs.world.World.send_octets.Goals as goal

pub returns-in-None-clause-row : goal.returns-in-None-clause-row
returns-in-None-clause-row c command is settings first machine shown =
    let each = octets_from_each c.args.octets.now (λ i. omega (arith, c.type_inv.octets i)) in
    let spelled : c.args.octets.now ≡ command_octets command = (command_spelled c.args.octets.now command each is).spelled in
    let allowed : sending_refusal command ≡ None =
    refuses_polls command ∙ ap (option_map (λ number. PollIsOurs)) (ap polled_number (sym is) ∙ sym c.read_poll.ensures ∙ c.in-None.is) in
    let sent = c.send.ensures in
    sent_octets settings first machine _ shown command c.args.octets.now c.send.result c.send.new.self allowed spelled sent.outcome sent.ok sent.fault
