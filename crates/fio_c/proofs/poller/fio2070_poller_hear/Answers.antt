use Rattle.std.proofs.Common.{arith}
use Rattle.fio_message.proofs.Numbers.{octets_from_each}
use Rattle.fio_c.proofs.Needs.{answer-need_fits}
use Rattle.fio_c.proofs.poller.fio2070_poller_hear.Goals as goal

pub fault_from-requires : goal.fault_from-requires
fault_from-requires c =
    let octets = octets_from_each c.args.octets.now (λ i. omega (arith, c.type_inv.octets i)) in
    answer-need_fits c.args.octets.now octets c.in-Err.error ((c.read_answer.ensures.refused c.in-Err.error).0 c.in-Err.is)
